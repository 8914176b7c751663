use Rattle.std.proofs.Common.{inr, sym, ◌∙◌}
use Rattle.px_column.proofs.Framed.{uneven, frames_of_one_height}
use Rattle.px_column.proofs.frame.Frame.new.Goals as goal

pub returns-then-not-have_one_height : goal.returns-then-not-have_one_height
returns-then-not-have_one_height c =
    let made = rw c.as_slice.ensures at c.in_ok-schema.ensures.ok in
    let one_height = rw c.as_slice-2.ensures at c.have_one_height.ensures.height in
    inr (uneven c.args.columns.entries made.1 (sym one_height ∙ c.if-not-have_one_height.true))

pub invariant_of-result : goal.invariant_of-result
invariant_of-result c =
    let made = rw c.as_slice.ensures at c.in_ok-schema.ensures.ok in
    let one_height = rw c.as_slice-2.ensures at c.have_one_height.ensures.height in
    let columns = rw (c.as_slice-2.ensures, c.if-not-have_one_height.false) at c.have_one_height.ensures.columns in
    (frames_of_one_height c.args.columns.entries made.1 (sym one_height ∙ c.if-not-have_one_height.false), columns, made.0)

pub returns : goal.returns
returns c =
    let made = rw c.as_slice.ensures at c.in_ok-schema.ensures.ok in
    let one_height = rw c.as_slice-2.ensures at c.have_one_height.ensures.height in
    frames_of_one_height c.args.columns.entries made.1 (sym one_height ∙ c.if-not-have_one_height.false)
