use Rattle.std.proofs.Common.{◌∙◌, ◌<◌, ◌++◌, ◌∷◌, [], sym, ap, refl, arith, length, take, get_or, false, None, List}
use Rattle.std.specs.Option.{option_copied}
use Rattle.std.proofs.lemmas.List.{take_more, take_all}
use Rattle.px_semantics.specs.Selections.{select_all, select_row}
use Rattle.px_semantics.specs.Logic.{is_true}
use Rattle.px_semantics.specs.Rows.{Row, string_row}
use Rattle.px_column.proofs.KernelRows.{flag_at}
use Rattle.px_kernels.proofs.SelectionRows.{select_at, select_length}
use Rattle.px_kernels.proofs.selection.select_strings.Goals as goal

pub loop-i-preserved : goal.loop-i-preserved
loop-i-preserved c =
    let ms = c.args.mask.now in
    let xs = c.args.a.now in
    let ys = c.args.b.now in
    let z = select_all ms xs ys in
    let i = c.loop-i.i in
    let below : i < length xs = omega (arith, c.len-len.ensures.rows) in
    let same_length : i < length z = omega (arith, select_length ms xs ys c.requires.mask c.requires.same_length) in
    let flag = ap (λ l. get_or l i false) c.truth-flags.ensures ∙ flag_at is_true refl ms i in
    let seen = ap (λ m. select_row m (get_or xs i None) (get_or ys i None)) flag ∙ select_at ms xs ys i c.requires.mask c.requires.same_length below in
    let row : Row = string_row (option_copied c.selected_string.result) in
    c.in_ok-push.ensures.ok ∙ ap (λ (l : List Row). l ++ row ∷ []) c.loop-i.invariant ∙ ap (λ (r : Row). take i z ++ r ∷ []) (c.selected_string.ensures ∙ seen) ∙ sym (take_more z i None same_length)

pub returns : goal.returns
returns c =
    let ms = c.args.mask.now in
    let xs = c.args.a.now in
    let ys = c.args.b.now in
    let z = select_all ms xs ys in
    let i = c.loop-i.i in
    let all = c.loop-i.invariant ∙ take_all i z (omega (arith, select_length ms xs ys c.requires.mask c.requires.same_length, c.len-len.ensures.rows)) in
    rw (← all) c.finish.ensures
