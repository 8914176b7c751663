use Rattle.std.proofs.Common.{◌∙◌, Bool, true, false, inr, refl, ap, sym, subst, pos, Some, replicate, Bor}
use Rattle.px_base.specs.Answer.{GivesOr}
use Rattle.px_base.specs.declared.error.PlanError.TheVariants.{ShapeMismatch}
use Rattle.px_types.specs.Integers.{into}
use Rattle.px_semantics.specs.Horizontals.{sum_horizontal_row, sum_horizontal_rows, sum_horizontal_type}
use Rattle.px_semantics.specs.Rows.{IntegerValue}
use Rattle.px_column.specs.Buffers.{values_of}
use Rattle.px_column.specs.ColumnOf.{type_of, rows_of}
use Rattle.px_column.specs.declared.buffer.Buffer.{Buffer}
use Rattle.px_horizontals.specs.Inputs.{values_of_buffers, first_type}
use Rattle.px_horizontals.proofs.FoldRows.{none_horizontal}
use Rattle.px_horizontals.proofs.Kernels.{first_is}
use Rattle.px_horizontals.proofs.SumRows.{takes_sums, fit_buffers, sum_answer}
use Rattle.px_horizontals.proofs.sums.sum_horizontal_buffers.Goals as goal

pub returns-in_default : goal.returns-in_default
unfolding sum_horizontal_rows
returns-in_default c =
    let k = sum_horizontal_type (first_type (values_of_buffers c.args.inputs.now)) in
    inr (refl, none_horizontal k (sum_horizontal_row k c.args.ignore_nulls) c.args.inputs.now c.in_default.ensures.length)

pub folded_onto-requires-clause-takes : goal.folded_onto-requires-clause-takes
folded_onto-requires-clause-takes c =
    let inputs = c.args.inputs.now in
    let t = first_type (values_of_buffers inputs) in
    let of_first = c.value_type.ensures ∙ ap (λ (d : Bor Buffer). type_of d.now) c.index-inputs-0.is ∙ first_is inputs c.index-inputs-0.result c.requires.some in
    let typed = c.in_ok-start.ensures.value_type ∙ ap sum_horizontal_type of_first in
    takes_sums t (type_of c.in_ok-start.start) inputs c.requires.operand typed c.requires.same

pub folded_onto-requires-clause-long : goal.folded_onto-requires-clause-long
folded_onto-requires-clause-long c =
    let inputs = c.args.inputs.now in
    let t = first_type (values_of_buffers inputs) in
    let of_first = c.value_type.ensures ∙ ap (λ (d : Bor Buffer). type_of d.now) c.index-inputs-0.is ∙ first_is inputs c.index-inputs-0.result c.requires.some in
    let zeros = c.in_ok-start.ensures.rows ∙ ap (λ k. replicate c.in-Some.len (Some (IntegerValue (into (sum_horizontal_type k) (pos 0))))) of_first in
    fit_buffers c.in-Some.len (rows_of c.in_ok-start.start) (Some (IntegerValue (into (sum_horizontal_type t) (pos 0)))) inputs zeros c.in-Some.ensures.length

pub folded_onto-requires-else-ignore_nulls-clause-takes :
    goal.folded_onto-requires-else-ignore_nulls-clause-takes
folded_onto-requires-else-ignore_nulls-clause-takes c =
    let inputs = c.args.inputs.now in
    let t = first_type (values_of_buffers inputs) in
    let of_first = c.value_type.ensures ∙ ap (λ (d : Bor Buffer). type_of d.now) c.index-inputs-0.is ∙ first_is inputs c.index-inputs-0.result c.requires.some in
    let typed = c.in_ok-start.ensures.value_type ∙ ap sum_horizontal_type of_first in
    takes_sums t (type_of c.in_ok-start.start) inputs c.requires.operand typed c.requires.same

pub folded_onto-requires-else-ignore_nulls-clause-long :
    goal.folded_onto-requires-else-ignore_nulls-clause-long
folded_onto-requires-else-ignore_nulls-clause-long c =
    let inputs = c.args.inputs.now in
    let t = first_type (values_of_buffers inputs) in
    let of_first = c.value_type.ensures ∙ ap (λ (d : Bor Buffer). type_of d.now) c.index-inputs-0.is ∙ first_is inputs c.index-inputs-0.result c.requires.some in
    let zeros = c.in_ok-start.ensures.rows ∙ ap (λ k. replicate c.in-Some.len (Some (IntegerValue (into (sum_horizontal_type k) (pos 0))))) of_first in
    fit_buffers c.in-Some.len (rows_of c.in_ok-start.start) (Some (IntegerValue (into (sum_horizontal_type t) (pos 0)))) inputs zeros c.in-Some.ensures.length

pub returns-then-ignore_nulls : goal.returns-then-ignore_nulls
returns-then-ignore_nulls c =
    let inputs = c.args.inputs.now in
    let t = first_type (values_of_buffers inputs) in
    let of_first = c.value_type.ensures ∙ ap (λ (d : Bor Buffer). type_of d.now) c.index-inputs-0.is ∙ first_is inputs c.index-inputs-0.result c.requires.some in
    let typed = c.in_ok-start.ensures.value_type ∙ ap sum_horizontal_type of_first in
    let zeros = c.in_ok-start.ensures.rows ∙ ap (λ k. replicate c.in-Some.len (Some (IntegerValue (into (sum_horizontal_type k) (pos 0))))) of_first in
    subst (λ (b : Bool). GivesOr ShapeMismatch values_of c.folded_onto.result (sum_horizontal_rows t b (values_of_buffers inputs))) (sym c.if-ignore_nulls.true)
    (sum_answer true t c.in-Some.len c.in_ok-start.start inputs c.folded_onto.result c.requires.operand c.requires.same c.in-Some.ensures.typed c.in-Some.ensures.length
    typed zeros c.folded_onto.ensures.value_type c.folded_onto.ensures.rows c.folded_onto.ensures.err)

pub returns-else-ignore_nulls : goal.returns-else-ignore_nulls
returns-else-ignore_nulls c =
    let inputs = c.args.inputs.now in
    let t = first_type (values_of_buffers inputs) in
    let of_first = c.value_type.ensures ∙ ap (λ (d : Bor Buffer). type_of d.now) c.index-inputs-0.is ∙ first_is inputs c.index-inputs-0.result c.requires.some in
    let typed = c.in_ok-start.ensures.value_type ∙ ap sum_horizontal_type of_first in
    let zeros = c.in_ok-start.ensures.rows ∙ ap (λ k. replicate c.in-Some.len (Some (IntegerValue (into (sum_horizontal_type k) (pos 0))))) of_first in
    subst (λ (b : Bool). GivesOr ShapeMismatch values_of c.folded_onto-else-ignore_nulls.result (sum_horizontal_rows t b (values_of_buffers inputs))) (sym c.if-ignore_nulls.false)
    (sum_answer false t c.in-Some.len c.in_ok-start.start inputs c.folded_onto-else-ignore_nulls.result c.requires.operand c.requires.same c.in-Some.ensures.typed c.in-Some.ensures.length
    typed zeros c.folded_onto-else-ignore_nulls.ensures.value_type c.folded_onto-else-ignore_nulls.ensures.rows c.folded_onto-else-ignore_nulls.ensures.err)
