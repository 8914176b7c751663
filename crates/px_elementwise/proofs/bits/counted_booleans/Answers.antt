use Rattle.std.proofs.Common.{◌≡◌, ◌∙◌, ℤ, pos, Bool, map, length, is_some, ap, sym, subst}
use Rattle.std.specs.Simd.Lanes.{zip2, Each1}
use Rattle.std.proofs.lemmas.List.{length-map}
use Rattle.px_types.specs.Integers.{InRange}
use Rattle.px_types.specs.declared.value_type.ValueType.TheVariants.{UInt32}
use Rattle.px_semantics.specs.Bits.{count_boolean}
use Rattle.px_semantics.specs.Logic.{is_true}
use Rattle.px_semantics.specs.Rows.{entry}
use Rattle.px_arrays.proofs.Bitmaps.{maps}
use Rattle.px_kernels.proofs.CastRows.{each_bit_inside}
use Rattle.px_elementwise.proofs.CountRows.{count_inside, boolean_counts}
use Rattle.px_elementwise.proofs.bits.counted_booleans.Goals as goal

pub from_parts-requires : goal.from_parts-requires
from_parts-requires c =
    let rows = c.args.a.now in
    let f : Bool → ℤ = λ t. pos (count_boolean c.args.function t) in
    let numbers : map pos c.in_ok-values.values.items ≡ map f (map is_true rows) =
    ap (map pos) (c.in_ok-values.ensures ∙ ap (map (count_boolean c.args.function)) c.truth.ensures) ∙ maps (count_boolean c.args.function) pos (map is_true rows) in
    record {
      same_length = ap length (c.in_ok-valid.ensures ∙ c.valid-2.ensures) ∙ length-map rows is_some ∙ sym (ap length numbers ∙ length-map (map is_true rows) f ∙ length-map rows is_true);
      inside = subst (λ l. Each1 (InRange UInt32) l) (sym numbers) (each_bit_inside (InRange UInt32) f (count_inside c.args.function) (map is_true rows));
    }

pub returns : goal.returns
returns c =
    let rows = c.args.a.now in
    let f : Bool → ℤ = λ t. pos (count_boolean c.args.function t) in
    let numbers : map pos c.in_ok-values.values.items ≡ map f (map is_true rows) =
    ap (map pos) (c.in_ok-values.ensures ∙ ap (map (count_boolean c.args.function)) c.truth.ensures) ∙ maps (count_boolean c.args.function) pos (map is_true rows) in
    c.from_parts.ensures ∙ ap (λ l. zip2 entry l (map pos c.in_ok-values.values.items)) (c.in_ok-valid.ensures ∙ c.valid-2.ensures)
    ∙ ap (zip2 entry (map is_some rows)) numbers ∙ boolean_counts c.args.function rows c.len.ensures.typed
