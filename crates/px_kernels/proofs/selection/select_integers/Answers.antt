use Rattle.std.proofs.Common.{◌∙◌, sym, ap, length, map, is_some}
use Rattle.std.proofs.lemmas.List.{length-map}
use Rattle.px_semantics.specs.Logic.{is_true}
use Rattle.px_types.specs.Integers.{InRange}
use Rattle.px_kernels.proofs.SelectionRows.{select_made, Each1-select_bits, length-select_bits, selected_long}
use Rattle.px_kernels.proofs.selection.select_integers.Goals as goal

pub from_parts-requires : goal.from_parts-requires
from_parts-requires g c =
    let n = g.T.Integer.integer in
    let ms = c.truth-flags.result.now in
    let xs = map n c.values.result.now in
    let ys = map n c.values-2.result.now in
    let masked = ap length c.truth-flags.ensures ∙ length-map c.args.mask.now is_true ∙ c.requires.mask in
    let first = ap length c.valid.ensures ∙ length-map c.args.a.now is_some in
    let second = ap length c.valid-2.ensures ∙ length-map c.args.b.now is_some ∙ sym c.requires.same_length in
    let one = length-map c.values.result.now n ∙ c.values.ensures.same_length in
    let other = length-map c.values-2.result.now n ∙ c.values-2.ensures.same_length in
    record {
      same_length = ap length c.in_ok-valid.ensures ∙ selected_long ms c.valid.result.now c.valid-2.result.now (length c.args.a.now) masked first second
          ∙ sym (ap length c.in_ok-numbers.ensures ∙ length-select_bits ms xs ys (masked ∙ sym one) (one ∙ c.requires.same_length ∙ sym other) ∙ one);
      inside = rw c.in_ok-numbers.ensures (Each1-select_bits (InRange g.T.Integer.value_type) ms xs ys c.values.ensures.inside c.values-2.ensures.inside);
    }

pub returns : goal.returns
returns g c =
    c.from_parts.ensures
    ∙ select_made g.T.Integer.integer c.args.mask.now c.args.a.now c.args.b.now c.values.result.now c.values-2.result.now c.in_ok-numbers.numbers.items
    c.truth-flags.result.now c.valid.result.now c.valid-2.result.now c.in_ok-valid.valid
    c.truth-flags.ensures c.valid.ensures c.valid-2.ensures c.values.ensures.same_length c.values-2.ensures.same_length
    c.values.ensures.entries c.values-2.ensures.entries c.in_ok-numbers.ensures c.in_ok-valid.ensures
