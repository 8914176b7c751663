use Rattle.std.proofs.Common.{◌∙◌, sym, ap, length, false}
use Rattle.std.proofs.lemmas.List.{length-map}
use Rattle.px_types.specs.Integers.{InRange}
use Rattle.px_selection.proofs.Taken.{length-at_positions, taken_inside, taken_entries}
use Rattle.px_selection.proofs.take.take_integers.Goals as goal

pub from_parts-requires : goal.from_parts-requires
from_parts-requires g c =
    let n = g.T.Integer.integer in
    let xs = c.values.result.now in
    let items = c.in_ok-numbers.numbers.items in
    let ks = c.args.positions.now in
    record {
      same_length = ap length c.in_ok-valid.ensures ∙ length-at_positions false c.valid.result.now ks
          ∙ sym (length-map items n ∙ ap length c.in_ok-numbers.ensures ∙ length-at_positions c.zero.result xs ks);
      inside = taken_inside (InRange g.T.Integer.value_type) n c.zero.result xs items ks c.in_ok-numbers.ensures c.zero.ensures.inside c.values.ensures.inside;
    }

pub returns : goal.returns
returns g c =
    c.from_parts.ensures
    ∙ taken_entries g.T.Integer.integer c.zero.result c.args.a.now c.valid.result.now c.in_ok-valid.valid c.values.result.now c.in_ok-numbers.numbers.items c.args.positions.now
    c.valid.ensures c.values.ensures.same_length c.values.ensures.entries c.in_ok-numbers.ensures c.in_ok-valid.ensures
