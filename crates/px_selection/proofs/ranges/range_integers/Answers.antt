use Rattle.std.proofs.Common.{◌∙◌, sym, ap, arith, length, is_some}
use Rattle.std.proofs.lemmas.List.{length-map}
use Rattle.px_types.specs.Integers.{InRange}
use Rattle.px_selection.proofs.Ranged.{length-range, ranged_inside, ranged_entries}
use Rattle.px_selection.proofs.ranges.range_integers.Goals as goal

pub range_bits-requires-clause-inside : goal.range_bits-requires-clause-inside
range_bits-requires-clause-inside g c = omega (arith, ap length c.valid.ensures, length-map c.args.a.now is_some, c.requires.inside)

pub from_parts-requires : goal.from_parts-requires
from_parts-requires g c =
    let n = g.T.Integer.integer in
    let xs = c.values.result.now in
    let us = c.valid.result.now in
    let items = c.in_ok-numbers.numbers.items in
    record {
      same_length = omega (
        arith,
        ap length c.in_ok-valid.ensures,
        ap length c.in_ok-numbers.ensures,
        ap length c.valid.ensures,
        c.values.ensures.same_length,
        length-map c.args.a.now is_some,
        length-map items n,
        length-range xs c.args.start c.args.end c.requires.order (omega (arith, c.values.ensures.same_length, c.requires.inside)),
        length-range us c.args.start c.args.end c.requires.order (omega (arith, ap length c.valid.ensures, length-map c.args.a.now is_some, c.requires.inside)),
      );
      inside = ranged_inside (InRange g.T.Integer.value_type) n xs items c.args.start c.args.end c.in_ok-numbers.ensures c.values.ensures.inside;
    }

pub returns : goal.returns
returns g c =
    c.from_parts.ensures
    ∙ ranged_entries g.T.Integer.integer c.args.a.now c.valid.result.now c.in_ok-valid.valid c.values.result.now c.in_ok-numbers.numbers.items c.args.start c.args.end
    c.valid.ensures c.values.ensures.entries c.in_ok-numbers.ensures c.in_ok-valid.ensures
