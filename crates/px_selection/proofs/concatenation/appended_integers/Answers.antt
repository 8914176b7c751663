use Rattle.std.proofs.Common.{◌∙◌, sym, ap, arith, length, map, is_some}
use Rattle.std.proofs.lemmas.List.{length-map, length-append}
use Rattle.px_types.specs.Integers.{InRange}
use Rattle.px_selection.proofs.Appended.{appended_inside, appended_entries}
use Rattle.px_selection.proofs.concatenation.appended_integers.Goals as goal

pub appended_bits-requires : goal.appended_bits-requires
appended_bits-requires g c = omega (arith, ap length c.valid.ensures, ap length c.valid-2.ensures, length-map c.args.a.now is_some, length-map c.args.b.now is_some, c.requires)

pub from_parts-requires : goal.from_parts-requires
from_parts-requires g c =
    let n = g.T.Integer.integer in
    let xs = c.values.result.now in
    let ys = c.values-2.result.now in
    let items = c.in_ok-numbers.numbers.items in
    record {
      same_length = omega (
        arith,
        ap length c.in_ok-valid.ensures,
        length-append c.valid.result.now c.valid-2.result.now,
        ap length c.valid.ensures,
        ap length c.valid-2.ensures,
        length-map c.args.a.now is_some,
        length-map c.args.b.now is_some,
        length-map items n,
        ap length c.in_ok-numbers.ensures,
        length-append xs ys,
        c.values.ensures.same_length,
        c.values-2.ensures.same_length,
      );
      inside = appended_inside (InRange g.T.Integer.value_type) n xs ys items c.in_ok-numbers.ensures c.values.ensures.inside c.values-2.ensures.inside;
    }

pub returns : goal.returns
returns g c =
    c.from_parts.ensures
    ∙ appended_entries g.T.Integer.integer c.args.a.now c.args.b.now c.valid.result.now c.valid-2.result.now c.in_ok-valid.valid c.values.result.now c.values-2.result.now
    c.in_ok-numbers.numbers.items c.valid.ensures c.valid-2.ensures c.values.ensures.same_length c.values.ensures.entries c.values-2.ensures.entries
    c.in_ok-numbers.ensures c.in_ok-valid.ensures
