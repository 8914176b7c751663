use Rattle.std.proofs.Common.{◌∙◌, sym, ap, replicate, length, get_or, None}
use Rattle.std.proofs.lemmas.List.{length-replicate, length-map}
use Rattle.px_types.specs.Integers.{InRange}
use Rattle.px_arrays.proofs.Entries.{first_row, first_inside, repeated, repeated_inside}
use Rattle.px_arrays.proofs.integer_array.IntegerArray.repeated.Goals as goal

pub invariant_of-result : goal.invariant_of-result
invariant_of-result g c =
    let n = g.T.Integer.integer in
    let s = c.self.inside in
    let one_row = ap length c.self.view_is ∙ c.requires.one_row in
    let x = c.index.result.now in
    record {
      same_length = ap length c.in_ok-valid.ensures ∙ length-replicate c.args.len c.get.result
          ∙ sym (length-map c.in_ok-values.values.items n ∙ ap length c.in_ok-values.ensures ∙ length-replicate c.args.len x);
      inside = rw c.in_ok-values.ensures (repeated_inside (InRange g.T.Integer.value_type) n c.args.len x (first_inside (InRange g.T.Integer.value_type) n s.valid s.values.items x one_row c.index.ensures c.self.invariant.inside));
    }

pub returns : goal.returns
returns g c =
    let n = g.T.Integer.integer in
    let s = c.self.inside in
    let one_row = ap length c.self.view_is ∙ c.requires.one_row in
    let x = c.index.result.now in
    rw (c.in_ok-valid.ensures, c.in_ok-values.ensures)
    (repeated n c.args.len c.get.result x
    ∙ ap (replicate c.args.len) (first_row n s.valid s.values.items c.get.result x one_row c.get.ensures c.index.ensures ∙ ap (λ l. get_or l 0 None) c.self.view_is))
