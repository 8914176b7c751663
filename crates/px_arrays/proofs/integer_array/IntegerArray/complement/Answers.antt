use Rattle.std.proofs.Common.{◌∙◌, map, sym, ap, length}
use Rattle.std.proofs.lemmas.List.{length-map}
use Rattle.px_types.specs.Integers.{InRange}
use Rattle.px_semantics.specs.Bitwise.{complement}
use Rattle.px_semantics.specs.Rows.{on_integer}
use Rattle.px_arrays.proofs.Entries.{on_entries, range_each}
use Rattle.px_arrays.proofs.integer_array.IntegerArray.complement.Goals as goal

pub invariant_of-result : goal.invariant_of-result
invariant_of-result g c =
    let n = g.T.Integer.integer in
    let s = c.self.inside in
    let f = complement g.T.Integer.value_type in
    let made = rw c.as_slice.ensures.value at c.in_ok-values.ensures in
    record {
      same_length = ap length c.in_ok-valid.ensures ∙ c.self.invariant.same_length ∙ sym (length-map (map n s.values.items) f) ∙ sym (ap length made);
      inside = rw made (range_each (InRange g.T.Integer.value_type) f g.met.T.Integer.complement_range (map n s.values.items) c.self.invariant.inside);
    }

pub returns : goal.returns
returns g c =
    let n = g.T.Integer.integer in
    let s = c.self.inside in
    let f = complement g.T.Integer.value_type in
    rw (c.in_ok-valid.ensures, c.in_ok-values.ensures, c.as_slice.ensures.value) (on_entries f s.valid (map n s.values.items) ∙ ap (map (on_integer f)) c.self.view_is)
