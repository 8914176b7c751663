use Rattle.std.proofs.Common.{◌∙◌, map, sym, ap, length}
use Rattle.std.specs.Simd.Lanes.{zip2}
use Rattle.std.proofs.lemmas.List.{length-map}
use Rattle.px_types.specs.Integers.{InRange}
use Rattle.px_semantics.specs.Rows.{lift, entry}
use Rattle.px_arrays.proofs.Entries.{length-entries, lift_entries, lift_lengths, range_elementwise}
use Rattle.px_arrays.proofs.integer_array.IntegerArray.combine_elementwise.Goals as goal

pub and-requires : goal.and-requires
and-requires g c =
    let n = g.T.Integer.integer in
    let s = c.self.inside in
    let o = c.other.inside in
    sym (length-entries n s.valid s.values.items (c.self.invariant.same_length ∙ length-map s.values.items n)) ∙ ap length c.self.view_is ∙ c.requires
    ∙ sym (sym (length-entries n o.valid o.values.items (c.other.invariant.same_length ∙ length-map o.values.items n)) ∙ ap length c.other.view_is)

pub invariant_of-result : goal.invariant_of-result
invariant_of-result g c =
    let n = g.T.Integer.integer in
    let s = c.self.inside in
    let o = c.other.inside in
    let f = g.O.Operation.meaning in
    let same = sym (length-entries n s.valid s.values.items (c.self.invariant.same_length ∙ length-map s.values.items n)) ∙ ap length c.self.view_is ∙ c.requires
    ∙ sym (sym (length-entries n o.valid o.values.items (c.other.invariant.same_length ∙ length-map o.values.items n)) ∙ ap length c.other.view_is) in
    record {
      same_length = lift_lengths n f s.valid o.valid c.in_ok-valid.valid s.values.items o.values.items c.in_ok-values.values.items
          (c.self.invariant.same_length ∙ length-map s.values.items n) (c.other.invariant.same_length ∙ length-map o.values.items n) same c.in_ok-valid.ensures
          (rw (← c.as_slice.ensures.value, ← c.as_slice-2.ensures.value) c.in_ok-values.ensures) ∙ sym (length-map c.in_ok-values.values.items n);
      inside = rw (c.in_ok-values.ensures, c.as_slice.ensures.value, c.as_slice-2.ensures.value) (range_elementwise (InRange g.T.Integer.value_type) f g.met.O.Operation.range (map n s.values.items) (map n o.values.items) c.self.invariant.inside c.other.invariant.inside);
    }

pub returns : goal.returns
returns g c =
    let n = g.T.Integer.integer in
    let s = c.self.inside in
    let o = c.other.inside in
    let f = g.O.Operation.meaning in
    rw (c.in_ok-valid.ensures, c.in_ok-values.ensures, c.as_slice.ensures.value, c.as_slice-2.ensures.value)
    (lift_entries f s.valid o.valid (map n s.values.items) (map n o.values.items)
    ∙ ap (λ l. zip2 (lift f) l (zip2 entry o.valid (map n o.values.items))) c.self.view_is
    ∙ ap (λ l. zip2 (lift f) c.args.self.now l) c.other.view_is)
