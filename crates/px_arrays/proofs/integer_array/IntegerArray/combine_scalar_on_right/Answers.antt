use Rattle.std.proofs.Common.{◌∙◌, ◌&&◌, map, ap, length, get_or, None}
use Rattle.std.specs.Simd.Lanes.{zip2}
use Rattle.px_types.specs.Integers.{InRange}
use Rattle.px_semantics.specs.Rows.{lift, entry}
use Rattle.px_arrays.proofs.Entries.{first_row, first_inside, scalar_right_entries, range_each, each_lengths}
use Rattle.px_arrays.proofs.integer_array.IntegerArray.combine_scalar_on_right.Goals as goal

pub invariant_of-result : goal.invariant_of-result
invariant_of-result g c =
    let n = g.T.Integer.integer in
    let f = g.O.Operation.meaning in
    let s = c.other.inside in
    let m = c.self.inside in
    let x = c.index.result.now in
    let u = c.get.result in
    let one_row = ap length c.other.view_is ∙ c.requires in
    let first = first_inside (InRange g.T.Integer.value_type) n s.valid s.values.items x one_row c.index.ensures c.other.invariant.inside in
    let made = rw c.as_slice.ensures.value at c.in_ok-values.ensures in
    record {
      same_length = each_lengths n ((λ y. f y (n x))) (λ v. v && u) m.valid c.in_ok-valid.valid m.values.items c.in_ok-values.values.items c.self.invariant.same_length c.in_ok-valid.ensures made;
      inside = rw made (range_each (InRange g.T.Integer.value_type) ((λ y. f y (n x))) (λ y q. g.met.O.Operation.range y (n x) q first) (map n m.values.items) c.self.invariant.inside);
    }

pub returns : goal.returns
returns g c =
    let n = g.T.Integer.integer in
    let f = g.O.Operation.meaning in
    let s = c.other.inside in
    let m = c.self.inside in
    let x = c.index.result.now in
    let u = c.get.result in
    let one_row = ap length c.other.view_is ∙ c.requires in
    rw (c.in_ok-valid.ensures, c.in_ok-values.ensures, c.as_slice.ensures.value)
    (scalar_right_entries f u (n x) m.valid (map n m.values.items)
    ∙ ap (λ l. map (λ row. lift f row l) (zip2 entry m.valid (map n m.values.items))) (first_row n s.valid s.values.items u x one_row c.get.ensures c.index.ensures ∙ ap (λ l. get_or l 0 None) c.other.view_is)
    ∙ ap (λ l. map (λ row. lift f row (get_or c.args.other.now 0 None)) l) c.self.view_is)
