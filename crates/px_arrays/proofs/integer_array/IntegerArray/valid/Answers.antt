use Rattle.std.proofs.Common.{◌∙◌, sym, ap, map, is_some}
use Rattle.std.proofs.lemmas.List.{length-map}
use Rattle.px_arrays.proofs.Entries.{entries_valid}
use Rattle.px_arrays.proofs.integer_array.IntegerArray.valid.Goals as goal

pub returns : goal.returns
returns g c =
    let n = g.T.Integer.integer in
    let s = c.self.inside in
    sym (entries_valid n s.valid s.values.items (c.self.invariant.same_length ∙ length-map s.values.items n)) ∙ ap (map is_some) c.self.view_is
