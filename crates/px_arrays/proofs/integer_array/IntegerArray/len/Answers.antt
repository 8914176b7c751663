use Rattle.std.proofs.Common.{◌∙◌, sym, ap, length, map}
use Rattle.std.proofs.lemmas.List.{length-map}
use Rattle.px_arrays.proofs.Entries.{length-entries, entries_typed}
use Rattle.px_arrays.proofs.integer_array.IntegerArray.len.Goals as goal

pub returns-clause-rows : goal.returns-clause-rows
returns-clause-rows g c =
    let n = g.T.Integer.integer in
    let s = c.self.inside in
    c.len.ensures.bits ∙ sym (length-entries n s.valid s.values.items (c.self.invariant.same_length ∙ length-map s.values.items n)) ∙ ap length c.self.view_is

pub returns-clause-typed : goal.returns-clause-typed
returns-clause-typed g c =
    let s = c.self.inside in
    rw (← c.self.view_is) (entries_typed g.T.Integer.value_type s.valid (map g.T.Integer.integer s.values.items) c.self.invariant.inside)
