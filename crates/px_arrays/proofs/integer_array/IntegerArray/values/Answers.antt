use Rattle.std.proofs.Common.{◌∙◌, sym, ap, length, map}
use Rattle.std.specs.Simd.Lanes.{zip2}
use Rattle.std.proofs.lemmas.List.{length-map}
use Rattle.px_semantics.specs.Rows.{entry}
use Rattle.px_arrays.proofs.Entries.{entries_valid, length-entries}
use Rattle.px_arrays.proofs.integer_array.IntegerArray.values.Goals as goal

pub returns-clause-same_length : goal.returns-clause-same_length
returns-clause-same_length g c =
    let n = g.T.Integer.integer in
    let s = c.self.inside in
    let held = c.self.invariant.same_length ∙ length-map s.values.items n in
    ap length c.as_slice.ensures.value ∙ sym held ∙ sym (length-entries n s.valid s.values.items held) ∙ ap length c.self.view_is

pub returns-clause-entries : goal.returns-clause-entries
returns-clause-entries g c =
    let n = g.T.Integer.integer in
    let s = c.self.inside in
    let held = c.self.invariant.same_length ∙ length-map s.values.items n in
    rw (c.as_slice.ensures.value, ← c.self.view_is) (ap (λ l. zip2 entry l (map n s.values.items)) (entries_valid n s.valid s.values.items held))

pub returns-clause-inside : goal.returns-clause-inside
returns-clause-inside g c = rw c.as_slice.ensures.value c.self.invariant.inside
