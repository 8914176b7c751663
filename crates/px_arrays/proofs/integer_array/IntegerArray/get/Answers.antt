use Rattle.std.proofs.Common.{◌<◌, ◌∙◌, ap, sym, arith, length, get_or, None}
use Rattle.std.proofs.lemmas.List.{length-map}
use Rattle.px_arrays.proofs.Entries.{length-entries, entry_at, null_at}
use Rattle.px_arrays.proofs.integer_array.IntegerArray.get.Goals as goal

pub get-requires : goal.get-requires
get-requires g c =
    let n = g.T.Integer.integer in
    let s = c.self.inside in
    omega (arith, length-entries n s.valid s.values.items (c.self.invariant.same_length ∙ length-map s.values.items n), ap length c.self.view_is, c.requires)

pub returns-then-get : goal.returns-then-get
returns-then-get g c =
    let n = g.T.Integer.integer in
    let s = c.self.inside in
    let held = c.self.invariant.same_length ∙ length-map s.values.items n in
    let below : c.args.i < length s.valid = omega (arith, length-entries n s.valid s.values.items held, ap length c.self.view_is, c.requires) in
    entry_at n s.valid s.values.items c.args.i _ c.index.result.now held below (sym c.if-get.true ∙ c.get.ensures) c.index.ensures ∙ ap (λ l. get_or l c.args.i None) c.self.view_is

pub returns-else-get : goal.returns-else-get
returns-else-get g c =
    let n = g.T.Integer.integer in
    let s = c.self.inside in
    let held = c.self.invariant.same_length ∙ length-map s.values.items n in
    let below : c.args.i < length s.valid = omega (arith, length-entries n s.valid s.values.items held, ap length c.self.view_is, c.requires) in
    null_at n s.valid s.values.items c.args.i held below (sym c.get.ensures ∙ c.if-get.false) ∙ ap (λ l. get_or l c.args.i None) c.self.view_is
