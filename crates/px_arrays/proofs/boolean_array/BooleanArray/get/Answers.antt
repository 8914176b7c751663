use Rattle.std.proofs.Common.{◌<◌, ◌∙◌, refl, false, sym, ap, arith, length, get_or, None}
use Rattle.px_arrays.proofs.BooleanRows.{boolean_entry_at, length-booleans}
use Rattle.px_arrays.proofs.boolean_array.BooleanArray.get.Goals as goal

pub get-requires : goal.get-requires
get-requires c =
    let s = c.self.inside in
    omega (arith, length-booleans s.truth s.valid c.self.invariant, c.self.invariant.same_length, ap length c.self.view_is, c.requires)

pub get-requires-then-get : goal.get-requires-then-get
get-requires-then-get c =
    let s = c.self.inside in
    omega (arith, length-booleans s.truth s.valid c.self.invariant, c.self.invariant.same_length, ap length c.self.view_is, c.requires)

pub returns-then-get : goal.returns-then-get
returns-then-get c =
    let s = c.self.inside in
    let below : c.args.i < length s.valid = omega (arith, length-booleans s.truth s.valid c.self.invariant, c.self.invariant.same_length, ap length c.self.view_is, c.requires) in
    boolean_entry_at s.truth s.valid c.args.i c.get-then-get.result _ c.self.invariant.same_length below c.get-then-get.ensures (sym c.if-get.true ∙ c.get.ensures) ∙ ap (λ l. get_or l c.args.i None) c.self.view_is

pub returns-else-get : goal.returns-else-get
returns-else-get c =
    let s = c.self.inside in
    let below : c.args.i < length s.valid = omega (arith, length-booleans s.truth s.valid c.self.invariant, c.self.invariant.same_length, ap length c.self.view_is, c.requires) in
    boolean_entry_at s.truth s.valid c.args.i (get_or s.truth c.args.i false) _ c.self.invariant.same_length below refl (sym c.if-get.false ∙ c.get.ensures) ∙ ap (λ l. get_or l c.args.i None) c.self.view_is
