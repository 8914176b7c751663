use Rattle.std.proofs.Common.{◌≡◌, ◌∙◌, [], ◌∷◌, length, ap, sym, subst, refl, arith}
use Rattle.px_semantics.specs.Rows.{TypedRows}
use Rattle.px_semantics.specs.Fused.{fused_rows}
use Rattle.px_types.specs.Integers.{IsInteger}
use Rattle.px_base.specs.declared.error.PlanError.TheVariants.{ShapeMismatch}
use Rattle.px_arena.specs.Denotes.{inputs_of}
use Rattle.px_column.specs.Buffers.{values_of}
use Rattle.px_eval.proofs.Single.{Case, three_inputs, place_is, rows_at_place, read_at, owned_ok, owned_err}
use Rattle.px_eval.proofs.own.own_fused.Goals as goal

pub input-requires : goal.input-requires
input-requires g c =
    let o = three_inputs (g.K.Kernels.definitions c.args.kernels.now) c.args.frame.now c.requires.fits c.args.table.now c.args.expr.now c.args.op c.requires.is c.requires.ready in
    omega (arith, ap length o.are)

pub input-requires-2 : goal.input-requires-2
input-requires-2 g c =
    let o = three_inputs (g.K.Kernels.definitions c.args.kernels.now) c.args.frame.now c.requires.fits c.args.table.now c.args.expr.now c.args.op c.requires.is c.requires.ready in
    omega (arith, ap length o.are)

pub input-requires-3 : goal.input-requires-3
input-requires-3 g c =
    let o = three_inputs (g.K.Kernels.definitions c.args.kernels.now) c.args.frame.now c.requires.fits c.args.table.now c.args.expr.now c.args.op c.requires.is c.requires.ready in
    omega (arith, ap length o.are)

pub at-first-requires : goal.at-first-requires
at-first-requires g c =
    let o = three_inputs (g.K.Kernels.definitions c.args.kernels.now) c.args.frame.now c.requires.fits c.args.table.now c.args.expr.now c.args.op c.requires.is c.requires.ready in
    let is_first : o.first ≡ c.input.result.0 = place_is (g.K.Kernels.definitions c.args.kernels.now) c.args.frame.now c.requires.fits c.args.table.now (inputs_of c.args.expr.now) (o.first ∷ o.second ∷ o.third ∷ []) 0 c.input.result.0 o.first o.are c.input.ensures refl in
    rows_at_place (g.K.Kernels.definitions c.args.kernels.now) c.args.frame.now c.requires.fits c.args.table.now c.input.result.0 o.first o.a is_first o.holds_a

pub at-second-requires : goal.at-second-requires
at-second-requires g c =
    let o = three_inputs (g.K.Kernels.definitions c.args.kernels.now) c.args.frame.now c.requires.fits c.args.table.now c.args.expr.now c.args.op c.requires.is c.requires.ready in
    let is_second : o.second ≡ c.input-2.result.0 = place_is (g.K.Kernels.definitions c.args.kernels.now) c.args.frame.now c.requires.fits c.args.table.now (inputs_of c.args.expr.now) (o.first ∷ o.second ∷ o.third ∷ []) 1 c.input-2.result.0 o.second o.are c.input-2.ensures refl in
    rows_at_place (g.K.Kernels.definitions c.args.kernels.now) c.args.frame.now c.requires.fits c.args.table.now c.input-2.result.0 o.second o.b is_second o.holds_b

pub at-third-requires : goal.at-third-requires
at-third-requires g c =
    let o = three_inputs (g.K.Kernels.definitions c.args.kernels.now) c.args.frame.now c.requires.fits c.args.table.now c.args.expr.now c.args.op c.requires.is c.requires.ready in
    let is_third : o.third ≡ c.input-3.result.0 = place_is (g.K.Kernels.definitions c.args.kernels.now) c.args.frame.now c.requires.fits c.args.table.now (inputs_of c.args.expr.now) (o.first ∷ o.second ∷ o.third ∷ []) 2 c.input-3.result.0 o.third o.are c.input-3.ensures refl in
    rows_at_place (g.K.Kernels.definitions c.args.kernels.now) c.args.frame.now c.requires.fits c.args.table.now c.input-3.result.0 o.third o.d is_third o.holds_d

pub fused-requires-clause-integer : goal.fused-requires-clause-integer
fused-requires-clause-integer g c =
    let o = three_inputs (g.K.Kernels.definitions c.args.kernels.now) c.args.frame.now c.requires.fits c.args.table.now c.args.expr.now c.args.op c.requires.is c.requires.ready in
    let is_first : o.first ≡ c.input.result.0 = place_is (g.K.Kernels.definitions c.args.kernels.now) c.args.frame.now c.requires.fits c.args.table.now (inputs_of c.args.expr.now) (o.first ∷ o.second ∷ o.third ∷ []) 0 c.input.result.0 o.first o.are c.input.ensures refl in
    let is_second : o.second ≡ c.input-2.result.0 = place_is (g.K.Kernels.definitions c.args.kernels.now) c.args.frame.now c.requires.fits c.args.table.now (inputs_of c.args.expr.now) (o.first ∷ o.second ∷ o.third ∷ []) 1 c.input-2.result.0 o.second o.are c.input-2.ensures refl in
    let is_third : o.third ≡ c.input-3.result.0 = place_is (g.K.Kernels.definitions c.args.kernels.now) c.args.frame.now c.requires.fits c.args.table.now (inputs_of c.args.expr.now) (o.first ∷ o.second ∷ o.third ∷ []) 2 c.input-3.result.0 o.third o.are c.input-3.ensures refl in
    let read_a : o.a ≡ (values_of c.at-first.result.now) = read_at (g.K.Kernels.definitions c.args.kernels.now) c.args.frame.now c.requires.fits c.args.table.now c.input.result.0 o.first o.a (values_of c.at-first.result.now) is_first o.holds_a c.at-first.ensures in
    let read_b : o.b ≡ (values_of c.at-second.result.now) = read_at (g.K.Kernels.definitions c.args.kernels.now) c.args.frame.now c.requires.fits c.args.table.now c.input-2.result.0 o.second o.b (values_of c.at-second.result.now) is_second o.holds_b c.at-second.ensures in
    let read_d : o.d ≡ (values_of c.at-third.result.now) = read_at (g.K.Kernels.definitions c.args.kernels.now) c.args.frame.now c.requires.fits c.args.table.now c.input-3.result.0 o.third o.d (values_of c.at-third.result.now) is_third o.holds_d c.at-third.ensures in
    subst (λ (z : TypedRows). IsInteger z.value_type) read_a o.integer

pub fused-requires-clause-same : goal.fused-requires-clause-same
fused-requires-clause-same g c =
    let o = three_inputs (g.K.Kernels.definitions c.args.kernels.now) c.args.frame.now c.requires.fits c.args.table.now c.args.expr.now c.args.op c.requires.is c.requires.ready in
    let is_first : o.first ≡ c.input.result.0 = place_is (g.K.Kernels.definitions c.args.kernels.now) c.args.frame.now c.requires.fits c.args.table.now (inputs_of c.args.expr.now) (o.first ∷ o.second ∷ o.third ∷ []) 0 c.input.result.0 o.first o.are c.input.ensures refl in
    let is_second : o.second ≡ c.input-2.result.0 = place_is (g.K.Kernels.definitions c.args.kernels.now) c.args.frame.now c.requires.fits c.args.table.now (inputs_of c.args.expr.now) (o.first ∷ o.second ∷ o.third ∷ []) 1 c.input-2.result.0 o.second o.are c.input-2.ensures refl in
    let is_third : o.third ≡ c.input-3.result.0 = place_is (g.K.Kernels.definitions c.args.kernels.now) c.args.frame.now c.requires.fits c.args.table.now (inputs_of c.args.expr.now) (o.first ∷ o.second ∷ o.third ∷ []) 2 c.input-3.result.0 o.third o.are c.input-3.ensures refl in
    let read_a : o.a ≡ (values_of c.at-first.result.now) = read_at (g.K.Kernels.definitions c.args.kernels.now) c.args.frame.now c.requires.fits c.args.table.now c.input.result.0 o.first o.a (values_of c.at-first.result.now) is_first o.holds_a c.at-first.ensures in
    let read_b : o.b ≡ (values_of c.at-second.result.now) = read_at (g.K.Kernels.definitions c.args.kernels.now) c.args.frame.now c.requires.fits c.args.table.now c.input-2.result.0 o.second o.b (values_of c.at-second.result.now) is_second o.holds_b c.at-second.ensures in
    let read_d : o.d ≡ (values_of c.at-third.result.now) = read_at (g.K.Kernels.definitions c.args.kernels.now) c.args.frame.now c.requires.fits c.args.table.now c.input-3.result.0 o.third o.d (values_of c.at-third.result.now) is_third o.holds_d c.at-third.ensures in
    sym (ap (λ (z : TypedRows). z.value_type) read_a) ∙ (o.same ∙ ap (λ (z : TypedRows). z.value_type) read_b)

pub fused-requires-clause-also : goal.fused-requires-clause-also
fused-requires-clause-also g c =
    let o = three_inputs (g.K.Kernels.definitions c.args.kernels.now) c.args.frame.now c.requires.fits c.args.table.now c.args.expr.now c.args.op c.requires.is c.requires.ready in
    let is_first : o.first ≡ c.input.result.0 = place_is (g.K.Kernels.definitions c.args.kernels.now) c.args.frame.now c.requires.fits c.args.table.now (inputs_of c.args.expr.now) (o.first ∷ o.second ∷ o.third ∷ []) 0 c.input.result.0 o.first o.are c.input.ensures refl in
    let is_second : o.second ≡ c.input-2.result.0 = place_is (g.K.Kernels.definitions c.args.kernels.now) c.args.frame.now c.requires.fits c.args.table.now (inputs_of c.args.expr.now) (o.first ∷ o.second ∷ o.third ∷ []) 1 c.input-2.result.0 o.second o.are c.input-2.ensures refl in
    let is_third : o.third ≡ c.input-3.result.0 = place_is (g.K.Kernels.definitions c.args.kernels.now) c.args.frame.now c.requires.fits c.args.table.now (inputs_of c.args.expr.now) (o.first ∷ o.second ∷ o.third ∷ []) 2 c.input-3.result.0 o.third o.are c.input-3.ensures refl in
    let read_a : o.a ≡ (values_of c.at-first.result.now) = read_at (g.K.Kernels.definitions c.args.kernels.now) c.args.frame.now c.requires.fits c.args.table.now c.input.result.0 o.first o.a (values_of c.at-first.result.now) is_first o.holds_a c.at-first.ensures in
    let read_b : o.b ≡ (values_of c.at-second.result.now) = read_at (g.K.Kernels.definitions c.args.kernels.now) c.args.frame.now c.requires.fits c.args.table.now c.input-2.result.0 o.second o.b (values_of c.at-second.result.now) is_second o.holds_b c.at-second.ensures in
    let read_d : o.d ≡ (values_of c.at-third.result.now) = read_at (g.K.Kernels.definitions c.args.kernels.now) c.args.frame.now c.requires.fits c.args.table.now c.input-3.result.0 o.third o.d (values_of c.at-third.result.now) is_third o.holds_d c.at-third.ensures in
    sym (ap (λ (z : TypedRows). z.value_type) read_b) ∙ (o.also ∙ ap (λ (z : TypedRows). z.value_type) read_d)

pub returns-clause-ok : goal.returns-clause-ok
returns-clause-ok g c =
    let o = three_inputs (g.K.Kernels.definitions c.args.kernels.now) c.args.frame.now c.requires.fits c.args.table.now c.args.expr.now c.args.op c.requires.is c.requires.ready in
    let is_first : o.first ≡ c.input.result.0 = place_is (g.K.Kernels.definitions c.args.kernels.now) c.args.frame.now c.requires.fits c.args.table.now (inputs_of c.args.expr.now) (o.first ∷ o.second ∷ o.third ∷ []) 0 c.input.result.0 o.first o.are c.input.ensures refl in
    let is_second : o.second ≡ c.input-2.result.0 = place_is (g.K.Kernels.definitions c.args.kernels.now) c.args.frame.now c.requires.fits c.args.table.now (inputs_of c.args.expr.now) (o.first ∷ o.second ∷ o.third ∷ []) 1 c.input-2.result.0 o.second o.are c.input-2.ensures refl in
    let is_third : o.third ≡ c.input-3.result.0 = place_is (g.K.Kernels.definitions c.args.kernels.now) c.args.frame.now c.requires.fits c.args.table.now (inputs_of c.args.expr.now) (o.first ∷ o.second ∷ o.third ∷ []) 2 c.input-3.result.0 o.third o.are c.input-3.ensures refl in
    let read_a : o.a ≡ (values_of c.at-first.result.now) = read_at (g.K.Kernels.definitions c.args.kernels.now) c.args.frame.now c.requires.fits c.args.table.now c.input.result.0 o.first o.a (values_of c.at-first.result.now) is_first o.holds_a c.at-first.ensures in
    let read_b : o.b ≡ (values_of c.at-second.result.now) = read_at (g.K.Kernels.definitions c.args.kernels.now) c.args.frame.now c.requires.fits c.args.table.now c.input-2.result.0 o.second o.b (values_of c.at-second.result.now) is_second o.holds_b c.at-second.ensures in
    let read_d : o.d ≡ (values_of c.at-third.result.now) = read_at (g.K.Kernels.definitions c.args.kernels.now) c.args.frame.now c.requires.fits c.args.table.now c.input-3.result.0 o.third o.d (values_of c.at-third.result.now) is_third o.holds_d c.at-third.ensures in
    let case = subst (λ (z : TypedRows). Case (g.K.Kernels.definitions c.args.kernels.now) c.args.frame.now c.args.table.now c.args.expr.now (fused_rows c.args.op (values_of c.at-first.result.now) (values_of c.at-second.result.now) z) ShapeMismatch) read_d
    (subst (λ (z : TypedRows). Case (g.K.Kernels.definitions c.args.kernels.now) c.args.frame.now c.args.table.now c.args.expr.now (fused_rows c.args.op (values_of c.at-first.result.now) z o.d) ShapeMismatch) read_b
    (subst (λ (z : TypedRows). Case (g.K.Kernels.definitions c.args.kernels.now) c.args.frame.now c.args.table.now c.args.expr.now (fused_rows c.args.op z o.b o.d) ShapeMismatch) read_a o.case)) in
    owned_ok (g.K.Kernels.definitions c.args.kernels.now) c.args.frame.now c.requires.fits c.args.table.now c.args.expr.now c.owned.result c.fused.result _ _ c.owned.ensures c.fused.ensures case

pub returns-clause-err : goal.returns-clause-err
returns-clause-err g c =
    let o = three_inputs (g.K.Kernels.definitions c.args.kernels.now) c.args.frame.now c.requires.fits c.args.table.now c.args.expr.now c.args.op c.requires.is c.requires.ready in
    let is_first : o.first ≡ c.input.result.0 = place_is (g.K.Kernels.definitions c.args.kernels.now) c.args.frame.now c.requires.fits c.args.table.now (inputs_of c.args.expr.now) (o.first ∷ o.second ∷ o.third ∷ []) 0 c.input.result.0 o.first o.are c.input.ensures refl in
    let is_second : o.second ≡ c.input-2.result.0 = place_is (g.K.Kernels.definitions c.args.kernels.now) c.args.frame.now c.requires.fits c.args.table.now (inputs_of c.args.expr.now) (o.first ∷ o.second ∷ o.third ∷ []) 1 c.input-2.result.0 o.second o.are c.input-2.ensures refl in
    let is_third : o.third ≡ c.input-3.result.0 = place_is (g.K.Kernels.definitions c.args.kernels.now) c.args.frame.now c.requires.fits c.args.table.now (inputs_of c.args.expr.now) (o.first ∷ o.second ∷ o.third ∷ []) 2 c.input-3.result.0 o.third o.are c.input-3.ensures refl in
    let read_a : o.a ≡ (values_of c.at-first.result.now) = read_at (g.K.Kernels.definitions c.args.kernels.now) c.args.frame.now c.requires.fits c.args.table.now c.input.result.0 o.first o.a (values_of c.at-first.result.now) is_first o.holds_a c.at-first.ensures in
    let read_b : o.b ≡ (values_of c.at-second.result.now) = read_at (g.K.Kernels.definitions c.args.kernels.now) c.args.frame.now c.requires.fits c.args.table.now c.input-2.result.0 o.second o.b (values_of c.at-second.result.now) is_second o.holds_b c.at-second.ensures in
    let read_d : o.d ≡ (values_of c.at-third.result.now) = read_at (g.K.Kernels.definitions c.args.kernels.now) c.args.frame.now c.requires.fits c.args.table.now c.input-3.result.0 o.third o.d (values_of c.at-third.result.now) is_third o.holds_d c.at-third.ensures in
    let case = subst (λ (z : TypedRows). Case (g.K.Kernels.definitions c.args.kernels.now) c.args.frame.now c.args.table.now c.args.expr.now (fused_rows c.args.op (values_of c.at-first.result.now) (values_of c.at-second.result.now) z) ShapeMismatch) read_d
    (subst (λ (z : TypedRows). Case (g.K.Kernels.definitions c.args.kernels.now) c.args.frame.now c.args.table.now c.args.expr.now (fused_rows c.args.op (values_of c.at-first.result.now) z o.d) ShapeMismatch) read_b
    (subst (λ (z : TypedRows). Case (g.K.Kernels.definitions c.args.kernels.now) c.args.frame.now c.args.table.now c.args.expr.now (fused_rows c.args.op z o.b o.d) ShapeMismatch) read_a o.case)) in
    owned_err (g.K.Kernels.definitions c.args.kernels.now) c.args.frame.now c.requires.fits c.args.table.now c.args.expr.now c.owned.result c.fused.result _ _ c.requires.ready c.owned.ensures c.fused.ensures case
