use Rattle.std.proofs.Common.{[], ◌∷◌, length, ap, sym, subst, arith}
use Rattle.px_semantics.specs.Rows.{TypedRows}
use Rattle.px_base.specs.declared.error.PlanError.TheVariants.{ShapeMismatch}
use Rattle.px_meaning.specs.Mean.{function_rows}
use Rattle.px_column.specs.Buffers.{values_of}
use Rattle.px_eval.specs.Own.{TakesOne}
use Rattle.px_eval.proofs.Single.{Case, one_input, one_read, one_held, owned_ok, owned_err}
use Rattle.px_eval.proofs.own.own_one.Goals as goal

pub input-requires : goal.input-requires
input-requires g c =
    let o = one_input (g.K.Kernels.definitions c.args.kernels.now) c.args.frame.now c.requires.fits c.args.table.now c.args.expr.now c.args.function c.requires.is c.requires.one c.requires.ready in
    omega (arith, ap length o.are)

pub at-only-requires : goal.at-only-requires
at-only-requires g c =
    let o = one_input (g.K.Kernels.definitions c.args.kernels.now) c.args.frame.now c.requires.fits c.args.table.now c.args.expr.now c.args.function c.requires.is c.requires.one c.requires.ready in
    one_held (g.K.Kernels.definitions c.args.kernels.now) c.args.frame.now c.requires.fits c.args.table.now c.args.expr.now c.args.function c.input.result.0 o c.input.ensures

pub call_one-requires : goal.call_one-requires
call_one-requires g c =
    let o = one_input (g.K.Kernels.definitions c.args.kernels.now) c.args.frame.now c.requires.fits c.args.table.now c.args.expr.now c.args.function c.requires.is c.requires.one c.requires.ready in
    let same = one_read (g.K.Kernels.definitions c.args.kernels.now) c.args.frame.now c.requires.fits c.args.table.now c.args.expr.now c.args.function c.input.result.0 (values_of c.at-only.result.now) o c.input.ensures c.at-only.ensures in
    subst (λ (z : TypedRows). TakesOne c.args.function z.value_type) (sym same) o.takes

pub returns-clause-ok : goal.returns-clause-ok
returns-clause-ok g c =
    let o = one_input (g.K.Kernels.definitions c.args.kernels.now) c.args.frame.now c.requires.fits c.args.table.now c.args.expr.now c.args.function c.requires.is c.requires.one c.requires.ready in
    let same = one_read (g.K.Kernels.definitions c.args.kernels.now) c.args.frame.now c.requires.fits c.args.table.now c.args.expr.now c.args.function c.input.result.0 (values_of c.at-only.result.now) o c.input.ensures c.at-only.ensures in
    let case = subst (λ (z : TypedRows). Case (g.K.Kernels.definitions c.args.kernels.now) c.args.frame.now c.args.table.now c.args.expr.now (function_rows c.args.function (z ∷ [])) ShapeMismatch) (sym same) o.case in
    owned_ok (g.K.Kernels.definitions c.args.kernels.now) c.args.frame.now c.requires.fits c.args.table.now c.args.expr.now c.owned.result c.call_one.result _ _ c.owned.ensures c.call_one.ensures case

pub returns-clause-err : goal.returns-clause-err
returns-clause-err g c =
    let o = one_input (g.K.Kernels.definitions c.args.kernels.now) c.args.frame.now c.requires.fits c.args.table.now c.args.expr.now c.args.function c.requires.is c.requires.one c.requires.ready in
    let same = one_read (g.K.Kernels.definitions c.args.kernels.now) c.args.frame.now c.requires.fits c.args.table.now c.args.expr.now c.args.function c.input.result.0 (values_of c.at-only.result.now) o c.input.ensures c.at-only.ensures in
    let case = subst (λ (z : TypedRows). Case (g.K.Kernels.definitions c.args.kernels.now) c.args.frame.now c.args.table.now c.args.expr.now (function_rows c.args.function (z ∷ [])) ShapeMismatch) (sym same) o.case in
    owned_err (g.K.Kernels.definitions c.args.kernels.now) c.args.frame.now c.requires.fits c.args.table.now c.args.expr.now c.owned.result c.call_one.result _ _ c.requires.ready c.owned.ensures c.call_one.ensures case
