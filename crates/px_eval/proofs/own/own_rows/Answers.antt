use Rattle.std.proofs.Common.{◌≡◌, ◌∙◌, sym, ap, Some, None}
use Rattle.std.specs.Option.{option_copied}
use Rattle.px_semantics.specs.Frames.{column_named}
use Rattle.px_column.specs.Buffers.{values_of}
use Rattle.px_expr.specs.Tree.{node_for}
use Rattle.px_arena.specs.Denotes.{root_of}
use Rattle.px_eval.proofs.Single.{outside, not_evaluated, binary_case, cast_case, ternary_case, alias_case, column_case, column_there, literal_typed, literal_case, shared_ok, cast_ok, given_err, owned_ok, owned_err}
use Rattle.px_base.proofs.Answers as refusal
use Rattle.px_base.specs.declared.error.PlanError.TheVariants.{InvalidCast}
use Rattle.px_eval.specs.Table as table_rows
use Rattle.px_eval.proofs.own.own_rows.Goals as goal

pub share-requires : goal.share-requires
share-requires g c = (alias_case (g.K.Kernels.definitions c.args.kernels.now) c.args.frame.now c.requires.fits c.args.table.now c.args.expr.now c.in-Alias.input c.in-Alias.field-1 c.in-Alias.is c.requires.ready).0

pub returns-in-Alias-clause-ok : goal.returns-in-Alias-clause-ok
returns-in-Alias-clause-ok g c = shared_ok _ _ c.share.result (alias_case (g.K.Kernels.definitions c.args.kernels.now) c.args.frame.now c.requires.fits c.args.table.now c.args.expr.now c.in-Alias.input c.in-Alias.field-1 c.in-Alias.is c.requires.ready).1 c.share.ensures.ok

pub unreachable-requires : goal.unreachable-requires
unreachable-requires g c =
    let e : column_named c.args.frame.now c.as_str.result.now ≡ None = sym c.column.ensures ∙ ap option_copied c.in-None.is in
    column_there (g.K.Kernels.definitions c.args.kernels.now) c.args.frame.now c.requires.fits c.args.table.now c.args.expr.now c.in-Column.name c.in-Column.is c.requires.ready (ap (column_named c.args.frame.now) (sym c.as_str.ensures) ∙ e)

pub returns-in-Some-clause-ok : goal.returns-in-Some-clause-ok
returns-in-Some-clause-ok g c =
    let e : column_named c.args.frame.now c.as_str.result.now ≡ Some c.in-Some.column.now = sym c.column.ensures ∙ ap option_copied c.in-Some.is in
    column_case (g.K.Kernels.definitions c.args.kernels.now) c.args.frame.now c.requires.fits c.args.table.now c.args.expr.now c.in-Column.name c.in-Some.column.now c.in-Column.is c.requires.ready (ap (column_named c.args.frame.now) (sym c.as_str.ensures) ∙ e)
    ∙ ap Some (sym c.from_column.ensures)

pub literal-requires : goal.literal-requires
literal-requires g c = literal_typed (g.K.Kernels.definitions c.args.kernels.now) c.args.frame.now c.requires.fits c.args.table.now c.args.expr.now c.in-Literal.value c.in-Literal.is c.requires.ready

pub returns-in-Ok-clause-ok : goal.returns-in-Ok-clause-ok
returns-in-Ok-clause-ok g c = literal_case (g.K.Kernels.definitions c.args.kernels.now) c.args.frame.now c.requires.fits c.args.table.now c.args.expr.now c.in-Literal.value c.in-Literal.is c.requires.ready ∙ c.in-Ok.ensures.ok

pub unreachable-requires-in-None-evaluated : goal.unreachable-requires-in-None-evaluated
unreachable-requires-in-None-evaluated g c =
    let is = ap root_of c.in-Function.is ∙ ap (node_for c.in-Function.function) (sym c.evaluated.ensures ∙ c.in-None-evaluated.is) in
    not_evaluated (g.K.Kernels.definitions c.args.kernels.now) c.args.frame.now c.requires.fits c.args.table.now c.args.expr.now c.in-Function.function is c.requires.ready

pub unreachable-requires-in-Gather : goal.unreachable-requires-in-Gather
unreachable-requires-in-Gather g c = outside (g.K.Kernels.definitions c.args.kernels.now) c.args.frame.now c.requires.fits c.args.table.now c.args.expr.now _ c.in-Gather.is tt c.requires.ready

pub unreachable-requires-in-Slice : goal.unreachable-requires-in-Slice
unreachable-requires-in-Slice g c = outside (g.K.Kernels.definitions c.args.kernels.now) c.args.frame.now c.requires.fits c.args.table.now c.args.expr.now _ c.in-Slice.is tt c.requires.ready

pub unreachable-requires-in-Filter : goal.unreachable-requires-in-Filter
unreachable-requires-in-Filter g c = outside (g.K.Kernels.definitions c.args.kernels.now) c.args.frame.now c.requires.fits c.args.table.now c.args.expr.now _ c.in-Filter.is tt c.requires.ready

pub unreachable-requires-in-Agg : goal.unreachable-requires-in-Agg
unreachable-requires-in-Agg g c = outside (g.K.Kernels.definitions c.args.kernels.now) c.args.frame.now c.requires.fits c.args.table.now c.args.expr.now _ c.in-Agg.is tt c.requires.ready

pub unreachable-requires-in-AnonymousFunction : goal.unreachable-requires-in-AnonymousFunction
unreachable-requires-in-AnonymousFunction g c = outside (g.K.Kernels.definitions c.args.kernels.now) c.args.frame.now c.requires.fits c.args.table.now c.args.expr.now _ c.in-AnonymousFunction.is tt c.requires.ready

pub unreachable-requires-in-Len : goal.unreachable-requires-in-Len
unreachable-requires-in-Len g c = outside (g.K.Kernels.definitions c.args.kernels.now) c.args.frame.now c.requires.fits c.args.table.now c.args.expr.now _ c.in-Len.is tt c.requires.ready

pub binary-requires : goal.binary-requires
binary-requires g c = let case = binary_case (g.K.Kernels.definitions c.args.kernels.now) c.args.frame.now c.requires.fits c.args.table.now c.args.expr.now c.in-BinaryExpr.left c.in-BinaryExpr.right c.in-BinaryExpr.op (values_of c.at-a.result.now) (values_of c.at-b.result.now) c.in-BinaryExpr.is c.requires.ready c.at-a.ensures c.at-b.ensures in case.1

pub select_by_mask-requires-clause-mask : goal.select_by_mask-requires-clause-mask
select_by_mask-requires-clause-mask g c = let case = ternary_case (g.K.Kernels.definitions c.args.kernels.now) c.args.frame.now c.requires.fits c.args.table.now c.args.expr.now c.in-Ternary.predicate c.in-Ternary.truthy c.in-Ternary.falsy (values_of c.at-mask.result.now) (values_of c.at-first.result.now) (values_of c.at-second.result.now) c.in-Ternary.is c.requires.ready c.at-mask.ensures c.at-first.ensures c.at-second.ensures in case.1.mask

pub select_by_mask-requires-clause-same : goal.select_by_mask-requires-clause-same
select_by_mask-requires-clause-same g c = let case = ternary_case (g.K.Kernels.definitions c.args.kernels.now) c.args.frame.now c.requires.fits c.args.table.now c.args.expr.now c.in-Ternary.predicate c.in-Ternary.truthy c.in-Ternary.falsy (values_of c.at-mask.result.now) (values_of c.at-first.result.now) (values_of c.at-second.result.now) c.in-Ternary.is c.requires.ready c.at-mask.ensures c.at-first.ensures c.at-second.ensures in case.1.same

pub returns-in-BinaryExpr-clause-ok : goal.returns-in-BinaryExpr-clause-ok
returns-in-BinaryExpr-clause-ok g c =
    let case = binary_case (g.K.Kernels.definitions c.args.kernels.now) c.args.frame.now c.requires.fits c.args.table.now c.args.expr.now c.in-BinaryExpr.left c.in-BinaryExpr.right c.in-BinaryExpr.op (values_of c.at-a.result.now) (values_of c.at-b.result.now) c.in-BinaryExpr.is c.requires.ready c.at-a.ensures c.at-b.ensures in
    owned_ok (g.K.Kernels.definitions c.args.kernels.now) c.args.frame.now c.requires.fits c.args.table.now c.args.expr.now c.owned.result c.binary.result _ _ c.owned.ensures c.binary.ensures case.0

pub returns-in-BinaryExpr-clause-err : goal.returns-in-BinaryExpr-clause-err
returns-in-BinaryExpr-clause-err g c =
    let case = binary_case (g.K.Kernels.definitions c.args.kernels.now) c.args.frame.now c.requires.fits c.args.table.now c.args.expr.now c.in-BinaryExpr.left c.in-BinaryExpr.right c.in-BinaryExpr.op (values_of c.at-a.result.now) (values_of c.at-b.result.now) c.in-BinaryExpr.is c.requires.ready c.at-a.ensures c.at-b.ensures in
    owned_err (g.K.Kernels.definitions c.args.kernels.now) c.args.frame.now c.requires.fits c.args.table.now c.args.expr.now c.owned.result c.binary.result _ _ c.requires.ready c.owned.ensures c.binary.ensures case.0

pub returns-in-Ternary-clause-ok : goal.returns-in-Ternary-clause-ok
returns-in-Ternary-clause-ok g c =
    let case = ternary_case (g.K.Kernels.definitions c.args.kernels.now) c.args.frame.now c.requires.fits c.args.table.now c.args.expr.now c.in-Ternary.predicate c.in-Ternary.truthy c.in-Ternary.falsy (values_of c.at-mask.result.now) (values_of c.at-first.result.now) (values_of c.at-second.result.now) c.in-Ternary.is c.requires.ready c.at-mask.ensures c.at-first.ensures c.at-second.ensures in
    owned_ok (g.K.Kernels.definitions c.args.kernels.now) c.args.frame.now c.requires.fits c.args.table.now c.args.expr.now c.owned-in-Ternary.result c.select_by_mask.result _ _ c.owned-in-Ternary.ensures c.select_by_mask.ensures case.0

pub returns-in-Ternary-clause-err : goal.returns-in-Ternary-clause-err
returns-in-Ternary-clause-err g c =
    let case = ternary_case (g.K.Kernels.definitions c.args.kernels.now) c.args.frame.now c.requires.fits c.args.table.now c.args.expr.now c.in-Ternary.predicate c.in-Ternary.truthy c.in-Ternary.falsy (values_of c.at-mask.result.now) (values_of c.at-first.result.now) (values_of c.at-second.result.now) c.in-Ternary.is c.requires.ready c.at-mask.ensures c.at-first.ensures c.at-second.ensures in
    owned_err (g.K.Kernels.definitions c.args.kernels.now) c.args.frame.now c.requires.fits c.args.table.now c.args.expr.now c.owned-in-Ternary.result c.select_by_mask.result _ _ c.requires.ready c.owned-in-Ternary.ensures c.select_by_mask.ensures case.0

pub cast_own_type-requires-clause-filled : goal.cast_own_type-requires-clause-filled
cast_own_type-requires-clause-filled g c = (cast_case (g.K.Kernels.definitions c.args.kernels.now) c.args.frame.now c.requires.fits c.args.table.now c.args.expr.now c.in-Cast.input c.in-Cast.dtype c.in-Cast.options c.in-Cast.is c.requires.ready).filled

pub cast_own_type-requires-clause-castable : goal.cast_own_type-requires-clause-castable
cast_own_type-requires-clause-castable g c = (cast_case (g.K.Kernels.definitions c.args.kernels.now) c.args.frame.now c.requires.fits c.args.table.now c.args.expr.now c.in-Cast.input c.in-Cast.dtype c.in-Cast.options c.in-Cast.is c.requires.ready).castable

pub returns-in-Cast-clause-ok : goal.returns-in-Cast-clause-ok
returns-in-Cast-clause-ok g c = cast_ok _ _ c.cast_own_type.result (cast_case (g.K.Kernels.definitions c.args.kernels.now) c.args.frame.now c.requires.fits c.args.table.now c.args.expr.now c.in-Cast.input c.in-Cast.dtype c.in-Cast.options c.in-Cast.is c.requires.ready).case.gives c.cast_own_type.ensures.answer

pub returns-in-Cast-clause-err : goal.returns-in-Cast-clause-err
returns-in-Cast-clause-err g c = given_err (g.K.Kernels.definitions c.args.kernels.now) c.args.frame.now c.requires.fits c.args.table.now c.args.expr.now c.cast_own_type.result _ _ c.requires.ready (refusal.given_err InvalidCast table_rows.values_of c.cast_own_type.result _ c.cast_own_type.ensures.answer) (cast_case (g.K.Kernels.definitions c.args.kernels.now) c.args.frame.now c.requires.fits c.args.table.now c.args.expr.now c.in-Cast.input c.in-Cast.dtype c.in-Cast.options c.in-Cast.is c.requires.ready).case
