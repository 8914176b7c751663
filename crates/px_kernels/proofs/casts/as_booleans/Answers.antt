use Rattle.std.proofs.Common.{ap, sym}
use Rattle.std.proofs.lemmas.Result.{IfOk-weaker}
use Rattle.px_semantics.specs.Casts.{as_boolean}
use Rattle.px_column.specs.ColumnOf.{rows_of}
use Rattle.px_kernels.proofs.CastRows.{casts_at, nulls_cast}
use Rattle.px_kernels.proofs.casts.as_booleans.Goals as goal

pub returns-in-Null : goal.returns-in-Null
returns-in-Null c =
    IfOk-weaker c.null_booleans.result _ _
    (λ r e. casts_at as_boolean _ (rows_of c.args.a.now) _ r (sym (ap rows_of c.in-Null.is)) e (nulls_cast as_boolean _))
    c.null_booleans.ensures
