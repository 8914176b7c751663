use Rattle.std.proofs.Common.{ap, sym, refl}
use Rattle.px_semantics.specs.Casts.{as_integer}
use Rattle.px_column.specs.ColumnOf.{rows_of}
use Rattle.px_base.proofs.Answers.{gives_value}
use Rattle.px_base.specs.declared.error.PlanError.TheVariants.{InvalidCast}
use Rattle.px_kernels.proofs.CastRows.{all_cast, casts_at, nulls_at}
use Rattle.px_kernels.proofs.casts.integers.Goals as goal

pub returns-in-Null : goal.returns-in-Null
returns-in-Null g c =
    let f = as_integer c.args.options g.T.Integer.value_type in
    let rows = rows_of c.args.a.now in
    record {
      rows = gives_value InvalidCast (λ r. r) c.null_integers.result _ _ c.null_integers.ensures (all_cast c.args.options f rows _ (nulls_at f _ rows (ap rows_of c.in-Null.is)));
    }

pub returns-in_ok-booleans_as_integers-in-Boolean : goal.returns-in_ok-booleans_as_integers-in-Boolean
returns-in_ok-booleans_as_integers-in-Boolean g c =
    let f = as_integer c.args.options g.T.Integer.value_type in
    let made = c.in_ok-booleans_as_integers-in-Boolean.field-0 in
    let rows = rows_of c.args.a.now in
    record {
      rows = all_cast c.args.options f rows made (casts_at f _ rows made made (sym (ap rows_of c.in-Boolean.is)) refl (c.in_ok-booleans_as_integers-in-Boolean.ensures c.args.options));
    }
