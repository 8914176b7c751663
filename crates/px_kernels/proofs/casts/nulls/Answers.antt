use Rattle.std.proofs.Common.{◌≡◌, ◌<◌, arith, refl, length, rules}
use Rattle.px_semantics.specs.Rows.{null_count}
use Rattle.px_types.specs.declared.type_parts.CastOptions.TheVariants.{Strict}
use Rattle.px_column.specs.ColumnOf.{rows_of}
use Rattle.px_kernels.proofs.CastRows.{void_lost, void_gives}
use Rattle.px_kernels.proofs.casts.nulls.Goals.{else-eq-via-then-eq+else-null_count-len, else-eq-via-else-eq}
use Rattle.px_kernels.proofs.casts.nulls.Goals as goal

pub returns-then-null_count-len-clause-err : goal.returns-then-null_count-len-clause-err
returns-then-null_count-len-clause-err c =
    let fewer : null_count (rows_of c.args.a.now) < length (rows_of c.args.a.now) = omega (arith, c.if-null_count-len.true, c.null_count.ensures, c.len-len.ensures.rows) in
    let strict : c.args.options ≡ Strict = search rules in
    (refl, void_lost c.args.options (rows_of c.args.a.now) strict fewer)

pub returns-clause-rows : goal.returns-clause-rows
returns-clause-rows c =
    void_gives c.args.options (rows_of c.args.a.now) c.len-len.result c.len-len.ensures.rows
    (λ e. elim c.else-eq.branch [
      | else-eq-via-then-eq+else-null_count-len w ↦ omega (arith, w.if-null_count-len.false, w.null_count.ensures)
      | else-eq-via-else-eq w ↦ let other = w.if-eq.ensures in absurd (search rules)
    ])
