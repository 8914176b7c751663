use Rattle.std.proofs.Common.{◌∙◌}
use Rattle.std.proofs.lemmas.Result.{IfOk-weaker}
use Rattle.px_column.specs.ColumnOf.{rows_of}
use Rattle.px_kernels.proofs.TestRows.{match_flags, match_lengths}
use Rattle.px_kernels.proofs.comparison.matches.Goals as goal

pub or-requires-2 : goal.or-requires-2
or-requires-2 c =
    rw (c.truth.ensures, c.in_ok-same.ensures, c.in_ok-neither.ensures, c.in_ok-either.ensures, c.in_ok-mine.ensures, c.in_ok-others.ensures)
    (match_lengths (rows_of c.args.a.now) (rows_of c.args.b.now) c.requires.same_length)

pub returns : goal.returns
returns c =
    IfOk-weaker c.non_null.result _ _
    (λ r e. e ∙ rw (c.in_ok-flags.ensures, c.truth.ensures, c.in_ok-same.ensures, c.in_ok-neither.ensures, c.in_ok-either.ensures, c.in_ok-mine.ensures, c.in_ok-others.ensures)
    (match_flags (rows_of c.args.a.now) (rows_of c.args.b.now)))
    c.non_null.ensures
