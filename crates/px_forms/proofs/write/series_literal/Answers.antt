use Rattle.std.proofs.Common.{rules, Fits, w32}
use Rattle.std.proofs.Math.Facts.{Fits-lt-pow}
use Rattle.px_forms.proofs.Literals.{series_written}
use Rattle.px_forms.proofs.write.series_literal.Goals as goal

pub returns : goal.returns
returns c =
    let small : Fits w32 c.len-len.result = search rules in
    series_written c.args.column.now _ _ (rw (← c.len-len.ensures.rows) (Fits-lt-pow small)) c.len-len.ensures.typed c.in_ok-value.ensures.value c.in_ok-single_member.ensures
