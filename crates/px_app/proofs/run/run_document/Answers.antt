use Rattle.std.proofs.Common.{sym}
use Rattle.px_app.proofs.Answering.{cut_off}
use Rattle.px_app.proofs.run.run_document.Goals as goal

pub returns-clause-cut_off : goal.returns-clause-cut_off
returns-clause-cut_off g c =
    let reply = rw c.in-Ok-Some.field-0-is at c.in-Ok-Some.ensures.reply in
    let part = rw c.as_slice.ensures.value at c.in-Err-write_whole.ensures.part in
    λ _. cut_off _ _ _ _ _ _ _ _ (sym c.in-Some.ensures) c.in-Ok.ensures.all reply part
