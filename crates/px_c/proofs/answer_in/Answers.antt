use Rattle.px_c.proofs.Calls.{delivered}
use Rattle.px_c.proofs.answer_in.Goals as goal

pub returns : goal.returns
returns g c =
    let h = c.deliver.ensures in
    delivered c.args.context c.args.document.now c.answer_bytes-answer.result.text.items _ _ c.answer_bytes-answer.result.status _ _ c.answer_bytes-answer.ensures.answer h.reply_length h.fits h.too_short
