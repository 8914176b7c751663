use Rattle.px_app.proofs.Answering.{refusal_is_expected, refusal_status}
use Rattle.px_app.proofs.reply.reply_to_document.Goals as goal

pub returns-in-Err : goal.returns-in-Err
returns-in-Err g c =
    let context = c.args.context in
    let d = c.args.document in
    let fault = c.in-Err.fault in
    let r = c.refusal.result in
    let h = c.refusal.ensures in
    record {
      reply = refusal_is_expected context d fault r c.in-Err.ensures.fault h.fault h.status h.line;
      status = refusal_status context d fault r c.in-Err.ensures.refused h.fault h.status;
      err = h.err;
    }
