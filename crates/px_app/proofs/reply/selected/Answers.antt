use Rattle.px_app.proofs.Answering.{none_defined, Runs, run_of_exprs, run_answers, run_forms, run_status, run_fault, run_refused}
use Rattle.px_app.proofs.reply.selected.Goals as goal

pub returns : goal.returns
returns g c =
    let context = c.args.context in
    let d = c.args.document in
    let r = c.run_select.result in
    let none = none_defined _ _ c.new-kernels.result.entries.items c.new-kernels.ensures in
    let h = c.run_select.ensures in
    let of_slice : Runs _ context (record { frame = d.frame; exprs = record { entries = c.as_slice-exprs.result.now } }) r _ = record {
      checked = h.checked;
      columns = h.columns;
      reach = h.reach;
      normal = h.normal;
      meaning = h.meaning;
      rewrites = h.rewrites;
      err = h.err;
      complete = h.complete;
    } in
    let run = run_of_exprs _ context d c.as_slice-exprs.result.now r _ c.as_slice-exprs.ensures of_slice in
    record {
      answer = run_answers context d _ _ r none run;
      forms = run_forms context d _ _ r none run;
      status = run_status context d _ _ r none run;
      fault = run_fault context d _ _ r none run;
      refused = run_refused context d _ _ r none run;
    }
