use Rattle.std.proofs.Common.{◌∙◌, sym, ap, length, replicate, true}
use Rattle.std.proofs.lemmas.List.{length-replicate}
use Rattle.px_arrays.proofs.BooleanRows.{non_null_entries, non_null_within}
use Rattle.px_arrays.proofs.boolean_array.BooleanArray.non_null.Goals as goal

pub invariant_of-result : goal.invariant_of-result
invariant_of-result c =
    let made = c.in_ok-valid.ensures ∙ ap (λ n. replicate n true) c.len.ensures.bits in
    record {
      same_length = sym (ap length made ∙ length-replicate (length c.args.flags) true);
      within = rw made (non_null_within c.args.flags);
    }

pub returns : goal.returns
returns c =
    let made = c.in_ok-valid.ensures ∙ ap (λ n. replicate n true) c.len.ensures.bits in
    rw made (non_null_entries c.args.flags)
