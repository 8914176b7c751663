use Rattle.std.proofs.Common.{◌&&◌, ◌∙◌, ap, length}
use Rattle.std.proofs.lemmas.Simd.{length-zip2}
use Rattle.px_arrays.proofs.BooleanRows.{masked, and_within}
use Rattle.px_arrays.proofs.boolean_array.BooleanArray.masked.Goals as goal

pub invariant_of-result : goal.invariant_of-result
invariant_of-result c = record {
  same_length = ap length c.in_ok-truth.ensures ∙ length-zip2 (λ x y. x && y) c.args.flags.now c.args.valid c.requires ∙ c.requires;
  within = rw (c.in_ok-truth.ensures) (and_within c.args.flags.now c.args.valid);
}

pub returns : goal.returns
returns c = rw (c.in_ok-truth.ensures) (masked c.args.flags.now c.args.valid)
