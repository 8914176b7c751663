use Rattle.std.proofs.Common.{◌∙◌, sym, map, is_some, cond, pos, refl}
use Rattle.std.specs.Simd.Lanes.{zip2}
use Rattle.std.proofs.lemmas.List.{length-map}
use Rattle.px_semantics.specs.Casts.{as_integer}
use Rattle.px_types.specs.Integers.{InRange}
use Rattle.px_semantics.specs.Logic.{is_true}
use Rattle.px_semantics.specs.Rows.{entry}
use Rattle.px_semantics.proofs.CastLemmas.{bit_in}
use Rattle.px_kernels.proofs.CastRows.{booleans_cast, casts_at, each_bit_inside}
use Rattle.px_kernels.proofs.casts.booleans_as_integers.Goals as goal

pub from_parts-requires : goal.from_parts-requires
from_parts-requires g c =
    let k = g.T.Integer.value_type in
    let made = rw c.truth.ensures at c.in_ok-values.ensures in
    record {
      same_length = rw (c.in_ok-valid.ensures, c.valid-2.ensures, made)
          (length-map c.args.a.now is_some ∙ sym (length-map (map is_true c.args.a.now) (λ b. cond b (pos 1) (pos 0)) ∙ length-map c.args.a.now is_true));
      inside = rw c.in_ok-values.ensures (each_bit_inside (InRange k) (λ b. cond b (pos 1) (pos 0)) (λ b. bit_in k _ b (g.met.T.Integer.into_range (pos 0))) c.truth.result.now);
    }

pub returns : goal.returns
returns g c = λ options.
    let k = g.T.Integer.value_type in
    let xs = c.args.a.now in
    casts_at (as_integer options k) xs xs (zip2 entry (map is_some xs) (map (λ b. cond b (pos 1) (pos 0)) (map is_true xs))) c.from_parts.result refl
    (c.from_parts.ensures ∙ rw (c.in_ok-valid.ensures, c.valid-2.ensures, c.in_ok-values.ensures, c.truth.ensures) refl) (booleans_cast options k xs c.len.ensures.typed)
