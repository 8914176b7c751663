use Rattle.std.proofs.Common.{◌≡◌, ◌≤◌, ◌∙◌, ℕ, zero, suc, ap, arith, map, replicate, List, ◌∷◌, Option, None, refl}
use Rattle.std.specs.Prelude.{option_map}
use Rattle.px_semantics.specs.Rows.{TypedRows}
use Rattle.px_eval.specs.Table.{values_of}
use Rattle.px_eval.proofs.table.Table.new.Goals as goal

all_empty : (n : ℕ) → map (option_map values_of) (replicate n None) ≡ replicate n None
all_empty zero = refl
all_empty (suc n) = ap (λ (z : List (Option TypedRows)). None ∷ z) (all_empty n)

pub returns-clause-ok : goal.returns-clause-ok
returns-clause-ok c =
    let far : c.loop-i._i ≤ c.args.len = c.loop-i.auto._i-end in
    let near : c.args.len ≤ c.loop-i._i = c.loop-i-test.false in
    let e : c.loop-i._i ≡ c.args.len = omega arith in
    ap (map (option_map values_of)) (c.loop-i.invariant ∙ ap (λ (z : ℕ). replicate z None) e) ∙ all_empty c.args.len
