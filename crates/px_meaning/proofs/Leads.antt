-- Moves of a list of trees lead each of its trees to the one in its place, step by step.
use Rattle.std.proofs.Common.{◌≡◌, ℕ, suc, ◌+◌, refl, subst, arith}
use Rattle.px_expr.specs.Tree.{Node, Tree, tree, Trees, none, more}
use Rattle.px_meaning.specs.Rewriting.{at_top, at_input, InputStepsTo, in_first, in_rest, Reaches, stays, goes_on, Replaced, there, inside, ReplacedAll, ended, both, AllReach, Moves, unmoved, moved}

module _ (Rewrite : Tree → Tree → Type 0) where
  pub Reaches-join : (t u v : Tree) → Reaches Rewrite t u → Reaches Rewrite u v → Reaches Rewrite t v
  Reaches-join t _ v stays rest = rest
  Reaches-join t u v (goes_on {u = w} step first) rest = goes_on step (Reaches-join w u v first rest)

  -- any number of steps in a list of trees
  data InputsReach : Trees → Trees → Type 0 where
    all_stay : {us : Trees} → InputsReach us us
    input_goes_on : {us vs ws : Trees} → InputStepsTo Rewrite us vs → InputsReach vs ws → InputsReach us ws

  inputs_join : (us vs ws : Trees) → InputsReach us vs → InputsReach vs ws → InputsReach us ws
  inputs_join us _ ws all_stay rest = rest
  inputs_join us vs ws (input_goes_on {vs = xs} step first) rest = input_goes_on step (inputs_join xs vs ws first rest)

  at_head : (u v : Tree) (us : Trees) → Reaches Rewrite u v → InputsReach (more u us) (more v us)
  at_head u _ us stays = all_stay
  at_head u v us (goes_on {u = w} step rest) = input_goes_on (in_first step) (at_head w v us rest)

  at_tail : (u : Tree) (us vs : Trees) → InputsReach us vs → InputsReach (more u us) (more u vs)
  at_tail u us _ all_stay = all_stay
  at_tail u us vs (input_goes_on {vs = xs} step rest) = input_goes_on (in_rest step) (at_tail u xs vs rest)

  under : (n : Node) (us vs : Trees) → InputsReach us vs → Reaches Rewrite (tree n us) (tree n vs)
  under n us _ all_stay = stays
  under n us vs (input_goes_on {vs = xs} step rest) = goes_on (at_input step) (under n xs vs rest)

  mutual
    pub Replaced-reaches : (t t' : Tree) → Rewrite t t' → (u v : Tree) → Replaced t t' u v → Reaches Rewrite u v
    Replaced-reaches t t' rewrite u v there = goes_on (at_top rewrite) stays
    Replaced-reaches t t' rewrite u v (inside {n} {us} {us' = vs} all) = under n us vs (inputs_reach t t' rewrite us vs all)

    inputs_reach : (t t' : Tree) → Rewrite t t' → (us vs : Trees) → ReplacedAll t t' us vs → InputsReach us vs
    inputs_reach t t' rewrite us vs ended = all_stay
    inputs_reach t t' rewrite us vs (both {u} {u' = v} {us = xs} {us' = ys} one all) =
        inputs_join (more u xs) (more v xs) (more v ys)
        (at_head u v xs (Replaced-reaches t t' rewrite u v one))
        (at_tail v xs ys (inputs_reach t t' rewrite xs ys all))

  pub AllReach-stays : (us : Trees) → AllReach Rewrite us us
  AllReach-stays none = tt
  AllReach-stays (more u us) = (stays, AllReach-stays us)

  pub AllReach-joins : (us vs ws : Trees) → AllReach Rewrite us vs → AllReach Rewrite vs ws → AllReach Rewrite us ws
  AllReach-joins none none ws a b = b
  AllReach-joins none (more v vs) ws a b = absurd a
  AllReach-joins (more u us) none ws a b = absurd a
  AllReach-joins (more u us) (more v vs) none a b = absurd b
  AllReach-joins (more u us) (more v vs) (more w ws) (a, as') (b, bs) = (Reaches-join u v w a b, AllReach-joins us vs ws as' bs)

  pub AllReach-replaced : (t t' : Tree) → Rewrite t t' → (us vs : Trees) → ReplacedAll t t' us vs → AllReach Rewrite us vs
  AllReach-replaced t t' rewrite us vs ended = tt
  AllReach-replaced t t' rewrite us vs (both {u} {u' = v} {us = xs} {us' = ys} one all) =
      (Replaced-reaches t t' rewrite u v one, AllReach-replaced t t' rewrite xs ys all)

  -- moves of a list lead each tree to the one in its place
  pub Moves-reach : (us vs : Trees) (r : ℕ) → Moves Rewrite us vs r → AllReach Rewrite us vs
  Moves-reach us _ _ unmoved = AllReach-stays us
  Moves-reach us vs _ (moved {vs = ws} {r} t t' rewrite all differ rest) =
      AllReach-joins us ws vs (AllReach-replaced t t' rewrite us ws all) (Moves-reach ws vs r rest)

  pub Moves-join : (us vs ws : Trees) (r s q : ℕ) → Moves Rewrite us vs r → Moves Rewrite vs ws s → q ≡ r + s → Moves Rewrite us ws q
  Moves-join us _ ws _ s q unmoved rest e = let f : s ≡ q = omega arith in subst (λ (z : ℕ). Moves Rewrite us ws z) f rest
  Moves-join us vs ws _ s q (moved {vs = xs} {r} t t' rewrite all differ first) rest e =
      let f : suc (r + s) ≡ q = omega arith in
      subst (λ (z : ℕ). Moves Rewrite us ws z) f (moved t t' rewrite all differ (Moves-join xs vs ws r s (r + s) first rest refl))
