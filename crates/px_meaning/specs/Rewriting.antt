-- Rewriting by a relation between trees: steps of one tree, moves of lists of trees, and normal trees.
use Rattle.std.specs.Prelude.{◌≢◌, ℕ, suc}
use Rattle.px_expr.specs.Tree.{Node, Tree, tree, Trees, none, more}

module _ (Rewrite : Tree → Tree → Type 0) where
  mutual
    -- the tree at one place is the left side of a rewrite, and its right side is put there
    pub data StepsTo : Tree → Tree → Type 0 where
      at_top : {t t' : Tree} → Rewrite t t' → StepsTo t t'
      at_input : {n : Node} {us us' : Trees} → InputStepsTo us us' → StepsTo (tree n us) (tree n us')

    pub data InputStepsTo : Trees → Trees → Type 0 where
      in_first : {u u' : Tree} {us : Trees} → StepsTo u u' → InputStepsTo (more u us) (more u' us)
      in_rest : {u : Tree} {us us' : Trees} → InputStepsTo us us' → InputStepsTo (more u us) (more u us')

  -- any number of steps, none included
  pub data Reaches : Tree → Tree → Type 0 where
    stays : {t : Tree} → Reaches t t
    goes_on : {t u v : Tree} → StepsTo t u → Reaches u v → Reaches t v

  -- no rewrite has the tree on its left
  abbrev pub HasNoRewrite : Tree → Type 0
  HasNoRewrite t = (t' : Tree) → Rewrite t t' → ⊥

  abbrev mutual
    -- no rewrite has the tree at any of its places on its left
    pub IsNormal : Tree → Type 0
    IsNormal (tree n us) = HasNoRewrite (tree n us) × AreNormal us

    pub AreNormal : Trees → Type 0
    AreNormal none = Unit {0}
    AreNormal (more u us) = IsNormal u × AreNormal us

-- each tree is so related to the one in its place, and no list is longer than the other
abbrev pub Pairwise : (Tree → Tree → Type 0) → Trees → Trees → Type 0
Pairwise Related none none = Unit {0}
Pairwise Related (more u us) (more v vs) = Related u v × Pairwise Related us vs
Pairwise Related none (more v vs) = ⊥
Pairwise Related (more u us) none = ⊥

-- each tree reaches the one in its place
abbrev pub AllReach : (Tree → Tree → Type 0) → Trees → Trees → Type 0
AllReach Rewrite us vs = Pairwise (Reaches Rewrite) us vs

mutual
  -- the second tree is the first with t replaced by t' at none, some or all of the places that hold t
  pub data Replaced (t t' : Tree) : Tree → Tree → Type 0 where
    there : Replaced t t' t t'
    inside : {n : Node} {us us' : Trees} → ReplacedAll t t' us us' → Replaced t t' (tree n us) (tree n us')

  pub data ReplacedAll (t t' : Tree) : Trees → Trees → Type 0 where
    ended : ReplacedAll t t' none none
    both : {u u' : Tree} {us us' : Trees} → Replaced t t' u u' → ReplacedAll t t' us us' → ReplacedAll t t' (more u us) (more u' us')

-- a list of trees moves to another by r rewrites, one after the other, each at some places of the whole list
pub data Moves (Rewrite : Tree → Tree → Type 0) : Trees → Trees → ℕ → Type 0 where
  unmoved : {us : Trees} → Moves Rewrite us us 0
  moved : {us vs ws : Trees} {r : ℕ} (t t' : Tree) → Rewrite t t' → ReplacedAll t t' us vs → us ≢ vs → Moves Rewrite vs ws r → Moves Rewrite us ws (suc r)
