-- Rewriting in an arena: what may be put in a place, what a rule answers, and what becomes of the trees.
use Rattle.std.specs.Prelude.{◌≡◌, ℕ, suc, ◌+◌, ◌<◌, ◌≤◌, length, List, set, Option, Some, None}
use Rattle.px_expr.specs.Tree.{Node as Root, Tree, tree, Trees}
use Rattle.px_meaning.specs.Rewriting.{HasNoRewrite, Moves, AllReach}
use Rattle.px_meaning.specs.Weight.{weights}
use Rattle.px_arena.specs.declared.node.AExpr.{AExpr}
use Rattle.px_arena.specs.Denotes.{root_of, inputs_of, Denotes, DenoteAll, IsIn, Reaches, IsGrown}

-- put in the place n, the item makes it denote the tree: its inputs denote the tree's, and none of them reaches n
pub record Fits (items : List AExpr) (n : ℕ) (e : AExpr) (t : Tree) : Type 0 where
  pub denotes : (k : Root) × (us : Trees) × (t ≡ tree k us) × (root_of e ≡ k) × DenoteAll items (inputs_of e) us
  pub apart : (m : ℕ) → IsIn m (inputs_of e) → Reaches items m n → ⊥

-- what a rule answers at the place n: nothing exactly where no rewrite has the place's tree on its left, and else a
-- node that fits there and makes it denote the right side of such a rewrite
abbrev pub Offers : (Tree → Tree → Type 0) → List AExpr → List AExpr → ℕ → Option AExpr → Type 0
Offers Rewrite old new n None = (t : Tree) → Denotes old n t → HasNoRewrite Rewrite t
Offers Rewrite old new n (Some e) = (t : Tree) × (t' : Tree) × Denotes old n t × Rewrite t t' × Fits new n e t'

-- one arena comes from another by growing and by r replacements, each at a place that n reaches then
pub data Runs (Rewrite : Tree → Tree → Type 0) (n : ℕ) : List AExpr → List AExpr → ℕ → Type 0 where
  done : {items : List AExpr} → Runs Rewrite n items items 0
  grown : {old mid new : List AExpr} {r : ℕ} → IsGrown old mid → Runs Rewrite n mid new r → Runs Rewrite n old new r
  put :
      {old new : List AExpr} {r : ℕ} (p : ℕ) (e : AExpr) (t t' : Tree) →
      p < length old → Reaches old n p → Denotes old p t → Rewrite t t' → Fits old p e t' →
      Runs Rewrite n (set old p e) new r → Runs Rewrite n old new (suc r)

-- the places denote trees to which the trees us moved by r rows
pub record IsRewritten (Rewrite : Tree → Tree → Type 0) (new : List AExpr) (ns : List ℕ) (us : Trees) (r : ℕ) : Type 0 where
  pub trees : Trees
  pub denote : DenoteAll new ns trees
  pub moves : Moves Rewrite us trees r
  pub reach : AllReach Rewrite us trees
  pub bound : weights trees + r ≤ weights us

-- whatever the places denoted, they now denote trees to which these moved by r rows
abbrev pub ListRuns : (Tree → Tree → Type 0) → List ℕ → List AExpr → List AExpr → ℕ → Type 0
ListRuns Rewrite ns old new r = (us : Trees) → DenoteAll old ns us → IsRewritten Rewrite new ns us r
