-- Places that denote checked trees, and trees that mean the same.
use Rattle.std.specs.Prelude.{◌≡◌, ℕ, List, map}
use Rattle.px_base.specs.declared.error.PlanError.{PlanError}
use Rattle.px_types.specs.declared.value_type.ValueType.{ValueType}
use Rattle.px_semantics.specs.Rows.{Contents}
use Rattle.px_expr.specs.declared.context.Context.{Context}
use Rattle.px_expr.specs.declared.context.Context.TheVariants.{Select}
use Rattle.px_expr.specs.Tree.{Tree, Trees, none, more}
use Rattle.px_expr.specs.Plan.{Catalog}
use Rattle.px_meaning.specs.Check.{HasType, IsChecked}
use Rattle.px_meaning.specs.Faults.{HasFault}
use Rattle.px_meaning.specs.Mean.{rows}
use Rattle.px_meaning.specs.Names.{name}
use Rattle.px_meaning.specs.Rewriting.{Pairwise}
use Rattle.px_meaning.specs.Schema.{Fits}
use Rattle.px_arena.specs.declared.node.AExpr.{AExpr}
use Rattle.px_arena.specs.declared.node.Node.{Node}
use Rattle.px_arena.specs.Denotes.{Denotes, DenoteAll}

abbrev pub AreChecked : Catalog → Trees → Type 0
AreChecked c none = Unit {0}
AreChecked c (more u us) = IsChecked c u × AreChecked c us

-- the place denotes a checked tree
abbrev pub IsCheckedAt : Catalog → List AExpr → ℕ → Type 0
IsCheckedAt c items n = (t : Tree) × Denotes items n t × IsChecked c t

-- the places denote checked trees
abbrev pub AreCheckedAt : Catalog → List AExpr → List ℕ → Type 0
AreCheckedAt c items ns = (us : Trees) × DenoteAll items ns us × AreChecked c us

-- the places of nodes
abbrev pub places : List Node → List ℕ
places ns = map (λ (n : Node). n.0) ns

-- the second tree has the type of the first, on every fitting frame the same rows and no other faults, and in a
-- select the same name
pub record MeansTheSame (c : Catalog) (context : Context) (t u : Tree) : Type 0 where
  pub value_type : (k : ValueType) → HasType c t k → HasType c u k
  pub rows : (frame : List Contents) → Fits frame c.schema → rows c.kernels frame t ≡ rows c.kernels frame u
  pub name : context ≡ Select → name t ≡ name u
  pub faults : (frame : List Contents) → Fits frame c.schema → (f : PlanError) → HasFault c.kernels frame u f → HasFault c.kernels frame t f

-- the places denote trees that mean, in their order, the same as those that they denoted before
abbrev pub KeepMeanings : Catalog → Context → List ℕ → List AExpr → List AExpr → Type 0
KeepMeanings c context ns old new = (us vs : Trees) → DenoteAll old ns us → DenoteAll new ns vs → Pairwise (MeansTheSame c context) us vs
