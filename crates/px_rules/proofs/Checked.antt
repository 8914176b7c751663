-- The inputs of checked trees are checked, and so is what checked trees reach, which means the same.
use Rattle.std.proofs.Common.{ℕ, ◌≤◌, List, [], ◌∷◌, arith}
use Rattle.px_types.specs.declared.value_type.ValueType.{ValueType}
use Rattle.px_expr.specs.declared.context.Context.{Context}
use Rattle.px_expr.specs.Tree.{Node as Root, Tree, tree, Trees, none, more}
use Rattle.px_meaning.specs.Check.{IsChecked}
use Rattle.px_meaning.specs.Laws.{KeepsMeaning}
use Rattle.px_meaning.specs.Rewriting.{Reaches as LeadsTo, Pairwise, AllReach}
use Rattle.px_expr.specs.Plan.{Catalog}
use Rattle.px_meaning.specs.Weight.{weight, weights}
use Rattle.px_meaning.proofs.Steps.{Reaches-keeps}
use Rattle.px_meaning.proofs.Typing.{Has, HaveAll, has, have_none, have_more, Has-HasType, HasType-Has}
use Rattle.px_arena.specs.declared.node.AExpr.{AExpr}
use Rattle.px_arena.specs.Denotes.{Denotes, DenoteAll, IsIn, first, later}
use Rattle.px_arena.proofs.Weights.{weights-more}
use Rattle.px_rules.specs.Plan.{AreChecked, MeansTheSame}

all_checked : (c : Catalog) (us : Trees) (ks : List ValueType) → HaveAll c us ks → AreChecked c us
all_checked c _ _ have_none = tt
all_checked c _ _ (have_more {u} {us} {k} {ks} h all) = ((k, Has-HasType c u k h), all_checked c us ks all)

-- the inputs of a checked tree are checked
pub inputs_checked : (c : Catalog) (n : Root) (us : Trees) → IsChecked c (tree n us) → AreChecked c us
inputs_checked c n us (k, h) = go (HasType-Has c (tree n us) k h)
  where
    go : Has c (tree n us) k → AreChecked c us
    go (has {ks} free all signed) = all_checked c us ks all

pub input_checked :
    (c : Catalog) (items : List AExpr) (ns : List ℕ) (us : Trees) (m : ℕ) →
    DenoteAll items ns us → AreChecked c us → IsIn m ns → (u : Tree) × Denotes items m u × IsChecked c u × (weight u ≤ weights us)
input_checked c items [] us m ds cs i = elim i [ ]
input_checked c items (n ∷ ns) none m ds cs i = absurd ds
input_checked c items (n ∷ ns) (more u us) _ (d, ds) (ok, cs) first = (u, d, ok, omega (arith, weights-more u us))
input_checked c items (n ∷ ns) (more u us) m (d, ds) (ok, cs) (later i) =
    let (v, e, fine, le) = input_checked c items ns us m ds cs i in
    (v, e, fine, omega (arith, weights-more u us))

module _ (c : Catalog) (context : Context) (Rewrite : Tree → Tree → Type 0) (keeps : KeepsMeaning c context Rewrite) where
  pub leads_checked : (t u : Tree) → LeadsTo Rewrite t u → IsChecked c t → IsChecked c u
  leads_checked t u lead (k, h) = (k, (Reaches-keeps c context Rewrite keeps t u lead).value_type k h)

  pub all_reach_checked : (us vs : Trees) → AllReach Rewrite us vs → AreChecked c us → AreChecked c vs
  all_reach_checked none none a cs = tt
  all_reach_checked none (more v vs) a cs = absurd a
  all_reach_checked (more u us) none a cs = absurd a
  all_reach_checked (more u us) (more v vs) (a, as') (ok, cs) = (leads_checked u v a ok, all_reach_checked us vs as' cs)

  pub reached_means : (t u : Tree) → LeadsTo Rewrite t u → MeansTheSame c context t u
  reached_means t u lead =
      let kept = Reaches-keeps c context Rewrite keeps t u lead in
      record { value_type = kept.value_type; rows = kept.rows; name = kept.name; faults = kept.faults }

  pub all_reached_mean : (us vs : Trees) → AllReach Rewrite us vs → Pairwise (MeansTheSame c context) us vs
  all_reached_mean none none a = tt
  all_reached_mean none (more v vs) a = absurd a
  all_reached_mean (more u us) none a = absurd a
  all_reached_mean (more u us) (more v vs) (a, as') = (reached_means u v a, all_reached_mean us vs as')
