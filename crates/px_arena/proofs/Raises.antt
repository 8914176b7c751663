-- The inputs of a place that denotes a tree, and the expressions that are made of them.
use Rattle.std.proofs.Common.{◌≡◌, ℕ, zero, suc, ◌+◌, ◌<◌, List, [], ◌∷◌, ◌++◌, length, get_or, take, Result, Ok, Err, Some, refl, sym, ◌∙◌, subst, add-one, arith}
use Rattle.std.specs.List.{slice_get}
use Rattle.std.specs.Result.{IfOk}
use Rattle.std.proofs.lemmas.Option.{same_Some}
use Rattle.px_base.specs.declared.error.PlanError.{PlanError}
use Rattle.px_expr.specs.declared.expr.Expr.{Expr}
use Rattle.px_expr.specs.declared.expr.Expr.TheVariants as expr
use Rattle.px_expr.specs.Tree.{Tree, tree, Trees, none, more, tree_of}
use Rattle.px_meaning.specs.Weight.{weight, weights}
use Rattle.px_arena.specs.declared.node.AExpr.{AExpr}
use Rattle.px_arena.specs.declared.node.AExpr.TheVariants as ir
use Rattle.px_arena.specs.declared.node.ExprIR.{ExprIR}
use Rattle.px_arena.specs.declared.node.IRAggExpr.{IRAggExpr}
use Rattle.px_arena.specs.declared.node.IRAggExpr.TheVariants as ir_agg
use Rattle.px_arena.specs.Denotes.{inputs_of, agg_inputs, expr_places, Denotes, DenoteAll, IsIn, first}
use Rattle.px_arena.specs.Lowered.{StandsFor, AllStandFor, agg_expr}
use Rattle.px_arena.proofs.Weights.{weigh, weigh_above, weights-more}
use Rattle.px_arena.proofs.Places.{denotes_one, input_denotes}
use Rattle.px_arena.proofs.Measure.{weight_at, weight_at_is, sum_of}
use Rattle.px_arena.proofs.Stands.{stands-Min, stands-Max, stands-First, stands-Last, stands-Sum, stands-Count}

pub sums_are : (items : List AExpr) (ns : List ℕ) (us : Trees) → DenoteAll items ns us → sum_of (λ n. weight_at items n) ns ≡ weights us
sums_are items [] none ds = refl
sums_are items [] (more u us) ds = absurd ds
sums_are items (n ∷ ns) none ds = absurd ds
sums_are items (n ∷ ns) (more u us) (d, ds) =
    let a : weight_at items n ≡ weight u = weight_at_is items n u d in
    let b : sum_of (λ n. weight_at items n) ns ≡ weights us = sums_are items ns us ds in
    omega (arith, weights-more u us)

-- the inputs of a place denote trees, which together weigh less than the place's
pub record HasInputs (items : List AExpr) (n : ℕ) (x : AExpr) : Type 0 where
  pub trees : Trees
  pub denote : DenoteAll items (inputs_of x) trees
  pub lighter : sum_of (λ n. weight_at items n) (inputs_of x) < weight_at items n

pub has_inputs : (items : List AExpr) (n : ℕ) (x : AExpr) (t : Tree) → Denotes items n t → slice_get items n ≡ Some x → HasInputs items n x
has_inputs items n x (tree k us) (y, at', root, ins) at =
    let e : y ≡ x = same_Some y x (sym at' ∙ at) in
    let ins2 : DenoteAll items (inputs_of x) us = subst (λ (z : AExpr). DenoteAll items (inputs_of z) us) e ins in
    let a : weight_at items n ≡ weigh k (weights us) = weight_at_is items n (tree k us) (y, at', root, ins) in
    let b : weights us < weigh k (weights us) = weigh_above k (weights us) in
    let s : sum_of (λ n. weight_at items n) (inputs_of x) ≡ weights us = sums_are items (inputs_of x) us ins2 in
    record { trees = us; denote = ins2; lighter = omega arith }

pub record HasInput (items : List AExpr) (n m : ℕ) : Type 0 where
  pub denoted : (t : Tree) × Denotes items m t
  pub lighter : weight_at items m < weight_at items n

pub has_input : (items : List AExpr) (n m : ℕ) (x : AExpr) (t : Tree) → Denotes items n t → slice_get items n ≡ Some x → IsIn m (inputs_of x) → HasInput items n m
has_input items n m x t d at i =
    let all = has_inputs items n x t d at in
    let (u, du, le) = input_denotes items (inputs_of x) all.trees m all.denote i in
    let a : weight_at items m ≡ weight u = weight_at_is items m u du in
    let s : sum_of (λ n. weight_at items n) (inputs_of x) ≡ weights all.trees = sums_are items (inputs_of x) all.trees all.denote in
    let b : sum_of (λ n. weight_at items n) (inputs_of x) < weight_at items n = all.lighter in
    record { denoted = (u, du); lighter = omega arith }

-- the input of an aggregate
pub agg_is_in : (a : IRAggExpr) (m : ℕ) → slice_get (agg_inputs a) 0 ≡ Some m → IsIn m (agg_inputs a)
agg_is_in (ir_agg.Min n) m e = subst (λ (z : ℕ). IsIn z (n.0 ∷ [])) (same_Some n.0 m e) first
agg_is_in (ir_agg.Max n) m e = subst (λ (z : ℕ). IsIn z (n.0 ∷ [])) (same_Some n.0 m e) first
agg_is_in (ir_agg.First n) m e = subst (λ (z : ℕ). IsIn z (n.0 ∷ [])) (same_Some n.0 m e) first
agg_is_in (ir_agg.Last n) m e = subst (λ (z : ℕ). IsIn z (n.0 ∷ [])) (same_Some n.0 m e) first
agg_is_in (ir_agg.Sum n) m e = subst (λ (z : ℕ). IsIn z (n.0 ∷ [])) (same_Some n.0 m e) first
agg_is_in (ir_agg.Count n c) m e = subst (λ (z : ℕ). IsIn z (n.0 ∷ [])) (same_Some n.0 m e) first

pub stands-Agg :
    (items : List AExpr) (n m : ℕ) (a : IRAggExpr) (e : Expr) → slice_get items n ≡ Some (ir.Agg a) → slice_get (agg_inputs a) 0 ≡ Some m →
    StandsFor items m e → StandsFor items n (expr.Agg (agg_expr a e))
stands-Agg items n m (ir_agg.Min p) e at is one = stands-Min items n p e at (subst (λ (z : ℕ). StandsFor items z e) (sym (same_Some p.0 m is)) one, tt)
stands-Agg items n m (ir_agg.Max p) e at is one = stands-Max items n p e at (subst (λ (z : ℕ). StandsFor items z e) (sym (same_Some p.0 m is)) one, tt)
stands-Agg items n m (ir_agg.First p) e at is one = stands-First items n p e at (subst (λ (z : ℕ). StandsFor items z e) (sym (same_Some p.0 m is)) one, tt)
stands-Agg items n m (ir_agg.Last p) e at is one = stands-Last items n p e at (subst (λ (z : ℕ). StandsFor items z e) (sym (same_Some p.0 m is)) one, tt)
stands-Agg items n m (ir_agg.Sum p) e at is one = stands-Sum items n p e at (subst (λ (z : ℕ). StandsFor items z e) (sym (same_Some p.0 m is)) one, tt)
stands-Agg items n m (ir_agg.Count p c) e at is one = stands-Count items n p e c at (subst (λ (z : ℕ). StandsFor items z e) (sym (same_Some p.0 m is)) one, tt)

-- the place at an index of a list
pub record HasPlace (items : List AExpr) (ps : List ExprIR) (p : ExprIR) : Type 0 where
  pub denoted : (t : Tree) × Denotes items p.0.0 t
  pub no_heavier : weight_at items p.0.0 < sum_of (λ n. weight_at items n) (expr_places ps) + 1

has_place_at : (items : List AExpr) (ps : List ExprIR) (us : Trees) (i : ℕ) (d : ExprIR) → i < length ps → DenoteAll items (expr_places ps) us → HasPlace items ps (get_or ps i d)
has_place_at items [] us i d h ds = absurd (omega arith)
has_place_at items (p ∷ ps) none i d h ds = absurd ds
has_place_at items (p ∷ ps) (more u us) zero d h (one, ds) = record { denoted = (u, one); no_heavier = omega arith }
has_place_at items (p ∷ ps) (more u us) (suc i) d h (one, ds) =
    let rest = has_place_at items ps us i d (omega arith) ds in
    let le : weight_at items (get_or ps i d).0.0 < sum_of (λ n. weight_at items n) (expr_places ps) + 1 = rest.no_heavier in
    record { denoted = rest.denoted; no_heavier = omega arith }

pub has_place :
    (items : List AExpr) (qs ps : List ExprIR) (us : Trees) (i : ℕ) (d : ExprIR) → qs ≡ ps → i < length qs →
    DenoteAll items (expr_places ps) us → HasPlace items ps (get_or qs i d)
has_place items qs ps us i d same h ds =
    let h' : i < length ps = subst (λ (z : List ExprIR). i < length z) same h in
    subst (λ (z : List ExprIR). HasPlace items ps (get_or z i d)) (sym same) (has_place_at items ps us i d h' ds)

raised_one :
    (items : List AExpr) (ps : List ExprIR) (es : List Expr) (i : ℕ) (d : ExprIR) (e : Expr) → i < length ps →
    AllStandFor items (expr_places (take i ps)) es → StandsFor items (get_or ps i d).0.0 e → AllStandFor items (expr_places (take (suc i) ps)) (es ++ e ∷ [])
raised_one items [] es i d e h all one = absurd (omega arith)
raised_one items (p ∷ ps) [] zero d e h all one = (one, tt)
raised_one items (p ∷ ps) (f ∷ es) zero d e h all one = absurd all
raised_one items (p ∷ ps) [] (suc i) d e h all one = absurd all
raised_one items (p ∷ ps) (f ∷ es) (suc i) d e h (a, all) one = (a, raised_one items ps es i d e (omega arith) all one)

-- one more place of a list is raised
pub raised_more :
    (items : List AExpr) (ps : List ExprIR) (es new : List Expr) (i : ℕ) (d : ExprIR) (e : Expr) → i < length ps →
    AllStandFor items (expr_places (take i ps)) es → StandsFor items (get_or ps i d).0.0 e → new ≡ es ++ e ∷ [] → AllStandFor items (expr_places (take (i + 1) ps)) new
raised_more items ps es new i d e h all one pushed =
    let whole = raised_one items ps es i d e h all one in
    let listed = subst (λ (z : List Expr). AllStandFor items (expr_places (take (suc i) ps)) z) (sym pushed) whole in
    subst (λ (k : ℕ). AllStandFor items (expr_places (take k ps)) new) (sym (add-one i)) listed

-- what stands for an expression denotes its tree alone
pub raised_tree : (items : List AExpr) (n : ℕ) (r : Result Expr PlanError) → IfOk r (λ (e : Expr). StandsFor items n e) → IfOk r (λ (e : Expr). (t : Tree) → Denotes items n t → tree_of e ≡ t)
raised_tree items n (Ok e) s = λ t d. denotes_one items n (tree_of e) t s.0 d
raised_tree items n (Err f) s = tt
