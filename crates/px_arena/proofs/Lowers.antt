-- One more node over inputs that stand for expressions.
use Rattle.std.proofs.Common.{◌≡◌, ℕ, zero, suc, ◌+◌, ◌<◌, ◌≤◌, List, [], ◌∷◌, ◌++◌, length, get_or, take, map, Result, Ok, Err, Some, refl, sym, subst, add-one, arith}
use Rattle.std.specs.List.{slice_get}
use Rattle.std.specs.Result.{IfOk}
use Rattle.px_base.specs.declared.error.PlanError.{PlanError}
use denote.Param.Weighed.{most, at_most}
use Rattle.px_expr.specs.declared.expr.Expr.{Expr, size-Expr}
use Rattle.px_expr.specs.Tree.{trees, tree_of}
use Rattle.px_arena.specs.declared.node.AExpr.{AExpr}
use Rattle.px_arena.specs.declared.node.ExprIR.{ExprIR}
use Rattle.px_arena.specs.declared.node.Node.{Node}
use Rattle.px_arena.specs.Denotes.{IsIn, first, later, IsGrown, expr_places}
use Rattle.px_meaning.specs.Lowerable.{IsLowerable, AreLowerable}
use Rattle.px_arena.specs.Lowered.{StandsFor, AllStandFor}
use Rattle.px_arena.proofs.Measure.{denoted_within}
use Rattle.px_arena.proofs.Stands.{all_stand_grown}

-- the places of expressions are in the arena
pub all_within : (items : List AExpr) (ns : List ℕ) (es : List Expr) → AllStandFor items ns es → (m : ℕ) → IsIn m ns → m < length items
all_within items [] [] all m i = elim i [ ]
all_within items [] (e ∷ es) all m i = absurd all
all_within items (n ∷ ns) [] all m i = absurd all
all_within items (n ∷ ns) (e ∷ es) (one, all) _ first = denoted_within items n (tree_of e) one.0
all_within items (n ∷ ns) (e ∷ es) (one, all) m (later i) = all_within items ns es all m i

-- the added node stands for its expression
pub added_stands :
    (mid new : List AExpr) (r : Result Node PlanError) (x : AExpr) (e w : Expr) (ns : List ℕ) (es : List Expr) → e ≡ w → IsGrown mid new →
    IfOk r (λ (n : Node). slice_get new n.0 ≡ Some x) → AllStandFor mid ns es →
    ((n : ℕ) → slice_get new n ≡ Some x → AllStandFor new ns es → StandsFor new n e) → IfOk r (λ (n : Node). StandsFor new n.0 w)
added_stands mid new (Ok n) x e w ns es same g at all build =
    subst (λ (z : Expr). StandsFor new n.0 z) same (build n.0 at (all_stand_grown mid new ns es g all))
added_stands mid new (Err f) x e w ns es same g at all build = tt

-- the expression at an index of a list
pub lowerable_at : (es : List Expr) (i : ℕ) (d : Expr) → i < length es → AreLowerable (trees (map tree_of es)) → IsLowerable (tree_of (get_or es i d))
lowerable_at [] i d h all = absurd (omega arith)
lowerable_at (e ∷ es) zero d h (one, all) = one
lowerable_at (e ∷ es) (suc i) d h (one, all) = lowerable_at es i d (omega arith) all

one_more :
    (items : List AExpr) (ps : List ExprIR) (p : ExprIR) (es : List Expr) (i : ℕ) (d : Expr) → i < length es →
    AllStandFor items (expr_places ps) (take i es) → StandsFor items p.0.0 (get_or es i d) →
    AllStandFor items (expr_places (ps ++ p ∷ [])) (take (suc i) es)
one_more items ps p [] i d h all one = absurd (omega arith)
one_more items [] p (e ∷ es) zero d h all one = (one, tt)
one_more items (q ∷ ps) p (e ∷ es) zero d h all one = absurd all
one_more items [] p (e ∷ es) (suc i) d h all one = absurd all
one_more items (q ∷ ps) p (e ∷ es) (suc i) d h (f, all) one = (f, one_more items ps p es i d (omega arith) all one)

-- one more expression of a list has its place
pub listed_more :
    (old mid : List AExpr) (ps qs : List ExprIR) (p : ExprIR) (es : List Expr) (i : ℕ) (e d : Expr) → i < length es → e ≡ get_or es i d →
    IsGrown old mid → AllStandFor old (expr_places ps) (take i es) → StandsFor mid p.0.0 e → qs ≡ ps ++ p ∷ [] →
    AllStandFor mid (expr_places qs) (take (i + 1) es)
listed_more old mid ps qs p es i e d h is g all one pushed =
    let at : StandsFor mid p.0.0 (get_or es i d) = subst (λ (z : Expr). StandsFor mid p.0.0 z) is one in
    let grown = all_stand_grown old mid (expr_places ps) (take i es) g all in
    let whole = one_more mid ps p es i d h grown at in
    let listed = subst (λ (z : List ExprIR). AllStandFor mid (expr_places z) (take (suc i) es)) (sym pushed) whole in
    subst (λ (k : ℕ). AllStandFor mid (expr_places qs) (take k es)) (sym (add-one i)) listed

take_all : {A : Type 0} (xs : List A) (i : ℕ) → length xs ≤ i → take i xs ≡ xs
take_all [] zero h = refl
take_all [] (suc i) h = refl
take_all (x ∷ xs) zero h = absurd (omega arith)
take_all (x ∷ xs) (suc i) h = let e = take_all xs i (omega arith) in cc

pub listed_all :
    (items : List AExpr) (ns : List ℕ) (es : List Expr) (i : ℕ) → length es ≤ i → AllStandFor items ns (take i es) → AllStandFor items ns es
listed_all items ns es i h all = subst (λ (z : List Expr). AllStandFor items ns z) (take_all es i h) all

pub grown_more : (old mid new : List AExpr) → IsGrown old mid → IsGrown mid new → IsGrown old new
grown_more old mid new g h = record { at = λ p x u at. h.at p x tt (g.at p x tt at) }

pub lowerable_item :
    (es fs : List Expr) (i : ℕ) (e : Expr) → es ≡ fs → e ≡ get_or es i e → i < length es → AreLowerable (trees (map tree_of fs)) → IsLowerable (tree_of e)
lowerable_item es fs i e same is h all =
    let all' = subst (λ (z : List Expr). AreLowerable (trees (map tree_of z))) (sym same) all in
    subst (λ (z : Expr). IsLowerable (tree_of z)) (sym is) (lowerable_at es i e h all')

-- an expression of a list is no deeper than the deepest
pub item_size : (es fs : List Expr) (i : ℕ) (e : Expr) → es ≡ fs → e ≡ get_or es i e → i < length es → size-Expr e ≤ most size-Expr fs
item_size es fs i e same is h =
    let a : size-Expr (get_or es i e) ≤ most size-Expr es = at_most size-Expr es i e h in
    let b = subst (λ (z : Expr). size-Expr z ≤ most size-Expr es) (sym is) a in
    subst (λ (z : List Expr). size-Expr e ≤ most size-Expr z) same b
