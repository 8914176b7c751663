-- How a value falls apart as an expression is read.
use Rattle.std.proofs.Common.{◌≡◌, ◌≢◌, ℕ, zero, suc, ◌<◌, ◌≤◌, ◌+◌, List, [], ◌∷◌, ◌++◌, drop, length, get_or, Option, Some, None, option_map, refl, sym, ap, ◌∙◌, append_assoc, drop-cons, add-one, arith}
use Rattle.serde_json.specs.Data.{depth, items_depth}
use Rattle.serde_json.specs.View.{view, items_view}
use Rattle.serde_json.specs.declared.value.Value.{Value}
use Rattle.px_expr.specs.declared.expr.Expr.{Expr}
use Rattle.px_forms.specs.Form.{expr_of, exprs_of, parts_of, aliased, binary, cast, ternary}

depth_within : (vs : List Value) (i : ℕ) (v : Value) → i < length vs → depth (view (get_or vs i v)) ≤ items_depth (items_view vs)
depth_within [] i v h = absurd (omega arith)
depth_within (w ∷ vs) zero v h = omega arith
depth_within (w ∷ vs) (suc i) v h = omega (arith, depth_within vs i v (omega arith))

-- an item lies no deeper than its list
pub depth_of_item : (vs : List Value) (i : ℕ) (v : Value) → i < length vs → v ≡ get_or vs i v → depth (view v) ≤ items_depth (items_view vs)
depth_of_item vs i v h is = omega (arith, depth_within vs i v h, ap (λ (w : Value). depth (view w)) is)

pub aliased-not_two : (vs : List Value) → length vs ≢ 2 → None ≡ aliased (parts_of (items_view vs))
aliased-not_two [] h = refl
aliased-not_two (a ∷ []) h = refl
aliased-not_two (a ∷ b ∷ []) h = absurd (h refl)
aliased-not_two (a ∷ b ∷ c ∷ vs) h = refl

pub binary-not_three : (vs : List Value) → length vs ≢ 3 → None ≡ binary (parts_of (items_view vs))
binary-not_three [] h = refl
binary-not_three (a ∷ []) h = refl
binary-not_three (a ∷ b ∷ []) h = refl
binary-not_three (a ∷ b ∷ c ∷ []) h = absurd (h refl)
binary-not_three (a ∷ b ∷ c ∷ d ∷ vs) h = refl

pub cast-not_three : (vs : List Value) → length vs ≢ 3 → None ≡ cast (parts_of (items_view vs))
cast-not_three [] h = refl
cast-not_three (a ∷ []) h = refl
cast-not_three (a ∷ b ∷ []) h = refl
cast-not_three (a ∷ b ∷ c ∷ []) h = absurd (h refl)
cast-not_three (a ∷ b ∷ c ∷ d ∷ vs) h = refl

pub ternary-not_three : (vs : List Value) → length vs ≢ 3 → None ≡ ternary (parts_of (items_view vs))
ternary-not_three [] h = refl
ternary-not_three (a ∷ []) h = refl
ternary-not_three (a ∷ b ∷ []) h = refl
ternary-not_three (a ∷ b ∷ c ∷ []) h = absurd (h refl)
ternary-not_three (a ∷ b ∷ c ∷ d ∷ vs) h = refl

-- a list that is left after none
pub after_none : {A : Type 0} (o : Option (List A)) → option_map (λ us. [] ++ us) o ≡ o
after_none None = refl
after_none (Some us) = refl

-- at first none is read, and all are left
pub none_read : (vs : List Value) (es : List Expr) → es ≡ [] → exprs_of (items_view vs) ≡ option_map (λ fs. es ++ fs) (exprs_of (items_view (drop 0 vs)))
none_read vs es is = rw is (sym (after_none (exprs_of (items_view vs))))

-- one more before a list that is left
pub one_more : {A : Type 0} (ts : List A) (t : A) (o : Option (List A)) → option_map (λ us. ts ++ us) (option_map (λ us. t ∷ us) o) ≡ option_map (λ us. (ts ++ t ∷ []) ++ us) o
one_more ts t None = refl
one_more ts t (Some us) = ap Some (sym (append_assoc ts (t ∷ []) us))

exprs_from : (vs : List Value) (i : ℕ) (v : Value) (es : List Expr) (e : Expr) → i < length vs → Some e ≡ expr_of (view (get_or vs i v))
    → option_map (λ fs. es ++ fs) (exprs_of (items_view (drop i vs))) ≡ option_map (λ fs. (es ++ e ∷ []) ++ fs) (exprs_of (items_view (drop (i + 1) vs)))
exprs_from vs i v es e h is = rw (add-one, drop-cons vs i v, ← is) (one_more es e _)

-- one more expression is read, and those from the next on are left
pub exprs_step : (vs : List Value) (i : ℕ) (v : Value) (es : List Expr) (e : Expr) (new : List Expr) → i < length vs → v ≡ get_or vs i v → Some e ≡ expr_of (view v) → new ≡ es ++ e ∷ []
    → exprs_of (items_view vs) ≡ option_map (λ fs. es ++ fs) (exprs_of (items_view (drop i vs)))
    → exprs_of (items_view vs) ≡ option_map (λ fs. new ++ fs) (exprs_of (items_view (drop (i + 1) vs)))
exprs_step vs i v es e new h is reads pushed so_far =
    let at : Some e ≡ expr_of (view (get_or vs i v)) = reads ∙ ap (λ (w : Value). expr_of (view w)) is in
    rw pushed (so_far ∙ exprs_from vs i v es e h at)
