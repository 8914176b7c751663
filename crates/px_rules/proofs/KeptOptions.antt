-- The options of what a rule answers and adds.
use Rattle.std.proofs.Common.{◌≡◌, ℕ, zero, suc, ◌+◌, ◌≤◌, ◌<◌, List, [], ◌∷◌, ◌++◌, length, Option, Some, None, refl, sym, ◌∙◌, ap, subst, arith, ◌⊎◌, inl, inr, length-append}
use Rattle.std.specs.List.{slice_get}
use Rattle.std.proofs.lemmas.Bool.{cases_eq}
use Rattle.std.proofs.lemmas.Option.{same_Some, slice_get_within}
use Rattle.px_expr.specs.declared.literal.LiteralValue.{LiteralValue}
use Rattle.px_functions.specs.declared.evaluated.EvaluatedBoolean.{EvaluatedBoolean}
use Rattle.px_functions.specs.declared.evaluated.EvaluatedBoolean.TheVariants as boolean
use Rattle.px_types.specs.declared.operator.Operator.{Operator}
use Rattle.px_arena.specs.declared.node.AExpr.{AExpr}
use Rattle.px_arena.specs.declared.node.AExpr.TheVariants as ir
use Rattle.px_arena.specs.declared.node.Node.{Node}
use Rattle.px_arena.specs.Denotes.{IsGrown}
use Rattle.px_arena.proofs.Replaces.{get_added, grown_by_one}
use Rattle.px_rules.specs.declared.fused.Fusion.{Fusion}
use Rattle.px_rules.specs.declared.views.BinaryParts.{BinaryParts}
use Rattle.px_rules.specs.declared.views.BooleanCall.{BooleanCall}
use Rattle.px_rules.specs.Fusion.{fused_call}
use Rattle.px_rules.specs.MadeOptions.{IsCopied, HasRightOptions, KeepsOptions}
use Rattle.px_rules.specs.Negation.{boolean_call, negated_call}
use Rattle.px_rules.specs.Views.{binary_of, boolean_of, not_of, option_not, if_not}

-- each place from `length old` on holds a node with the right options
abbrev AreRight : List AExpr → List AExpr → ℕ → Type 0
AreRight old new n = (m : ℕ) (x : AExpr) → length old ≤ m → slice_get new m ≡ Some x → HasRightOptions old n x

added_none : (items : List AExpr) (n : ℕ) → AreRight items items n
added_none items n m x le at = let lt = slice_get_within items m x at in absurd (omega arith)

last_is : (xs : List AExpr) (a x : AExpr) (m : ℕ) → length xs ≤ m → slice_get (xs ++ a ∷ []) m ≡ Some x → a ≡ x
last_is [] a x zero le at = same_Some a x at
last_is [] a x (suc m) le at = cc
last_is (y ∷ ys) a x zero le at = absurd (omega arith)
last_is (y ∷ ys) a x (suc m) le at = last_is ys a x m (omega arith) at

added_one : (old new : List AExpr) (n : ℕ) (a : AExpr) → new ≡ old ++ a ∷ [] → HasRightOptions old n a → AreRight old new n
added_one old new n a added right m x le at =
    subst (λ (z : AExpr). HasRightOptions old n z) (last_is old a x m le (subst (λ (z : List AExpr). slice_get z m ≡ Some x) added at)) right

added_two :
    (old mid new : List AExpr) (n : ℕ) (a b : AExpr) → mid ≡ old ++ a ∷ [] → new ≡ mid ++ b ∷ [] → HasRightOptions old n a → HasRightOptions old n b → AreRight old new n
added_two old mid new n a b first second right_a right_b m x le at =
    elim (cases_eq m (length old)) [
      | inl same ↦
          let at_mid : slice_get mid m ≡ Some a = rw (first, same) (get_added old a) in
          let grown : IsGrown mid new = subst (λ (z : List AExpr). IsGrown mid z) (sym second) (grown_by_one mid b) in
          let at_new : slice_get new m ≡ Some a = grown.at m a tt at_mid in
          subst (λ (z : AExpr). HasRightOptions old n z) (same_Some a x (sym at_new ∙ at)) right_a
      | inr ne ↦
          let long : length mid ≡ length (old ++ a ∷ []) = ap length first in
          let past : length mid ≤ m = omega (arith, length-append old (a ∷ [])) in
          subst (λ (z : AExpr). HasRightOptions old n z) (last_is mid b x m past (subst (λ (z : List AExpr). slice_get z m ≡ Some x) second at)) right_b
    ]

-- after a rule without an answer
pub keeps_after : (old mid new : List AExpr) (n : ℕ) (o : Option AExpr) → mid ≡ old → KeepsOptions mid new n o → KeepsOptions old new n o
keeps_after old mid new n o same h = subst (λ (z : List AExpr). KeepsOptions z new n o) same h

-- no function is made

pub keeps_literal : (items : List AExpr) (n : ℕ) (v : LiteralValue) → KeepsOptions items items n (Some (ir.Literal v))
keeps_literal items n v = (inr tt, added_none items n)

pub keeps_binary : (items : List AExpr) (n : ℕ) (l r : Node) (o : Operator) → KeepsOptions items items n (Some (ir.BinaryExpr l o r))
keeps_binary items n l r o = (inr tt, added_none items n)

-- copies

pub keeps_left : (items : List AExpr) (n : ℕ) (x e : AExpr) (p : BinaryParts) → slice_get items n ≡ Some x → binary_of x ≡ Some p → slice_get items p.left.0 ≡ Some e → KeepsOptions items items n (Some e)
keeps_left items n x e p at is at2 = (inl (p.left.0, inl (p, (x, at, is), inl refl), at2), added_none items n)

pub keeps_right : (items : List AExpr) (n : ℕ) (x e : AExpr) (p : BinaryParts) → slice_get items n ≡ Some x → binary_of x ≡ Some p → slice_get items p.right.0 ≡ Some e → KeepsOptions items items n (Some e)
keeps_right items n x e p at is at2 = (inl (p.right.0, inl (p, (x, at, is), inr refl), at2), added_none items n)

-- functions

-- what stands under two `not`s, or the other null test
pub keeps_call :
    (items : List AExpr) (n : ℕ) (x y e : AExpr) (k l : BooleanCall) → slice_get items n ≡ Some x → not_of x ≡ Some k → slice_get items k.input.0 ≡ Some y → boolean_of y ≡ Some l →
    negated_call items l.function l ≡ Some e → KeepsOptions items items n (Some e)
keeps_call items n x y e k l at is at2 is2 negated = go l.function refl negated
  where
    made : (a : AExpr) → HasRightOptions items n a → Some a ≡ Some e → KeepsOptions items items n (Some e)
    made a right h = (inr (subst (λ (z : AExpr). HasRightOptions items n z) (same_Some a e h) right), added_none items n)

    go : (f : EvaluatedBoolean) → l.function ≡ f → negated_call items f l ≡ Some e → KeepsOptions items items n (Some e)
    go boolean.Not fun h =
        let inner : not_of y ≡ Some l = ap option_not is2 ∙ ap (λ (f : EvaluatedBoolean). if_not f l) fun in
        (inl (l.input.0, inr (k, l, (x, at, is), (y, at2, inner), refl), h), added_none items n)
    go boolean.IsNull fun h = made (boolean_call boolean.IsNotNull l.input l.options) (k, l, (x, at, is), (y, at2, is2), refl) h
    go boolean.IsNotNull fun h = made (boolean_call boolean.IsNull l.input l.options) (k, l, (x, at, is), (y, at2, is2), refl) h

pub keeps_two_nots :
    (old mid new : List AExpr) (n : ℕ) (x : AExpr) (k : BooleanCall) (p : BinaryParts) (f g : Node) (o : Operator) → slice_get old n ≡ Some x → not_of x ≡ Some k →
    mid ≡ old ++ boolean_call boolean.Not p.left k.options ∷ [] → new ≡ mid ++ boolean_call boolean.Not p.right k.options ∷ [] → KeepsOptions old new n (Some (ir.BinaryExpr f o g))
keeps_two_nots old mid new n x k p f g o at is first second =
    let left : HasRightOptions old n (boolean_call boolean.Not p.left k.options) = (k, (x, at, is), refl) in
    let right : HasRightOptions old n (boolean_call boolean.Not p.right k.options) = (k, (x, at, is), refl) in
    (inr tt, added_two old mid new n (boolean_call boolean.Not p.left k.options) (boolean_call boolean.Not p.right k.options) first second left right)

pub keeps_fused : (items : List AExpr) (n : ℕ) (e : AExpr) (f : Fusion) → e ≡ fused_call f → KeepsOptions items items n (Some e)
keeps_fused items n e f made =
    let right : HasRightOptions items n (fused_call f) = refl in
    (inr (subst (λ (z : AExpr). HasRightOptions items n z) (sym made) right), added_none items n)

pub keeps_named : (old new : List AExpr) (n : ℕ) (f : Fusion) (place : Node) (label : List ℕ) → new ≡ old ++ fused_call f ∷ [] → KeepsOptions old new n (Some (ir.Alias place label))
keeps_named old new n f place label added =
    let right : HasRightOptions old n (fused_call f) = refl in
    (inr tt, added_one old new n (fused_call f) added right)
