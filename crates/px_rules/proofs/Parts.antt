-- Rewrites in a group and of a rule, and rules one after the other.
use Rattle.std.proofs.Common.{◌≡◌, ℕ, List, Option, Some, None, refl, sym, ◌∙◌, ap, subst, ◌⊎◌, inl, inr}
use Rattle.px_expr.specs.declared.context.Context.{Context}
use Rattle.px_expr.specs.Tree.{Tree}
use Rattle.px_meaning.specs.Check.{IsChecked}
use Rattle.px_meaning.specs.declared.rewrite.RewriteName.{RewriteName}
use Rattle.px_meaning.specs.Rewrites.{Rewrites}
use Rattle.px_expr.specs.Plan.{Catalog}
use Rattle.px_arena.specs.declared.node.AExpr.{AExpr}
use Rattle.px_arena.specs.Denotes.{Denotes, IsGrown}
use Rattle.px_arena.specs.Runs.{Offers}
use Rattle.px_arena.proofs.Places.{denotes_one}
use Rattle.px_arena.proofs.Runs.{grown_denotes}
use Rattle.px_rules.specs.Groups.{Group, group_of, boolean_operands, literal_negations, literal_folds, pushed_negations, fused_products, Rule, rule_of_group, expr_rule, boolean_rule, fused_rule, IsRewriteIn, IsRewriteOf}
use Rattle.px_rules.specs.Plan.{IsCheckedAt}

-- a rewrite of a group
pub record RewriteIn (g : Group) (c : Catalog) (context : Context) (t t' : Tree) : Type 0 where
  pub by : RewriteName
  pub rewrites : Rewrites c context by t t'
  pub of_group : group_of by ≡ g

pub is_rewrite_of : (g : Group) (c : Catalog) (context : Context) (t s t' : Tree) → t ≡ s → RewriteIn g c context s t' → IsChecked c t → IsRewriteIn g c context t t'
is_rewrite_of g c context t s t' e l ok =
    let m : RewriteIn g c context t t' = subst (λ (z : Tree). RewriteIn g c context z t') (sym e) l in
    record { rewrite = record { by = m.by; rewrites = m.rewrites; checked = ok }; of_group = m.of_group }

pub second_offers :
    (c : Catalog) (A B : Tree → Tree → Type 0) (old mid mid' new : List AExpr) (n : ℕ) (o : Option AExpr) →
    IsCheckedAt c old n → IsGrown old mid → Offers A old mid' n None → Offers B mid new n o → Offers (λ t t'. A t t' ⊎ B t t') old new n o
second_offers c A B old mid mid' new n None at g none other =
    λ t d t' rewrite. elim rewrite [ inl a ↦ none t d t' a | inr b ↦ other t (grown_denotes old mid n t g d) t' b ]
second_offers c A B old mid mid' new n (Some e) (u, du, ok) g none (t, t', d, rewrite, fits) =
    let same : u ≡ t = denotes_one mid n u t (grown_denotes old mid n u g du) d in
    (t, t', subst (λ (z : Tree). Denotes old n z) same du, inr rewrite, fits)

pub grown_checked : (c : Catalog) (old new : List AExpr) (n : ℕ) → IsGrown old new → IsCheckedAt c old n → IsCheckedAt c new n
grown_checked c old new n g (t, d, ok) = (t, grown_denotes old new n t g d, ok)

pub offers_as :
    (A B : Tree → Tree → Type 0) (old new : List AExpr) (n : ℕ) (o : Option AExpr) → ((t t' : Tree) → A t t' → B t t') → ((t t' : Tree) → B t t' → A t t') →
    Offers A old new n o → Offers B old new n o
offers_as A B old new n None to from h = λ t d t' rewrite. h t d t' (from t t' rewrite)
offers_as A B old new n (Some e) to from (t, t', d, rewrite, fits) = (t, t', d, to t t' rewrite, fits)

-- the rewrites of a rule are those in its groups

module _ (c : Catalog) (context : Context) where
  in_rule : (g : Group) (t t' : Tree) → IsRewriteIn g c context t t' → IsRewriteOf (rule_of_group g) c context t t'
  in_rule g t t' rewrite = record { rewrite = rewrite.rewrite; of_rule = ap rule_of_group rewrite.of_group }

  abbrev InExpr : Tree → Tree → Type 0
  InExpr t t' = IsRewriteIn pushed_negations c context t t' ⊎ IsRewriteIn literal_folds c context t t'

  abbrev InBoolean : Tree → Tree → Type 0
  InBoolean t t' = IsRewriteIn boolean_operands c context t t' ⊎ IsRewriteIn literal_negations c context t t'

  in_expr : (t t' : Tree) → IsRewriteOf expr_rule c context t t' → InExpr t t'
  in_expr t t' rewrite = go (group_of rewrite.rewrite.by) refl
    where
      go : (g : Group) → group_of rewrite.rewrite.by ≡ g → InExpr t t'
      go pushed_negations e = inl (record { rewrite = rewrite.rewrite; of_group = e })
      go literal_folds e = inr (record { rewrite = rewrite.rewrite; of_group = e })
      go boolean_operands e = let other : boolean_rule ≡ expr_rule = sym (ap rule_of_group e) ∙ rewrite.of_rule in cc
      go literal_negations e = let other : boolean_rule ≡ expr_rule = sym (ap rule_of_group e) ∙ rewrite.of_rule in cc
      go fused_products e = let other : fused_rule ≡ expr_rule = sym (ap rule_of_group e) ∙ rewrite.of_rule in cc

  in_boolean : (t t' : Tree) → IsRewriteOf boolean_rule c context t t' → InBoolean t t'
  in_boolean t t' rewrite = go (group_of rewrite.rewrite.by) refl
    where
      go : (g : Group) → group_of rewrite.rewrite.by ≡ g → InBoolean t t'
      go boolean_operands e = inl (record { rewrite = rewrite.rewrite; of_group = e })
      go literal_negations e = inr (record { rewrite = rewrite.rewrite; of_group = e })
      go pushed_negations e = let other : expr_rule ≡ boolean_rule = sym (ap rule_of_group e) ∙ rewrite.of_rule in cc
      go literal_folds e = let other : expr_rule ≡ boolean_rule = sym (ap rule_of_group e) ∙ rewrite.of_rule in cc
      go fused_products e = let other : fused_rule ≡ boolean_rule = sym (ap rule_of_group e) ∙ rewrite.of_rule in cc

  in_fused : (t t' : Tree) → IsRewriteOf fused_rule c context t t' → IsRewriteIn fused_products c context t t'
  in_fused t t' rewrite = go (group_of rewrite.rewrite.by) refl
    where
      go : (g : Group) → group_of rewrite.rewrite.by ≡ g → IsRewriteIn fused_products c context t t'
      go fused_products e = record { rewrite = rewrite.rewrite; of_group = e }
      go pushed_negations e = let other : expr_rule ≡ fused_rule = sym (ap rule_of_group e) ∙ rewrite.of_rule in cc
      go literal_folds e = let other : expr_rule ≡ fused_rule = sym (ap rule_of_group e) ∙ rewrite.of_rule in cc
      go boolean_operands e = let other : boolean_rule ≡ fused_rule = sym (ap rule_of_group e) ∙ rewrite.of_rule in cc
      go literal_negations e = let other : boolean_rule ≡ fused_rule = sym (ap rule_of_group e) ∙ rewrite.of_rule in cc

  -- the first group of a rule answers
  pub group_offers : (g : Group) (old new : List AExpr) (n : ℕ) (e : AExpr) → Offers (IsRewriteIn g c context) old new n (Some e) → Offers (IsRewriteOf (rule_of_group g) c context) old new n (Some e)
  group_offers g old new n e (t, t', d, rewrite, fits) = (t, t', d, in_rule g t t' rewrite, fits)

  pub fused_offers : (old new : List AExpr) (n : ℕ) (o : Option AExpr) → Offers (IsRewriteIn fused_products c context) old new n o → Offers (IsRewriteOf fused_rule c context) old new n o
  fused_offers old new n o h = offers_as (IsRewriteIn fused_products c context) (IsRewriteOf fused_rule c context) old new n o (in_rule fused_products) in_fused h

  -- the second group of a rule answers after the first one gave none
  pub expr_offers :
      (old mid new : List AExpr) (n : ℕ) (o : Option AExpr) → IsCheckedAt c old n → IsGrown old mid → Offers (IsRewriteIn pushed_negations c context) old mid n None →
      Offers (IsRewriteIn literal_folds c context) mid new n o → Offers (IsRewriteOf expr_rule c context) old new n o
  expr_offers old mid new n o ok g none other =
      offers_as InExpr (IsRewriteOf expr_rule c context) old new n o
      (λ t t' rewrite. elim rewrite [ inl a ↦ in_rule pushed_negations t t' a | inr b ↦ in_rule literal_folds t t' b ])
      in_expr
      (second_offers c (IsRewriteIn pushed_negations c context) (IsRewriteIn literal_folds c context) old mid mid new n o ok g none other)

  pub boolean_offers :
      (items : List AExpr) (n : ℕ) (o : Option AExpr) → IsCheckedAt c items n → Offers (IsRewriteIn boolean_operands c context) items items n None →
      Offers (IsRewriteIn literal_negations c context) items items n o → Offers (IsRewriteOf boolean_rule c context) items items n o
  boolean_offers items n o ok none other =
      offers_as InBoolean (IsRewriteOf boolean_rule c context) items items n o
      (λ t t' rewrite. elim rewrite [ inl a ↦ in_rule boolean_operands t t' a | inr b ↦ in_rule literal_negations t t' b ])
      in_boolean
      (second_offers c (IsRewriteIn boolean_operands c context) (IsRewriteIn literal_negations c context) items items items items n o ok (record { at = λ p x u h. h }) none other)
