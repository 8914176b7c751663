-- The three rules make all rewrites.
use Rattle.std.proofs.Common.{◌≡◌, ℕ, List, Option, Some, None, Result, Ok, Err, refl, ◌⊎◌, inl, inr}
use Rattle.std.specs.Result.{IfOk}
use Rattle.px_base.specs.declared.error.PlanError.{PlanError}
use Rattle.px_expr.specs.declared.context.Context.{Context}
use Rattle.px_expr.specs.Tree.{Tree}
use Rattle.px_meaning.specs.Rewrites.{IsRewrite}
use Rattle.px_expr.specs.Plan.{Catalog}
use Rattle.px_arena.specs.declared.node.AExpr.{AExpr}
use Rattle.px_arena.specs.Denotes.{IsGrown}
use Rattle.px_arena.specs.Runs.{Offers}
use Rattle.px_rules.specs.Groups.{Rule, expr_rule, boolean_rule, fused_rule, rule_of, IsRewriteOf}
use Rattle.px_rules.specs.Plan.{IsCheckedAt}
use Rattle.px_rules.proofs.Parts.{second_offers, grown_checked}

module _ (c : Catalog) (context : Context) where
  abbrev AnyRewrite : Tree → Tree → Type 0
  AnyRewrite t t' = IsRewriteOf expr_rule c context t t' ⊎ (IsRewriteOf boolean_rule c context t t' ⊎ IsRewriteOf fused_rule c context t t')

  -- each rewrite is one of a rule
  parted : (t t' : Tree) → IsRewrite c context t t' → AnyRewrite t t'
  parted t t' rewrite = go (rule_of rewrite.by) refl
    where
      go : (r : Rule) → rule_of rewrite.by ≡ r → AnyRewrite t t'
      go expr_rule e = inl (record { rewrite = rewrite; of_rule = e })
      go boolean_rule e = inr (inl (record { rewrite = rewrite; of_rule = e }))
      go fused_rule e = inr (inr (record { rewrite = rewrite; of_rule = e }))

  broadcast_length : (t t' : Tree) → AnyRewrite t t' → IsRewrite c context t t'
  broadcast_length t t' rewrite = elim rewrite [ inl a ↦ a.rewrite | inr b ↦ elim b [ inl d ↦ d.rewrite | inr f ↦ f.rewrite ] ]

  moved : (old new : List AExpr) (n : ℕ) (o : Option AExpr) → Offers AnyRewrite old new n o → Offers (IsRewrite c context) old new n o
  moved old new n None h = λ t d t' rewrite. h t d t' (parted t t' rewrite)
  moved old new n (Some e) (t, t', d, rewrite, fits) = (t, t', d, broadcast_length t t' rewrite, fits)

  pub offers_second :
      (old mid new : List AExpr) (n : ℕ) (e : AExpr) → IsCheckedAt c old n → IsGrown old mid → Offers (IsRewriteOf expr_rule c context) old mid n None →
      Offers (IsRewriteOf boolean_rule c context) mid new n (Some e) → Offers (IsRewrite c context) old new n (Some e)
  offers_second old mid new n e ok g none some =
      let (t, t', d, rewrite, fits) = second_offers c (IsRewriteOf expr_rule c context) (IsRewriteOf boolean_rule c context) old mid mid new n (Some e) ok g none some in
      (t, t', d, elim rewrite [ inl a ↦ a.rewrite | inr b ↦ b.rewrite ], fits)

  pub offers_third :
      (old mid next new : List AExpr) (n : ℕ) → IsCheckedAt c old n → IsGrown old mid → IsGrown mid next → Offers (IsRewriteOf expr_rule c context) old mid n None →
      Offers (IsRewriteOf boolean_rule c context) mid next n None → (o : Option AExpr) → Offers (IsRewriteOf fused_rule c context) next new n o → Offers (IsRewrite c context) old new n o
  offers_third old mid next new n ok g g' none none' o last =
      let two = second_offers c (IsRewriteOf boolean_rule c context) (IsRewriteOf fused_rule c context) mid next next new n o (grown_checked c old mid n g ok) g' none' last in
      moved old new n o (second_offers c (IsRewriteOf expr_rule c context) (λ t t'. IsRewriteOf boolean_rule c context t t' ⊎ IsRewriteOf fused_rule c context t t') old mid mid new n o ok g none two)

pub if_ok : (P Q : Option AExpr → Type 0) (r : Result (Option AExpr) PlanError) → ((o : Option AExpr) → P o → Q o) → IfOk r P → IfOk r Q
if_ok P Q (Ok o) f h = f o h
if_ok P Q (Err e) f h = h
