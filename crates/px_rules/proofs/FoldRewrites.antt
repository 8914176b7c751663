-- How a place shows the left side of a rewrite C9 to C13, and what fits there.
use Rattle.std.proofs.Common.{◌≡◌, ℕ, ◌<◌, List, length, Some, None, refl, sym, ◌∙◌, ap, subst}
use Rattle.std.specs.List.{slice_get}
use Rattle.std.proofs.lemmas.Option.{same_Some}
use Rattle.px_functions.specs.declared.evaluated.EvaluatedFunction.TheVariants as function
use Rattle.px_expr.specs.declared.context.Context.{Context}
use Rattle.px_expr.specs.declared.literal.LiteralValue.{LiteralValue}
use Rattle.px_expr.specs.Tree.{Literal, Tree, none}
use Rattle.px_meaning.specs.Check.{literal}
use Rattle.px_meaning.specs.Rewrites.{binary, call}
use Rattle.px_expr.specs.Plan.{Catalog}
use Rattle.px_arena.specs.declared.node.AExpr.{AExpr}
use Rattle.px_arena.specs.declared.node.AExpr.TheVariants as ir
use Rattle.px_arena.specs.declared.node.Node.{Node}
use Rattle.px_arena.specs.Denotes.{Denotes}
use Rattle.px_arena.specs.Runs.{Fits, Offers}
use Rattle.px_arena.proofs.Measure.{denoted_within}
use Rattle.px_rules.specs.declared.views.BinaryParts.{BinaryParts}
use Rattle.px_rules.specs.Folding.{folded_literals, negated_literal}
use Rattle.px_rules.specs.Groups.{literal_folds, literal_negations, IsRewriteIn}
use Rattle.px_rules.specs.Plan.{IsCheckedAt}
use Rattle.px_rules.specs.Views.{binary_of, literal_of, negate_of}
use Rattle.px_rules.proofs.FoldedLiterals.{fold_left, fold_rewrite, negate_left, negate_rewrite}
use Rattle.px_rules.proofs.Parts.{is_rewrite_of}
use Rattle.px_rules.proofs.Shows.{reads_binary, shows_binary, reads_literal, shows_literal, reads_negate, shows_negate}

literal_fits : (items : List AExpr) (n : ℕ) (v : LiteralValue) → Fits items n (ir.Literal v) (literal v)
literal_fits items n v = record { denotes = (Literal v, none, refl, refl, tt); apart = λ m i. elim i [ ] }

module _ (c : Catalog) (context : Context) where
  abbrev pub FoldRewrite : Tree → Tree → Type 0
  FoldRewrite = IsRewriteIn literal_folds c context

  abbrev pub NegateRewrite : Tree → Tree → Type 0
  NegateRewrite = IsRewriteIn literal_negations c context

  pub left_within : (items : List AExpr) (n : ℕ) (x : AExpr) (p : BinaryParts) → IsCheckedAt c items n → slice_get items n ≡ Some x → binary_of x ≡ Some p → p.left.0 < length items
  left_within items n x p (t, d, ok) at is = let r = reads_binary items n x p t d at is in denoted_within items p.left.0 r.left r.of_left

  pub right_within : (items : List AExpr) (n : ℕ) (x : AExpr) (p : BinaryParts) → IsCheckedAt c items n → slice_get items n ≡ Some x → binary_of x ≡ Some p → p.right.0 < length items
  right_within items n x p (t, d, ok) at is = let r = reads_binary items n x p t d at is in denoted_within items p.right.0 r.right r.of_right

  pub input_within : (items : List AExpr) (n : ℕ) (x : AExpr) (a : Node) → IsCheckedAt c items n → slice_get items n ≡ Some x → negate_of x ≡ Some a → a.0 < length items
  input_within items n x a (t, d, ok) at is = let (u, e, du) = reads_negate items n x a t d at is in denoted_within items a.0 u du

  pub no_binary : (items : List AExpr) (n : ℕ) (x : AExpr) → slice_get items n ≡ Some x → binary_of x ≡ None → Offers FoldRewrite items items n None
  no_binary items n x at e t d t' rewrite =
      let l = fold_left c context t t' rewrite.rewrite.by rewrite.rewrite.rewrites rewrite.of_group in
      let (p, f, same, du, dv) = shows_binary items n x l.o (literal l.v) (literal l.w) (subst (λ (z : Tree). Denotes items n z) l.whole d) at in
      cc

  pub no_left :
      (items : List AExpr) (n : ℕ) (x y : AExpr) (p : BinaryParts) → slice_get items n ≡ Some x → binary_of x ≡ Some p → slice_get items p.left.0 ≡ Some y → literal_of y ≡ None →
      Offers FoldRewrite items items n None
  no_left items n x y p at is at2 e t d t' rewrite =
      let l = fold_left c context t t' rewrite.rewrite.by rewrite.rewrite.rewrites rewrite.of_group in
      let (q, f, same, du, dv) = shows_binary items n x l.o (literal l.v) (literal l.w) (subst (λ (z : Tree). Denotes items n z) l.whole d) at in
      let one : q ≡ p = same_Some q p (sym f ∙ is) in
      let h : literal_of y ≡ Some l.v = shows_literal items p.left.0 y l.v (subst (λ (z : BinaryParts). Denotes items z.left.0 (literal l.v)) one du) at2 in
      cc

  pub no_right :
      (items : List AExpr) (n : ℕ) (x y : AExpr) (p : BinaryParts) → slice_get items n ≡ Some x → binary_of x ≡ Some p → slice_get items p.right.0 ≡ Some y → literal_of y ≡ None →
      Offers FoldRewrite items items n None
  no_right items n x y p at is at2 e t d t' rewrite =
      let l = fold_left c context t t' rewrite.rewrite.by rewrite.rewrite.rewrites rewrite.of_group in
      let (q, f, same, du, dv) = shows_binary items n x l.o (literal l.v) (literal l.w) (subst (λ (z : Tree). Denotes items n z) l.whole d) at in
      let one : q ≡ p = same_Some q p (sym f ∙ is) in
      let h : literal_of y ≡ Some l.w = shows_literal items p.right.0 y l.w (subst (λ (z : BinaryParts). Denotes items z.right.0 (literal l.w)) one dv) at2 in
      cc

  pub no_fold :
      (items : List AExpr) (n : ℕ) (x y z : AExpr) (p : BinaryParts) (v w : LiteralValue) → slice_get items n ≡ Some x → binary_of x ≡ Some p →
      slice_get items p.left.0 ≡ Some y → literal_of y ≡ Some v → slice_get items p.right.0 ≡ Some z → literal_of z ≡ Some w → folded_literals p.op v w ≡ None → Offers FoldRewrite items items n None
  no_fold items n x y z p v w at is at2 is2 at3 is3 none_ t d t' rewrite =
      let l = fold_left c context t t' rewrite.rewrite.by rewrite.rewrite.rewrites rewrite.of_group in
      let (q, f, same, du, dv) = shows_binary items n x l.o (literal l.v) (literal l.w) (subst (λ (z : Tree). Denotes items n z) l.whole d) at in
      let one : q ≡ p = same_Some q p (sym f ∙ is) in
      let h : literal_of y ≡ Some l.v = shows_literal items p.left.0 y l.v (subst (λ (z : BinaryParts). Denotes items z.left.0 (literal l.v)) one du) at2 in
      let g : literal_of z ≡ Some l.w = shows_literal items p.right.0 z l.w (subst (λ (z : BinaryParts). Denotes items z.right.0 (literal l.w)) one dv) at3 in
      let sv : l.v ≡ v = same_Some l.v v (sym h ∙ is2) in
      let sw : l.w ≡ w = same_Some l.w w (sym g ∙ is3) in
      let so : l.o ≡ p.op = sym same ∙ ap (λ (b : BinaryParts). b.op) one in
      l.folds_to (rw (so, sv, sw) none_)

  pub offer_fold :
      (items : List AExpr) (n : ℕ) (x y z : AExpr) (p : BinaryParts) (v w r : LiteralValue) → IsCheckedAt c items n → slice_get items n ≡ Some x → binary_of x ≡ Some p →
      slice_get items p.left.0 ≡ Some y → literal_of y ≡ Some v → slice_get items p.right.0 ≡ Some z → literal_of z ≡ Some w → folded_literals p.op v w ≡ Some r → Offers FoldRewrite items items n (Some (ir.Literal r))
  offer_fold items n x y z p v w r (t, d, ok) at is at2 is2 at3 is3 folded =
      let b = reads_binary items n x p t d at is in
      let left_is : b.left ≡ literal v = reads_literal items p.left.0 y v b.left b.of_left at2 is2 in
      let right_is : b.right ≡ literal w = reads_literal items p.right.0 z w b.right b.of_right at3 is3 in
      let same : t ≡ binary p.op (literal v) (literal w) = b.whole ∙ ap (λ (u : Tree). binary p.op b.left u) right_is ∙ ap (λ (u : Tree). binary p.op u (literal w)) left_is in
      (t, literal r, d, is_rewrite_of literal_folds c context t (binary p.op (literal v) (literal w)) (literal r) same (fold_rewrite c context p.op v w r folded) ok, literal_fits items n r)

  pub no_negate : (items : List AExpr) (n : ℕ) (x : AExpr) → slice_get items n ≡ Some x → negate_of x ≡ None → Offers NegateRewrite items items n None
  no_negate items n x at e t d t' rewrite =
      let l = negate_left c context t t' rewrite.rewrite.by rewrite.rewrite.rewrites rewrite.of_group in
      let (a, f, du) = shows_negate items n x (literal l.v) (subst (λ (z : Tree). Denotes items n z) l.whole d) at in
      cc

  pub no_literal :
      (items : List AExpr) (n : ℕ) (x y : AExpr) (a : Node) → slice_get items n ≡ Some x → negate_of x ≡ Some a → slice_get items a.0 ≡ Some y → literal_of y ≡ None → Offers NegateRewrite items items n None
  no_literal items n x y a at is at2 e t d t' rewrite =
      let l = negate_left c context t t' rewrite.rewrite.by rewrite.rewrite.rewrites rewrite.of_group in
      let (b, f, du) = shows_negate items n x (literal l.v) (subst (λ (z : Tree). Denotes items n z) l.whole d) at in
      let one : b ≡ a = same_Some b a (sym f ∙ is) in
      let h : literal_of y ≡ Some l.v = shows_literal items a.0 y l.v (subst (λ (z : Node). Denotes items z.0 (literal l.v)) one du) at2 in
      cc

  pub no_negation :
      (items : List AExpr) (n : ℕ) (x y : AExpr) (a : Node) (v : LiteralValue) → slice_get items n ≡ Some x → negate_of x ≡ Some a → slice_get items a.0 ≡ Some y → literal_of y ≡ Some v → negated_literal v ≡ None →
      Offers NegateRewrite items items n None
  no_negation items n x y a v at is at2 is2 e t d t' rewrite =
      let l = negate_left c context t t' rewrite.rewrite.by rewrite.rewrite.rewrites rewrite.of_group in
      let (b, f, du) = shows_negate items n x (literal l.v) (subst (λ (z : Tree). Denotes items n z) l.whole d) at in
      let one : b ≡ a = same_Some b a (sym f ∙ is) in
      let h : literal_of y ≡ Some l.v = shows_literal items a.0 y l.v (subst (λ (z : Node). Denotes items z.0 (literal l.v)) one du) at2 in
      let sv : l.v ≡ v = same_Some l.v v (sym h ∙ is2) in
      l.negates_to (rw (sv) e)

  pub offer_complement :
      (items : List AExpr) (n : ℕ) (x y : AExpr) (a : Node) (v r : LiteralValue) → IsCheckedAt c items n → slice_get items n ≡ Some x → negate_of x ≡ Some a → slice_get items a.0 ≡ Some y → literal_of y ≡ Some v →
      negated_literal v ≡ Some r → Offers NegateRewrite items items n (Some (ir.Literal r))
  offer_complement items n x y a v r (t, d, ok) at is at2 is2 e =
      let (u, whole, du) = reads_negate items n x a t d at is in
      let under : u ≡ literal v = reads_literal items a.0 y v u du at2 is2 in
      let same : t ≡ call function.Negate (literal v) = whole ∙ ap (call function.Negate) under in
      (t, literal r, d, is_rewrite_of literal_negations c context t (call function.Negate (literal v)) (literal r) same (negate_rewrite c context v r e) ok, literal_fits items n r)
