-- How a place shows the left side of a rewrite C14 to C25, and what fits there.
use Rattle.std.proofs.Common.{◌≡◌, ◌≢◌, ℕ, ◌<◌, List, [], ◌∷◌, ◌++◌, length, Bool, not, Some, None, refl, sym, ◌∙◌, ap, subst, arith, length-append}
use Rattle.std.specs.List.{slice_get}
use Rattle.std.proofs.lemmas.Option.{same_Some}
use Rattle.px_functions.specs.declared.evaluated.EvaluatedBoolean.{EvaluatedBoolean}
use Rattle.px_functions.specs.declared.evaluated.EvaluatedBoolean.TheVariants as boolean
use Rattle.px_functions.specs.declared.evaluated.EvaluatedFunction.TheVariants as function
use Rattle.px_types.specs.declared.operator.Operator.{Operator}
use Rattle.px_types.specs.declared.operator.Operator.TheVariants as op
use Rattle.px_types.specs.declared.options.FunctionOptions.{FunctionOptions}
use Rattle.px_expr.specs.declared.context.Context.{Context}
use Rattle.px_expr.specs.declared.literal.LiteralValue.TheVariants as lit
use Rattle.px_functions.specs.Evaluated.{of_evaluated}
use Rattle.px_meaning.proofs.EvaluatedFunctions.{evaluated_of}
use Rattle.px_expr.specs.Tree.{node_for, Function, Binary, Literal, Tree, none, more}
use Rattle.px_meaning.specs.Check.{IsChecked}
use Rattle.px_meaning.specs.declared.rewrite.RewriteName.TheVariants as named
use Rattle.px_meaning.specs.declared.rewrite.RewriteName.{RewriteName}
use Rattle.px_meaning.specs.Rewrites.{Rewrites, C1, C2, C3, C4, C5, C6, C7, C8, C9, C10, C11, C12, C13, C14, C15, C16, C17, C18, C19, C20, C21, C22, C23, C24, C25, C26, C27, C28, C29, binary, call, not_tree, truth, IsConjunction, IsDisjunction}
use Rattle.px_expr.specs.Plan.{Catalog}
use Rattle.px_arena.specs.declared.node.AExpr.{AExpr}
use Rattle.px_arena.specs.declared.node.AExpr.TheVariants as ir
use Rattle.px_arena.specs.declared.node.Node.{Node}
use Rattle.px_arena.specs.Denotes.{inputs_of, Denotes, IsIn, first, later, Reaches, here, below, IsGrown}
use Rattle.px_arena.specs.Runs.{Offers}
use Rattle.px_arena.proofs.Measure.{denoted_within}
use Rattle.px_arena.proofs.Reading.{copy_fits, fresh_apart, below_fits}
use Rattle.px_arena.proofs.Replaces.{get_added, grown_by_one}
use Rattle.px_arena.proofs.Runs.{grown_denotes}
use Rattle.px_rules.specs.declared.simplify_expr.NegatedOperator.{NegatedOperator}
use Rattle.px_rules.specs.declared.simplify_expr.NegatedOperator.TheVariants.{Complement, Dual}
use Rattle.px_rules.specs.declared.views.BinaryParts.{BinaryParts}
use Rattle.px_rules.specs.declared.views.BooleanCall.{BooleanCall}
use Rattle.px_rules.specs.Groups.{group_of, pushed_negations, IsRewriteIn}
use Rattle.px_rules.specs.Negation.{inward, boolean_call, negated_call}
use Rattle.px_rules.specs.Plan.{IsCheckedAt}
use Rattle.px_rules.specs.Views.{binary_of, boolean_of, not_of, boolean_literal_of}
use Rattle.px_rules.proofs.Parts.{RewriteIn, is_rewrite_of}
use Rattle.px_rules.proofs.Shows.{reads_binary, shows_binary, reads_call, shows_call, reads_negated, shows_negated, reads_boolean, shows_boolean, binary_no_call}

-- what stands under the `not` of a left side
data Under : Tree → Type 0 where
  of_binary : {o : Operator} {a b : Tree} (w : NegatedOperator) → inward o ≡ Some w → Under (binary o a b)
  of_call : {f : EvaluatedBoolean} {u : Tree} → Under (call (function.Boolean f) u)
  of_boolean : {b : Bool} → Under (truth b)

conjunction_inward : (o : Operator) → IsConjunction o → inward o ≡ Some (Dual op.Or)
conjunction_inward op.And i = refl
conjunction_inward op.LogicalAnd i = refl
conjunction_inward _ i = absurd i

disjunction_inward : (o : Operator) → IsDisjunction o → inward o ≡ Some (Dual op.And)
disjunction_inward op.Or i = refl
disjunction_inward op.LogicalOr i = refl
disjunction_inward _ i = absurd i

left_of : (c : Catalog) (context : Context) (t t' : Tree) (n : RewriteName) (l : Rewrites c context n t t') → group_of n ≡ pushed_negations → (u : Tree) × (t ≡ not_tree u) × Under u
left_of c context _ _ _ (C1 p) e = cc
left_of c context _ _ _ C2 e = cc
left_of c context _ _ _ (C3 p) e = cc
left_of c context _ _ _ (C4 p) e = cc
left_of c context _ _ _ (C5 p) e = cc
left_of c context _ _ _ C6 e = cc
left_of c context _ _ _ (C7 p) e = cc
left_of c context _ _ _ (C8 p) e = cc
left_of c context _ _ _ (C9 p q) e = cc
left_of c context _ _ _ (C10 p q r) e = cc
left_of c context _ _ _ (C11 p q r s) e = cc
left_of c context _ _ _ (C12 p q r) e = cc
left_of c context _ _ _ (C13 p) e = cc
left_of c context _ _ _ (C14 {o} {a} {b} p) e = (binary o a b, refl, of_binary (Dual op.Or) (conjunction_inward o p))
left_of c context _ _ _ (C15 {o} {a} {b} p) e = (binary o a b, refl, of_binary (Dual op.And) (disjunction_inward o p))
left_of c context _ _ _ (C16 {x}) e = (not_tree x, refl, of_call)
left_of c context _ _ _ (C17 {t}) e = (truth t, refl, of_boolean)
left_of c context _ _ _ (C18 {x}) e = (call (function.Boolean boolean.IsNull) x, refl, of_call)
left_of c context _ _ _ (C19 {x}) e = (call (function.Boolean boolean.IsNotNull) x, refl, of_call)
left_of c context _ _ _ (C20 {a} {b}) e = (binary op.Eq a b, refl, of_binary (Complement op.NotEq) refl)
left_of c context _ _ _ (C21 {a} {b}) e = (binary op.NotEq a b, refl, of_binary (Complement op.Eq) refl)
left_of c context _ _ _ (C22 {a} {b}) e = (binary op.Lt a b, refl, of_binary (Complement op.GtEq) refl)
left_of c context _ _ _ (C23 {a} {b}) e = (binary op.LtEq a b, refl, of_binary (Complement op.Gt) refl)
left_of c context _ _ _ (C24 {a} {b}) e = (binary op.Gt a b, refl, of_binary (Complement op.LtEq) refl)
left_of c context _ _ _ (C25 {a} {b}) e = (binary op.GtEq a b, refl, of_binary (Complement op.Lt) refl)
left_of c context _ _ _ (C26 p) e = cc
left_of c context _ _ _ (C27 p q) e = cc
left_of c context _ _ _ (C28 p) e = cc
left_of c context _ _ _ (C29 p q) e = cc

module _ (c : Catalog) (context : Context) where
  abbrev pub NotRewrite : Tree → Tree → Type 0
  NotRewrite = IsRewriteIn pushed_negations c context

  -- rewrites by what an operator becomes
  turned : (s v w : Tree) (p o : Operator) → Some (Complement p) ≡ Some (Complement o) → RewriteIn pushed_negations c context s (binary p v w) → RewriteIn pushed_negations c context s (binary o v w)
  turned s v w p o e l = let same : p ≡ o = cc in subst (λ (q : Operator). RewriteIn pushed_negations c context s (binary q v w)) same l

  comparison_rewrite : (p o : Operator) (v w : Tree) → inward p ≡ Some (Complement o) → RewriteIn pushed_negations c context (not_tree (binary p v w)) (binary o v w)
  comparison_rewrite op.Eq o v w e = turned _ v w op.NotEq o e (record { by = named.C20; rewrites = C20 {a = v} {b = w}; of_group = refl })
  comparison_rewrite op.NotEq o v w e = turned _ v w op.Eq o e (record { by = named.C21; rewrites = C21 {a = v} {b = w}; of_group = refl })
  comparison_rewrite op.Lt o v w e = turned _ v w op.GtEq o e (record { by = named.C22; rewrites = C22 {a = v} {b = w}; of_group = refl })
  comparison_rewrite op.LtEq o v w e = turned _ v w op.Gt o e (record { by = named.C23; rewrites = C23 {a = v} {b = w}; of_group = refl })
  comparison_rewrite op.Gt o v w e = turned _ v w op.LtEq o e (record { by = named.C24; rewrites = C24 {a = v} {b = w}; of_group = refl })
  comparison_rewrite op.GtEq o v w e = turned _ v w op.Lt o e (record { by = named.C25; rewrites = C25 {a = v} {b = w}; of_group = refl })
  comparison_rewrite _ o v w e = cc

  dual : (s v w : Tree) (p o : Operator) → Some (Dual p) ≡ Some (Dual o) → RewriteIn pushed_negations c context s (binary p v w) → RewriteIn pushed_negations c context s (binary o v w)
  dual s v w p o e l = let same : p ≡ o = cc in subst (λ (q : Operator). RewriteIn pushed_negations c context s (binary q v w)) same l

  dual_rewrite : (p o : Operator) (v w : Tree) → inward p ≡ Some (Dual o) → RewriteIn pushed_negations c context (not_tree (binary p v w)) (binary o (not_tree v) (not_tree w))
  dual_rewrite op.And o v w e = dual _ (not_tree v) (not_tree w) op.Or o e (record { by = named.C14; rewrites = C14 {o = op.And} {a = v} {b = w} tt; of_group = refl })
  dual_rewrite op.LogicalAnd o v w e = dual _ (not_tree v) (not_tree w) op.Or o e (record { by = named.C14; rewrites = C14 {o = op.LogicalAnd} {a = v} {b = w} tt; of_group = refl })
  dual_rewrite op.Or o v w e = dual _ (not_tree v) (not_tree w) op.And o e (record { by = named.C15; rewrites = C15 {o = op.Or} {a = v} {b = w} tt; of_group = refl })
  dual_rewrite op.LogicalOr o v w e = dual _ (not_tree v) (not_tree w) op.And o e (record { by = named.C15; rewrites = C15 {o = op.LogicalOr} {a = v} {b = w} tt; of_group = refl })
  dual_rewrite _ o v w e = cc

  -- the place holds a `not` of a place
  pub record Arm (items : List AExpr) (n : ℕ) (x : AExpr) (k : BooleanCall) : Type 0 where
    pub t : Tree
    pub u : Tree
    pub denotes : Denotes items n t
    pub checked : IsChecked c t
    pub whole : t ≡ not_tree u
    pub of_input : Denotes items k.input.0 u
    pub is_input : IsIn k.input.0 (inputs_of x)

  pub arm : (items : List AExpr) (n : ℕ) (x : AExpr) (k : BooleanCall) → IsCheckedAt c items n → slice_get items n ≡ Some x → not_of x ≡ Some k → Arm items n x k
  arm items n x k (t, d, ok) at is =
      let (u, e, du, i) = reads_negated items n x k t d at is in
      record { t = t; u = u; denotes = d; checked = ok; whole = e; of_input = du; is_input = i }

  pub input_within : (items : List AExpr) (n : ℕ) (x : AExpr) (k : BooleanCall) → IsCheckedAt c items n → slice_get items n ≡ Some x → not_of x ≡ Some k → k.input.0 < length items
  input_within items n x k ok at is = let a = arm items n x k ok at is in denoted_within items k.input.0 a.u a.of_input

  pub operands_within :
      (items : List AExpr) (n : ℕ) (x y : AExpr) (k : BooleanCall) (p : BinaryParts) → IsCheckedAt c items n → slice_get items n ≡ Some x → not_of x ≡ Some k →
      slice_get items k.input.0 ≡ Some y → binary_of y ≡ Some p → (p.left.0 < length items) × (p.right.0 < length items)
  operands_within items n x y k p ok at is at2 is2 =
      let a = arm items n x k ok at is in
      let r = reads_binary items k.input.0 y p a.u a.of_input at2 is2 in
      (denoted_within items p.left.0 r.left r.of_left, denoted_within items p.right.0 r.right r.of_right)

  pub inner_within :
      (items : List AExpr) (n : ℕ) (x y : AExpr) (k l : BooleanCall) → IsCheckedAt c items n → slice_get items n ≡ Some x → not_of x ≡ Some k →
      slice_get items k.input.0 ≡ Some y → boolean_of y ≡ Some l → l.input.0 < length items
  inner_within items n x y k l ok at is at2 is2 =
      let a = arm items n x k ok at is in
      let r = reads_call items k.input.0 y l a.u a.of_input at2 is2 in
      denoted_within items l.input.0 r.under r.denotes

  -- no rewrite

  pub no_not : (items : List AExpr) (n : ℕ) (x : AExpr) → slice_get items n ≡ Some x → not_of x ≡ None → Offers NotRewrite items items n None
  no_not items n x at e t d t' rewrite =
      let (u, same, under) = left_of c context t t' rewrite.rewrite.by rewrite.rewrite.rewrites rewrite.of_group in
      let (k, f, du) = shows_negated items n x u (subst (λ (z : Tree). Denotes items n z) same d) at in
      cc

  pub no_under :
      (items : List AExpr) (n : ℕ) (x y : AExpr) (k : BooleanCall) → slice_get items n ≡ Some x → not_of x ≡ Some k → slice_get items k.input.0 ≡ Some y →
      boolean_literal_of y ≡ None → ((p : BinaryParts) → binary_of y ≡ Some p → inward p.op ≡ None) → boolean_of y ≡ None → Offers NotRewrite items items n None
  no_under items n x y k at is at2 not_boolean not_binary not_call t d t' rewrite =
      let (u, same, under) = left_of c context t t' rewrite.rewrite.by rewrite.rewrite.rewrites rewrite.of_group in
      let (l, f, dl) = shows_negated items n x u (subst (λ (z : Tree). Denotes items n z) same d) at in
      let one : l ≡ k = same_Some l k (sym f ∙ is) in
      go u under (subst (λ (z : BooleanCall). Denotes items z.input.0 u) one dl)
    where
      go : (u : Tree) → Under u → Denotes items k.input.0 u → ⊥
      go _ (of_binary {o} {a} {b} w i) du =
          let (p, h, same, da, db) = shows_binary items k.input.0 y o a b du at2 in
          let no : inward p.op ≡ None = not_binary p h in
          let yes : inward p.op ≡ Some w = ap inward same ∙ i in
          cc
      go _ (of_call {f} {u}) du = let (l, h, same, dv) = shows_call items k.input.0 y f u du at2 in cc
      go _ (of_boolean {b}) du = let h : boolean_literal_of y ≡ Some b = shows_boolean items k.input.0 y b du at2 in cc

  pub no_inward :
      (items : List AExpr) (n : ℕ) (x y : AExpr) (k : BooleanCall) (p : BinaryParts) → slice_get items n ≡ Some x → not_of x ≡ Some k → slice_get items k.input.0 ≡ Some y →
      boolean_literal_of y ≡ None → binary_of y ≡ Some p → inward p.op ≡ None → Offers NotRewrite items items n None
  no_inward items n x y k p at is at2 not_boolean is2 none_ =
      no_under items n x y k at is at2 not_boolean
      (λ q h. let one : p ≡ q = same_Some p q (sym is2 ∙ h) in subst (λ (z : BinaryParts). inward z.op ≡ None) one none_)
      (binary_no_call y p is2)

  pub no_call :
      (items : List AExpr) (n : ℕ) (x y : AExpr) (k : BooleanCall) → slice_get items n ≡ Some x → not_of x ≡ Some k → slice_get items k.input.0 ≡ Some y →
      boolean_literal_of y ≡ None → binary_of y ≡ None → boolean_of y ≡ None → Offers NotRewrite items items n None
  no_call items n x y k at is at2 not_boolean not_binary not_call_ = no_under items n x y k at is at2 not_boolean (λ q h. cc) not_call_

  -- rewrites

  pub offer_boolean :
      (items : List AExpr) (n : ℕ) (x y : AExpr) (k : BooleanCall) (b : Bool) → IsCheckedAt c items n → slice_get items n ≡ Some x → not_of x ≡ Some k →
      slice_get items k.input.0 ≡ Some y → boolean_literal_of y ≡ Some b → Offers NotRewrite items items n (Some (ir.Literal (lit.Boolean (not b))))
  offer_boolean items n x y k b ok at is at2 is2 =
      let a = arm items n x k ok at is in
      let same : a.t ≡ not_tree (truth b) = a.whole ∙ ap not_tree (reads_boolean items k.input.0 y b a.u a.of_input at2 is2) in (
        a.t,
        truth (not b),
        a.denotes,
        is_rewrite_of pushed_negations c context a.t (not_tree (truth b)) (truth (not b)) same (record { by = named.C17; rewrites = C17 {t = b}; of_group = refl }) a.checked,
        record { denotes = (Literal (lit.Boolean (not b)), none, refl, refl, tt); apart = λ m i. elim i [ ] },
      )

  pub offer_complement :
      (items : List AExpr) (n : ℕ) (x y : AExpr) (k : BooleanCall) (p : BinaryParts) (o : Operator) → IsCheckedAt c items n → slice_get items n ≡ Some x → not_of x ≡ Some k →
      slice_get items k.input.0 ≡ Some y → binary_of y ≡ Some p → inward p.op ≡ Some (Complement o) → Offers NotRewrite items items n (Some (ir.BinaryExpr p.left o p.right))
  offer_complement items n x y k p o ok at is at2 is2 turn =
      let a = arm items n x k ok at is in
      let r = reads_binary items k.input.0 y p a.u a.of_input at2 is2 in
      let same : a.t ≡ not_tree (binary p.op r.left r.right) = a.whole ∙ ap not_tree r.whole in (
        a.t,
        binary o r.left r.right,
        a.denotes,
        is_rewrite_of pushed_negations c context a.t (not_tree (binary p.op r.left r.right)) (binary o r.left r.right) same (comparison_rewrite p.op o r.left r.right turn) a.checked,
        below_fits items n k.input.0 a.t x (ir.BinaryExpr p.left o p.right) (Binary o) (more r.left (more r.right none)) a.denotes at a.is_input refl (r.of_left, (r.of_right, tt))
            (λ m i. two m i (below y at2 r.left_in here) (below y at2 r.right_in here)),
      )
    where
      two : (m : ℕ) → IsIn m (p.left.0 ∷ p.right.0 ∷ []) → Reaches items k.input.0 p.left.0 → Reaches items k.input.0 p.right.0 → Reaches items k.input.0 m
      two _ first q r = q
      two _ (later first) q r = r
      two m (later (later i)) q r = elim i [ ]

  offer_copy :
      (items : List AExpr) (n : ℕ) (x y e : AExpr) (k l : BooleanCall) → IsCheckedAt c items n → slice_get items n ≡ Some x → not_of x ≡ Some k →
      slice_get items k.input.0 ≡ Some y → boolean_of y ≡ Some l → l.function ≡ boolean.Not → slice_get items l.input.0 ≡ Some e → Offers NotRewrite items items n (Some e)
  offer_copy items n x y e k l ok at is at2 is2 fun at3 =
      let a = arm items n x k ok at is in
      let r = reads_call items k.input.0 y l a.u a.of_input at2 is2 in
      let same : a.t ≡ not_tree (not_tree r.under) = a.whole ∙ ap not_tree (r.whole ∙ ap (λ (f : EvaluatedBoolean). call (function.Boolean f) r.under) fun) in (
        a.t,
        r.under,
        a.denotes,
        is_rewrite_of pushed_negations c context a.t (not_tree (not_tree r.under)) r.under same (record { by = named.C16; rewrites = C16 {x = r.under}; of_group = refl }) a.checked,
        copy_fits items n k.input.0 l.input.0 a.t r.under x e a.denotes at a.is_input (below y at2 r.is_input here) r.denotes at3,
      )

  -- a null test for the other
  offer_test :
      (items : List AExpr) (n : ℕ) (x y e : AExpr) (k l : BooleanCall) (f g : EvaluatedBoolean) → IsCheckedAt c items n → slice_get items n ≡ Some x → not_of x ≡ Some k →
      slice_get items k.input.0 ≡ Some y → boolean_of y ≡ Some l → l.function ≡ f → e ≡ boolean_call g l.input l.options →
      ((v : Tree) → RewriteIn pushed_negations c context (not_tree (call (function.Boolean f) v)) (call (function.Boolean g) v)) → Offers NotRewrite items items n (Some e)
  offer_test items n x y e k l f g ok at is at2 is2 fun made rewritten =
      let a = arm items n x k ok at is in
      let r = reads_call items k.input.0 y l a.u a.of_input at2 is2 in
      let same : a.t ≡ not_tree (call (function.Boolean f) r.under) = a.whole ∙ ap not_tree (r.whole ∙ ap (λ (f : EvaluatedBoolean). call (function.Boolean f) r.under) fun) in
      let answer : Offers NotRewrite items items n (Some (boolean_call g l.input l.options)) = (
        a.t,
        call (function.Boolean g) r.under,
        a.denotes,
        is_rewrite_of pushed_negations c context a.t (not_tree (call (function.Boolean f) r.under)) (call (function.Boolean g) r.under) same (rewritten r.under) a.checked,
        below_fits items n k.input.0 a.t x (boolean_call g l.input l.options) (Function (function.Boolean g)) (more r.under none) a.denotes at a.is_input (ap (node_for (of_evaluated (function.Boolean g))) (evaluated_of (function.Boolean g))) (r.denotes, tt)
            (λ m i. one m i (below y at2 r.is_input here)),
      ) in
      subst (λ (z : AExpr). Offers NotRewrite items items n (Some z)) (sym made) answer
    where
      one : (m : ℕ) → IsIn m (l.input.0 ∷ []) → Reaches items k.input.0 l.input.0 → Reaches items k.input.0 m
      one _ first h = h
      one m (later i) h = elim i [ ]

  null_rewrite : (v : Tree) → RewriteIn pushed_negations c context (not_tree (call (function.Boolean boolean.IsNull) v)) (call (function.Boolean boolean.IsNotNull) v)
  null_rewrite v = record { by = named.C18; rewrites = C18 {x = v}; of_group = refl }

  not_null_rewrite : (v : Tree) → RewriteIn pushed_negations c context (not_tree (call (function.Boolean boolean.IsNotNull) v)) (call (function.Boolean boolean.IsNull) v)
  not_null_rewrite v = record { by = named.C19; rewrites = C19 {x = v}; of_group = refl }

  pub offer_call :
      (items : List AExpr) (n : ℕ) (x y e : AExpr) (k l : BooleanCall) → IsCheckedAt c items n → slice_get items n ≡ Some x → not_of x ≡ Some k →
      slice_get items k.input.0 ≡ Some y → boolean_of y ≡ Some l → negated_call items l.function l ≡ Some e → Offers NotRewrite items items n (Some e)
  offer_call items n x y e k l ok at is at2 is2 negated = go l.function refl negated
    where
      go : (f : EvaluatedBoolean) → l.function ≡ f → negated_call items f l ≡ Some e → Offers NotRewrite items items n (Some e)
      go boolean.Not fun h = offer_copy items n x y e k l ok at is at2 is2 fun h
      go boolean.IsNull fun h = offer_test items n x y e k l boolean.IsNull boolean.IsNotNull ok at is at2 is2 fun (sym (same_Some (boolean_call boolean.IsNotNull l.input l.options) e h)) null_rewrite
      go boolean.IsNotNull fun h = offer_test items n x y e k l boolean.IsNotNull boolean.IsNull ok at is at2 is2 fun (sym (same_Some (boolean_call boolean.IsNull l.input l.options) e h)) not_null_rewrite

  -- the other operator over two new places that hold the `not`s of the operands
  pub offer_two :
      (old mid new : List AExpr) (n : ℕ) (x y : AExpr) (k : BooleanCall) (p : BinaryParts) (o : Operator) (f g : Node) (own : FunctionOptions) →
      IsCheckedAt c old n → slice_get old n ≡ Some x → not_of x ≡ Some k → slice_get old k.input.0 ≡ Some y → binary_of y ≡ Some p → inward p.op ≡ Some (Dual o) →
      f.0 ≡ length old → mid ≡ old ++ boolean_call boolean.Not p.left own ∷ [] → g.0 ≡ length mid → new ≡ mid ++ boolean_call boolean.Not p.right own ∷ [] →
      Offers NotRewrite old new n (Some (ir.BinaryExpr f o g))
  offer_two old mid new n x y k p o f g own ok at is at2 is2 turn ef em eg en =
      let a = arm old n x k ok at is in
      let r = reads_binary old k.input.0 y p a.u a.of_input at2 is2 in
      let same : a.t ≡ not_tree (binary p.op r.left r.right) = a.whole ∙ ap not_tree r.whole in
      let left_not = boolean_call boolean.Not p.left own in
      let right_not = boolean_call boolean.Not p.right own in
      let gm : IsGrown old mid = subst (λ (z : List AExpr). IsGrown old z) (sym em) (grown_by_one old left_not) in
      let gn : IsGrown mid new = subst (λ (z : List AExpr). IsGrown mid z) (sym en) (grown_by_one mid right_not) in
      let grow : IsGrown old new = record { at = λ q z h e. gn.at q z tt (gm.at q z tt e) } in
      let long : length mid ≡ length (old ++ left_not ∷ []) = ap length em in
      let within : n < length old = denoted_within old n a.t a.denotes in
      let nf : f.0 ≢ n = omega arith in
      let ng : g.0 ≢ n = omega (arith, length-append old (left_not ∷ [])) in
      let atf0 : slice_get mid f.0 ≡ Some left_not = rw (em, ef) (get_added old left_not) in
      let atf : slice_get new f.0 ≡ Some left_not = gn.at f.0 left_not tt atf0 in
      let atg : slice_get new g.0 ≡ Some right_not = rw (en, eg) (get_added mid right_not) in
      let dn : Denotes new n a.t = grown_denotes old new n a.t grow a.denotes in
      let atn : slice_get new n ≡ Some x = grow.at n x tt at in
      let at2n : slice_get new k.input.0 ≡ Some y = grow.at k.input.0 y tt at2 in
      let dl : Denotes new p.left.0 r.left = grown_denotes old new p.left.0 r.left grow r.of_left in
      let dr : Denotes new p.right.0 r.right = grown_denotes old new p.right.0 r.right grow r.of_right in (
        a.t,
        binary o (not_tree r.left) (not_tree r.right),
        a.denotes,
        is_rewrite_of pushed_negations c context a.t (not_tree (binary p.op r.left r.right)) (binary o (not_tree r.left) (not_tree r.right)) same (dual_rewrite p.op o r.left r.right turn) a.checked,
        record {
          denotes = (
            Binary o,
            more (not_tree r.left) (more (not_tree r.right) none),
            refl,
            refl,
            ((left_not, atf, refl, (dl, tt)), ((right_not, atg, refl, (dr, tt)), tt)),
          );
          apart = λ j h.
              two j h
              (fresh_apart new n k.input.0 f.0 a.t x left_not dn atn a.is_input nf atf (λ m i. one m p.left.0 i (below y at2n r.left_in here)))
              (fresh_apart new n k.input.0 g.0 a.t x right_not dn atn a.is_input ng atg (λ m i. one m p.right.0 i (below y at2n r.right_in here)));
        },
      )
    where
      one : (m q : ℕ) → IsIn m (q ∷ []) → Reaches new k.input.0 q → Reaches new k.input.0 m
      one m _ first h = h
      one m q (later i) h = elim i [ ]

      two : (j : ℕ) → IsIn j (f.0 ∷ g.0 ∷ []) → (Reaches new f.0 n → ⊥) → (Reaches new g.0 n → ⊥) → Reaches new j n → ⊥
      two _ first q r = q
      two _ (later first) q r = r
      two j (later (later i)) q r = elim i [ ]
