-- How a place shows the left side of a rewrite C1 to C8, and what fits there.
use Rattle.std.proofs.Common.{◌≡◌, ℕ, List, Bool, true, false, not, Option, Some, None, refl, sym, ◌∙◌, ap, subst}
use Rattle.std.specs.List.{slice_get}
use Rattle.std.proofs.lemmas.Option.{same_Some}
use Rattle.px_types.specs.declared.operator.Operator.{Operator}
use Rattle.px_types.specs.declared.operator.Operator.TheVariants as op
use Rattle.px_expr.specs.declared.context.Context.{Context}
use Rattle.px_expr.specs.declared.context.Context.TheVariants.{Filter}
use Rattle.px_expr.specs.declared.literal.LiteralValue.{LiteralValue}
use Rattle.px_expr.specs.declared.literal.LiteralValue.TheVariants as lit
use Rattle.px_expr.specs.Tree.{Node as Root, Literal, Tree, tree, none}
use Rattle.px_meaning.specs.Check.{IsChecked, literal}
use Rattle.px_meaning.specs.Literals.{is_scalar}
use Rattle.px_meaning.specs.declared.rewrite.RewriteName.TheVariants as named
use Rattle.px_meaning.specs.declared.rewrite.RewriteName.{RewriteName}
use Rattle.px_meaning.specs.Rewrites.{Rewrites, C1, C2, C3, C4, C5, C6, C7, C8, C9, C10, C11, C12, C13, C14, C15, C16, C17, C18, C19, C20, C21, C22, C23, C24, C25, C26, C27, C28, C29, binary, truth}
use Rattle.px_expr.specs.Plan.{Catalog}
use Rattle.px_arena.specs.declared.node.AExpr.{AExpr}
use Rattle.px_arena.specs.declared.node.AExpr.TheVariants as ir
use Rattle.px_arena.specs.Denotes.{root_of, inputs_of, Denotes, here}
use Rattle.px_arena.specs.Runs.{Fits, Offers}
use Rattle.px_arena.proofs.Reading.{copy_fits}
use Rattle.px_rules.specs.declared.simplify_boolean.Outcome.TheVariants.{Other, Absorbed}
use Rattle.px_rules.specs.declared.views.BinaryParts.{BinaryParts}
use Rattle.px_rules.specs.Groups.{group_of, boolean_operands, IsRewriteIn}
use Rattle.px_rules.specs.Plan.{IsCheckedAt}
use Rattle.px_rules.specs.Booleans.{absorbing, given, decided, in_filter}
use Rattle.px_rules.specs.Views.{binary_of, boolean_literal_of, is_scalar_literal}
use Rattle.px_rules.proofs.Parts.{RewriteIn, is_rewrite_of}
use Rattle.px_rules.proofs.FunctionNodes.{at_function}
use Rattle.px_rules.proofs.Shows.{ReadsBinary, reads_binary, shows_binary, reads_boolean, reads_leaf}

-- what trees show

abbrev boolean_root : Root → Option Bool
boolean_root (Literal (lit.Boolean t)) = Some t
boolean_root _ = None

abbrev scalar_root : Root → Bool
scalar_root (Literal v) = is_scalar v
scalar_root _ = false

abbrev root_of_tree : Tree → Root
root_of_tree (tree k us) = k

boolean_at : (x : AExpr) → boolean_literal_of x ≡ boolean_root (root_of x)
boolean_at (ir.Literal (lit.Boolean t)) = refl
boolean_at (ir.Literal v) = refl
boolean_at (ir.Function input f own) = sym (at_function boolean_root None (λ g. refl) (λ g. refl) f)
boolean_at _ = refl

scalar_at : (x : AExpr) → is_scalar_literal x ≡ scalar_root (root_of x)
scalar_at (ir.Literal v) = refl
scalar_at (ir.Function input f own) = sym (at_function scalar_root false (λ g. refl) (λ g. refl) f)
scalar_at _ = refl

seen_root : (items : List AExpr) (n : ℕ) (x : AExpr) (t : Tree) → Denotes items n t → slice_get items n ≡ Some x → root_of x ≡ root_of_tree t
seen_root items n x (tree k us) (y, at', root, ins) at = let e : y ≡ x = same_Some y x (sym at' ∙ at) in sym (ap root_of e) ∙ root

seen_boolean : (items : List AExpr) (n : ℕ) (x : AExpr) (t : Tree) → Denotes items n t → slice_get items n ≡ Some x → boolean_literal_of x ≡ boolean_root (root_of_tree t)
seen_boolean items n x t d at = boolean_at x ∙ ap boolean_root (seen_root items n x t d at)

seen_scalar : (items : List AExpr) (n : ℕ) (x : AExpr) (t : Tree) → Denotes items n t → slice_get items n ≡ Some x → is_scalar_literal x ≡ scalar_root (root_of_tree t)
seen_scalar items n x t d at = scalar_at x ∙ ap scalar_root (seen_root items n x t d at)

scalar_is : (x : AExpr) → is_scalar_literal x ≡ true → (v : LiteralValue) × (x ≡ ir.Literal v) × (is_scalar v ≡ true)
scalar_is (ir.Literal v) e = (v, refl, e)
scalar_is _ e = cc

reads_scalar : (items : List AExpr) (n : ℕ) (x : AExpr) (t : Tree) → Denotes items n t → slice_get items n ≡ Some x → is_scalar_literal x ≡ true → (v : LiteralValue) × (t ≡ literal v) × (is_scalar v ≡ true)
reads_scalar items n x t d at e =
    let (v, is, s) = scalar_is x e in
    (v, reads_leaf items n x (Literal v) t d at (ap root_of is) (ap inputs_of is), s)

-- what is decided

record Drops (a may_drop : Bool) (o : Option Bool) : Type 0 where
  shown : o ≡ Some (not a)
  may : may_drop ≡ true

record Absorbs (a scalar : Bool) (o : Option Bool) : Type 0 where
  shown : o ≡ Some a
  scalar_is : scalar ≡ true

given_is : {A : Type 0} (b : Bool) (x y : A) → given b x ≡ Some y → b ≡ true
given_is true x y e = refl
given_is false x y e = cc

no_absorbed : (b : Bool) → given b Absorbed ≡ Some Other → ⊥
no_absorbed true e = cc
no_absorbed false e = cc

no_other : (b : Bool) → given b Other ≡ Some Absorbed → ⊥
no_other true e = cc
no_other false e = cc

drops : (a m s : Bool) (o : Option Bool) → decided a m s o ≡ Some Other → Drops a m o
drops true m s (Some true) e = absurd (no_absorbed s e)
drops false m s (Some false) e = absurd (no_absorbed s e)
drops true m s (Some false) e = record { shown = refl; may = given_is m Other Other e }
drops false m s (Some true) e = record { shown = refl; may = given_is m Other Other e }
drops true m s None e = cc
drops false m s None e = cc

absorbs : (a m s : Bool) (o : Option Bool) → decided a m s o ≡ Some Absorbed → Absorbs a s o
absorbs true m s (Some true) e = record { shown = refl; scalar_is = given_is s Absorbed Absorbed e }
absorbs false m s (Some false) e = record { shown = refl; scalar_is = given_is s Absorbed Absorbed e }
absorbs true m s (Some false) e = absurd (no_other m e)
absorbs false m s (Some true) e = absurd (no_other m e)
absorbs true m s None e = cc
absorbs false m s None e = cc

filters : (context : Context) → in_filter context ≡ true → context ≡ Filter
filters Filter e = refl
filters _ e = cc

-- what the left sides show

record Left (context : Context) (t : Tree) : Type 0 where
  o : Operator
  u : Tree
  v : Tree
  a : Bool
  whole : t ≡ binary o u v
  absorbing_is : absorbing o ≡ Some a
  decides :
      decided a true (scalar_root (root_of_tree u)) (boolean_root (root_of_tree v)) ≡ None →
      decided a (in_filter context) (scalar_root (root_of_tree v)) (boolean_root (root_of_tree u)) ≡ None → ⊥

decides_in_filter : (context : Context) → context ≡ Filter → given (in_filter context) Other ≡ None → ⊥
decides_in_filter context f e = let g : given (in_filter Filter) Other ≡ None = subst (λ (z : Context). given (in_filter z) Other ≡ None) f e in cc

decides_scalar : (v : LiteralValue) → is_scalar v ≡ true → given (is_scalar v) Absorbed ≡ None → ⊥
decides_scalar v s e = let g : given true Absorbed ≡ None = subst (λ (z : Bool). given z Absorbed ≡ None) s e in cc

no_given : given true Other ≡ None → ⊥
no_given e = cc

left_of : (c : Catalog) (context : Context) (t t' : Tree) (n : RewriteName) (l : Rewrites c context n t t') → group_of n ≡ boolean_operands → Left context t
left_of c context _ _ _ (C1 {x} f) e = record { o = op.And; u = truth true; v = x; a = false; whole = refl; absorbing_is = refl; decides = λ h g. decides_in_filter context f g }
left_of c context _ _ _ (C2 {x}) e = record { o = op.And; u = x; v = truth true; a = false; whole = refl; absorbing_is = refl; decides = λ h g. no_given h }
left_of c context _ _ _ (C3 {v} s) e = record { o = op.And; u = literal v; v = truth false; a = false; whole = refl; absorbing_is = refl; decides = λ h g. decides_scalar v s h }
left_of c context _ _ _ (C4 {v} s) e = record { o = op.And; u = truth false; v = literal v; a = false; whole = refl; absorbing_is = refl; decides = λ h g. decides_scalar v s g }
left_of c context _ _ _ (C5 {x} f) e = record { o = op.Or; u = truth false; v = x; a = true; whole = refl; absorbing_is = refl; decides = λ h g. decides_in_filter context f g }
left_of c context _ _ _ (C6 {x}) e = record { o = op.Or; u = x; v = truth false; a = true; whole = refl; absorbing_is = refl; decides = λ h g. no_given h }
left_of c context _ _ _ (C7 {v} s) e = record { o = op.Or; u = literal v; v = truth true; a = true; whole = refl; absorbing_is = refl; decides = λ h g. decides_scalar v s h }
left_of c context _ _ _ (C8 {v} s) e = record { o = op.Or; u = truth true; v = literal v; a = true; whole = refl; absorbing_is = refl; decides = λ h g. decides_scalar v s g }
left_of c context _ _ _ (C9 p q) e = cc
left_of c context _ _ _ (C10 p q r) e = cc
left_of c context _ _ _ (C11 p q r s) e = cc
left_of c context _ _ _ (C12 p q r) e = cc
left_of c context _ _ _ (C13 p) e = cc
left_of c context _ _ _ (C14 p) e = cc
left_of c context _ _ _ (C15 p) e = cc
left_of c context _ _ _ C16 e = cc
left_of c context _ _ _ C17 e = cc
left_of c context _ _ _ C18 e = cc
left_of c context _ _ _ C19 e = cc
left_of c context _ _ _ C20 e = cc
left_of c context _ _ _ C21 e = cc
left_of c context _ _ _ C22 e = cc
left_of c context _ _ _ C23 e = cc
left_of c context _ _ _ C24 e = cc
left_of c context _ _ _ C25 e = cc
left_of c context _ _ _ (C26 p) e = cc
left_of c context _ _ _ (C27 p q) e = cc
left_of c context _ _ _ (C28 p) e = cc
left_of c context _ _ _ (C29 p q) e = cc

module _ (c : Catalog) (context : Context) where
  abbrev pub BooleanOperandRewrite : Tree → Tree → Type 0
  BooleanOperandRewrite = IsRewriteIn boolean_operands c context

  -- rewrites

  right_dropped : (o : Operator) (a : Bool) (x : Tree) → absorbing o ≡ Some a → RewriteIn boolean_operands c context (binary o x (truth (not a))) x
  right_dropped op.And a x e =
      let same : false ≡ a = cc in
      subst (λ (z : Bool). RewriteIn boolean_operands c context (binary op.And x (truth (not z))) x) same (record { by = named.C2; rewrites = C2 {x = x}; of_group = refl })
  right_dropped op.Or a x e =
      let same : true ≡ a = cc in
      subst (λ (z : Bool). RewriteIn boolean_operands c context (binary op.Or x (truth (not z))) x) same (record { by = named.C6; rewrites = C6 {x = x}; of_group = refl })
  right_dropped _ a x e = cc

  right_absorbs : (o : Operator) (a : Bool) (v : LiteralValue) → absorbing o ≡ Some a → is_scalar v ≡ true → RewriteIn boolean_operands c context (binary o (literal v) (truth a)) (truth a)
  right_absorbs op.And a v e s =
      let same : false ≡ a = cc in
      subst (λ (z : Bool). RewriteIn boolean_operands c context (binary op.And (literal v) (truth z)) (truth z)) same (record { by = named.C3; rewrites = C3 {v = v} s; of_group = refl })
  right_absorbs op.Or a v e s =
      let same : true ≡ a = cc in
      subst (λ (z : Bool). RewriteIn boolean_operands c context (binary op.Or (literal v) (truth z)) (truth z)) same (record { by = named.C7; rewrites = C7 {v = v} s; of_group = refl })
  right_absorbs _ a v e s = cc

  left_dropped : (o : Operator) (a : Bool) (x : Tree) → absorbing o ≡ Some a → context ≡ Filter → RewriteIn boolean_operands c context (binary o (truth (not a)) x) x
  left_dropped op.And a x e f =
      let same : false ≡ a = cc in
      subst (λ (z : Bool). RewriteIn boolean_operands c context (binary op.And (truth (not z)) x) x) same (record { by = named.C1; rewrites = C1 {x = x} f; of_group = refl })
  left_dropped op.Or a x e f =
      let same : true ≡ a = cc in
      subst (λ (z : Bool). RewriteIn boolean_operands c context (binary op.Or (truth (not z)) x) x) same (record { by = named.C5; rewrites = C5 {x = x} f; of_group = refl })
  left_dropped _ a x e f = cc

  left_absorbs : (o : Operator) (a : Bool) (v : LiteralValue) → absorbing o ≡ Some a → is_scalar v ≡ true → RewriteIn boolean_operands c context (binary o (truth a) (literal v)) (truth a)
  left_absorbs op.And a v e s =
      let same : false ≡ a = cc in
      subst (λ (z : Bool). RewriteIn boolean_operands c context (binary op.And (truth z) (literal v)) (truth z)) same (record { by = named.C4; rewrites = C4 {v = v} s; of_group = refl })
  left_absorbs op.Or a v e s =
      let same : true ≡ a = cc in
      subst (λ (z : Bool). RewriteIn boolean_operands c context (binary op.Or (truth z) (literal v)) (truth z)) same (record { by = named.C8; rewrites = C8 {v = v} s; of_group = refl })
  left_absorbs _ a v e s = cc

  -- the place holds an operator over two places
  pub record Operands (items : List AExpr) (n : ℕ) (x y z : AExpr) (p : BinaryParts) : Type 0 where
    pub t : Tree
    pub denotes : Denotes items n t
    pub checked : IsChecked c t
    pub at : slice_get items n ≡ Some x
    pub read : ReadsBinary items x p t
    pub at_left : slice_get items p.left.0 ≡ Some y
    pub at_right : slice_get items p.right.0 ≡ Some z

  pub operands :
      (items : List AExpr) (n : ℕ) (x y z : AExpr) (p : BinaryParts) → IsCheckedAt c items n → slice_get items n ≡ Some x → binary_of x ≡ Some p →
      slice_get items p.left.0 ≡ Some y → slice_get items p.right.0 ≡ Some z → Operands items n x y z p
  operands items n x y z p (t, d, ok) at is at2 at3 = record { t = t; denotes = d; checked = ok; at = at; read = reads_binary items n x p t d at is; at_left = at2; at_right = at3 }

  pub operands_within :
      (items : List AExpr) (n : ℕ) (x : AExpr) (p : BinaryParts) → IsCheckedAt c items n → slice_get items n ≡ Some x → binary_of x ≡ Some p →
      (t : Tree) × (u : Tree) × Denotes items p.left.0 t × Denotes items p.right.0 u
  operands_within items n x p (t, d, ok) at is = let r = reads_binary items n x p t d at is in (r.left, r.right, r.of_left, r.of_right)

  -- no rewrite

  pub no_binary : (items : List AExpr) (n : ℕ) (x : AExpr) → slice_get items n ≡ Some x → binary_of x ≡ None → Offers BooleanOperandRewrite items items n None
  no_binary items n x at e t d t' rewrite =
      let l = left_of c context t t' rewrite.rewrite.by rewrite.rewrite.rewrites rewrite.of_group in
      let (p, f, same, du, dv) = shows_binary items n x l.o l.u l.v (subst (λ (z : Tree). Denotes items n z) l.whole d) at in
      cc

  pub no_absorbing : (items : List AExpr) (n : ℕ) (x : AExpr) (p : BinaryParts) → slice_get items n ≡ Some x → binary_of x ≡ Some p → absorbing p.op ≡ None → Offers BooleanOperandRewrite items items n None
  no_absorbing items n x p at is e t d t' rewrite =
      let l = left_of c context t t' rewrite.rewrite.by rewrite.rewrite.rewrites rewrite.of_group in
      let (q, f, same, du, dv) = shows_binary items n x l.o l.u l.v (subst (λ (z : Tree). Denotes items n z) l.whole d) at in
      let one : p ≡ q = same_Some p q (sym is ∙ f) in
      let some : absorbing p.op ≡ Some l.a = ap (λ (z : BinaryParts). absorbing z.op) one ∙ ap absorbing same ∙ l.absorbing_is in
      cc

  pub nothing_decided :
      (items : List AExpr) (n : ℕ) (x y z : AExpr) (p : BinaryParts) (a : Bool) → slice_get items n ≡ Some x → binary_of x ≡ Some p → slice_get items p.left.0 ≡ Some y → slice_get items p.right.0 ≡ Some z →
      absorbing p.op ≡ Some a → decided a true (is_scalar_literal y) (boolean_literal_of z) ≡ None → decided a (in_filter context) (is_scalar_literal z) (boolean_literal_of y) ≡ None → Offers BooleanOperandRewrite items items n None
  nothing_decided items n x y z p a at is at2 at3 abs right left t d t' rewrite =
      let l = left_of c context t t' rewrite.rewrite.by rewrite.rewrite.rewrites rewrite.of_group in
      let (q, f, same, du, dv) = shows_binary items n x l.o l.u l.v (subst (λ (w : Tree). Denotes items n w) l.whole d) at in
      let one : q ≡ p = same_Some q p (sym f ∙ is) in
      let du2 : Denotes items p.left.0 l.u = subst (λ (w : BinaryParts). Denotes items w.left.0 l.u) one du in
      let dv2 : Denotes items p.right.0 l.v = subst (λ (w : BinaryParts). Denotes items w.right.0 l.v) one dv in
      let some : absorbing p.op ≡ Some l.a = ap (λ (w : BinaryParts). absorbing w.op) (sym one) ∙ ap absorbing same ∙ l.absorbing_is in
      let sa : l.a ≡ a = same_Some l.a a (sym some ∙ abs) in
      let ty = seen_boolean items p.left.0 y l.u du2 at2 in
      let tz = seen_boolean items p.right.0 z l.v dv2 at3 in
      let sy = seen_scalar items p.left.0 y l.u du2 at2 in
      let sz = seen_scalar items p.right.0 z l.v dv2 at3 in
      l.decides (rw (sa, sym sy, sym tz) right) (rw (sa, sym sz, sym ty) left)

  -- rewrites

  pub offer_left :
      (items : List AExpr) (n : ℕ) (x y z e : AExpr) (p : BinaryParts) (a s : Bool) → Operands items n x y z p →
      absorbing p.op ≡ Some a → decided a true s (boolean_literal_of z) ≡ Some Other → slice_get items p.left.0 ≡ Some e → Offers BooleanOperandRewrite items items n (Some e)
  offer_left items n x y z e p a s k abs dec at =
      let h = drops a true s (boolean_literal_of z) dec in
      let r = k.read in
      let right_is : r.right ≡ truth (not a) = reads_boolean items p.right.0 z (not a) r.right r.of_right k.at_right h.shown in
      let same : k.t ≡ binary p.op r.left (truth (not a)) = r.whole ∙ ap (λ (w : Tree). binary p.op r.left w) right_is in (
        k.t,
        r.left,
        k.denotes,
        is_rewrite_of boolean_operands c context k.t (binary p.op r.left (truth (not a))) r.left same (right_dropped p.op a r.left abs) k.checked,
        copy_fits items n p.left.0 p.left.0 k.t r.left x e k.denotes k.at r.left_in here r.of_left at,
      )

  pub offer_right :
      (items : List AExpr) (n : ℕ) (x y z e : AExpr) (p : BinaryParts) (a s : Bool) → Operands items n x y z p →
      absorbing p.op ≡ Some a → decided a (in_filter context) s (boolean_literal_of y) ≡ Some Other → slice_get items p.right.0 ≡ Some e → Offers BooleanOperandRewrite items items n (Some e)
  offer_right items n x y z e p a s k abs dec at =
      let h = drops a (in_filter context) s (boolean_literal_of y) dec in
      let r = k.read in
      let left_is : r.left ≡ truth (not a) = reads_boolean items p.left.0 y (not a) r.left r.of_left k.at_left h.shown in
      let same : k.t ≡ binary p.op (truth (not a)) r.right = r.whole ∙ ap (λ (w : Tree). binary p.op w r.right) left_is in (
        k.t,
        r.right,
        k.denotes,
        is_rewrite_of boolean_operands c context k.t (binary p.op (truth (not a)) r.right) r.right same (left_dropped p.op a r.right abs (filters context h.may)) k.checked,
        copy_fits items n p.right.0 p.right.0 k.t r.right x e k.denotes k.at r.right_in here r.of_right at,
      )

  boolean_fits : (items : List AExpr) (n : ℕ) (a : Bool) → Fits items n (ir.Literal (lit.Boolean a)) (truth a)
  boolean_fits items n a = record { denotes = (Literal (lit.Boolean a), none, refl, refl, tt); apart = λ m i. elim i [ ] }

  pub offer_absorbed_right :
      (items : List AExpr) (n : ℕ) (x y z : AExpr) (p : BinaryParts) (a : Bool) → Operands items n x y z p →
      absorbing p.op ≡ Some a → decided a true (is_scalar_literal y) (boolean_literal_of z) ≡ Some Absorbed → Offers BooleanOperandRewrite items items n (Some (ir.Literal (lit.Boolean a)))
  offer_absorbed_right items n x y z p a k abs dec =
      let h = absorbs a true (is_scalar_literal y) (boolean_literal_of z) dec in
      let r = k.read in
      let right_is : r.right ≡ truth a = reads_boolean items p.right.0 z a r.right r.of_right k.at_right h.shown in
      let (v, left_is, s) = reads_scalar items p.left.0 y r.left r.of_left k.at_left h.scalar_is in
      let same : k.t ≡ binary p.op (literal v) (truth a) = r.whole ∙ ap (λ (w : Tree). binary p.op r.left w) right_is ∙ ap (λ (w : Tree). binary p.op w (truth a)) left_is in
      (k.t, truth a, k.denotes, is_rewrite_of boolean_operands c context k.t (binary p.op (literal v) (truth a)) (truth a) same (right_absorbs p.op a v abs s) k.checked, boolean_fits items n a)

  pub offer_absorbed_left :
      (items : List AExpr) (n : ℕ) (x y z : AExpr) (p : BinaryParts) (a m : Bool) → Operands items n x y z p →
      absorbing p.op ≡ Some a → decided a m (is_scalar_literal z) (boolean_literal_of y) ≡ Some Absorbed → Offers BooleanOperandRewrite items items n (Some (ir.Literal (lit.Boolean a)))
  offer_absorbed_left items n x y z p a m k abs dec =
      let h = absorbs a m (is_scalar_literal z) (boolean_literal_of y) dec in
      let r = k.read in
      let left_is : r.left ≡ truth a = reads_boolean items p.left.0 y a r.left r.of_left k.at_left h.shown in
      let (v, right_is, s) = reads_scalar items p.right.0 z r.right r.of_right k.at_right h.scalar_is in
      let same : k.t ≡ binary p.op (truth a) (literal v) = r.whole ∙ ap (λ (w : Tree). binary p.op r.left w) right_is ∙ ap (λ (w : Tree). binary p.op w (literal v)) left_is in
      (k.t, truth a, k.denotes, is_rewrite_of boolean_operands c context k.t (binary p.op (truth a) (literal v)) (truth a) same (left_absorbs p.op a v abs s) k.checked, boolean_fits items n a)
