-- How a place shows the left side of a rewrite C26 to C29, and what fits there.
use Rattle.std.proofs.Common.{◌≡◌, ◌≢◌, ℕ, ◌<◌, List, [], ◌∷◌, ◌++◌, length, Bool, true, false, ◌&&◌, Option, Some, None, refl, sym, ◌∙◌, ap, subst, arith}
use Rattle.std.specs.List.{slice_get}
use Rattle.std.proofs.lemmas.Option.{same_Some}
use Rattle.px_types.specs.Classes.{is_integer_value}
use Rattle.px_types.specs.Integers.{IsInteger}
use Rattle.px_functions.specs.declared.evaluated.EvaluatedFunction.TheVariants as function
use Rattle.px_types.specs.declared.function.FusedOperator.TheVariants.{MultiplyAdd, SubMultiply, MultiplySub}
use Rattle.px_types.specs.declared.operator.Operator.{Operator}
use Rattle.px_types.specs.declared.operator.Operator.TheVariants as op
use Rattle.px_types.specs.declared.value_type.ValueType.{ValueType}
use Rattle.px_types.specs.declared.value_type.ValueType.TheVariants as value_type
use Rattle.px_expr.specs.declared.context.Context.{Context}
use Rattle.px_expr.specs.Tree.{Node as Root, Alias, Function, Binary, Tree, tree, Trees, none, more, over}
use Rattle.px_meaning.specs.Check.{IsChecked}
use Rattle.px_meaning.specs.Names.{name}
use Rattle.px_meaning.specs.declared.rewrite.RewriteName.TheVariants as by_name
use Rattle.px_meaning.specs.declared.rewrite.RewriteName.{RewriteName}
use Rattle.px_meaning.specs.Rewrites.{Rewrites, C1, C2, C3, C4, C5, C6, C7, C8, C9, C10, C11, C12, C13, C14, C15, C16, C17, C18, C19, C20, C21, C22, C23, C24, C25, C26, C27, C28, C29, binary, fused_tree, is_product, MayFuse}
use Rattle.px_expr.specs.Plan.{Catalog}
use Rattle.px_meaning.specs.Signatures.{group_type, group_of as operator_group, Arithmetic, given}
use Rattle.px_meaning.proofs.Nodes.{binary-has}
use Rattle.px_meaning.proofs.Typing.{Has-HasType, HasType-Has}
use Rattle.px_arena.specs.declared.node.AExpr.{AExpr}
use Rattle.px_arena.specs.declared.node.AExpr.TheVariants as ir
use Rattle.px_arena.specs.declared.node.Node.{Node}
use Rattle.px_arena.specs.Denotes.{root_of, inputs_of, Denotes, IsIn, first, later, Reaches, here, below, IsGrown}
use Rattle.px_arena.specs.Runs.{Offers}
use Rattle.px_arena.proofs.Measure.{denoted_within}
use Rattle.px_arena.proofs.Reading.{apart_below}
use Rattle.px_arena.proofs.Replaces.{get_added, grown_by_one}
use Rattle.px_arena.proofs.Runs.{grown_denotes}
use Rattle.px_rules.specs.declared.fused.Fusion.{Fusion}
use Rattle.px_rules.specs.declared.views.BinaryParts.{BinaryParts}
use Rattle.px_rules.specs.Fusion.{is_literal_free, if_product, option_product, product_of, fused_by, fused_call}
use Rattle.px_rules.specs.Groups.{group_of, fused_products, IsRewriteIn}
use Rattle.px_rules.specs.Plan.{IsCheckedAt}
use Rattle.px_rules.specs.Views.{binary_of}
use Rattle.px_rules.proofs.FunctionNodes.{at_function}
use Rattle.px_rules.proofs.LiteralFree.{and_parts, free_is, is_free_of}
use Rattle.px_rules.proofs.Parts.{RewriteIn, is_rewrite_of}
use Rattle.px_rules.proofs.Shows.{ReadsBinary, reads_binary, shows_binary}

-- products

kept_product : (o : Operator) (p q : BinaryParts) → if_product o p ≡ Some q → (p ≡ q) × (o ≡ op.Multiply)
kept_product op.Multiply p q e = (same_Some p q e, refl)
kept_product _ p q e = cc

product_is : (x : AExpr) (p : BinaryParts) → product_of x ≡ Some p → (binary_of x ≡ Some p) × (p.op ≡ op.Multiply)
product_is x p e = go (binary_of x) refl e
  where
    go : (o : Option BinaryParts) → binary_of x ≡ o → option_product o ≡ Some p → (binary_of x ≡ Some p) × (p.op ≡ op.Multiply)
    go None f h = cc
    go (Some q) f h = let (same, is) = kept_product q.op q p h in (f ∙ ap Some same, sym (ap (λ (z : BinaryParts). z.op) same) ∙ is)

-- the tree that a place denotes, with the operands of a product
record ReadsProduct (items : List AExpr) (x : AExpr) (p : BinaryParts) (t : Tree) : Type 0 where
  left : Tree
  right : Tree
  whole : t ≡ binary op.Multiply left right
  of_left : Denotes items p.left.0 left
  of_right : Denotes items p.right.0 right
  left_in : IsIn p.left.0 (inputs_of x)
  right_in : IsIn p.right.0 (inputs_of x)

reads_product : (items : List AExpr) (n : ℕ) (x : AExpr) (p : BinaryParts) (t : Tree) → Denotes items n t → slice_get items n ≡ Some x → product_of x ≡ Some p → ReadsProduct items x p t
reads_product items n x p t d at e =
    let (is, o) = product_is x p e in
    let r = reads_binary items n x p t d at is in
    record { left = r.left; right = r.right; whole = r.whole ∙ ap (λ (q : Operator). binary q r.left r.right) o; of_left = r.of_left; of_right = r.of_right; left_in = r.left_in; right_in = r.right_in }

shows_product : (items : List AExpr) (n : ℕ) (x : AExpr) (a b : Tree) → Denotes items n (binary op.Multiply a b) → slice_get items n ≡ Some x → (p : BinaryParts) × (product_of x ≡ Some p)
shows_product items n x a b d at =
    let (p, is, o, da, db) = shows_binary items n x op.Multiply a b d at in
    (p, ap option_product is ∙ ap (λ (q : Operator). if_product q p) o)

abbrev product_root : Root → Bool
product_root (Binary op.Multiply) = true
product_root _ = false

is_product_root : (k : Root) (us : Trees) → is_product (tree k us) ≡ product_root k
is_product_root (Binary op.Multiply) us = refl
is_product_root (Binary o) us = refl
is_product_root k us = refl

no_product_root : (x : AExpr) → product_of x ≡ None → product_root (root_of x) ≡ false
no_product_root (ir.BinaryExpr l op.Multiply r) e = cc
no_product_root (ir.BinaryExpr l o r) e = refl
no_product_root (ir.Function input f own) e = at_function product_root false (λ g. refl) (λ g. refl) f
no_product_root _ e = refl

no_product : (items : List AExpr) (n : ℕ) (x : AExpr) (t : Tree) → Denotes items n t → slice_get items n ≡ Some x → product_of x ≡ None → is_product t ≡ false
no_product items n x (tree k us) (y, at', root, ins) at e =
    let same : y ≡ x = same_Some y x (sym at' ∙ at) in
    let k_is : root_of x ≡ k = sym (ap root_of same) ∙ root in
    is_product_root k us ∙ ap product_root (sym k_is) ∙ no_product_root x e

product_none : (items : List AExpr) (n : ℕ) (x : AExpr) (t : Tree) → Denotes items n t → slice_get items n ≡ Some x → is_product t ≡ false → product_of x ≡ None
product_none items n x t d at e = go (product_of x) refl
  where
    go : (o : Option BinaryParts) → product_of x ≡ o → product_of x ≡ None
    go None f = f
    go (Some p) f =
        let r = reads_product items n x p t d at f in
        let yes : is_product t ≡ true = ap is_product r.whole in
        cc

-- operands of a checked sum or difference are integers

is_integer : (k : ValueType) → is_integer_value k ≡ true → IsInteger k
is_integer value_type.UInt8 e = tt
is_integer value_type.UInt16 e = tt
is_integer value_type.UInt32 e = tt
is_integer value_type.UInt64 e = tt
is_integer value_type.Int8 e = tt
is_integer value_type.Int16 e = tt
is_integer value_type.Int32 e = tt
is_integer value_type.Int64 e = tt
is_integer _ e = cc

given_integer : (b : Bool) (j k : ValueType) → given b j ≡ Some k → b ≡ true
given_integer true j k e = refl
given_integer false j k e = cc

may_fuse : (c : Catalog) (o : Operator) (a b : Tree) → operator_group o ≡ Arithmetic → IsChecked c (binary o a b) → is_literal_free a ≡ true → is_literal_free b ≡ true → MayFuse c a b
may_fuse c o a b arithmetic (k, h) fa fb =
    let ops = binary-has c o a b k (HasType-Has c (binary o a b) k h) in
    let gives : given (is_integer_value ops.value_type) ops.value_type ≡ Some k = sym (ap (λ g. group_type g ops.value_type) arithmetic) ∙ ops.gives in
    let int = is_integer ops.value_type (given_integer (is_integer_value ops.value_type) ops.value_type k gives) in
    record {
      left_integer = (ops.value_type, Has-HasType c a ops.value_type ops.left, int);
      right_integer = (ops.value_type, Has-HasType c b ops.value_type ops.right, int);
      left_free = free_is a fa;
      right_free = free_is b fb;
    }

-- the left side of a rewrite C26 to C29
data FusedLeft : Operator → Tree → Tree → Type 0 where
  sum_left : {x y : Tree} {z : Tree} → FusedLeft op.Plus (binary op.Multiply x y) z
  sum_right : {x : Tree} {y z : Tree} → FusedLeft op.Plus x (binary op.Multiply y z)
  difference_right : {x : Tree} {y z : Tree} → FusedLeft op.Minus x (binary op.Multiply y z)
  difference_left : {x y : Tree} {z : Tree} → FusedLeft op.Minus (binary op.Multiply x y) z

record Left (t : Tree) : Type 0 where
  o : Operator
  u : Tree
  v : Tree
  whole : t ≡ binary o u v
  free_left : is_literal_free u ≡ true
  free_right : is_literal_free v ≡ true
  shape : FusedLeft o u v

left_of : (c : Catalog) (context : Context) (t t' : Tree) (n : RewriteName) (l : Rewrites c context n t t') → group_of n ≡ fused_products → Left t
left_of c context _ _ _ (C1 p) e = cc
left_of c context _ _ _ C2 e = cc
left_of c context _ _ _ (C3 p) e = cc
left_of c context _ _ _ (C4 p) e = cc
left_of c context _ _ _ (C5 p) e = cc
left_of c context _ _ _ C6 e = cc
left_of c context _ _ _ (C7 p) e = cc
left_of c context _ _ _ (C8 p) e = cc
left_of c context _ _ _ (C9 p q) e = cc
left_of c context _ _ _ (C10 p q r) e = cc
left_of c context _ _ _ (C11 p q r s) e = cc
left_of c context _ _ _ (C12 p q r) e = cc
left_of c context _ _ _ (C13 p) e = cc
left_of c context _ _ _ (C14 p) e = cc
left_of c context _ _ _ (C15 p) e = cc
left_of c context _ _ _ C16 e = cc
left_of c context _ _ _ C17 e = cc
left_of c context _ _ _ C18 e = cc
left_of c context _ _ _ C19 e = cc
left_of c context _ _ _ C20 e = cc
left_of c context _ _ _ C21 e = cc
left_of c context _ _ _ C22 e = cc
left_of c context _ _ _ C23 e = cc
left_of c context _ _ _ C24 e = cc
left_of c context _ _ _ C25 e = cc
left_of c context _ _ _ (C26 {x} {y} {z} m) e =
    record { o = op.Plus; u = binary op.Multiply x y; v = z; whole = refl; free_left = is_free_of (binary op.Multiply x y) m.left_free; free_right = is_free_of z m.right_free; shape = sum_left }
left_of c context _ _ _ (C27 {x} {y} {z} m n) e =
    record { o = op.Plus; u = x; v = binary op.Multiply y z; whole = refl; free_left = is_free_of x m.left_free; free_right = is_free_of (binary op.Multiply y z) m.right_free; shape = sum_right }
left_of c context _ _ _ (C28 {x} {y} {z} m) e =
    record { o = op.Minus; u = x; v = binary op.Multiply y z; whole = refl; free_left = is_free_of x m.left_free; free_right = is_free_of (binary op.Multiply y z) m.right_free; shape = difference_right }
left_of c context _ _ _ (C29 {x} {y} {z} m n) e =
    record { o = op.Minus; u = binary op.Multiply x y; v = z; whole = refl; free_left = is_free_of (binary op.Multiply x y) m.left_free; free_right = is_free_of z m.right_free; shape = difference_left }

sum_fuses : (l r : Node) (p q : Option BinaryParts) (b : BinaryParts) → (p ≡ Some b) → fused_by op.Plus l r p q ≡ None → ⊥
sum_fuses l r (Some p) q b e n = cc
sum_fuses l r None q b e n = cc

sum_fuses_right : (l r : Node) (p q : Option BinaryParts) (b : BinaryParts) → (q ≡ Some b) → fused_by op.Plus l r p q ≡ None → ⊥
sum_fuses_right l r (Some p) q b e n = cc
sum_fuses_right l r None (Some q) b e n = cc
sum_fuses_right l r None None b e n = cc

difference_fuses : (l r : Node) (p q : Option BinaryParts) (b : BinaryParts) → (q ≡ Some b) → fused_by op.Minus l r p q ≡ None → ⊥
difference_fuses l r (Some p) (Some q) b e n = cc
difference_fuses l r None (Some q) b e n = cc
difference_fuses l r (Some p) None b e n = cc
difference_fuses l r None None b e n = cc

difference_fuses_left : (l r : Node) (p q : Option BinaryParts) (b : BinaryParts) → (p ≡ Some b) → fused_by op.Minus l r p q ≡ None → ⊥
difference_fuses_left l r (Some p) (Some q) b e n = cc
difference_fuses_left l r (Some p) None b e n = cc
difference_fuses_left l r None q b e n = cc

module _ (c : Catalog) (context : Context) where
  abbrev pub FuseRewrite : Tree → Tree → Type 0
  FuseRewrite = IsRewriteIn fused_products c context

  -- the place holds an operator over two places
  pub record Operands (items : List AExpr) (n : ℕ) (x y z : AExpr) (p : BinaryParts) : Type 0 where
    pub t : Tree
    pub denotes : Denotes items n t
    pub checked : IsChecked c t
    pub at : slice_get items n ≡ Some x
    pub read : ReadsBinary items x p t
    pub at_left : slice_get items p.left.0 ≡ Some y
    pub at_right : slice_get items p.right.0 ≡ Some z

  pub operands :
      (items : List AExpr) (n : ℕ) (x y z : AExpr) (p : BinaryParts) → IsCheckedAt c items n → slice_get items n ≡ Some x → binary_of x ≡ Some p →
      slice_get items p.left.0 ≡ Some y → slice_get items p.right.0 ≡ Some z → Operands items n x y z p
  operands items n x y z p (t, d, ok) at is at2 at3 = record { t = t; denotes = d; checked = ok; at = at; read = reads_binary items n x p t d at is; at_left = at2; at_right = at3 }

  pub left_denotes : (items : List AExpr) (n : ℕ) (x : AExpr) (p : BinaryParts) → IsCheckedAt c items n → slice_get items n ≡ Some x → binary_of x ≡ Some p → (t : Tree) × Denotes items p.left.0 t
  left_denotes items n x p (t, d, ok) at is = let r = reads_binary items n x p t d at is in (r.left, r.of_left)

  pub right_denotes : (items : List AExpr) (n : ℕ) (x : AExpr) (p : BinaryParts) → IsCheckedAt c items n → slice_get items n ≡ Some x → binary_of x ≡ Some p → (t : Tree) × Denotes items p.right.0 t
  right_denotes items n x p (t, d, ok) at is = let r = reads_binary items n x p t d at is in (r.right, r.of_right)

  -- no rewrite

  pub no_binary : (items : List AExpr) (n : ℕ) (x : AExpr) → slice_get items n ≡ Some x → binary_of x ≡ None → Offers FuseRewrite items items n None
  no_binary items n x at e t d t' rewrite =
      let l = left_of c context t t' rewrite.rewrite.by rewrite.rewrite.rewrites rewrite.of_group in
      let (p, f, same, du, dv) = shows_binary items n x l.o l.u l.v (subst (λ (z : Tree). Denotes items n z) l.whole d) at in
      cc

  pub not_free :
      (items : List AExpr) (n : ℕ) (x : AExpr) (p : BinaryParts) → slice_get items n ≡ Some x → binary_of x ≡ Some p →
      ((u v : Tree) → Denotes items p.left.0 u → Denotes items p.right.0 v → false ≡ (is_literal_free u && is_literal_free v)) → Offers FuseRewrite items items n None
  not_free items n x p at is bound t d t' rewrite =
      let l = left_of c context t t' rewrite.rewrite.by rewrite.rewrite.rewrites rewrite.of_group in
      let (q, f, same, du, dv) = shows_binary items n x l.o l.u l.v (subst (λ (z : Tree). Denotes items n z) l.whole d) at in
      let one : q ≡ p = same_Some q p (sym f ∙ is) in
      let no : false ≡ (is_literal_free l.u && is_literal_free l.v) =
      bound l.u l.v (subst (λ (z : BinaryParts). Denotes items z.left.0 l.u) one du) (subst (λ (z : BinaryParts). Denotes items z.right.0 l.v) one dv) in
      let yes : (is_literal_free l.u && is_literal_free l.v) ≡ true = rw (l.free_left, l.free_right) refl in
      cc

  pub no_fusion :
      (items : List AExpr) (n : ℕ) (x y z : AExpr) (p : BinaryParts) → slice_get items n ≡ Some x → binary_of x ≡ Some p → slice_get items p.left.0 ≡ Some y → slice_get items p.right.0 ≡ Some z →
      fused_by p.op p.left p.right (product_of y) (product_of z) ≡ None → Offers FuseRewrite items items n None
  no_fusion items n x y z p at is at2 at3 none_ t d t' rewrite =
      let l = left_of c context t t' rewrite.rewrite.by rewrite.rewrite.rewrites rewrite.of_group in
      let (q, f, same, du, dv) = shows_binary items n x l.o l.u l.v (subst (λ (w : Tree). Denotes items n w) l.whole d) at in
      let one : q ≡ p = same_Some q p (sym f ∙ is) in
      let o_is : p.op ≡ l.o = sym (ap (λ (b : BinaryParts). b.op) one) ∙ same in
      go l.o l.u l.v l.shape (subst (λ (w : BinaryParts). Denotes items w.left.0 l.u) one du) (subst (λ (w : BinaryParts). Denotes items w.right.0 l.v) one dv)
      (subst (λ (w : Operator). fused_by w p.left p.right (product_of y) (product_of z) ≡ None) o_is none_)
    where
      go : (o : Operator) (u v : Tree) → FusedLeft o u v → Denotes items p.left.0 u → Denotes items p.right.0 v → fused_by o p.left p.right (product_of y) (product_of z) ≡ None → ⊥
      go _ _ _ (sum_left {x = a} {y = b}) du dv n = let (q, is_) = shows_product items p.left.0 y a b du at2 in sum_fuses p.left p.right (product_of y) (product_of z) q is_ n
      go _ _ _ (sum_right {y = a} {z = b}) du dv n = let (q, is_) = shows_product items p.right.0 z a b dv at3 in sum_fuses_right p.left p.right (product_of y) (product_of z) q is_ n
      go _ _ _ (difference_right {y = a} {z = b}) du dv n = let (q, is_) = shows_product items p.right.0 z a b dv at3 in difference_fuses p.left p.right (product_of y) (product_of z) q is_ n
      go _ _ _ (difference_left {x = a} {y = b}) du dv n = let (q, is_) = shows_product items p.left.0 y a b du at2 in difference_fuses_left p.left p.right (product_of y) (product_of z) q is_ n

  -- how it fuses

  data Shape (l r : Node) (p q : Option BinaryParts) : Operator → Fusion → Type 0 where
    named_sum : (b : BinaryParts) → p ≡ Some b → Shape l r p q op.Plus (record { operator = MultiplyAdd; first = r; second = b.left; third = b.right; is_named = true })
    plain_sum : (b : BinaryParts) → p ≡ None → q ≡ Some b → Shape l r p q op.Plus (record { operator = MultiplyAdd; first = l; second = b.left; third = b.right; is_named = false })
    less_product : (b : BinaryParts) → q ≡ Some b → Shape l r p q op.Minus (record { operator = SubMultiply; first = l; second = b.left; third = b.right; is_named = false })
    product_less : (b : BinaryParts) → p ≡ Some b → q ≡ None → Shape l r p q op.Minus (record { operator = MultiplySub; first = b.left; second = b.right; third = r; is_named = false })

  shape_of : (o : Operator) (l r : Node) (p q : Option BinaryParts) (f : Fusion) → fused_by o l r p q ≡ Some f → Shape l r p q o f
  shape_of op.Plus l r (Some b) q f e = subst (λ (z : Fusion). Shape l r (Some b) q op.Plus z) (same_Some _ f e) (named_sum b refl)
  shape_of op.Plus l r None (Some b) f e = subst (λ (z : Fusion). Shape l r None (Some b) op.Plus z) (same_Some _ f e) (plain_sum b refl refl)
  shape_of op.Plus l r None None f e = cc
  shape_of op.Minus l r (Some a) (Some b) f e = subst (λ (z : Fusion). Shape l r (Some a) (Some b) op.Minus z) (same_Some _ f e) (less_product b refl)
  shape_of op.Minus l r None (Some b) f e = subst (λ (z : Fusion). Shape l r None (Some b) op.Minus z) (same_Some _ f e) (less_product b refl)
  shape_of op.Minus l r (Some b) None f e = subst (λ (z : Fusion). Shape l r (Some b) None op.Minus z) (same_Some _ f e) (product_less b refl refl)
  shape_of op.Minus l r None None f e = cc
  shape_of _ l r p q f e = cc

  -- a place below an input
  record IsUnder (items : List AExpr) (x : AExpr) (m : ℕ) : Type 0 where
    input : ℕ
    is_in : IsIn input (inputs_of x)
    reaches : Reaches items input m

  all_three : (items : List AExpr) (x : AExpr) (a b d m : ℕ) → IsUnder items x a → IsUnder items x b → IsUnder items x d → IsIn m (a ∷ b ∷ d ∷ []) → IsUnder items x m
  all_three items x a b d _ p q r first = p
  all_three items x a b d _ p q r (later first) = q
  all_three items x a b d _ p q r (later (later first)) = r
  all_three items x a b d m p q r (later (later (later i))) = elim i [ ]

  -- a new place whose inputs stand below inputs of n does not reach n
  fresh :
      (items : List AExpr) (n f : ℕ) (t : Tree) (x y : AExpr) → Denotes items n t → slice_get items n ≡ Some x →
      f ≢ n → slice_get items f ≡ Some y → ((m : ℕ) → IsIn m (inputs_of y) → IsUnder items x m) → Reaches items f n → ⊥
  fresh items n _ t x y d at ne aty all here = ne refl
  fresh items n f t x y d at ne aty all (below {m} z atz j r) =
      let e : z ≡ y = same_Some z y (sym atz ∙ aty) in
      let h = all m (subst (λ (w : AExpr). IsIn m (inputs_of w)) e j) in
      apart_below items n h.input m t x d at h.is_in h.reaches r

  answer :
      (items : List AExpr) (n : ℕ) (x : AExpr) (t s u v w : Tree) (f : Fusion) → Denotes items n t → slice_get items n ≡ Some x → IsChecked c t → t ≡ s →
      RewriteIn fused_products c context s (fused_tree f.operator u v w) → Denotes items f.first.0 u → Denotes items f.second.0 v → Denotes items f.third.0 w →
      IsUnder items x f.first.0 → IsUnder items x f.second.0 → IsUnder items x f.third.0 → Offers FuseRewrite items items n (Some (fused_call f))
  answer items n x t s u v w f d at ok same rewritten du dv dw pa pb pd = (
    t,
    fused_tree f.operator u v w,
    d,
    is_rewrite_of fused_products c context t s (fused_tree f.operator u v w) same rewritten ok,
    record {
      denotes = (Function (function.Fused f.operator), more u (more v (more w none)), refl, refl, (du, (dv, (dw, tt))));
      apart = λ m i r. let h = all_three items x f.first.0 f.second.0 f.third.0 m pa pb pd i in apart_below items n h.input m t x d at h.is_in h.reaches r;
    },
  )

  pub offer_plain :
      (items : List AExpr) (n : ℕ) (x y z : AExpr) (p : BinaryParts) (f : Fusion) → Operands items n x y z p →
      ((u v : Tree) → Denotes items p.left.0 u → Denotes items p.right.0 v → true ≡ (is_literal_free u && is_literal_free v)) →
      fused_by p.op p.left p.right (product_of y) (product_of z) ≡ Some f → f.is_named ≡ false → Offers FuseRewrite items items n (Some (fused_call f))
  offer_plain items n x y z p f k free e plain = go p.op f (shape_of p.op p.left p.right (product_of y) (product_of z) f e) refl plain
    where
      here_left : IsUnder items x p.left.0
      here_left = record { input = p.left.0; is_in = k.read.left_in; reaches = here }

      here_right : IsUnder items x p.right.0
      here_right = record { input = p.right.0; is_in = k.read.right_in; reaches = here }

      in_left : (m : ℕ) → IsIn m (inputs_of y) → IsUnder items x m
      in_left m i = record { input = p.left.0; is_in = k.read.left_in; reaches = below y k.at_left i here }

      in_right : (m : ℕ) → IsIn m (inputs_of z) → IsUnder items x m
      in_right m i = record { input = p.right.0; is_in = k.read.right_in; reaches = below z k.at_right i here }

      are_free : (is_literal_free k.read.left ≡ true) × (is_literal_free k.read.right ≡ true)
      are_free = and_parts (is_literal_free k.read.left) (is_literal_free k.read.right) (sym (free k.read.left k.read.right k.read.of_left k.read.of_right))

      is_left : is_literal_free k.read.left ≡ true
      is_left = are_free.0

      is_right : is_literal_free k.read.right ≡ true
      is_right = are_free.1

      go : (o : Operator) (g : Fusion) → Shape p.left p.right (product_of y) (product_of z) o g → p.op ≡ o → g.is_named ≡ false → Offers FuseRewrite items items n (Some (fused_call g))
      go _ _ (named_sum b s) o h = cc
      go _ _ (plain_sum b nope s) o h =
          let r = reads_product items p.right.0 z b k.read.right k.read.of_right k.at_right s in
          let t = binary op.Plus k.read.left (binary op.Multiply r.left r.right) in
          let same : k.t ≡ t = k.read.whole ∙ ap (λ (q : Operator). binary q k.read.left k.read.right) o ∙ ap (λ (w : Tree). binary op.Plus k.read.left w) r.whole in
          let may = may_fuse c op.Plus k.read.left (binary op.Multiply r.left r.right) refl (subst (IsChecked c) same k.checked) is_left (sym (ap is_literal_free r.whole) ∙ is_right) in
          answer items n x k.t t k.read.left r.left r.right (record { operator = MultiplyAdd; first = p.left; second = b.left; third = b.right; is_named = false }) k.denotes k.at k.checked same
          (record { by = by_name.C27; rewrites = C27 {x = k.read.left} {y = r.left} {z = r.right} may (no_product items p.left.0 y k.read.left k.read.of_left k.at_left nope); of_group = refl })
          k.read.of_left r.of_left r.of_right here_left (in_right b.left.0 r.left_in) (in_right b.right.0 r.right_in)
      go _ _ (less_product b s) o h =
          let r = reads_product items p.right.0 z b k.read.right k.read.of_right k.at_right s in
          let t = binary op.Minus k.read.left (binary op.Multiply r.left r.right) in
          let same : k.t ≡ t = k.read.whole ∙ ap (λ (q : Operator). binary q k.read.left k.read.right) o ∙ ap (λ (w : Tree). binary op.Minus k.read.left w) r.whole in
          let may = may_fuse c op.Minus k.read.left (binary op.Multiply r.left r.right) refl (subst (IsChecked c) same k.checked) is_left (sym (ap is_literal_free r.whole) ∙ is_right) in
          answer items n x k.t t k.read.left r.left r.right (record { operator = SubMultiply; first = p.left; second = b.left; third = b.right; is_named = false }) k.denotes k.at k.checked same
          (record { by = by_name.C28; rewrites = C28 {x = k.read.left} {y = r.left} {z = r.right} may; of_group = refl })
          k.read.of_left r.of_left r.of_right here_left (in_right b.left.0 r.left_in) (in_right b.right.0 r.right_in)
      go _ _ (product_less b s nope) o h =
          let r = reads_product items p.left.0 y b k.read.left k.read.of_left k.at_left s in
          let t = binary op.Minus (binary op.Multiply r.left r.right) k.read.right in
          let same : k.t ≡ t = k.read.whole ∙ ap (λ (q : Operator). binary q k.read.left k.read.right) o ∙ ap (λ (w : Tree). binary op.Minus w k.read.right) r.whole in
          let may = may_fuse c op.Minus (binary op.Multiply r.left r.right) k.read.right refl (subst (IsChecked c) same k.checked) (sym (ap is_literal_free r.whole) ∙ is_left) is_right in
          answer items n x k.t t r.left r.right k.read.right (record { operator = MultiplySub; first = b.left; second = b.right; third = p.right; is_named = false }) k.denotes k.at k.checked same
          (record { by = by_name.C29; rewrites = C29 {x = r.left} {y = r.right} {z = k.read.right} may (no_product items p.right.0 z k.read.right k.read.of_right k.at_right nope); of_group = refl })
          r.of_left r.of_right k.read.of_right (in_left b.left.0 r.left_in) (in_left b.right.0 r.right_in) here_right

  -- the inputs of the fused node
  pub fused_within :
      (items : List AExpr) (n : ℕ) (x y z : AExpr) (p : BinaryParts) (f : Fusion) → Operands items n x y z p →
      fused_by p.op p.left p.right (product_of y) (product_of z) ≡ Some f → f.is_named ≡ true → (m : ℕ) → IsIn m (inputs_of (fused_call f)) → m < length items
  fused_within items n x y z p f k e named = go p.op f (shape_of p.op p.left p.right (product_of y) (product_of z) f e) named
    where
      go : (o : Operator) (g : Fusion) → Shape p.left p.right (product_of y) (product_of z) o g → g.is_named ≡ true → (m : ℕ) → IsIn m (inputs_of (fused_call g)) → m < length items
      go _ _ (named_sum b s) h _ first = denoted_within items p.right.0 k.read.right k.read.of_right
      go _ _ (named_sum b s) h _ (later first) = let r = reads_product items p.left.0 y b k.read.left k.read.of_left k.at_left s in denoted_within items b.left.0 r.left r.of_left
      go _ _ (named_sum b s) h _ (later (later first)) = let r = reads_product items p.left.0 y b k.read.left k.read.of_left k.at_left s in denoted_within items b.right.0 r.right r.of_right
      go _ _ (named_sum b s) h m (later (later (later i))) = elim i [ ]
      go _ _ (plain_sum b nope s) h m i = cc
      go _ _ (less_product b s) h m i = cc
      go _ _ (product_less b s nope) h m i = cc

  pub offer_named :
      (old new : List AExpr) (n : ℕ) (x y z : AExpr) (p : BinaryParts) (f : Fusion) (place : Node) (label : List ℕ) → Operands old n x y z p →
      ((u v : Tree) → Denotes old p.left.0 u → Denotes old p.right.0 v → true ≡ (is_literal_free u && is_literal_free v)) →
      fused_by p.op p.left p.right (product_of y) (product_of z) ≡ Some f → f.is_named ≡ true → ((u : Tree) → Denotes old p.left.0 u → label ≡ name u) →
      place.0 ≡ length old → new ≡ old ++ fused_call f ∷ [] → Offers FuseRewrite old new n (Some (ir.Alias place label))
  offer_named old new n x y z p f place label k free e named names at_place added =
      go p.op f (shape_of p.op p.left p.right (product_of y) (product_of z) f e) refl named added
    where
      are_free : (is_literal_free k.read.left ≡ true) × (is_literal_free k.read.right ≡ true)
      are_free = and_parts (is_literal_free k.read.left) (is_literal_free k.read.right) (sym (free k.read.left k.read.right k.read.of_left k.read.of_right))

      is_left : is_literal_free k.read.left ≡ true
      is_left = are_free.0

      is_right : is_literal_free k.read.right ≡ true
      is_right = are_free.1

      go : (o : Operator) (g : Fusion) → Shape p.left p.right (product_of y) (product_of z) o g → p.op ≡ o → g.is_named ≡ true → new ≡ old ++ fused_call g ∷ [] → Offers FuseRewrite old new n (Some (ir.Alias place label))
      go _ _ (plain_sum b nope s) o h en = cc
      go _ _ (less_product b s) o h en = cc
      go _ _ (product_less b s nope) o h en = cc
      go _ _ (named_sum b s) o h en =
          let g : Fusion = record { operator = MultiplyAdd; first = p.right; second = b.left; third = b.right; is_named = true } in
          let r = reads_product old p.left.0 y b k.read.left k.read.of_left k.at_left s in
          let t = binary op.Plus (binary op.Multiply r.left r.right) k.read.right in
          let same : k.t ≡ t = k.read.whole ∙ ap (λ (q : Operator). binary q k.read.left k.read.right) o ∙ ap (λ (w : Tree). binary op.Plus w k.read.right) r.whole in
          let may = may_fuse c op.Plus (binary op.Multiply r.left r.right) k.read.right refl (subst (IsChecked c) same k.checked) (sym (ap is_literal_free r.whole) ∙ is_left) is_right in
          let label_is : label ≡ name (binary op.Multiply r.left r.right) = names k.read.left k.read.of_left ∙ ap name r.whole in
          let fused = fused_tree MultiplyAdd k.read.right r.left r.right in
          let rewritten : RewriteIn fused_products c context t (over (Alias label) (fused ∷ [])) =
          subst (λ (q : List ℕ). RewriteIn fused_products c context t (over (Alias q) (fused ∷ []))) (sym label_is) (record { by = by_name.C26; rewrites = C26 {x = r.left} {y = r.right} {z = k.read.right} may; of_group = refl }) in
          let grow : IsGrown old new = subst (λ (q : List AExpr). IsGrown old q) (sym en) (grown_by_one old (fused_call g)) in
          let within : n < length old = denoted_within old n k.t k.denotes in
          let apart_n : place.0 ≢ n = omega arith in
          let atp : slice_get new place.0 ≡ Some (fused_call g) = rw (en, at_place) (get_added old (fused_call g)) in
          let dn : Denotes new n k.t = grown_denotes old new n k.t grow k.denotes in
          let atn : slice_get new n ≡ Some x = grow.at n x tt k.at in
          let aty : slice_get new p.left.0 ≡ Some y = grow.at p.left.0 y tt k.at_left in
          let da : Denotes new p.right.0 k.read.right = grown_denotes old new p.right.0 k.read.right grow k.read.of_right in
          let db : Denotes new b.left.0 r.left = grown_denotes old new b.left.0 r.left grow r.of_left in
          let dd : Denotes new b.right.0 r.right = grown_denotes old new b.right.0 r.right grow r.of_right in
          let ua : IsUnder new x p.right.0 = record { input = p.right.0; is_in = k.read.right_in; reaches = here } in
          let ub : IsUnder new x b.left.0 = record { input = p.left.0; is_in = k.read.left_in; reaches = below y aty r.left_in here } in
          let ud : IsUnder new x b.right.0 = record { input = p.left.0; is_in = k.read.left_in; reaches = below y aty r.right_in here } in (
            k.t,
            over (Alias label) (fused ∷ []),
            k.denotes,
            is_rewrite_of fused_products c context k.t t (over (Alias label) (fused ∷ [])) same rewritten k.checked,
            record {
              denotes = (Alias label, more fused none, refl, refl, ((fused_call g, atp, refl, (da, (db, (dd, tt)))), tt));
              apart = λ m i q. only m i q (far g dn atn apart_n atp ua ub ud);
            },
          )
        where
          far :
              (g : Fusion) → Denotes new n k.t → slice_get new n ≡ Some x → place.0 ≢ n → slice_get new place.0 ≡ Some (fused_call g) →
              IsUnder new x g.first.0 → IsUnder new x g.second.0 → IsUnder new x g.third.0 → Reaches new place.0 n → ⊥
          far g dn atn ne atp ua ub ud q = fresh new n place.0 k.t x (fused_call g) dn atn ne atp (λ m i. all_three new x g.first.0 g.second.0 g.third.0 m ua ub ud i) q

          only : (m : ℕ) → IsIn m (place.0 ∷ []) → Reaches new m n → (Reaches new place.0 n → ⊥) → ⊥
          only _ first q away = away q
          only m (later i) q away = elim i [ ]
