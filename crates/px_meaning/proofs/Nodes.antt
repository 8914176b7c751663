-- Trees by their root: what their inputs' types are, what they mean, their faults and their weights.
use Rattle.std.proofs.Common.{◌≡◌, ◌<◌, ◌+◌, ℕ, List, [], ◌∷◌, Some, None, true, false, refl, subst, arith}
use Rattle.px_base.specs.declared.error.PlanError.{PlanError}
use Rattle.px_types.specs.Classes.{is_boolean_or_integer, is_integer_value}
use Rattle.px_semantics.specs.Rows.{Contents}
use Rattle.px_functions.specs.declared.evaluated.EvaluatedBoolean.TheVariants as boolean
use Rattle.px_functions.specs.declared.evaluated.EvaluatedFunction.{EvaluatedFunction}
use Rattle.px_functions.specs.declared.evaluated.EvaluatedFunction.TheVariants as function
use Rattle.px_types.specs.declared.function.FusedOperator.{FusedOperator}
use Rattle.px_types.specs.declared.operator.Operator.{Operator}
use Rattle.px_types.specs.declared.value_type.ValueType.{ValueType}
use Rattle.px_types.specs.declared.value_type.ValueType.TheVariants as value_type
use Rattle.px_expr.specs.Kernel.{Kernel}
use Rattle.px_expr.specs.declared.literal.LiteralValue.{LiteralValue}
use Rattle.px_expr.specs.Tree.{Node, Alias, Literal, Binary, Function, Tree, tree, Trees, more, over}
use Rattle.px_meaning.specs.Check.{deferred, literal}
use Rattle.px_meaning.specs.Faults.{is_joining, uneven, HasFault, own, of_input, of_first, of_rest}
use Rattle.px_meaning.specs.Literals.{literal_rows}
use Rattle.px_meaning.specs.Rewrites.{binary, call, not_tree, is_null_tree, is_not_null_tree, fused_tree}
use Rattle.px_expr.specs.Plan.{Catalog}
use Rattle.px_meaning.specs.Signatures.{group_type, group_of, literal_type}
use Rattle.px_meaning.specs.Weight.{load_of, loaded, weight, weights}
use Rattle.px_meaning.proofs.Types.{binary-types, literal-types, not-types, is_null-types, is_not_null-types, negate-types, takes-binary, takes-literal, takes-not, takes-is_null, takes-is_not_null, takes-fused, takes-alias}
use Rattle.px_meaning.proofs.Typing.{Has, has, have_none, have_more}
use Rattle.px_meaning.proofs.Weights.{sum-cons}

module _ (c : Catalog) where
  -- the operands of a checked operator have one type
  pub record HasOperands (o : Operator) (a b : Tree) (k : ValueType) : Type 0 where
    pub value_type : ValueType
    pub left : Has c a value_type
    pub right : Has c b value_type
    pub gives : group_type (group_of o) value_type ≡ Some k

  pub binary-has : (o : Operator) (a b : Tree) (k : ValueType) → Has c (binary o a b) k → HasOperands o a b k
  binary-has o a b k (has free (have_more {k = i} ha (have_more {k = j} hb have_none)) takes) =
      let (l, f, g) = binary-types c o (i ∷ j ∷ []) k takes in
      let first : i ≡ l = cc in
      let second : j ≡ l = cc in
      record { value_type = l; left = subst (Has c a) first ha; right = subst (Has c b) second hb; gives = g }

  pub has-binary : (o : Operator) (a b : Tree) (j k : ValueType) → Has c a j → Has c b j → group_type (group_of o) j ≡ Some k → Has c (binary o a b) k
  has-binary o a b j k ha hb e = has refl (have_more ha (have_more hb have_none)) (takes-binary c o j k e)

  pub literal-has : (v : LiteralValue) (k : ValueType) → Has c (literal v) k → literal_type (literal_rows v) ≡ Some k
  literal-has v k (has free have_none takes) = (literal-types c v [] k takes).1

  pub has-literal : (v : LiteralValue) (k : ValueType) → deferred (Literal v) ≡ None → literal_type (literal_rows v) ≡ Some k → Has c (literal v) k
  has-literal v k free e = has free have_none (takes-literal c v k e)

  pub not-has : (x : Tree) (k : ValueType) → Has c (not_tree x) k → Has c x k × (is_boolean_or_integer k ≡ true)
  not-has x k (has free (have_more {k = j} h have_none) takes) =
      let (f, g) = not-types c (j ∷ []) k takes in
      let same : j ≡ k = cc in
      (subst (Has c x) same h, g)

  pub has-not : (x : Tree) (k : ValueType) → Has c x k → is_boolean_or_integer k ≡ true → Has c (not_tree x) k
  has-not x k h e = has refl (have_more h have_none) (takes-not c k e)

  pub is_null-has : (x : Tree) (k : ValueType) → Has c (is_null_tree x) k → (j : ValueType) × Has c x j × (k ≡ value_type.Boolean)
  is_null-has x k (has free (have_more {k = j} h have_none) takes) =
      let (i, f, g) = is_null-types c (j ∷ []) k takes in (j, h, g)

  pub is_not_null-has : (x : Tree) (k : ValueType) → Has c (is_not_null_tree x) k → (j : ValueType) × Has c x j × (k ≡ value_type.Boolean)
  is_not_null-has x k (has free (have_more {k = j} h have_none) takes) =
      let (i, f, g) = is_not_null-types c (j ∷ []) k takes in (j, h, g)

  pub has-is_null : (x : Tree) (j : ValueType) → Has c x j → Has c (is_null_tree x) value_type.Boolean
  has-is_null x j h = has refl (have_more h have_none) (takes-is_null c j)

  pub has-is_not_null : (x : Tree) (j : ValueType) → Has c x j → Has c (is_not_null_tree x) value_type.Boolean
  has-is_not_null x j h = has refl (have_more h have_none) (takes-is_not_null c j)

  pub has-fused : (f : FusedOperator) (x y z : Tree) (k : ValueType) → Has c x k → Has c y k → Has c z k → is_integer_value k ≡ true → Has c (fused_tree f x y z) k
  has-fused f x y z k hx hy hz e = has refl (have_more hx (have_more hy (have_more hz have_none))) (takes-fused c f k e)

  pub has-alias : (m : List ℕ) (x : Tree) (k : ValueType) → Has c x k → Has c (over (Alias m) (x ∷ [])) k
  has-alias m x k h = has refl (have_more h have_none) (takes-alias c m k)

  pub negate-has : (x : Tree) (k : ValueType) → Has c (call function.Negate x) k → Has c x k
  negate-has x k (has free (have_more {k = j} h have_none) takes) =
      let (f, g) = negate-types c (j ∷ []) k takes in
      let same : j ≡ k = cc in
      subst (Has c x) same h

module _ (kernels : List Kernel) (frame : List Contents) where
  -- a function of one input has the faults of its input
  pub call-fault : (f : EvaluatedFunction) (x : Tree) (e : PlanError) → is_joining (Function f) ≡ false → HasFault kernels frame (call f x) e → HasFault kernels frame x e
  call-fault f x e free (own (uneven joins h)) = cc
  call-fault f x e free (of_input (of_first h)) = h
  call-fault f x e free (of_input (of_rest h)) = elim h [ ]

  pub literal-fault : (v : LiteralValue) (e : PlanError) → HasFault kernels frame (literal v) e → ⊥
  literal-fault v e (own (uneven joins h)) = cc
  literal-fault v e (of_input h) = elim h [ ]

  pub first-fault : (n : Node) (x : Tree) (us : Trees) (e : PlanError) → HasFault kernels frame x e → HasFault kernels frame (tree n (more x us)) e
  first-fault n x us e h = of_input (of_first h)

  pub second-fault : (n : Node) (x y : Tree) (us : Trees) (e : PlanError) → HasFault kernels frame y e → HasFault kernels frame (tree n (more x (more y us))) e
  second-fault n x y us e h = of_input (of_rest (of_first h))

-- a load bears something
loaded-above : (n : Node) (m : ℕ) → 0 < loaded (load_of n) m
loaded-above (Binary o) m = omega arith
loaded-above (Function (function.Boolean boolean.Not)) m = omega arith
loaded-above (Function (function.Boolean boolean.IsNull)) m = omega arith
loaded-above (Function (function.Boolean boolean.IsNotNull)) m = omega arith
loaded-above (Function function.Negate) m = omega arith
loaded-above (Function (function.Fused f)) m = omega arith
loaded-above _ m = omega arith

pub weight-above : (t : Tree) → 0 < weight t
weight-above (tree n us) = loaded-above n (weights us)

pub weight-binary : (o : Operator) (a b : Tree) → weight (binary o a b) ≡ weight a + weight b + 3
weight-binary o a b = omega (arith, sum-cons (weight a) (weight b ∷ []), sum-cons (weight b) [])

pub weight-not : (x : Tree) → weight (not_tree x) ≡ weight x + weight x
weight-not x = omega (arith, sum-cons (weight x) [], weight-above x)

pub weight-is_null : (x : Tree) → weight (is_null_tree x) ≡ weight x + 1
weight-is_null x = omega (arith, sum-cons (weight x) [])

pub weight-is_not_null : (x : Tree) → weight (is_not_null_tree x) ≡ weight x + 1
weight-is_not_null x = omega (arith, sum-cons (weight x) [])

pub weight-negate : (x : Tree) → weight (call function.Negate x) ≡ weight x + 1
weight-negate x = omega (arith, sum-cons (weight x) [])

pub weight-fused : (f : FusedOperator) (x y z : Tree) → weight (fused_tree f x y z) ≡ weight x + weight y + weight z + 1
weight-fused f x y z = omega (arith, sum-cons (weight x) (weight y ∷ weight z ∷ []), sum-cons (weight y) (weight z ∷ []), sum-cons (weight z) [])

pub weight-alias : (m : List ℕ) (x : Tree) → weight (over (Alias m) (x ∷ [])) ≡ weight x + 1
weight-alias m x = omega (arith, sum-cons (weight x) [])

pub weight-literal : (v : LiteralValue) → weight (literal v) ≡ 1
weight-literal v = refl
