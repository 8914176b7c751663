-- The rewrites, one constructor for each, and what they say of literals.
use Rattle.std.specs.Prelude.{◌≡◌, ◌≢◌, ℤ, pos, neg_ℤ, Bool, true, false, not, [], ◌∷◌, Some}
use Rattle.px_semantics.specs.Arithmetic.{arith_row}
use Rattle.px_semantics.specs.Comparisons.{compare_row, IsComparison}
use Rattle.px_semantics.specs.Logic.{boolean_logic_row}
use Rattle.px_functions.specs.declared.evaluated.EvaluatedBoolean.TheVariants as boolean
use Rattle.px_functions.specs.declared.evaluated.EvaluatedFunction.{EvaluatedFunction}
use Rattle.px_functions.specs.declared.evaluated.EvaluatedFunction.TheVariants as function
use Rattle.px_types.specs.declared.function.FusedOperator.{FusedOperator}
use Rattle.px_types.specs.declared.function.FusedOperator.TheVariants.{MultiplyAdd, SubMultiply, MultiplySub}
use Rattle.px_types.specs.declared.operator.Operator.{Operator}
use Rattle.px_types.specs.declared.operator.Operator.TheVariants as op
use Rattle.px_types.specs.declared.value_type.ValueType.{ValueType}
use Rattle.px_types.specs.declared.value_type.ValueType.TheVariants as value_type
use Rattle.px_semantics.specs.Rows.{Datum, BooleanValue, IntegerValue, Row}
use Rattle.px_types.specs.Integers.{into, IsInteger}
use Rattle.px_expr.specs.declared.context.Context.{Context}
use Rattle.px_expr.specs.declared.context.Context.TheVariants.{Filter}
use Rattle.px_expr.specs.declared.literal.LiteralValue.{LiteralValue}
use Rattle.px_expr.specs.declared.literal.LiteralValue.TheVariants as lit
use Rattle.px_expr.specs.Tree.{Node, Alias, Literal, Binary, Function, Tree, tree, Trees, none, more, over}
use Rattle.px_meaning.specs.declared.rewrite.RewriteName.{RewriteName}
use Rattle.px_meaning.specs.declared.rewrite.RewriteName.TheVariants as named
use Rattle.px_meaning.specs.Check.{literal, HasType, IsChecked}
use Rattle.px_meaning.specs.Literals.{scalar_of, row_literal, is_scalar}
use Rattle.px_meaning.specs.Names.{name}
use Rattle.px_expr.specs.Plan.{Catalog}

-- trees by their root
abbrev pub binary : Operator → Tree → Tree → Tree
binary o a b = over (Binary o) (a ∷ b ∷ [])

abbrev pub call : EvaluatedFunction → Tree → Tree
call f t = over (Function f) (t ∷ [])

abbrev pub not_tree : Tree → Tree
not_tree t = call (function.Boolean boolean.Not) t

abbrev pub is_null_tree : Tree → Tree
is_null_tree t = call (function.Boolean boolean.IsNull) t

abbrev pub is_not_null_tree : Tree → Tree
is_not_null_tree t = call (function.Boolean boolean.IsNotNull) t

abbrev pub truth : Bool → Tree
truth t = literal (lit.Boolean t)

abbrev pub fused_tree : FusedOperator → Tree → Tree → Tree → Tree
fused_tree f a b c = over (Function (function.Fused f)) (a ∷ b ∷ c ∷ [])

-- the literal of a row of a type
abbrev pub folded : ValueType → Row → Tree
folded k row = literal (row_literal k row)

-- groups of operators
abbrev pub IsRing : Operator → Type 0
IsRing op.Plus = Unit {0}
IsRing op.Minus = Unit {0}
IsRing op.Multiply = Unit {0}
IsRing _ = ⊥

abbrev pub IsDivision : Operator → Type 0
IsDivision op.Divide = Unit {0}
IsDivision op.FloorDivide = Unit {0}
IsDivision op.Modulus = Unit {0}
IsDivision _ = ⊥

abbrev pub IsConjunction : Operator → Type 0
IsConjunction op.And = Unit {0}
IsConjunction op.LogicalAnd = Unit {0}
IsConjunction _ = ⊥

abbrev pub IsDisjunction : Operator → Type 0
IsDisjunction op.Or = Unit {0}
IsDisjunction op.LogicalOr = Unit {0}
IsDisjunction _ = ⊥

-- And, LogicalAnd, Or, LogicalOr or Xor
abbrev pub IsLogical : Operator → Type 0
IsLogical op.And = Unit {0}
IsLogical op.LogicalAnd = Unit {0}
IsLogical op.Or = Unit {0}
IsLogical op.LogicalOr = Unit {0}
IsLogical op.Xor = Unit {0}
IsLogical _ = ⊥

abbrev pub IsSigned : ValueType → Type 0
IsSigned value_type.Int8 = Unit {0}
IsSigned value_type.Int16 = Unit {0}
IsSigned value_type.Int32 = Unit {0}
IsSigned value_type.Int64 = Unit {0}
IsSigned _ = ⊥

-- the literal has this value of this type
abbrev pub IsScalarOf : LiteralValue → ValueType → Datum → Type 0
IsScalarOf v k d = scalar_of v ≡ Some (k, d)

abbrev pub is_product : Tree → Bool
is_product (tree (Binary op.Multiply) us) = true
is_product _ = false

abbrev pub is_literal : Node → Bool
is_literal (Literal v) = true
is_literal _ = false

abbrev mutual
  -- no literal stands anywhere in the tree
  pub HasNoLiteral : Tree → Type 0
  HasNoLiteral (tree n us) = (is_literal n ≡ false) × HaveNoLiteral us

  pub HaveNoLiteral : Trees → Type 0
  HaveNoLiteral none = Unit {0}
  HaveNoLiteral (more u us) = HasNoLiteral u × HaveNoLiteral us

-- the tree is checked with an integer type
abbrev pub HasIntegerType : Catalog → Tree → Type 0
HasIntegerType c t = (k : ValueType) × HasType c t k × IsInteger k

-- both operands of a sum or a difference have integer types, and no literal stands in either
pub record MayFuse (c : Catalog) (left right : Tree) : Type 0 where
  pub left_integer : HasIntegerType c left
  pub right_integer : HasIntegerType c right
  pub left_free : HasNoLiteral left
  pub right_free : HasNoLiteral right

-- what stands before a rewrite and what stands after it, one constructor for each of them
pub data Rewrites (c : Catalog) (context : Context) : RewriteName → Tree → Tree → Type 0 where
  C1 : {x : Tree} → context ≡ Filter → Rewrites c context named.C1 (binary op.And (truth true) x) x
  C2 : {x : Tree} → Rewrites c context named.C2 (binary op.And x (truth true)) x
  C3 : {v : LiteralValue} → is_scalar v ≡ true → Rewrites c context named.C3 (binary op.And (literal v) (truth false)) (truth false)
  C4 : {v : LiteralValue} → is_scalar v ≡ true → Rewrites c context named.C4 (binary op.And (truth false) (literal v)) (truth false)
  C5 : {x : Tree} → context ≡ Filter → Rewrites c context named.C5 (binary op.Or (truth false) x) x
  C6 : {x : Tree} → Rewrites c context named.C6 (binary op.Or x (truth false)) x
  C7 : {v : LiteralValue} → is_scalar v ≡ true → Rewrites c context named.C7 (binary op.Or (literal v) (truth true)) (truth true)
  C8 : {v : LiteralValue} → is_scalar v ≡ true → Rewrites c context named.C8 (binary op.Or (truth true) (literal v)) (truth true)
  C9 : {v : LiteralValue} {k : ValueType} {z : ℤ} → IsSigned k → IsScalarOf v k (IntegerValue z) → Rewrites c context named.C9 (call function.Negate (literal v)) (folded k (Some (IntegerValue (into k (neg_ℤ z)))))
  C10 : {o : Operator} {v w : LiteralValue} {k : ValueType} {x y : ℤ} → IsRing o → IsScalarOf v k (IntegerValue x) → IsScalarOf w k (IntegerValue y) →
      Rewrites c context named.C10 (binary o (literal v) (literal w)) (folded k (arith_row o k (Some (IntegerValue x)) (Some (IntegerValue y))))
  C11 : {o : Operator} {v w : LiteralValue} {k : ValueType} {x y : ℤ} → IsDivision o → IsScalarOf v k (IntegerValue x) → IsScalarOf w k (IntegerValue y) → y ≢ pos 0 →
      Rewrites c context named.C11 (binary o (literal v) (literal w)) (folded k (arith_row o k (Some (IntegerValue x)) (Some (IntegerValue y))))
  C12 : {o : Operator} {v w : LiteralValue} {k : ValueType} {d e : Datum} → IsComparison o → IsScalarOf v k d → IsScalarOf w k e →
      Rewrites c context named.C12 (binary o (literal v) (literal w)) (folded value_type.Boolean (compare_row o (Some d) (Some e)))
  C13 : {o : Operator} {s t : Bool} → IsLogical o → Rewrites c context named.C13 (binary o (truth s) (truth t)) (folded value_type.Boolean (boolean_logic_row o (Some (BooleanValue s)) (Some (BooleanValue t))))
  C14 : {o : Operator} {a b : Tree} → IsConjunction o → Rewrites c context named.C14 (not_tree (binary o a b)) (binary op.Or (not_tree a) (not_tree b))
  C15 : {o : Operator} {a b : Tree} → IsDisjunction o → Rewrites c context named.C15 (not_tree (binary o a b)) (binary op.And (not_tree a) (not_tree b))
  C16 : {x : Tree} → Rewrites c context named.C16 (not_tree (not_tree x)) x
  C17 : {t : Bool} → Rewrites c context named.C17 (not_tree (truth t)) (truth (not t))
  C18 : {x : Tree} → Rewrites c context named.C18 (not_tree (is_null_tree x)) (is_not_null_tree x)
  C19 : {x : Tree} → Rewrites c context named.C19 (not_tree (is_not_null_tree x)) (is_null_tree x)
  C20 : {a b : Tree} → Rewrites c context named.C20 (not_tree (binary op.Eq a b)) (binary op.NotEq a b)
  C21 : {a b : Tree} → Rewrites c context named.C21 (not_tree (binary op.NotEq a b)) (binary op.Eq a b)
  C22 : {a b : Tree} → Rewrites c context named.C22 (not_tree (binary op.Lt a b)) (binary op.GtEq a b)
  C23 : {a b : Tree} → Rewrites c context named.C23 (not_tree (binary op.LtEq a b)) (binary op.Gt a b)
  C24 : {a b : Tree} → Rewrites c context named.C24 (not_tree (binary op.Gt a b)) (binary op.LtEq a b)
  C25 : {a b : Tree} → Rewrites c context named.C25 (not_tree (binary op.GtEq a b)) (binary op.Lt a b)
  C26 : {x y z : Tree} → MayFuse c (binary op.Multiply x y) z →
      Rewrites c context named.C26 (binary op.Plus (binary op.Multiply x y) z) (over (Alias (name (binary op.Multiply x y))) (fused_tree MultiplyAdd z x y ∷ []))
  C27 : {x y z : Tree} → MayFuse c x (binary op.Multiply y z) → is_product x ≡ false →
      Rewrites c context named.C27 (binary op.Plus x (binary op.Multiply y z)) (fused_tree MultiplyAdd x y z)
  C28 : {x y z : Tree} → MayFuse c x (binary op.Multiply y z) →
      Rewrites c context named.C28 (binary op.Minus x (binary op.Multiply y z)) (fused_tree SubMultiply x y z)
  C29 : {x y z : Tree} → MayFuse c (binary op.Multiply x y) z → is_product z ≡ false →
      Rewrites c context named.C29 (binary op.Minus (binary op.Multiply x y) z) (fused_tree MultiplySub x y z)

-- a rewrite of a checked tree by the rewrite of this name
pub record IsRewriteBy (by : RewriteName) (c : Catalog) (context : Context) (t t' : Tree) : Type 0 where
  pub rewrites : Rewrites c context by t t'
  pub checked : IsChecked c t

-- a rewrite of a checked tree
pub record IsRewrite (c : Catalog) (context : Context) (t t' : Tree) : Type 0 where
  pub by : RewriteName
  pub rewrites : Rewrites c context by t t'
  pub checked : IsChecked c t
