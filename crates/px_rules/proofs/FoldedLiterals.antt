-- How literals show the left sides of the rewrites C9 to C13, and what they become.
use Rattle.std.proofs.Common.{◌≡◌, ◌≢◌, ℕ, zero, suc, ℤ, pos, negsuc, Bool, true, false, cond, arith, nat_eq, Option, Some, None, option_map, refl, sym, ◌∙◌, ap, subst}
use Rattle.std.specs.Ordering.{int_cmp}
use Rattle.std.proofs.lemmas.Bool.Decides.{nat_tests}
use Rattle.std.proofs.lemmas.Option.{same_Some}
use Rattle.std.specs.declared.cmp.Ordering.{Ordering}
use Rattle.px_semantics.specs.Arithmetic.{arith_row, lift_nonzero, floor_quotient, floor_remainder, is_zero}
use Rattle.px_semantics.specs.Comparisons.{IsComparison}
use Rattle.px_types.specs.Integers.{into}
use Rattle.px_semantics.specs.Rows.{Datum, BooleanValue, IntegerValue, Row}
use Rattle.px_functions.specs.declared.evaluated.EvaluatedFunction.TheVariants as function
use Rattle.px_types.specs.declared.operator.Operator.{Operator}
use Rattle.px_types.specs.declared.operator.Operator.TheVariants as op
use Rattle.px_types.specs.declared.value_type.ValueType.{ValueType}
use Rattle.px_types.specs.declared.value_type.ValueType.TheVariants as value_type
use Rattle.px_integers.specs.Quotients.{quotient_of, remainder_of}
use Rattle.px_expr.specs.declared.context.Context.{Context}
use Rattle.px_expr.specs.declared.literal.LiteralValue.{LiteralValue}
use Rattle.px_expr.specs.declared.literal.LiteralValue.TheVariants as lit
use Rattle.px_expr.specs.Tree.{Tree}
use Rattle.px_meaning.specs.Check.{literal}
use Rattle.px_meaning.specs.Literals.{literal_of}
use Rattle.px_meaning.specs.declared.rewrite.RewriteName.TheVariants as named
use Rattle.px_meaning.specs.declared.rewrite.RewriteName.{RewriteName}
use Rattle.px_meaning.specs.Rewrites.{Rewrites, C1, C2, C3, C4, C5, C6, C7, C8, C9, C10, C11, C12, C13, C14, C15, C16, C17, C18, C19, C20, C21, C22, C23, C24, C25, C26, C27, C28, C29, binary, call, truth, folded, IsRing, IsDivision, IsLogical, IsSigned, IsScalarOf}
use Rattle.px_expr.specs.Plan.{Catalog}
use Rattle.px_rules.specs.Folding.{calculated, compared, or_boolean, folded_numbers, folded_booleans, folded_literals, negated_literal}
use Rattle.px_rules.specs.Groups.{group_of, literal_folds, literal_negations}
use Rattle.px_rules.proofs.Parts.{RewriteIn}

-- the literals that have a type and a value
data IsScalarLiteral : LiteralValue → ValueType → Datum → Type 0 where
  boolean_ : {t : Bool} → IsScalarLiteral (lit.Boolean t) value_type.Boolean (BooleanValue t)
  u8 : {n : ℕ} → IsScalarLiteral (lit.UInt8 n) value_type.UInt8 (IntegerValue (pos n))
  u16 : {n : ℕ} → IsScalarLiteral (lit.UInt16 n) value_type.UInt16 (IntegerValue (pos n))
  u32 : {n : ℕ} → IsScalarLiteral (lit.UInt32 n) value_type.UInt32 (IntegerValue (pos n))
  u64 : {n : ℕ} → IsScalarLiteral (lit.UInt64 n) value_type.UInt64 (IntegerValue (pos n))
  i8 : {z : ℤ} → IsScalarLiteral (lit.Int8 z) value_type.Int8 (IntegerValue z)
  i16 : {z : ℤ} → IsScalarLiteral (lit.Int16 z) value_type.Int16 (IntegerValue z)
  i32 : {z : ℤ} → IsScalarLiteral (lit.Int32 z) value_type.Int32 (IntegerValue z)
  i64 : {z : ℤ} → IsScalarLiteral (lit.Int64 z) value_type.Int64 (IntegerValue z)

moved : (v : LiteralValue) (k l : ValueType) (d e : Datum) → ◌≡◌ {A = Option (ValueType × Datum)} (Some (l, e)) (Some (k, d)) → IsScalarLiteral v l e → IsScalarLiteral v k d
moved v k l d e same is =
    let pair : ◌≡◌ {A = ValueType × Datum} (l, e) (k, d) = same_Some (l, e) (k, d) same in
    subst (λ (p : ValueType × Datum). IsScalarLiteral v p.0 p.1) pair is

scalar_literal : (v : LiteralValue) (k : ValueType) (d : Datum) → IsScalarOf v k d → IsScalarLiteral v k d
scalar_literal (lit.Boolean t) k d e = moved (lit.Boolean t) k value_type.Boolean d (BooleanValue t) e boolean_
scalar_literal (lit.UInt8 n) k d e = moved (lit.UInt8 n) k value_type.UInt8 d (IntegerValue (pos n)) e u8
scalar_literal (lit.UInt16 n) k d e = moved (lit.UInt16 n) k value_type.UInt16 d (IntegerValue (pos n)) e u16
scalar_literal (lit.UInt32 n) k d e = moved (lit.UInt32 n) k value_type.UInt32 d (IntegerValue (pos n)) e u32
scalar_literal (lit.UInt64 n) k d e = moved (lit.UInt64 n) k value_type.UInt64 d (IntegerValue (pos n)) e u64
scalar_literal (lit.Int8 z) k d e = moved (lit.Int8 z) k value_type.Int8 d (IntegerValue z) e i8
scalar_literal (lit.Int16 z) k d e = moved (lit.Int16 z) k value_type.Int16 d (IntegerValue z) e i16
scalar_literal (lit.Int32 z) k d e = moved (lit.Int32 z) k value_type.Int32 d (IntegerValue z) e i32
scalar_literal (lit.Int64 z) k d e = moved (lit.Int64 z) k value_type.Int64 d (IntegerValue z) e i64
scalar_literal _ k d e = cc

abbrev folded_data : Operator → ValueType → Datum → Datum → Option LiteralValue
folded_data o k (BooleanValue a) (BooleanValue b) = option_map lit.Boolean (folded_booleans o a b)
folded_data o k (IntegerValue x) (IntegerValue y) = folded_numbers o k x y
folded_data o k _ _ = None

pair_folds : (o : Operator) (v w : LiteralValue) (k : ValueType) (d e : Datum) → IsScalarLiteral v k d → IsScalarLiteral w k e → folded_literals o v w ≡ folded_data o k d e
pair_folds o _ _ _ _ _ boolean_ boolean_ = refl
pair_folds o _ _ _ _ _ u8 u8 = refl
pair_folds o _ _ _ _ _ u16 u16 = refl
pair_folds o _ _ _ _ _ u32 u32 = refl
pair_folds o _ _ _ _ _ u64 u64 = refl
pair_folds o _ _ _ _ _ i8 i8 = refl
pair_folds o _ _ _ _ _ i16 i16 = refl
pair_folds o _ _ _ _ _ i32 i32 = refl
pair_folds o _ _ _ _ _ i64 i64 = refl

-- the rewrites give something

ring_folds : (o : Operator) (k : ValueType) (x y : ℤ) → IsRing o → folded_numbers o k x y ≡ None → ⊥
ring_folds op.Plus k x y i e = cc
ring_folds op.Minus k x y i e = cc
ring_folds op.Multiply k x y i e = cc
ring_folds _ k x y i e = absurd i

nonzero : (y : ℤ) → y ≢ pos 0 → is_zero y ≡ false
nonzero (pos zero) n = absurd (n refl)
nonzero (pos (suc y)) n = let e : nat_eq (suc y) 0 ≡ false = grind (arith, nat_tests) in e
nonzero (negsuc y) n = refl

-- a division by what is not 0
divided : (o : Operator) (k : ValueType) (x y z : ℤ) → IsDivision o → calculated o k x y ≡ cond (is_zero y) None (Some z) → y ≢ pos 0 → folded_numbers o k x y ≡ None → ⊥
divided o k x y z i is n e =
    let some : calculated o k x y ≡ Some z = is ∙ ap (λ (b : Bool). cond b None (Some z)) (nonzero y n) in
    let no : or_boolean k (Some z) (compared o (int_cmp x y) (int_cmp y x)) ≡ None = subst (λ (q : Option ℤ). or_boolean k q (compared o (int_cmp x y) (int_cmp y x)) ≡ None) some e in
    cc

no_comparison : (o : Operator) → IsDivision o → (there back : Ordering) (k : ValueType) (r : LiteralValue) → or_boolean k None (compared o there back) ≡ Some r → ⊥
no_comparison op.Divide i there back k r e = cc
no_comparison op.FloorDivide i there back k r e = cc
no_comparison op.Modulus i there back k r e = cc
no_comparison _ i there back k r e = absurd i

division_folds : (o : Operator) (k : ValueType) (x y : ℤ) → IsDivision o → y ≢ pos 0 → folded_numbers o k x y ≡ None → ⊥
division_folds op.Divide k x y i n e = divided op.Divide k x y (quotient_of k x y) i refl n e
division_folds op.FloorDivide k x y i n e = divided op.FloorDivide k x y (quotient_of k x y) i refl n e
division_folds op.Modulus k x y i n e = divided op.Modulus k x y (remainder_of x y) i refl n e
division_folds _ k x y i n e = absurd i

comparison_numbers : (o : Operator) (k : ValueType) (x y : ℤ) → IsComparison o → folded_numbers o k x y ≡ None → ⊥
comparison_numbers op.Eq k x y i e = cc
comparison_numbers op.NotEq k x y i e = cc
comparison_numbers op.Lt k x y i e = cc
comparison_numbers op.LtEq k x y i e = cc
comparison_numbers op.Gt k x y i e = cc
comparison_numbers op.GtEq k x y i e = cc
comparison_numbers op.EqValidity k x y i e = cc
comparison_numbers op.NotEqValidity k x y i e = cc
comparison_numbers _ k x y i e = absurd i

comparison_booleans : (o : Operator) (a b : Bool) → IsComparison o → option_map lit.Boolean (folded_booleans o a b) ≡ None → ⊥
comparison_booleans op.Eq a b i e = cc
comparison_booleans op.NotEq a b i e = cc
comparison_booleans op.Lt a b i e = cc
comparison_booleans op.LtEq a b i e = cc
comparison_booleans op.Gt a b i e = cc
comparison_booleans op.GtEq a b i e = cc
comparison_booleans op.EqValidity a b i e = cc
comparison_booleans op.NotEqValidity a b i e = cc
comparison_booleans _ a b i e = absurd i

comparison_folds : (o : Operator) (v w : LiteralValue) (k : ValueType) (d e : Datum) → IsComparison o → IsScalarLiteral v k d → IsScalarLiteral w k e → folded_data o k d e ≡ None → ⊥
comparison_folds o _ _ _ _ _ i (boolean_ {t = a}) (boolean_ {t = b}) e = comparison_booleans o a b i e
comparison_folds o _ _ _ _ _ i (u8 {n = a}) (u8 {n = b}) e = comparison_numbers o value_type.UInt8 (pos a) (pos b) i e
comparison_folds o _ _ _ _ _ i (u16 {n = a}) (u16 {n = b}) e = comparison_numbers o value_type.UInt16 (pos a) (pos b) i e
comparison_folds o _ _ _ _ _ i (u32 {n = a}) (u32 {n = b}) e = comparison_numbers o value_type.UInt32 (pos a) (pos b) i e
comparison_folds o _ _ _ _ _ i (u64 {n = a}) (u64 {n = b}) e = comparison_numbers o value_type.UInt64 (pos a) (pos b) i e
comparison_folds o _ _ _ _ _ i (i8 {z = a}) (i8 {z = b}) e = comparison_numbers o value_type.Int8 a b i e
comparison_folds o _ _ _ _ _ i (i16 {z = a}) (i16 {z = b}) e = comparison_numbers o value_type.Int16 a b i e
comparison_folds o _ _ _ _ _ i (i32 {z = a}) (i32 {z = b}) e = comparison_numbers o value_type.Int32 a b i e
comparison_folds o _ _ _ _ _ i (i64 {z = a}) (i64 {z = b}) e = comparison_numbers o value_type.Int64 a b i e

logic_folds : (o : Operator) (a b : Bool) → IsLogical o → option_map lit.Boolean (folded_booleans o a b) ≡ None → ⊥
logic_folds op.And a b i e = cc
logic_folds op.LogicalAnd a b i e = cc
logic_folds op.Or a b i e = cc
logic_folds op.LogicalOr a b i e = cc
logic_folds op.Xor a b i e = cc
logic_folds _ a b i e = absurd i

-- the left side of a rewrite C10 to C13
pub record FoldLeft (t : Tree) : Type 0 where
  pub o : Operator
  pub v : LiteralValue
  pub w : LiteralValue
  pub whole : t ≡ binary o (literal v) (literal w)
  pub folds_to : folded_literals o v w ≡ None → ⊥

pub fold_left : (c : Catalog) (context : Context) (t t' : Tree) (n : RewriteName) (l : Rewrites c context n t t') → group_of n ≡ literal_folds → FoldLeft t
fold_left c context _ _ _ (C1 p) e = cc
fold_left c context _ _ _ C2 e = cc
fold_left c context _ _ _ (C3 p) e = cc
fold_left c context _ _ _ (C4 p) e = cc
fold_left c context _ _ _ (C5 p) e = cc
fold_left c context _ _ _ C6 e = cc
fold_left c context _ _ _ (C7 p) e = cc
fold_left c context _ _ _ (C8 p) e = cc
fold_left c context _ _ _ (C9 p q) e = cc
fold_left c context _ _ _ (C10 {o} {v} {w} {k} {x} {y} i s r) e =
    record { o = o; v = v; w = w; whole = refl; folds_to = λ n. ring_folds o k x y i (sym (pair_folds o v w k _ _ (scalar_literal v k _ s) (scalar_literal w k _ r)) ∙ n) }
fold_left c context _ _ _ (C11 {o} {v} {w} {k} {x} {y} i s r ne) e =
    record { o = o; v = v; w = w; whole = refl; folds_to = λ n. division_folds o k x y i ne (sym (pair_folds o v w k _ _ (scalar_literal v k _ s) (scalar_literal w k _ r)) ∙ n) }
fold_left c context _ _ _ (C12 {o} {v} {w} {k} {d} {e = f} i s r) e =
    let sv = scalar_literal v k d s in
    let sw = scalar_literal w k f r in
    record { o = o; v = v; w = w; whole = refl; folds_to = λ n. comparison_folds o v w k d f i sv sw (sym (pair_folds o v w k d f sv sw) ∙ n) }
fold_left c context _ _ _ (C13 {o} {s} {t} i) e = record { o = o; v = lit.Boolean s; w = lit.Boolean t; whole = refl; folds_to = λ n. logic_folds o s t i n }
fold_left c context _ _ _ (C14 p) e = cc
fold_left c context _ _ _ (C15 p) e = cc
fold_left c context _ _ _ C16 e = cc
fold_left c context _ _ _ C17 e = cc
fold_left c context _ _ _ C18 e = cc
fold_left c context _ _ _ C19 e = cc
fold_left c context _ _ _ C20 e = cc
fold_left c context _ _ _ C21 e = cc
fold_left c context _ _ _ C22 e = cc
fold_left c context _ _ _ C23 e = cc
fold_left c context _ _ _ C24 e = cc
fold_left c context _ _ _ C25 e = cc
fold_left c context _ _ _ (C26 p) e = cc
fold_left c context _ _ _ (C27 p q) e = cc
fold_left c context _ _ _ (C28 p) e = cc
fold_left c context _ _ _ (C29 p q) e = cc

-- what is given is on the right of a rewrite

module _ (c : Catalog) (context : Context) where
  to : (o : Operator) (v w r s : LiteralValue) → Some s ≡ Some r → RewriteIn literal_folds c context (binary o (literal v) (literal w)) (literal s) → RewriteIn literal_folds c context (binary o (literal v) (literal w)) (literal r)
  to o v w r s e l = subst (λ (z : LiteralValue). RewriteIn literal_folds c context (binary o (literal v) (literal w)) (literal z)) (same_Some s r e) l

  quotient_row : (k : ValueType) (x y : ℤ) → is_zero y ≡ false → lift_nonzero (λ a b. into k (floor_quotient a b)) (Some (IntegerValue x)) (Some (IntegerValue y)) ≡ Some (IntegerValue (quotient_of k x y))
  quotient_row k x y e = rw (e) refl

  remainder_row : (k : ValueType) (x y : ℤ) → is_zero y ≡ false → lift_nonzero floor_remainder (Some (IntegerValue x)) (Some (IntegerValue y)) ≡ Some (IntegerValue (remainder_of x y))
  remainder_row k x y e = rw (e) refl

  no_zero : (y : ℤ) → is_zero y ≡ false → y ≢ pos 0
  no_zero y e h = let z : is_zero y ≡ true = ap is_zero h in cc

  division_rewrite :
      (o : Operator) (v w r : LiteralValue) (k : ValueType) (x y z : ℤ) → IsScalarOf v k (IntegerValue x) → IsScalarOf w k (IntegerValue y) → IsDivision o →
      calculated o k x y ≡ cond (is_zero y) None (Some z) → folded_numbers o k x y ≡ Some r → (b : Bool) → is_zero y ≡ b →
      (is_zero y ≡ false → arith_row o k (Some (IntegerValue x)) (Some (IntegerValue y)) ≡ Some (IntegerValue z)) → RewriteIn literal_folds c context (binary o (literal v) (literal w)) (literal r)
  division_rewrite o v w r k x y z s t i is e true zero_ row =
      let none_ : calculated o k x y ≡ None = is ∙ ap (λ (q : Bool). cond q None (Some z)) zero_ in
      absurd (no_comparison o i (int_cmp x y) (int_cmp y x) k r (subst (λ (q : Option ℤ). or_boolean k q (compared o (int_cmp x y) (int_cmp y x)) ≡ Some r) none_ e))
  division_rewrite o v w r k x y z s t i is e false nonzero_ row =
      let some : calculated o k x y ≡ Some z = is ∙ ap (λ (q : Bool). cond q None (Some z)) nonzero_ in
      let given : or_boolean k (Some z) (compared o (int_cmp x y) (int_cmp y x)) ≡ Some r = subst (λ (q : Option ℤ). or_boolean k q (compared o (int_cmp x y) (int_cmp y x)) ≡ Some r) some e in
      let rewritten : RewriteIn literal_folds c context (binary o (literal v) (literal w)) (folded k (arith_row o k (Some (IntegerValue x)) (Some (IntegerValue y)))) =
      record { by = named.C11; rewrites = C11 {o = o} {v = v} {w = w} {k = k} {x = x} {y = y} i s t (no_zero y nonzero_); of_group = refl } in
      to o v w r (literal_of k z) given (subst (λ (q : Row). RewriteIn literal_folds c context (binary o (literal v) (literal w)) (folded k q)) (row nonzero_) rewritten)

  numbers_rewrite :
      (o : Operator) (v w r : LiteralValue) (k : ValueType) (x y : ℤ) → IsScalarOf v k (IntegerValue x) → IsScalarOf w k (IntegerValue y) → folded_numbers o k x y ≡ Some r →
      RewriteIn literal_folds c context (binary o (literal v) (literal w)) (literal r)
  numbers_rewrite op.Plus v w r k x y s t e = to op.Plus v w r _ e (record { by = named.C10; rewrites = C10 {o = op.Plus} {v = v} {w = w} {k = k} {x = x} {y = y} tt s t; of_group = refl })
  numbers_rewrite op.Minus v w r k x y s t e = to op.Minus v w r _ e (record { by = named.C10; rewrites = C10 {o = op.Minus} {v = v} {w = w} {k = k} {x = x} {y = y} tt s t; of_group = refl })
  numbers_rewrite op.Multiply v w r k x y s t e = to op.Multiply v w r _ e (record { by = named.C10; rewrites = C10 {o = op.Multiply} {v = v} {w = w} {k = k} {x = x} {y = y} tt s t; of_group = refl })
  numbers_rewrite op.Divide v w r k x y s t e = division_rewrite op.Divide v w r k x y (quotient_of k x y) s t tt refl e (is_zero y) refl (quotient_row k x y)
  numbers_rewrite op.FloorDivide v w r k x y s t e = division_rewrite op.FloorDivide v w r k x y (quotient_of k x y) s t tt refl e (is_zero y) refl (quotient_row k x y)
  numbers_rewrite op.Modulus v w r k x y s t e = division_rewrite op.Modulus v w r k x y (remainder_of x y) s t tt refl e (is_zero y) refl (remainder_row k x y)
  numbers_rewrite op.Eq v w r k x y s t e = to op.Eq v w r _ e (record { by = named.C12; rewrites = C12 {o = op.Eq} {v = v} {w = w} {k = k} {d = IntegerValue x} {e = IntegerValue y} tt s t; of_group = refl })
  numbers_rewrite op.NotEq v w r k x y s t e = to op.NotEq v w r _ e (record { by = named.C12; rewrites = C12 {o = op.NotEq} {v = v} {w = w} {k = k} {d = IntegerValue x} {e = IntegerValue y} tt s t; of_group = refl })
  numbers_rewrite op.Lt v w r k x y s t e = to op.Lt v w r _ e (record { by = named.C12; rewrites = C12 {o = op.Lt} {v = v} {w = w} {k = k} {d = IntegerValue x} {e = IntegerValue y} tt s t; of_group = refl })
  numbers_rewrite op.LtEq v w r k x y s t e = to op.LtEq v w r _ e (record { by = named.C12; rewrites = C12 {o = op.LtEq} {v = v} {w = w} {k = k} {d = IntegerValue x} {e = IntegerValue y} tt s t; of_group = refl })
  numbers_rewrite op.Gt v w r k x y s t e = to op.Gt v w r _ e (record { by = named.C12; rewrites = C12 {o = op.Gt} {v = v} {w = w} {k = k} {d = IntegerValue x} {e = IntegerValue y} tt s t; of_group = refl })
  numbers_rewrite op.GtEq v w r k x y s t e = to op.GtEq v w r _ e (record { by = named.C12; rewrites = C12 {o = op.GtEq} {v = v} {w = w} {k = k} {d = IntegerValue x} {e = IntegerValue y} tt s t; of_group = refl })
  numbers_rewrite op.EqValidity v w r k x y s t e = to op.EqValidity v w r _ e (record { by = named.C12; rewrites = C12 {o = op.EqValidity} {v = v} {w = w} {k = k} {d = IntegerValue x} {e = IntegerValue y} tt s t; of_group = refl })
  numbers_rewrite op.NotEqValidity v w r k x y s t e = to op.NotEqValidity v w r _ e (record { by = named.C12; rewrites = C12 {o = op.NotEqValidity} {v = v} {w = w} {k = k} {d = IntegerValue x} {e = IntegerValue y} tt s t; of_group = refl })
  numbers_rewrite _ v w r k x y s t e = cc

  booleans_rewrite :
      (o : Operator) (a b : Bool) (r : LiteralValue) → option_map lit.Boolean (folded_booleans o a b) ≡ Some r → RewriteIn literal_folds c context (binary o (truth a) (truth b)) (literal r)
  booleans_rewrite op.Eq a b r e = to op.Eq (lit.Boolean a) (lit.Boolean b) r _ e (record { by = named.C12; rewrites = C12 {o = op.Eq} {v = lit.Boolean a} {w = lit.Boolean b} {k = value_type.Boolean} {d = BooleanValue a} {e = BooleanValue b} tt refl refl; of_group = refl })
  booleans_rewrite op.NotEq a b r e = to op.NotEq (lit.Boolean a) (lit.Boolean b) r _ e (record { by = named.C12; rewrites = C12 {o = op.NotEq} {v = lit.Boolean a} {w = lit.Boolean b} {k = value_type.Boolean} {d = BooleanValue a} {e = BooleanValue b} tt refl refl; of_group = refl })
  booleans_rewrite op.Lt a b r e = to op.Lt (lit.Boolean a) (lit.Boolean b) r _ e (record { by = named.C12; rewrites = C12 {o = op.Lt} {v = lit.Boolean a} {w = lit.Boolean b} {k = value_type.Boolean} {d = BooleanValue a} {e = BooleanValue b} tt refl refl; of_group = refl })
  booleans_rewrite op.LtEq a b r e = to op.LtEq (lit.Boolean a) (lit.Boolean b) r _ e (record { by = named.C12; rewrites = C12 {o = op.LtEq} {v = lit.Boolean a} {w = lit.Boolean b} {k = value_type.Boolean} {d = BooleanValue a} {e = BooleanValue b} tt refl refl; of_group = refl })
  booleans_rewrite op.Gt a b r e = to op.Gt (lit.Boolean a) (lit.Boolean b) r _ e (record { by = named.C12; rewrites = C12 {o = op.Gt} {v = lit.Boolean a} {w = lit.Boolean b} {k = value_type.Boolean} {d = BooleanValue a} {e = BooleanValue b} tt refl refl; of_group = refl })
  booleans_rewrite op.GtEq a b r e = to op.GtEq (lit.Boolean a) (lit.Boolean b) r _ e (record { by = named.C12; rewrites = C12 {o = op.GtEq} {v = lit.Boolean a} {w = lit.Boolean b} {k = value_type.Boolean} {d = BooleanValue a} {e = BooleanValue b} tt refl refl; of_group = refl })
  booleans_rewrite op.EqValidity a b r e = to op.EqValidity (lit.Boolean a) (lit.Boolean b) r _ e (record { by = named.C12; rewrites = C12 {o = op.EqValidity} {v = lit.Boolean a} {w = lit.Boolean b} {k = value_type.Boolean} {d = BooleanValue a} {e = BooleanValue b} tt refl refl; of_group = refl })
  booleans_rewrite op.NotEqValidity a b r e = to op.NotEqValidity (lit.Boolean a) (lit.Boolean b) r _ e (record { by = named.C12; rewrites = C12 {o = op.NotEqValidity} {v = lit.Boolean a} {w = lit.Boolean b} {k = value_type.Boolean} {d = BooleanValue a} {e = BooleanValue b} tt refl refl; of_group = refl })
  booleans_rewrite op.And true true r e = to op.And (lit.Boolean true) (lit.Boolean true) r _ e (record { by = named.C13; rewrites = C13 {o = op.And} {s = true} {t = true} tt; of_group = refl })
  booleans_rewrite op.And true false r e = to op.And (lit.Boolean true) (lit.Boolean false) r _ e (record { by = named.C13; rewrites = C13 {o = op.And} {s = true} {t = false} tt; of_group = refl })
  booleans_rewrite op.And false true r e = to op.And (lit.Boolean false) (lit.Boolean true) r _ e (record { by = named.C13; rewrites = C13 {o = op.And} {s = false} {t = true} tt; of_group = refl })
  booleans_rewrite op.And false false r e = to op.And (lit.Boolean false) (lit.Boolean false) r _ e (record { by = named.C13; rewrites = C13 {o = op.And} {s = false} {t = false} tt; of_group = refl })
  booleans_rewrite op.LogicalAnd true true r e = to op.LogicalAnd (lit.Boolean true) (lit.Boolean true) r _ e (record { by = named.C13; rewrites = C13 {o = op.LogicalAnd} {s = true} {t = true} tt; of_group = refl })
  booleans_rewrite op.LogicalAnd true false r e = to op.LogicalAnd (lit.Boolean true) (lit.Boolean false) r _ e (record { by = named.C13; rewrites = C13 {o = op.LogicalAnd} {s = true} {t = false} tt; of_group = refl })
  booleans_rewrite op.LogicalAnd false true r e = to op.LogicalAnd (lit.Boolean false) (lit.Boolean true) r _ e (record { by = named.C13; rewrites = C13 {o = op.LogicalAnd} {s = false} {t = true} tt; of_group = refl })
  booleans_rewrite op.LogicalAnd false false r e = to op.LogicalAnd (lit.Boolean false) (lit.Boolean false) r _ e (record { by = named.C13; rewrites = C13 {o = op.LogicalAnd} {s = false} {t = false} tt; of_group = refl })
  booleans_rewrite op.Or true true r e = to op.Or (lit.Boolean true) (lit.Boolean true) r _ e (record { by = named.C13; rewrites = C13 {o = op.Or} {s = true} {t = true} tt; of_group = refl })
  booleans_rewrite op.Or true false r e = to op.Or (lit.Boolean true) (lit.Boolean false) r _ e (record { by = named.C13; rewrites = C13 {o = op.Or} {s = true} {t = false} tt; of_group = refl })
  booleans_rewrite op.Or false true r e = to op.Or (lit.Boolean false) (lit.Boolean true) r _ e (record { by = named.C13; rewrites = C13 {o = op.Or} {s = false} {t = true} tt; of_group = refl })
  booleans_rewrite op.Or false false r e = to op.Or (lit.Boolean false) (lit.Boolean false) r _ e (record { by = named.C13; rewrites = C13 {o = op.Or} {s = false} {t = false} tt; of_group = refl })
  booleans_rewrite op.LogicalOr true true r e = to op.LogicalOr (lit.Boolean true) (lit.Boolean true) r _ e (record { by = named.C13; rewrites = C13 {o = op.LogicalOr} {s = true} {t = true} tt; of_group = refl })
  booleans_rewrite op.LogicalOr true false r e = to op.LogicalOr (lit.Boolean true) (lit.Boolean false) r _ e (record { by = named.C13; rewrites = C13 {o = op.LogicalOr} {s = true} {t = false} tt; of_group = refl })
  booleans_rewrite op.LogicalOr false true r e = to op.LogicalOr (lit.Boolean false) (lit.Boolean true) r _ e (record { by = named.C13; rewrites = C13 {o = op.LogicalOr} {s = false} {t = true} tt; of_group = refl })
  booleans_rewrite op.LogicalOr false false r e = to op.LogicalOr (lit.Boolean false) (lit.Boolean false) r _ e (record { by = named.C13; rewrites = C13 {o = op.LogicalOr} {s = false} {t = false} tt; of_group = refl })
  booleans_rewrite op.Xor true true r e = to op.Xor (lit.Boolean true) (lit.Boolean true) r _ e (record { by = named.C13; rewrites = C13 {o = op.Xor} {s = true} {t = true} tt; of_group = refl })
  booleans_rewrite op.Xor true false r e = to op.Xor (lit.Boolean true) (lit.Boolean false) r _ e (record { by = named.C13; rewrites = C13 {o = op.Xor} {s = true} {t = false} tt; of_group = refl })
  booleans_rewrite op.Xor false true r e = to op.Xor (lit.Boolean false) (lit.Boolean true) r _ e (record { by = named.C13; rewrites = C13 {o = op.Xor} {s = false} {t = true} tt; of_group = refl })
  booleans_rewrite op.Xor false false r e = to op.Xor (lit.Boolean false) (lit.Boolean false) r _ e (record { by = named.C13; rewrites = C13 {o = op.Xor} {s = false} {t = false} tt; of_group = refl })
  booleans_rewrite _ a b r e = cc

  pub fold_rewrite : (o : Operator) (v w r : LiteralValue) → folded_literals o v w ≡ Some r → RewriteIn literal_folds c context (binary o (literal v) (literal w)) (literal r)
  fold_rewrite o (lit.Boolean a) (lit.Boolean b) r e = booleans_rewrite o a b r e
  fold_rewrite o (lit.UInt8 x) (lit.UInt8 y) r e = numbers_rewrite o (lit.UInt8 x) (lit.UInt8 y) r value_type.UInt8 (pos x) (pos y) refl refl e
  fold_rewrite o (lit.UInt16 x) (lit.UInt16 y) r e = numbers_rewrite o (lit.UInt16 x) (lit.UInt16 y) r value_type.UInt16 (pos x) (pos y) refl refl e
  fold_rewrite o (lit.UInt32 x) (lit.UInt32 y) r e = numbers_rewrite o (lit.UInt32 x) (lit.UInt32 y) r value_type.UInt32 (pos x) (pos y) refl refl e
  fold_rewrite o (lit.UInt64 x) (lit.UInt64 y) r e = numbers_rewrite o (lit.UInt64 x) (lit.UInt64 y) r value_type.UInt64 (pos x) (pos y) refl refl e
  fold_rewrite o (lit.Int8 x) (lit.Int8 y) r e = numbers_rewrite o (lit.Int8 x) (lit.Int8 y) r value_type.Int8 x y refl refl e
  fold_rewrite o (lit.Int16 x) (lit.Int16 y) r e = numbers_rewrite o (lit.Int16 x) (lit.Int16 y) r value_type.Int16 x y refl refl e
  fold_rewrite o (lit.Int32 x) (lit.Int32 y) r e = numbers_rewrite o (lit.Int32 x) (lit.Int32 y) r value_type.Int32 x y refl refl e
  fold_rewrite o (lit.Int64 x) (lit.Int64 y) r e = numbers_rewrite o (lit.Int64 x) (lit.Int64 y) r value_type.Int64 x y refl refl e
  fold_rewrite o _ _ r e = cc

  signed_to : (v r s : LiteralValue) → Some s ≡ Some r → RewriteIn literal_negations c context (call function.Negate (literal v)) (literal s) → RewriteIn literal_negations c context (call function.Negate (literal v)) (literal r)
  signed_to v r s e l = subst (λ (z : LiteralValue). RewriteIn literal_negations c context (call function.Negate (literal v)) (literal z)) (same_Some s r e) l

  pub negate_rewrite : (v r : LiteralValue) → negated_literal v ≡ Some r → RewriteIn literal_negations c context (call function.Negate (literal v)) (literal r)
  negate_rewrite (lit.Int8 z) r e = signed_to (lit.Int8 z) r _ e (record { by = named.C9; rewrites = C9 {v = lit.Int8 z} {k = value_type.Int8} {z = z} tt refl; of_group = refl })
  negate_rewrite (lit.Int16 z) r e = signed_to (lit.Int16 z) r _ e (record { by = named.C9; rewrites = C9 {v = lit.Int16 z} {k = value_type.Int16} {z = z} tt refl; of_group = refl })
  negate_rewrite (lit.Int32 z) r e = signed_to (lit.Int32 z) r _ e (record { by = named.C9; rewrites = C9 {v = lit.Int32 z} {k = value_type.Int32} {z = z} tt refl; of_group = refl })
  negate_rewrite (lit.Int64 z) r e = signed_to (lit.Int64 z) r _ e (record { by = named.C9; rewrites = C9 {v = lit.Int64 z} {k = value_type.Int64} {z = z} tt refl; of_group = refl })
  negate_rewrite _ r e = cc

-- a signed literal has a negation
negates : (v : LiteralValue) (k : ValueType) (d : Datum) → IsSigned k → IsScalarLiteral v k d → negated_literal v ≡ None → ⊥
negates _ _ _ i boolean_ e = absurd i
negates _ _ _ i u8 e = absurd i
negates _ _ _ i u16 e = absurd i
negates _ _ _ i u32 e = absurd i
negates _ _ _ i u64 e = absurd i
negates _ _ _ i i8 e = cc
negates _ _ _ i i16 e = cc
negates _ _ _ i i32 e = cc
negates _ _ _ i i64 e = cc

pub record NegateLeft (t : Tree) : Type 0 where
  pub v : LiteralValue
  pub whole : t ≡ call function.Negate (literal v)
  pub negates_to : negated_literal v ≡ None → ⊥

pub negate_left : (c : Catalog) (context : Context) (t t' : Tree) (n : RewriteName) (l : Rewrites c context n t t') → group_of n ≡ literal_negations → NegateLeft t
negate_left c context _ _ _ (C1 p) e = cc
negate_left c context _ _ _ C2 e = cc
negate_left c context _ _ _ (C3 p) e = cc
negate_left c context _ _ _ (C4 p) e = cc
negate_left c context _ _ _ (C5 p) e = cc
negate_left c context _ _ _ C6 e = cc
negate_left c context _ _ _ (C7 p) e = cc
negate_left c context _ _ _ (C8 p) e = cc
negate_left c context _ _ _ (C9 {v} {k} {z} i s) e = record { v = v; whole = refl; negates_to = λ n. negates v k (IntegerValue z) i (scalar_literal v k (IntegerValue z) s) n }
negate_left c context _ _ _ (C10 p q r) e = cc
negate_left c context _ _ _ (C11 p q r s) e = cc
negate_left c context _ _ _ (C12 p q r) e = cc
negate_left c context _ _ _ (C13 p) e = cc
negate_left c context _ _ _ (C14 p) e = cc
negate_left c context _ _ _ (C15 p) e = cc
negate_left c context _ _ _ C16 e = cc
negate_left c context _ _ _ C17 e = cc
negate_left c context _ _ _ C18 e = cc
negate_left c context _ _ _ C19 e = cc
negate_left c context _ _ _ C20 e = cc
negate_left c context _ _ _ C21 e = cc
negate_left c context _ _ _ C22 e = cc
negate_left c context _ _ _ C23 e = cc
negate_left c context _ _ _ C24 e = cc
negate_left c context _ _ _ C25 e = cc
negate_left c context _ _ _ (C26 p) e = cc
negate_left c context _ _ _ (C27 p q) e = cc
negate_left c context _ _ _ (C28 p) e = cc
negate_left c context _ _ _ (C29 p q) e = cc
