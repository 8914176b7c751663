-- What the rewrites that fold literals keep.
use Rattle.std.proofs.Common.{◌≡◌, ◌≢◌, ◌≤ℤ◌, ◌<ℤ◌, ◌^◌, ℕ, ℤ, pos, negsuc, zero, suc, ◌+ℤ◌, ◌-ℤ◌, ◌*ℤ◌, [], ◌∷◌, Option, Some, None, Bool, true, false, cond, refl, sym, ◌∙◌, ap, subst, arith, nat_eq}
use Rattle.std.specs.Prelude.{option_map, option_and_then, codes, nat_abs, neg_ℤ}
use Rattle.std.proofs.lemmas.Bool.Decides.{nat_tests}
use Rattle.std.proofs.lemmas.Int.{ints}
use Rattle.px_semantics.specs.Arithmetic.{arith_row, arith_rows, is_zero, lift_nonzero, floor_quotient, floor_remainder, negate_rows}
use Rattle.px_types.specs.Classes.{is_integer_value}
use Rattle.px_semantics.specs.Comparisons.{compare_row, compare_rows, IsComparison}
use Rattle.px_types.specs.Integers.{into}
use Rattle.px_semantics.specs.Logic.{logic_rows, boolean_logic_row}
use Rattle.px_semantics.specs.Rows.{Datum, BooleanValue, StringValue, IntegerValue, Row, TypedRows, IsRowOf, lift}
use Rattle.px_types.specs.declared.operator.Operator.{Operator}
use Rattle.px_types.specs.declared.operator.Operator.TheVariants as op
use Rattle.px_types.specs.declared.value_type.ValueType.{ValueType}
use Rattle.px_types.specs.declared.value_type.ValueType.TheVariants as value_type
use Rattle.px_functions.specs.declared.evaluated.EvaluatedFunction.TheVariants as function
use Rattle.px_expr.specs.declared.context.Context.{Context}
use Rattle.px_expr.specs.declared.literal.LiteralValue.{LiteralValue}
use Rattle.px_expr.specs.declared.literal.LiteralValue.TheVariants as lit
use Rattle.px_expr.specs.Tree.{Literal, Tree}
use Rattle.px_meaning.specs.Check.{deferred, literal}
use Rattle.px_semantics.specs.Columns.{is_column}
use Rattle.px_meaning.specs.Literals.{one_row, literal_rows, row_literal, is_scalar}
use Rattle.px_meaning.specs.Mean.{group_rows, binary_rows, of_one, all_of}
use Rattle.px_meaning.specs.Names.{literal_name}
use Rattle.px_meaning.specs.Rewrites.{binary, call, truth, folded, IsRing, IsDivision, IsLogical, IsSigned, IsScalarOf}
use Rattle.px_expr.specs.Plan.{Catalog}
use Rattle.px_meaning.specs.Signatures.{group_of, group_type, literal_type, given, is_castable}
use Rattle.px_meaning.proofs.Answers.{given-parts}
use Rattle.px_meaning.proofs.ColumnTypes.{IsColumnOf, is_column_of}
use Rattle.px_semantics.proofs.ColumnLemmas.{is_column-column, one-is_column}
use Rattle.px_meaning.proofs.LogicLines.{LineKeeps}
use Rattle.px_meaning.proofs.Means.{group-typed}
use Rattle.px_meaning.proofs.Nodes.{binary-has, has-literal, literal-has, literal-fault, negate-has, weight-binary, weight-negate}
use Rattle.px_meaning.proofs.RowTypes.{negate_row-typed}
use Rattle.px_meaning.proofs.Typing.{Has}
use Rattle.std.proofs.Common.{lit<}

-- a literal of one value means that value in one row
scalar-rows : (v : LiteralValue) (k : ValueType) (d : Datum) → IsScalarOf v k d → literal_rows v ≡ Some (one_row k (Some d))
scalar-rows lit.Null k d e = cc
scalar-rows (lit.Series c) k d e = cc
scalar-rows v k d e = ap (option_map (λ s. one_row s.0 (Some s.1))) e

scalar-with_default_type : (v : LiteralValue) (k : ValueType) (d : Datum) → IsScalarOf v k d → deferred (Literal v) ≡ None
scalar-with_default_type (lit.Int z) k d e = cc
scalar-with_default_type v k d e = refl

scalar-name : (v : LiteralValue) (k : ValueType) (d : Datum) → IsScalarOf v k d → literal_name v ≡ codes "literal"
scalar-name (lit.Series c) k d e = cc
scalar-name v k d e = refl

natural : (z : ℤ) (n : ℕ) → (pos 0 ≤ℤ z) × (z <ℤ pos n) → pos (nat_abs z) ≡ z
natural (pos a) n h = refl
natural (negsuc a) n h = absurd (omega (arith, ints))

-- the literal of a value of a type has it
pub folded-scalar : (k : ValueType) (d : Datum) → is_castable k ≡ true → IsRowOf k (Some d) → IsScalarOf (row_literal k (Some d)) k d
folded-scalar value_type.Boolean (BooleanValue t) i h = refl
folded-scalar value_type.String (StringValue t) i h = cc
folded-scalar value_type.UInt8 (IntegerValue z) i h = ap (λ y. Some (value_type.UInt8, IntegerValue y)) (natural z (2 ^ 8) h)
folded-scalar value_type.UInt16 (IntegerValue z) i h = ap (λ y. Some (value_type.UInt16, IntegerValue y)) (natural z (2 ^ 16) h)
folded-scalar value_type.UInt32 (IntegerValue z) i h = ap (λ y. Some (value_type.UInt32, IntegerValue y)) (natural z (2 ^ 32) h)
folded-scalar value_type.UInt64 (IntegerValue z) i h = ap (λ y. Some (value_type.UInt64, IntegerValue y)) (natural z (2 ^ 64) h)
folded-scalar value_type.Int8 (IntegerValue z) i h = refl
folded-scalar value_type.Int16 (IntegerValue z) i h = refl
folded-scalar value_type.Int32 (IntegerValue z) i h = refl
folded-scalar value_type.Int64 (IntegerValue z) i h = refl
folded-scalar _ (BooleanValue t) i h = absurd h
folded-scalar _ (StringValue t) i h = absurd h
folded-scalar _ (IntegerValue z) i h = absurd h

scalar-has : (c : Catalog) (v : LiteralValue) (k j : ValueType) (d : Datum) → IsScalarOf v k d → Has c (literal v) j → (k ≡ j) × IsRowOf k (Some d)
scalar-has c v k j d e h =
    let f : literal_type (Some (one_row k (Some d))) ≡ Some j = sym (ap literal_type (scalar-rows v k d e)) ∙ literal-has c v j h in
    let (test, same) = given-parts (is_column (one_row k (Some d))) k j f in
    (same, (is_column-column (one_row k (Some d)) test).typed.0)

pub has-scalar : (c : Catalog) (v : LiteralValue) (k : ValueType) (d : Datum) → IsScalarOf v k d → IsRowOf k (Some d) → Has c (literal v) k
has-scalar c v k d e h =
    has-literal c v k (scalar-with_default_type v k d e)
    (ap literal_type (scalar-rows v k d e) ∙ ap (λ (b : Bool). given b k) (one-is_column k (Some d) h))

one-column : (k : ValueType) (d : Datum) → IsRowOf k (Some d) → IsColumnOf k (one_row k (Some d))
one-column k d h = is_column_of k (Some d ∷ []) (lit< tt) (h, tt)

module _ (c : Catalog) (context : Context) (o : Operator) (v w : LiteralValue) (k l : ValueType) (r s out : Datum)
    (sv : IsScalarOf v k r) (sw : IsScalarOf w k s) (castable : is_castable k ≡ true → is_castable l ≡ true)
    (typed : (m : ValueType) → group_type (group_of o) k ≡ Some m → (l ≡ m) × (is_castable l ≡ true))
    (value : group_rows (group_of o) o (one_row k (Some r)) (one_row k (Some s)) ≡ Some (one_row l (Some out))) where
  -- the kinds of an operator over two literals, and its value's
  fold-types : (m : ValueType) → Has c (binary o (literal v) (literal w)) m → (l ≡ m) × (is_castable l ≡ true) × IsRowOf l (Some out)
  fold-types m h =
      let p = binary-has c o (literal v) (literal w) m h in
      let (a, hr) = scalar-has c v k p.value_type r sv p.left in
      let (b, hs) = scalar-has c w k p.value_type s sw p.right in
      let g : group_type (group_of o) k ≡ Some m = subst (λ (j : ValueType). group_type (group_of o) j ≡ Some m) (sym a) p.gives in
      let (same, cast) = typed m g in
      let made : IsColumnOf m (one_row l (Some out)) = group-typed k (one_row k (Some r)) (one_row k (Some s)) (one_row l (Some out)) (one-column k r hr) (one-column k s hs) (group_of o) o m g value in
      (same, cast, made.column.typed.0)

  out-scalar : (m : ValueType) → Has c (binary o (literal v) (literal w)) m → IsScalarOf (row_literal l (Some out)) l out
  out-scalar m h = let (same, cast, row) = fold-types m h in folded-scalar l out cast row

  fold-keeps : LineKeeps c context (binary o (literal v) (literal w)) (folded l (Some out))
  fold-keeps =
      record {
        value_type = λ m h. let (same, cast, row) = fold-types m h in subst (Has c (folded l (Some out))) same (has-scalar c (row_literal l (Some out)) l out (out-scalar m h) row);
        rows = λ m h frame fits.
            ap (λ (a : Option TypedRows). option_and_then (binary_rows o) (all_of (a ∷ literal_rows w ∷ []))) (scalar-rows v k r sv)
            ∙ (ap (λ (a : Option TypedRows). option_and_then (binary_rows o) (all_of (Some (one_row k (Some r)) ∷ a ∷ []))) (scalar-rows w k s sw)
            ∙ (value ∙ sym (scalar-rows (row_literal l (Some out)) l out (out-scalar m h))));
        name = λ m h select. scalar-name v k r sv ∙ sym (scalar-name (row_literal l (Some out)) l out (out-scalar m h));
        faults = λ m h frame fits f g. absurd (literal-fault c.kernels frame (row_literal l (Some out)) f g);
        lighter = omega (arith, weight-binary o (literal v) (literal w));
      }

-- the same, where the row is known to be a value
fold-row : (c : Catalog) (context : Context) (t : Tree) (l : ValueType) (row : Row) (out : Datum) → row ≡ Some out → LineKeeps c context t (folded l (Some out)) → LineKeeps c context t (folded l row)
fold-row c context t l row out e h = subst (λ (x : Row). LineKeeps c context t (folded l x)) (sym e) h

pub integer-castable : (k : ValueType) → is_integer_value k ≡ true → is_castable k ≡ true
integer-castable value_type.Null e = refl
integer-castable value_type.Boolean e = refl
integer-castable value_type.String e = e
integer-castable _ e = refl

integer-typed : (k m : ValueType) → given (is_integer_value k) k ≡ Some m → (k ≡ m) × (is_castable k ≡ true)
integer-typed k m e = let (i, same) = given-parts (is_integer_value k) k m e in (same, integer-castable k i)

arith-one : (o : Operator) (k : ValueType) (r s : Row) → arith_rows o (one_row k r) (one_row k s) ≡ Some (one_row k (arith_row o k r s))
unfolding arith_rows
arith-one o k r s = refl

compare-one : (o : Operator) (k : ValueType) (r s : Row) → compare_rows o (one_row k r) (one_row k s) ≡ Some (one_row value_type.Boolean (compare_row o r s))
unfolding compare_rows
compare-one o k r s = refl

logic-one : (o : Operator) (r s : Row) → logic_rows o (one_row value_type.Boolean r) (one_row value_type.Boolean s) ≡ Some (one_row value_type.Boolean (boolean_logic_row o r s))
unfolding logic_rows
logic-one o r s = refl

-- sums, differences and products
pub ring-keeps :
    (c : Catalog) (context : Context) (o : Operator) (v w : LiteralValue) (k : ValueType) (x y : ℤ) → IsRing o → IsScalarOf v k (IntegerValue x) → IsScalarOf w k (IntegerValue y) →
    LineKeeps c context (binary o (literal v) (literal w)) (folded k (arith_row o k (Some (IntegerValue x)) (Some (IntegerValue y))))
ring-keeps c context op.Plus v w k x y i sv sw = fold-keeps c context op.Plus v w k k (IntegerValue x) (IntegerValue y) (IntegerValue (into k (x +ℤ y))) sv sw (λ e. e) (integer-typed k) (arith-one op.Plus k (Some (IntegerValue x)) (Some (IntegerValue y)))
ring-keeps c context op.Minus v w k x y i sv sw = fold-keeps c context op.Minus v w k k (IntegerValue x) (IntegerValue y) (IntegerValue (into k (x -ℤ y))) sv sw (λ e. e) (integer-typed k) (arith-one op.Minus k (Some (IntegerValue x)) (Some (IntegerValue y)))
ring-keeps c context op.Multiply v w k x y i sv sw = fold-keeps c context op.Multiply v w k k (IntegerValue x) (IntegerValue y) (IntegerValue (into k (x *ℤ y))) sv sw (λ e. e) (integer-typed k) (arith-one op.Multiply k (Some (IntegerValue x)) (Some (IntegerValue y)))
ring-keeps c context _ v w k x y i sv sw = absurd i

nonzero : (y : ℤ) → y ≢ pos 0 → is_zero y ≡ false
nonzero (pos zero) h = absurd (h refl)
nonzero (pos (suc n)) h = let e : nat_eq (suc n) 0 ≡ false = grind (arith, nat_tests) in e
nonzero (negsuc n) h = refl

divided : (f : ℤ → ℤ → ℤ) (x y : ℤ) → y ≢ pos 0 → lift_nonzero f (Some (IntegerValue x)) (Some (IntegerValue y)) ≡ Some (IntegerValue (f x y))
divided f x y h = ap (λ (b : Bool). lift f (Some (IntegerValue x)) (cond b None (Some (IntegerValue y)))) (nonzero y h)

division-keeps :
    (c : Catalog) (context : Context) (o : Operator) (v w : LiteralValue) (k : ValueType) (x y z : ℤ) → IsScalarOf v k (IntegerValue x) → IsScalarOf w k (IntegerValue y) →
    ((a b : TypedRows) → group_rows (group_of o) o a b ≡ arith_rows o a b) → ((m : ValueType) → group_type (group_of o) k ≡ Some m → (k ≡ m) × (is_castable k ≡ true)) →
    arith_row o k (Some (IntegerValue x)) (Some (IntegerValue y)) ≡ Some (IntegerValue z) →
    LineKeeps c context (binary o (literal v) (literal w)) (folded k (arith_row o k (Some (IntegerValue x)) (Some (IntegerValue y))))
division-keeps c context o v w k x y z sv sw plain typed e =
    fold-row c context (binary o (literal v) (literal w)) k (arith_row o k (Some (IntegerValue x)) (Some (IntegerValue y))) (IntegerValue z) e
    (fold-keeps c context o v w k k (IntegerValue x) (IntegerValue y) (IntegerValue z) sv sw (λ e. e) typed
    (plain (one_row k (Some (IntegerValue x))) (one_row k (Some (IntegerValue y))) ∙ (arith-one o k (Some (IntegerValue x)) (Some (IntegerValue y)) ∙ ap (λ (row : Row). Some (one_row k row)) e)))

-- quotients and rests, by a divisor other than 0
pub division-line :
    (c : Catalog) (context : Context) (o : Operator) (v w : LiteralValue) (k : ValueType) (x y : ℤ) → IsDivision o → IsScalarOf v k (IntegerValue x) → IsScalarOf w k (IntegerValue y) → y ≢ pos 0 →
    LineKeeps c context (binary o (literal v) (literal w)) (folded k (arith_row o k (Some (IntegerValue x)) (Some (IntegerValue y))))
division-line c context op.Divide v w k x y i sv sw h = division-keeps c context op.Divide v w k x y (into k (floor_quotient x y)) sv sw (λ a b. refl) (integer-typed k) (divided (λ a b. into k (floor_quotient a b)) x y h)
division-line c context op.FloorDivide v w k x y i sv sw h = division-keeps c context op.FloorDivide v w k x y (into k (floor_quotient x y)) sv sw (λ a b. refl) (integer-typed k) (divided (λ a b. into k (floor_quotient a b)) x y h)
division-line c context op.Modulus v w k x y i sv sw h = division-keeps c context op.Modulus v w k x y (floor_remainder x y) sv sw (λ a b. refl) (integer-typed k) (divided floor_remainder x y h)
division-line c context _ v w k x y i sv sw h = absurd i

-- a comparison of two values is a Boolean
record Compares (o : Operator) (d e : Datum) : Type 0 where
  truth : Bool
  is : compare_row o (Some d) (Some e) ≡ Some (BooleanValue truth)
  plain : (a b : TypedRows) → group_rows (group_of o) o a b ≡ compare_rows o a b
  gives : (j m : ValueType) → group_type (group_of o) j ≡ Some m → value_type.Boolean ≡ m

boolean_is : (m : ValueType) → Some value_type.Boolean ≡ Some m → value_type.Boolean ≡ m
boolean_is m e = cc

compares : (o : Operator) (d e : Datum) → IsComparison o → Compares o d e
compares op.Eq d e i = record { truth = _; is = refl; plain = λ a b. refl; gives = λ j m f. boolean_is m f }
compares op.NotEq d e i = record { truth = _; is = refl; plain = λ a b. refl; gives = λ j m f. boolean_is m f }
compares op.Lt d e i = record { truth = _; is = refl; plain = λ a b. refl; gives = λ j m f. boolean_is m f }
compares op.LtEq d e i = record { truth = _; is = refl; plain = λ a b. refl; gives = λ j m f. boolean_is m f }
compares op.Gt d e i = record { truth = _; is = refl; plain = λ a b. refl; gives = λ j m f. boolean_is m f }
compares op.GtEq d e i = record { truth = _; is = refl; plain = λ a b. refl; gives = λ j m f. boolean_is m f }
compares op.EqValidity d e i = record { truth = _; is = refl; plain = λ a b. refl; gives = λ j m f. boolean_is m f }
compares op.NotEqValidity d e i = record { truth = _; is = refl; plain = λ a b. refl; gives = λ j m f. boolean_is m f }
compares _ d e i = absurd i

-- comparisons
pub compare-keeps :
    (c : Catalog) (context : Context) (o : Operator) (v w : LiteralValue) (k : ValueType) (d e : Datum) → IsComparison o → IsScalarOf v k d → IsScalarOf w k e →
    LineKeeps c context (binary o (literal v) (literal w)) (folded value_type.Boolean (compare_row o (Some d) (Some e)))
compare-keeps c context o v w k d e i sv sw =
    let p = compares o d e i in
    fold-row c context (binary o (literal v) (literal w)) value_type.Boolean (compare_row o (Some d) (Some e)) (BooleanValue p.truth) p.is
    (fold-keeps c context o v w k value_type.Boolean d e (BooleanValue p.truth) sv sw (λ e. refl) (λ m g. (p.gives k m g, refl))
    (p.plain (one_row k (Some d)) (one_row k (Some e)) ∙ (compare-one o k (Some d) (Some e) ∙ ap (λ (row : Row). Some (one_row value_type.Boolean row)) p.is)))

-- a logical operator on two Booleans is a Boolean
record Decides (o : Operator) (s t : Bool) : Type 0 where
  truth : Bool
  is : boolean_logic_row o (Some (BooleanValue s)) (Some (BooleanValue t)) ≡ Some (BooleanValue truth)
  plain : (a b : TypedRows) → group_rows (group_of o) o a b ≡ logic_rows o a b
  gives : (m : ValueType) → group_type (group_of o) value_type.Boolean ≡ Some m → value_type.Boolean ≡ m

decides : (o : Operator) (s t : Bool) → IsLogical o → Decides o s t
decides op.And true true i = record { truth = true; is = refl; plain = λ a b. refl; gives = λ m f. boolean_is m f }
decides op.And true false i = record { truth = false; is = refl; plain = λ a b. refl; gives = λ m f. boolean_is m f }
decides op.And false true i = record { truth = false; is = refl; plain = λ a b. refl; gives = λ m f. boolean_is m f }
decides op.And false false i = record { truth = false; is = refl; plain = λ a b. refl; gives = λ m f. boolean_is m f }
decides op.LogicalAnd true true i = record { truth = true; is = refl; plain = λ a b. refl; gives = λ m f. boolean_is m f }
decides op.LogicalAnd true false i = record { truth = false; is = refl; plain = λ a b. refl; gives = λ m f. boolean_is m f }
decides op.LogicalAnd false true i = record { truth = false; is = refl; plain = λ a b. refl; gives = λ m f. boolean_is m f }
decides op.LogicalAnd false false i = record { truth = false; is = refl; plain = λ a b. refl; gives = λ m f. boolean_is m f }
decides op.Or true true i = record { truth = true; is = refl; plain = λ a b. refl; gives = λ m f. boolean_is m f }
decides op.Or true false i = record { truth = true; is = refl; plain = λ a b. refl; gives = λ m f. boolean_is m f }
decides op.Or false true i = record { truth = true; is = refl; plain = λ a b. refl; gives = λ m f. boolean_is m f }
decides op.Or false false i = record { truth = false; is = refl; plain = λ a b. refl; gives = λ m f. boolean_is m f }
decides op.LogicalOr true true i = record { truth = true; is = refl; plain = λ a b. refl; gives = λ m f. boolean_is m f }
decides op.LogicalOr true false i = record { truth = true; is = refl; plain = λ a b. refl; gives = λ m f. boolean_is m f }
decides op.LogicalOr false true i = record { truth = true; is = refl; plain = λ a b. refl; gives = λ m f. boolean_is m f }
decides op.LogicalOr false false i = record { truth = false; is = refl; plain = λ a b. refl; gives = λ m f. boolean_is m f }
decides op.Xor true true i = record { truth = false; is = refl; plain = λ a b. refl; gives = λ m f. boolean_is m f }
decides op.Xor true false i = record { truth = true; is = refl; plain = λ a b. refl; gives = λ m f. boolean_is m f }
decides op.Xor false true i = record { truth = true; is = refl; plain = λ a b. refl; gives = λ m f. boolean_is m f }
decides op.Xor false false i = record { truth = false; is = refl; plain = λ a b. refl; gives = λ m f. boolean_is m f }
decides _ s t i = absurd i

logic-scalars :
    (c : Catalog) (context : Context) (o : Operator) (v w : LiteralValue) (s t : Bool) → IsLogical o → IsScalarOf v value_type.Boolean (BooleanValue s) → IsScalarOf w value_type.Boolean (BooleanValue t) →
    LineKeeps c context (binary o (literal v) (literal w)) (folded value_type.Boolean (boolean_logic_row o (Some (BooleanValue s)) (Some (BooleanValue t))))
logic-scalars c context o v w s t i sv sw =
    let p = decides o s t i in
    fold-row c context (binary o (literal v) (literal w)) value_type.Boolean (boolean_logic_row o (Some (BooleanValue s)) (Some (BooleanValue t))) (BooleanValue p.truth) p.is
    (fold-keeps c context o v w value_type.Boolean value_type.Boolean (BooleanValue s) (BooleanValue t) (BooleanValue p.truth) sv sw (λ e. refl) (λ m g. (p.gives m g, refl))
    (p.plain (one_row value_type.Boolean (Some (BooleanValue s))) (one_row value_type.Boolean (Some (BooleanValue t))) ∙ (logic-one o (Some (BooleanValue s)) (Some (BooleanValue t)) ∙ ap (λ (row : Row). Some (one_row value_type.Boolean row)) p.is)))

-- logical operators
pub logic-keeps : (c : Catalog) (context : Context) (o : Operator) (s t : Bool) → IsLogical o → LineKeeps c context (binary o (truth s) (truth t)) (folded value_type.Boolean (boolean_logic_row o (Some (BooleanValue s)) (Some (BooleanValue t))))
logic-keeps c context o s t i = logic-scalars c context o (lit.Boolean s) (lit.Boolean t) s t i refl refl

-- a scalar literal of the type Boolean is one of a Boolean
boolean-scalar : (v : LiteralValue) → is_scalar v ≡ true → literal_type (literal_rows v) ≡ Some value_type.Boolean → (t : Bool) × IsScalarOf v value_type.Boolean (BooleanValue t)
boolean-scalar (lit.Boolean t) i e = (t, refl)
boolean-scalar (lit.Series c) i e = cc
boolean-scalar (lit.Range low high dtype) i e = cc
boolean-scalar lit.Null i e = let same : value_type.Null ≡ value_type.Boolean = (given-parts _ value_type.Null value_type.Boolean e).1 in cc
boolean-scalar (lit.UInt8 n) i e = let same : value_type.UInt8 ≡ value_type.Boolean = (given-parts _ value_type.UInt8 value_type.Boolean e).1 in cc
boolean-scalar (lit.UInt16 n) i e = let same : value_type.UInt16 ≡ value_type.Boolean = (given-parts _ value_type.UInt16 value_type.Boolean e).1 in cc
boolean-scalar (lit.UInt32 n) i e = let same : value_type.UInt32 ≡ value_type.Boolean = (given-parts _ value_type.UInt32 value_type.Boolean e).1 in cc
boolean-scalar (lit.UInt64 n) i e = let same : value_type.UInt64 ≡ value_type.Boolean = (given-parts _ value_type.UInt64 value_type.Boolean e).1 in cc
boolean-scalar (lit.Int8 n) i e = let same : value_type.Int8 ≡ value_type.Boolean = (given-parts _ value_type.Int8 value_type.Boolean e).1 in cc
boolean-scalar (lit.Int16 n) i e = let same : value_type.Int16 ≡ value_type.Boolean = (given-parts _ value_type.Int16 value_type.Boolean e).1 in cc
boolean-scalar (lit.Int32 n) i e = let same : value_type.Int32 ≡ value_type.Boolean = (given-parts _ value_type.Int32 value_type.Boolean e).1 in cc
boolean-scalar (lit.Int64 n) i e = let same : value_type.Int64 ≡ value_type.Boolean = (given-parts _ value_type.Int64 value_type.Boolean e).1 in cc
boolean-scalar _ i e = cc

-- an operator and a Boolean that decides it
module _ (c : Catalog) (context : Context) (o : Operator) (e : Bool) (v : LiteralValue) (scalar : is_scalar v ≡ true) (logical : IsLogical o) where
  right-decides : ((t : Bool) → boolean_logic_row o (Some (BooleanValue t)) (Some (BooleanValue e)) ≡ Some (BooleanValue e)) → ((j : ValueType) → Has c (truth e) j → value_type.Boolean ≡ j) → LineKeeps c context (binary o (literal v) (truth e)) (truth e)
  right-decides same boolean =
      record {
        value_type = λ k h. (whole k h).value_type k h;
        rows = λ k h. (whole k h).rows k h;
        name = λ k h. (whole k h).name k h;
        faults = λ k h. (whole k h).faults k h;
        lighter = omega (arith, weight-binary o (literal v) (truth e));
      }
    where
      whole : (k : ValueType) → Has c (binary o (literal v) (truth e)) k → LineKeeps c context (binary o (literal v) (truth e)) (truth e)
      whole k h =
          let p = binary-has c o (literal v) (truth e) k h in
          let b = boolean p.value_type p.right in
          let (t, s) = boolean-scalar v scalar (subst (λ (j : ValueType). literal_type (literal_rows v) ≡ Some j) (sym b) (literal-has c v p.value_type p.left)) in
          subst (λ (row : Row). LineKeeps c context (binary o (literal v) (truth e)) (folded value_type.Boolean row)) (same t) (logic-scalars c context o v (lit.Boolean e) t e logical s refl)

  left-decides : ((t : Bool) → boolean_logic_row o (Some (BooleanValue e)) (Some (BooleanValue t)) ≡ Some (BooleanValue e)) → ((j : ValueType) → Has c (truth e) j → value_type.Boolean ≡ j) → LineKeeps c context (binary o (truth e) (literal v)) (truth e)
  left-decides same boolean =
      record {
        value_type = λ k h. (whole k h).value_type k h;
        rows = λ k h. (whole k h).rows k h;
        name = λ k h. (whole k h).name k h;
        faults = λ k h. (whole k h).faults k h;
        lighter = omega (arith, weight-binary o (truth e) (literal v));
      }
    where
      whole : (k : ValueType) → Has c (binary o (truth e) (literal v)) k → LineKeeps c context (binary o (truth e) (literal v)) (truth e)
      whole k h =
          let p = binary-has c o (truth e) (literal v) k h in
          let b = boolean p.value_type p.left in
          let (t, s) = boolean-scalar v scalar (subst (λ (j : ValueType). literal_type (literal_rows v) ≡ Some j) (sym b) (literal-has c v p.value_type p.right)) in
          subst (λ (row : Row). LineKeeps c context (binary o (truth e) (literal v)) (folded value_type.Boolean row)) (same t) (logic-scalars c context o (lit.Boolean e) v e t logical refl s)

truth-type : (c : Catalog) (e : Bool) (j : ValueType) → Has c (truth e) j → value_type.Boolean ≡ j
truth-type c e j h = (given-parts _ value_type.Boolean j (literal-has c (lit.Boolean e) j h)).1

and_false : (t : Bool) → boolean_logic_row op.And (Some (BooleanValue t)) (Some (BooleanValue false)) ≡ Some (BooleanValue false)
and_false true = refl
and_false false = refl

false_and : (t : Bool) → boolean_logic_row op.And (Some (BooleanValue false)) (Some (BooleanValue t)) ≡ Some (BooleanValue false)
false_and true = refl
false_and false = refl

or_true : (t : Bool) → boolean_logic_row op.Or (Some (BooleanValue t)) (Some (BooleanValue true)) ≡ Some (BooleanValue true)
or_true true = refl
or_true false = refl

true_or : (t : Bool) → boolean_logic_row op.Or (Some (BooleanValue true)) (Some (BooleanValue t)) ≡ Some (BooleanValue true)
true_or true = refl
true_or false = refl

pub and-false-keeps : (c : Catalog) (context : Context) (v : LiteralValue) → is_scalar v ≡ true → LineKeeps c context (binary op.And (literal v) (truth false)) (truth false)
and-false-keeps c context v s = right-decides c context op.And false v s tt and_false (truth-type c false)

pub false-and-keeps : (c : Catalog) (context : Context) (v : LiteralValue) → is_scalar v ≡ true → LineKeeps c context (binary op.And (truth false) (literal v)) (truth false)
false-and-keeps c context v s = left-decides c context op.And false v s tt false_and (truth-type c false)

pub or-true-keeps : (c : Catalog) (context : Context) (v : LiteralValue) → is_scalar v ≡ true → LineKeeps c context (binary op.Or (literal v) (truth true)) (truth true)
or-true-keeps c context v s = right-decides c context op.Or true v s tt or_true (truth-type c true)

pub true-or-keeps : (c : Catalog) (context : Context) (v : LiteralValue) → is_scalar v ≡ true → LineKeeps c context (binary op.Or (truth true) (literal v)) (truth true)
true-or-keeps c context v s = left-decides c context op.Or true v s tt true_or (truth-type c true)

signed-integer : (k : ValueType) → IsSigned k → is_integer_value k ≡ true
signed-integer value_type.Int8 i = refl
signed-integer value_type.Int16 i = refl
signed-integer value_type.Int32 i = refl
signed-integer value_type.Int64 i = refl
signed-integer _ i = absurd i

-- the negation of a literal
pub negate-keeps : (c : Catalog) (context : Context) (v : LiteralValue) (k : ValueType) (z : ℤ) → IsSigned k → IsScalarOf v k (IntegerValue z) → LineKeeps c context (call function.Negate (literal v)) (folded k (Some (IntegerValue (into k (neg_ℤ z)))))
negate-keeps c context v k z i sv =
    record {
      value_type = λ m h. subst (Has c (folded k (Some (IntegerValue (into k (neg_ℤ z)))))) (types m h).0 (has-scalar c (row_literal k (Some (IntegerValue (into k (neg_ℤ z))))) k (IntegerValue (into k (neg_ℤ z))) (scalar m h) (row m h));
      rows = λ m h frame fits. ap (λ (a : Option TypedRows). option_and_then (of_one (λ x. Some (negate_rows x))) (all_of (a ∷ []))) (scalar-rows v k (IntegerValue z) sv) ∙ sym (scalar-rows (row_literal k (Some (IntegerValue (into k (neg_ℤ z))))) k (IntegerValue (into k (neg_ℤ z))) (scalar m h));
      name = λ m h select. scalar-name v k (IntegerValue z) sv ∙ sym (scalar-name (row_literal k (Some (IntegerValue (into k (neg_ℤ z))))) k (IntegerValue (into k (neg_ℤ z))) (scalar m h));
      faults = λ m h frame fits f g. absurd (literal-fault c.kernels frame (row_literal k (Some (IntegerValue (into k (neg_ℤ z))))) f g);
      lighter = omega (arith, weight-negate (literal v));
    }
  where
    types : (m : ValueType) → Has c (call function.Negate (literal v)) m → (k ≡ m) × IsRowOf k (Some (IntegerValue z))
    types m h = scalar-has c v k m (IntegerValue z) sv (negate-has c (literal v) m h)

    row : (m : ValueType) → Has c (call function.Negate (literal v)) m → IsRowOf k (Some (IntegerValue (into k (neg_ℤ z))))
    row m h = negate_row-typed k (signed-integer k i) (Some (IntegerValue z)) (types m h).1

    scalar : (m : ValueType) → Has c (call function.Negate (literal v)) m → IsScalarOf (row_literal k (Some (IntegerValue (into k (neg_ℤ z))))) k (IntegerValue (into k (neg_ℤ z)))
    scalar m h = folded-scalar k (IntegerValue (into k (neg_ℤ z))) (integer-castable k (signed-integer k i)) (row m h)
