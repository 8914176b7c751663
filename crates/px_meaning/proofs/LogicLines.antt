-- What the rewrites of logic keep: units of `And` and `Or`, negations.
use Rattle.std.proofs.Common.{◌≡◌, ◌<◌, ℕ, List, [], ◌∷◌, map, length, Option, Some, None, Bool, true, false, not, refl, sym, ◌∙◌, ap, subst, arith}
use Rattle.std.specs.Prelude.{option_map, option_and_then, bit_and, bit_or}
use Rattle.std.proofs.lemmas.List.{length-map}
use Rattle.px_base.specs.declared.error.PlanError.{PlanError}
use Rattle.px_semantics.specs.Bitwise.{bitwise, complement}
use Rattle.px_types.specs.Classes.{is_boolean_or_integer}
use Rattle.px_semantics.specs.Comparisons.{compare_row, compare_rows}
use Rattle.px_semantics.specs.Logic.{logic_row, logic_rows, boolean_logic_row, not_row, inverse_row, inverse_rows, tested_rows, null_row, value_row}
use Rattle.px_semantics.specs.Rows.{BooleanValue, StringValue, IntegerValue, Row, TypedRows, Contents, IsRowOf, broadcast_length, elementwise, broadcast_rows, on_integer, lift, broadcast_lengths}
use Rattle.px_types.specs.declared.operator.Operator.{Operator}
use Rattle.px_types.specs.declared.operator.Operator.TheVariants as op
use Rattle.px_types.specs.declared.value_type.ValueType.{ValueType}
use Rattle.px_types.specs.declared.value_type.ValueType.TheVariants as value_type
use Rattle.px_functions.specs.declared.evaluated.EvaluatedBoolean.TheVariants as boolean
use Rattle.px_functions.specs.declared.evaluated.EvaluatedFunction.TheVariants as function
use Rattle.px_semantics.proofs.LawLemmas.{not-and, not-or, not-not}
use Rattle.px_expr.specs.declared.context.Context.{Context}
use Rattle.px_expr.specs.declared.context.Context.TheVariants.{Select}
use Rattle.px_expr.specs.declared.literal.LiteralValue.TheVariants as lit
use Rattle.px_expr.specs.Tree.{Tree}
use Rattle.px_semantics.specs.Rows.{is_boolean}
use Rattle.px_meaning.specs.Faults.{HasFault, uneven, own, of_input, of_first, of_rest, lengths, HasUnevenInputs}
use Rattle.px_meaning.specs.Literals.{one_row}
use Rattle.px_meaning.specs.Mean.{group_rows, binary_rows, of_one, all_of, rows}
use Rattle.px_meaning.specs.Names.{name}
use Rattle.px_meaning.specs.Rewrites.{binary, not_tree, is_null_tree, is_not_null_tree, truth, IsConjunction, IsDisjunction}
use Rattle.px_meaning.specs.Schema.{Fits}
use Rattle.px_expr.specs.Plan.{Catalog}
use Rattle.px_meaning.specs.Signatures.{group_of, group_type, given}
use Rattle.px_meaning.specs.Weight.{weight}
use Rattle.px_meaning.proofs.Answers.{given-parts}
use Rattle.px_meaning.proofs.BitLaws.{complement-twice, complement-and, complement-or}
use Rattle.px_meaning.proofs.ColumnTypes.{IsColumnOf, typed_rows}
use Rattle.px_semantics.proofs.ColumnLemmas.{one-is_column}
use Rattle.px_meaning.proofs.Means.{rows-typed}
use Rattle.px_meaning.proofs.Nodes.{binary-has, has-binary, literal-has, not-has, has-not, is_null-has, is_not_null-has, has-is_null, has-is_not_null, has-literal, literal-fault, call-fault, weight-above, weight-binary, weight-not, weight-is_null, weight-is_not_null}
use Rattle.px_meaning.proofs.RowLaws.{left_unit, right_unit, and-true, true-and, or-false, false-or, elementwise-mapped, elementwise-after, not-null, not-value, map-map, map-back}
use Rattle.px_meaning.proofs.Typing.{Has}

-- what a rewrite keeps
pub record LineKeeps (c : Catalog) (context : Context) (t u : Tree) : Type 0 where
  pub value_type : (k : ValueType) → Has c t k → Has c u k
  pub rows : (k : ValueType) → Has c t k → (frame : List Contents) → Fits frame c.schema → rows c.kernels frame t ≡ rows c.kernels frame u
  pub name : (k : ValueType) → Has c t k → context ≡ Select → name t ≡ name u
  pub faults : (k : ValueType) → Has c t k → (frame : List Contents) → Fits frame c.schema → (f : PlanError) → HasFault c.kernels frame u f → HasFault c.kernels frame t f
  pub lighter : weight u < weight t

pub as_type : (k : ValueType) (a : TypedRows) → a.value_type ≡ k → a ≡ record { value_type = k; rows = a.rows }
as_type k a e = ap (λ (j : ValueType). record { value_type = j; rows = a.rows }) e

abbrev boolean_rows_of : List Row → TypedRows
boolean_rows_of rows = record { value_type = value_type.Boolean; rows = rows }

-- a Boolean literal's type
truth-value_type : (c : Catalog) (t : Bool) (k : ValueType) → Has c (truth t) k → value_type.Boolean ≡ k
truth-value_type c t k h = (given-parts _ value_type.Boolean k (literal-has c (lit.Boolean t) k h)).1

has-truth : (c : Catalog) (t : Bool) → Has c (truth t) value_type.Boolean
has-truth c t = has-literal c (lit.Boolean t) value_type.Boolean refl (ap (λ (b : Bool). given b value_type.Boolean) (one-is_column value_type.Boolean (Some (BooleanValue t)) tt))

-- `And` and `Or` are logical on columns
abbrev IsPlain : Operator → Type 0
IsPlain o = ((a b : TypedRows) → group_rows (group_of o) o a b ≡ logic_rows o a b) × ((j k : ValueType) → group_type (group_of o) j ≡ Some k → j ≡ k)

plain_and : IsPlain op.And
plain_and = (λ a b. refl, λ j k e. (given-parts (is_boolean_or_integer j) j k e).1)

plain_or : IsPlain op.Or
plain_or = (λ a b. refl, λ j k e. (given-parts (is_boolean_or_integer j) j k e).1)

module _ (o : Operator) (e : Bool) where
  logic-right : ((r : Row) → IsRowOf value_type.Boolean r → boolean_logic_row o r (Some (BooleanValue e)) ≡ r) → (v : TypedRows) → IsColumnOf value_type.Boolean v → logic_rows o v (one_row value_type.Boolean (Some (BooleanValue e))) ≡ Some v
  unfolding logic_rows
  logic-right unit v h =
      ap (λ (a : TypedRows). broadcast_rows a.value_type (logic_row o a.value_type) a.rows (Some (BooleanValue e) ∷ [])) (as_type value_type.Boolean v h.value_type)
      ∙ (ap (option_map boolean_rows_of) (right_unit (IsRowOf value_type.Boolean) (boolean_logic_row o) (Some (BooleanValue e)) unit v.rows (typed_rows value_type.Boolean v h)) ∙ ap Some (sym (as_type value_type.Boolean v h.value_type)))

  logic-left : ((r : Row) → IsRowOf value_type.Boolean r → boolean_logic_row o (Some (BooleanValue e)) r ≡ r) → (v : TypedRows) → IsColumnOf value_type.Boolean v → logic_rows o (one_row value_type.Boolean (Some (BooleanValue e))) v ≡ Some v
  unfolding logic_rows
  logic-left unit v h =
      ap (option_map boolean_rows_of) (left_unit (IsRowOf value_type.Boolean) (boolean_logic_row o) (Some (BooleanValue e)) unit v.rows (typed_rows value_type.Boolean v h)) ∙ ap Some (sym (as_type value_type.Boolean v h.value_type))

  module _ (plain : IsPlain o) (c : Catalog) (context : Context) (x : Tree) where
    right-value_type : (k : ValueType) → Has c (binary o x (truth e)) k → Has c x value_type.Boolean × (value_type.Boolean ≡ k)
    right-value_type k h =
        let p = binary-has c o x (truth e) k h in
        let b = truth-value_type c e p.value_type p.right in
        (subst (Has c x) (sym b) p.left, b ∙ plain.1 p.value_type k p.gives)

    left-value_type : (k : ValueType) → Has c (binary o (truth e) x) k → Has c x value_type.Boolean × (value_type.Boolean ≡ k)
    left-value_type k h =
        let p = binary-has c o (truth e) x k h in
        let b = truth-value_type c e p.value_type p.left in
        (subst (Has c x) (sym b) p.right, b ∙ plain.1 p.value_type k p.gives)

    -- an operator with a right operand that changes nothing
    pub right-unit-keeps : ((r : Row) → IsRowOf value_type.Boolean r → boolean_logic_row o r (Some (BooleanValue e)) ≡ r) → LineKeeps c context (binary o x (truth e)) x
    right-unit-keeps unit =
        record {
          value_type = λ k h. let (hx, b) = right-value_type k h in subst (Has c x) b hx;
          rows = λ k h frame fits. let (hx, b) = right-value_type k h in go (rows c.kernels frame x) (λ v f. rows-typed c frame fits x value_type.Boolean hx v f);
          name = λ k h select. refl;
          faults = λ k h frame fits f g. of_input (of_first g);
          lighter = omega (arith, weight-binary o x (truth e));
        }
      where
        go : (m : Option TypedRows) → ((v : TypedRows) → m ≡ Some v → IsColumnOf value_type.Boolean v) → option_and_then (binary_rows o) (all_of (m ∷ Some (one_row value_type.Boolean (Some (BooleanValue e))) ∷ [])) ≡ m
        go None h = refl
        go (Some v) h = plain.0 v (one_row value_type.Boolean (Some (BooleanValue e))) ∙ logic-right unit v (h v refl)

    -- an operator with a left operand that changes nothing, where the name does not matter
    pub left-unit-keeps : ((r : Row) → IsRowOf value_type.Boolean r → boolean_logic_row o (Some (BooleanValue e)) r ≡ r) → (context ≡ Select → ⊥) → LineKeeps c context (binary o (truth e) x) x
    left-unit-keeps unit nameless =
        record {
          value_type = λ k h. let (hx, b) = left-value_type k h in subst (Has c x) b hx;
          rows = λ k h frame fits. let (hx, b) = left-value_type k h in go (rows c.kernels frame x) (λ v f. rows-typed c frame fits x value_type.Boolean hx v f);
          name = λ k h select. absurd (nameless select);
          faults = λ k h frame fits f g. of_input (of_rest (of_first g));
          lighter = omega (arith, weight-binary o (truth e) x);
        }
      where
        go : (m : Option TypedRows) → ((v : TypedRows) → m ≡ Some v → IsColumnOf value_type.Boolean v) → option_and_then (binary_rows o) (all_of (Some (one_row value_type.Boolean (Some (BooleanValue e))) ∷ m ∷ [])) ≡ m
        go None h = refl
        go (Some v) h = plain.0 (one_row value_type.Boolean (Some (BooleanValue e))) v ∙ logic-left unit v (h v refl)

pub and-true-keeps : (c : Catalog) (context : Context) (x : Tree) → LineKeeps c context (binary op.And x (truth true)) x
and-true-keeps c context x = right-unit-keeps op.And true plain_and c context x and-true

pub or-false-keeps : (c : Catalog) (context : Context) (x : Tree) → LineKeeps c context (binary op.Or x (truth false)) x
or-false-keeps c context x = right-unit-keeps op.Or false plain_or c context x or-false

pub true-and-keeps : (c : Catalog) (context : Context) (x : Tree) → (context ≡ Select → ⊥) → LineKeeps c context (binary op.And (truth true) x) x
true-and-keeps c context x n = left-unit-keeps op.And true plain_and c context x true-and n

pub false-or-keeps : (c : Catalog) (context : Context) (x : Tree) → (context ≡ Select → ⊥) → LineKeeps c context (binary op.Or (truth false) x) x
false-or-keeps c context x n = left-unit-keeps op.Or false plain_or c context x false-or n

-- an integer's bits or a Boolean turned twice
inverse-twice : (k : ValueType) (r : Row) → is_boolean_or_integer k ≡ true → IsRowOf k r → inverse_row k (inverse_row k r) ≡ r
inverse-twice value_type.Boolean r n h = not-not r h
inverse-twice value_type.String r n h = cc
inverse-twice k None n h = twice k
  where
    twice : (k : ValueType) → inverse_row k (inverse_row k None) ≡ None
    twice value_type.Boolean = refl
    twice _ = refl
inverse-twice k (Some (BooleanValue t)) n h = absurd h
inverse-twice k (Some (StringValue t)) n h = absurd h
inverse-twice k (Some (IntegerValue z)) n h = ap (λ y. Some (IntegerValue y)) (complement-twice k z h)

-- what a function of one column means
unary-of : (f : TypedRows → TypedRows) (m : Option TypedRows) → option_and_then (of_one (λ a. Some (f a))) (all_of (m ∷ [])) ≡ option_map f m
unary-of f None = refl
unary-of f (Some a) = refl

pub rows-not : (c : Catalog) (frame : List Contents) (x : Tree) → rows c.kernels frame (not_tree x) ≡ option_map inverse_rows (rows c.kernels frame x)
rows-not c frame x = unary-of inverse_rows (rows c.kernels frame x)

twice-rows : (k : ValueType) (v : TypedRows) → is_boolean_or_integer k ≡ true → IsColumnOf k v → inverse_rows (inverse_rows v) ≡ v
twice-rows k v n h =
    ap (λ (a : TypedRows). inverse_rows (inverse_rows a)) (as_type k v h.value_type)
    ∙ (ap (λ (rows : List Row). record { value_type = k; rows = rows }) (map-back (IsRowOf k) (inverse_row k) (inverse_row k) (λ r p. inverse-twice k r n p) v.rows (typed_rows k v h)) ∙ sym (as_type k v h.value_type))

-- not not x is x
pub not-not-keeps : (c : Catalog) (context : Context) (x : Tree) → LineKeeps c context (not_tree (not_tree x)) x
not-not-keeps c context x =
    record {
      value_type = λ k h. let (h1, n) = not-has c (not_tree x) k h in (not-has c x k h1).0;
      rows = λ k h frame fits.
          let (h1, n) = not-has c (not_tree x) k h in
          let (hx, m) = not-has c x k h1 in
          rows-not c frame (not_tree x) ∙ (ap (option_map inverse_rows) (rows-not c frame x) ∙ go k n (rows c.kernels frame x) (λ v f. rows-typed c frame fits x k hx v f));
      name = λ k h select. refl;
      faults = λ k h frame fits f g. of_input (of_first (of_input (of_first g)));
      lighter = omega (arith, weight-not (not_tree x), weight-not x, weight-above x);
    }
  where
    go : (k : ValueType) → is_boolean_or_integer k ≡ true → (m : Option TypedRows) → ((v : TypedRows) → m ≡ Some v → IsColumnOf k v) → option_map inverse_rows (option_map inverse_rows m) ≡ m
    go k n None h = refl
    go k n (Some v) h = ap Some (twice-rows k v n (h v refl))

-- `not` of a Boolean literal
pub not-truth-keeps : (c : Catalog) (context : Context) (t : Bool) → LineKeeps c context (not_tree (truth t)) (truth (not t))
not-truth-keeps c context t =
    record {
      value_type = λ k h. let (h1, n) = not-has c (truth t) k h in subst (Has c (truth (not t))) (truth-value_type c t k h1) (has-truth c (not t));
      rows = λ k h frame fits. go t;
      name = λ k h select. refl;
      faults = λ k h frame fits f g. absurd (literal-fault c.kernels frame (lit.Boolean (not t)) f g);
      lighter = omega (arith, weight-not (truth t));
    }
  where
    go : (t : Bool) → Some (inverse_rows (one_row value_type.Boolean (Some (BooleanValue t)))) ≡ Some (one_row value_type.Boolean (Some (BooleanValue (not t))))
    go true = refl
    go false = refl

-- `not` of a test for null, and of the negation test
pub not-is_null-keeps : (c : Catalog) (context : Context) (x : Tree) → LineKeeps c context (not_tree (is_null_tree x)) (is_not_null_tree x)
not-is_null-keeps c context x =
    record {
      value_type = λ k h.
          let (h1, n) = not-has c (is_null_tree x) k h in
          let (j, hx, b) = is_null-has c x k h1 in
          subst (Has c (is_not_null_tree x)) (sym b) (has-is_not_null c x j hx);
      rows = λ k h frame fits. rows-not c frame (is_null_tree x) ∙ (ap (option_map inverse_rows) (unary-of (tested_rows null_row) (rows c.kernels frame x)) ∙ (go (rows c.kernels frame x) ∙ sym (unary-of (tested_rows value_row) (rows c.kernels frame x))));
      name = λ k h select. refl;
      faults = λ k h frame fits f g. of_input (of_first (of_input (of_first (call-fault c.kernels frame (function.Boolean boolean.IsNotNull) x f refl g))));
      lighter = omega (arith, weight-not (is_null_tree x), weight-is_null x, weight-is_not_null x);
    }
  where
    go : (m : Option TypedRows) → option_map inverse_rows (option_map (tested_rows null_row) m) ≡ option_map (tested_rows value_row) m
    go None = refl
    go (Some v) = ap (λ (rows : List Row). Some (boolean_rows_of rows)) (map-map not_row null_row value_row not-null v.rows)

pub not-is_not_null-keeps : (c : Catalog) (context : Context) (x : Tree) → LineKeeps c context (not_tree (is_not_null_tree x)) (is_null_tree x)
not-is_not_null-keeps c context x =
    record {
      value_type = λ k h.
          let (h1, n) = not-has c (is_not_null_tree x) k h in
          let (j, hx, b) = is_not_null-has c x k h1 in
          subst (Has c (is_null_tree x)) (sym b) (has-is_null c x j hx);
      rows = λ k h frame fits. rows-not c frame (is_not_null_tree x) ∙ (ap (option_map inverse_rows) (unary-of (tested_rows value_row) (rows c.kernels frame x)) ∙ (go (rows c.kernels frame x) ∙ sym (unary-of (tested_rows null_row) (rows c.kernels frame x))));
      name = λ k h select. refl;
      faults = λ k h frame fits f g. of_input (of_first (of_input (of_first (call-fault c.kernels frame (function.Boolean boolean.IsNull) x f refl g))));
      lighter = omega (arith, weight-not (is_not_null_tree x), weight-is_null x, weight-is_not_null x);
    }
  where
    go : (m : Option TypedRows) → option_map inverse_rows (option_map (tested_rows value_row) m) ≡ option_map (tested_rows null_row) m
    go None = refl
    go (Some v) = ap (λ (rows : List Row). Some (boolean_rows_of rows)) (map-map not_row value_row null_row not-value v.rows)

-- De Morgan on rows of a type
bits-and : (k : ValueType) (x y : Row) → IsRowOf k x → IsRowOf k y → lift (bitwise bit_or k) (on_integer (complement k) x) (on_integer (complement k) y) ≡ on_integer (complement k) (lift (bitwise bit_and k) x y)
bits-and k (Some (IntegerValue x)) (Some (IntegerValue y)) p q = ap (λ z. Some (IntegerValue z)) (sym (complement-and k x y p q))
bits-and k (Some (IntegerValue x)) (Some (BooleanValue t)) p q = refl
bits-and k (Some (IntegerValue x)) (Some (StringValue t)) p q = refl
bits-and k (Some (IntegerValue x)) None p q = refl
bits-and k (Some (BooleanValue t)) y p q = refl
bits-and k (Some (StringValue t)) y p q = refl
bits-and k None y p q = refl

bits-or : (k : ValueType) (x y : Row) → IsRowOf k x → IsRowOf k y → lift (bitwise bit_and k) (on_integer (complement k) x) (on_integer (complement k) y) ≡ on_integer (complement k) (lift (bitwise bit_or k) x y)
bits-or k (Some (IntegerValue x)) (Some (IntegerValue y)) p q = ap (λ z. Some (IntegerValue z)) (sym (complement-or k x y p q))
bits-or k (Some (IntegerValue x)) (Some (BooleanValue t)) p q = refl
bits-or k (Some (IntegerValue x)) (Some (StringValue t)) p q = refl
bits-or k (Some (IntegerValue x)) None p q = refl
bits-or k (Some (BooleanValue t)) y p q = refl
bits-or k (Some (StringValue t)) y p q = refl
bits-or k None y p q = refl

-- the negation of what the first operator gives is what the second gives of the negations
abbrev Exchanges : Operator → Operator → ValueType → Type 0
Exchanges o o' k = (x y : Row) → IsRowOf k x → IsRowOf k y → logic_row o' k (inverse_row k x) (inverse_row k y) ≡ inverse_row k (logic_row o k x y)

exchange-and : (k : ValueType) → Exchanges op.And op.Or k
exchange-and value_type.Boolean x y p q = sym (not-and x y)
exchange-and value_type.Null x y p q = bits-and value_type.Null x y p q
exchange-and value_type.String x y p q = bits-and value_type.String x y p q
exchange-and value_type.UInt8 x y p q = bits-and value_type.UInt8 x y p q
exchange-and value_type.UInt16 x y p q = bits-and value_type.UInt16 x y p q
exchange-and value_type.UInt32 x y p q = bits-and value_type.UInt32 x y p q
exchange-and value_type.UInt64 x y p q = bits-and value_type.UInt64 x y p q
exchange-and value_type.Int8 x y p q = bits-and value_type.Int8 x y p q
exchange-and value_type.Int16 x y p q = bits-and value_type.Int16 x y p q
exchange-and value_type.Int32 x y p q = bits-and value_type.Int32 x y p q
exchange-and value_type.Int64 x y p q = bits-and value_type.Int64 x y p q

exchange-or : (k : ValueType) → Exchanges op.Or op.And k
exchange-or value_type.Boolean x y p q = sym (not-or x y)
exchange-or value_type.Null x y p q = bits-or value_type.Null x y p q
exchange-or value_type.String x y p q = bits-or value_type.String x y p q
exchange-or value_type.UInt8 x y p q = bits-or value_type.UInt8 x y p q
exchange-or value_type.UInt16 x y p q = bits-or value_type.UInt16 x y p q
exchange-or value_type.UInt32 x y p q = bits-or value_type.UInt32 x y p q
exchange-or value_type.UInt64 x y p q = bits-or value_type.UInt64 x y p q
exchange-or value_type.Int8 x y p q = bits-or value_type.Int8 x y p q
exchange-or value_type.Int16 x y p q = bits-or value_type.Int16 x y p q
exchange-or value_type.Int32 x y p q = bits-or value_type.Int32 x y p q
exchange-or value_type.Int64 x y p q = bits-or value_type.Int64 x y p q

-- the operator is logical, of the types that its group takes, and goes over into another
record Turns (o o' : Operator) : Type 0 where
  plain : (a b : TypedRows) → group_rows (group_of o) o a b ≡ logic_rows o a b
  plain' : (a b : TypedRows) → group_rows (group_of o') o' a b ≡ logic_rows o' a b
  keeps : (j k : ValueType) → group_type (group_of o) j ≡ Some k → j ≡ k
  takes' : (k : ValueType) → is_boolean_or_integer k ≡ true → group_type (group_of o') k ≡ Some k
  exchange : (k : ValueType) → group_type (group_of o) k ≡ Some k → Exchanges o o' k

number-taken : (k : ValueType) → is_boolean_or_integer k ≡ true → given (is_boolean_or_integer k) k ≡ Some k
number-taken k e = ap (λ (b : Bool). given b k) e

only-boolean : (k : ValueType) → given (is_boolean k) k ≡ Some k → k ≡ value_type.Boolean
only-boolean value_type.Boolean e = refl
only-boolean _ e = cc

turns_and : Turns op.And op.Or
turns_and = record { plain = λ a b. refl; plain' = λ a b. refl; keeps = λ j k e. (given-parts (is_boolean_or_integer j) j k e).1; takes' = number-taken; exchange = λ k e. exchange-and k }

turns_or : Turns op.Or op.And
turns_or = record { plain = λ a b. refl; plain' = λ a b. refl; keeps = λ j k e. (given-parts (is_boolean_or_integer j) j k e).1; takes' = number-taken; exchange = λ k e. exchange-or k }

turns_logical_and : Turns op.LogicalAnd op.Or
turns_logical_and =
    record {
      plain = λ a b. refl;
      plain' = λ a b. refl;
      keeps = λ j k e. (given-parts (is_boolean j) j k e).1;
      takes' = number-taken;
      exchange = λ k e. subst (Exchanges op.LogicalAnd op.Or) (sym (only-boolean k e)) (λ x y p q. sym (not-and x y));
    }

turns_logical_or : Turns op.LogicalOr op.And
turns_logical_or =
    record {
      plain = λ a b. refl;
      plain' = λ a b. refl;
      keeps = λ j k e. (given-parts (is_boolean j) j k e).1;
      takes' = number-taken;
      exchange = λ k e. subst (Exchanges op.LogicalOr op.And) (sym (only-boolean k e)) (λ x y p q. sym (not-or x y));
    }

-- inputs whose lengths do not broadcast, before a function of each row
uneven-before : (m n : Option TypedRows) → HasUnevenInputs (option_map inverse_rows m ∷ option_map inverse_rows n ∷ []) → HasUnevenInputs (m ∷ n ∷ [])
uneven-before None n (cols, e, f) = cc
uneven-before (Some a) None (cols, e, f) = cc
uneven-before (Some a) (Some b) (cols, e, f) =
    let same : inverse_rows a ∷ inverse_rows b ∷ [] ≡ cols = cc in (
      a ∷ b ∷ [],
      refl,
      ap (λ (m : ℕ). broadcast_length m (length b.rows)) (sym (length-map a.rows (inverse_row a.value_type)))
          ∙ (ap (broadcast_length (length (inverse_rows a).rows)) (sym (length-map b.rows (inverse_row b.value_type))) ∙ (ap (λ (z : List TypedRows). broadcast_lengths (lengths z)) same ∙ f)),
    )

module _ (o o' : Operator) (turns : Turns o o') (c : Catalog) (context : Context) (a b : Tree) where
  turned-rows : (k : ValueType) (v w : TypedRows) → group_type (group_of o) k ≡ Some k → IsColumnOf k v → IsColumnOf k w → option_map inverse_rows (logic_rows o v w) ≡ logic_rows o' (inverse_rows v) (inverse_rows w)
  unfolding logic_rows
  turned-rows k v w t hv hw =
      ap (λ (x : TypedRows). option_map inverse_rows (broadcast_rows x.value_type (logic_row o x.value_type) x.rows w.rows)) (as_type k v hv.value_type)
      ∙ (go (elementwise (logic_row o k) v.rows w.rows)
      ∙ (ap (option_map (λ (rows : List Row). record { value_type = k; rows = rows })) (sym (elementwise-mapped (IsRowOf k) tt (inverse_row k) (logic_row o k) (logic_row o' k) (turns.exchange k t) v.rows w.rows (typed_rows k v hv) (typed_rows k w hw)))
      ∙ (ap (λ (x : TypedRows). broadcast_rows x.value_type (logic_row o' x.value_type) (map (inverse_row x.value_type) x.rows) (map (inverse_row k) w.rows)) (sym (as_type k v hv.value_type))
      ∙ ap (λ (x : TypedRows). broadcast_rows v.value_type (logic_row o' v.value_type) (map (inverse_row v.value_type) v.rows) (map (inverse_row x.value_type) x.rows)) (sym (as_type k w hw.value_type)))))
    where
      go : (m : Option (List Row)) → option_map inverse_rows (option_map (λ (rows : List Row). record { value_type = k; rows = rows }) m) ≡ option_map (λ (rows : List Row). record { value_type = k; rows = rows }) (option_map (map (inverse_row k)) m)
      go None = refl
      go (Some rows) = refl

  turned-types : (k : ValueType) → Has c (not_tree (binary o a b)) k → Has c a k × Has c b k × (is_boolean_or_integer k ≡ true) × (group_type (group_of o) k ≡ Some k)
  turned-types k h =
      let (h1, n) = not-has c (binary o a b) k h in
      let p = binary-has c o a b k h1 in
      let same = turns.keeps p.value_type k p.gives in
      (subst (Has c a) same p.left, subst (Has c b) same p.right, n, subst (λ (j : ValueType). group_type (group_of o) j ≡ Some k) same p.gives)

  turned-keeps : LineKeeps c context (not_tree (binary o a b)) (binary o' (not_tree a) (not_tree b))
  turned-keeps =
      record {
        value_type = λ k h. let (ha, hb, n, t) = turned-types k h in has-binary c o' (not_tree a) (not_tree b) k k (has-not c a k ha n) (has-not c b k hb n) (turns.takes' k n);
        rows = λ k h frame fits.
            let (ha, hb, n, t) = turned-types k h in
            rows-not c frame (binary o a b)
            ∙ (go k t (rows c.kernels frame a) (rows c.kernels frame b) (λ v f. rows-typed c frame fits a k ha v f) (λ v f. rows-typed c frame fits b k hb v f)
            ∙ ap (λ (ms : List (Option TypedRows)). option_and_then (binary_rows o') (all_of ms)) (two (sym (rows-not c frame a)) (sym (rows-not c frame b))));
        name = λ k h select. refl;
        faults = λ k h frame fits f g. of_input (of_first (inner frame f g));
        lighter = omega (arith, weight-not (binary o a b), weight-binary o a b, weight-binary o' (not_tree a) (not_tree b), weight-not a, weight-not b);
      }
    where
      two : {x y z w : Option TypedRows} → x ≡ y → z ≡ w → x ∷ z ∷ [] ≡ y ∷ w ∷ []
      two e f = cc

      go :
          (k : ValueType) → group_type (group_of o) k ≡ Some k → (m n : Option TypedRows) → ((v : TypedRows) → m ≡ Some v → IsColumnOf k v) → ((v : TypedRows) → n ≡ Some v → IsColumnOf k v) →
          option_map inverse_rows (option_and_then (binary_rows o) (all_of (m ∷ n ∷ []))) ≡ option_and_then (binary_rows o') (all_of (option_map inverse_rows m ∷ option_map inverse_rows n ∷ []))
      go k t None n p q = refl
      go k t (Some v) None p q = refl
      go k t (Some v) (Some w) p q =
          ap (option_map inverse_rows) (turns.plain v w) ∙ (turned-rows k v w t (p v refl) (q w refl) ∙ sym (turns.plain' (inverse_rows v) (inverse_rows w)))

      inner : (frame : List Contents) (f : PlanError) → HasFault c.kernels frame (binary o' (not_tree a) (not_tree b)) f → HasFault c.kernels frame (binary o a b) f
      inner frame f (own (uneven joins h)) =
          own (uneven refl (uneven-before (rows c.kernels frame a) (rows c.kernels frame b)
          (subst HasUnevenInputs (two (rows-not c frame a) (rows-not c frame b)) h)))
      inner frame f (of_input (of_first h)) = of_input (of_first (call-fault c.kernels frame (function.Boolean boolean.Not) a f refl h))
      inner frame f (of_input (of_rest (of_first h))) = of_input (of_rest (of_first (call-fault c.kernels frame (function.Boolean boolean.Not) b f refl h)))
      inner frame f (of_input (of_rest (of_rest h))) = elim h [ ]

pub not-and-keeps : (o : Operator) → IsConjunction o → (c : Catalog) (context : Context) (a b : Tree) → LineKeeps c context (not_tree (binary o a b)) (binary op.Or (not_tree a) (not_tree b))
not-and-keeps op.And h c context a b = turned-keeps op.And op.Or turns_and c context a b
not-and-keeps op.LogicalAnd h c context a b = turned-keeps op.LogicalAnd op.Or turns_logical_and c context a b
not-and-keeps _ h c context a b = absurd h

pub not-or-keeps : (o : Operator) → IsDisjunction o → (c : Catalog) (context : Context) (a b : Tree) → LineKeeps c context (not_tree (binary o a b)) (binary op.And (not_tree a) (not_tree b))
not-or-keeps op.Or h c context a b = turned-keeps op.Or op.And turns_or c context a b
not-or-keeps op.LogicalOr h c context a b = turned-keeps op.LogicalOr op.And turns_logical_or c context a b
not-or-keeps _ h c context a b = absurd h

-- the operators are comparisons, and the second is the negation of the first
pub record Opposes (o o' : Operator) : Type 0 where
  pub plain : (a b : TypedRows) → group_rows (group_of o) o a b ≡ compare_rows o a b
  pub plain' : (a b : TypedRows) → group_rows (group_of o') o' a b ≡ compare_rows o' a b
  pub gives : (j : ValueType) → group_type (group_of o) j ≡ Some value_type.Boolean
  pub gives' : (j : ValueType) → group_type (group_of o') j ≡ Some value_type.Boolean
  pub opposite : (x y : Row) → not_row (compare_row o x y) ≡ compare_row o' x y

module _ (o o' : Operator) (opposes : Opposes o o') (c : Catalog) (context : Context) (a b : Tree) where
  opposed-rows : (v w : TypedRows) → option_map inverse_rows (compare_rows o v w) ≡ compare_rows o' v w
  unfolding compare_rows
  opposed-rows v w = go (elementwise (compare_row o) v.rows w.rows) ∙ ap (option_map boolean_rows_of) (elementwise-after not_row (compare_row o) (compare_row o') opposes.opposite v.rows w.rows)
    where
      go : (m : Option (List Row)) → option_map inverse_rows (option_map boolean_rows_of m) ≡ option_map boolean_rows_of (option_map (map not_row) m)
      go None = refl
      go (Some rows) = refl

  pub opposed-keeps : LineKeeps c context (not_tree (binary o a b)) (binary o' a b)
  opposed-keeps =
      record {
        value_type = λ k h.
            let (h1, n) = not-has c (binary o a b) k h in
            let p = binary-has c o a b k h1 in
            let boolean : Some value_type.Boolean ≡ Some k = sym (opposes.gives p.value_type) ∙ p.gives in
            has-binary c o' a b p.value_type k p.left p.right (opposes.gives' p.value_type ∙ boolean);
        rows = λ k h frame fits. rows-not c frame (binary o a b) ∙ go (rows c.kernels frame a) (rows c.kernels frame b);
        name = λ k h select. refl;
        faults = λ k h frame fits f g. of_input (of_first (inner frame f g));
        lighter = omega (arith, weight-not (binary o a b), weight-binary o a b, weight-binary o' a b);
      }
    where
      go : (m n : Option TypedRows) → option_map inverse_rows (option_and_then (binary_rows o) (all_of (m ∷ n ∷ []))) ≡ option_and_then (binary_rows o') (all_of (m ∷ n ∷ []))
      go None n = refl
      go (Some v) None = refl
      go (Some v) (Some w) = ap (option_map inverse_rows) (opposes.plain v w) ∙ (opposed-rows v w ∙ sym (opposes.plain' v w))

      inner : (frame : List Contents) (f : PlanError) → HasFault c.kernels frame (binary o' a b) f → HasFault c.kernels frame (binary o a b) f
      inner frame f (own (uneven joins h)) = own (uneven refl h)
      inner frame f (of_input h) = of_input h
