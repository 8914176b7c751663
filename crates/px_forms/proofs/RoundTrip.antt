-- What an expression is written as reads as the same tree.
use Rattle.std.proofs.Common.{◌≡◌, ℕ, ℤ, pos, List, [], ◌∷◌, map, codes, Bool, true, false, cond, Option, Some, None, option_map, IfSome, IfOk, Result, Ok, Err, refl, sym, ap, ◌∙◌, subst}
use Rattle.std.proofs.lemmas.Option.{option_and_then_some}
use Rattle.serde_json.specs.Data.{Data, null, boolean, number, string}
use Rattle.serde_json.specs.Find.{of_integer}
use Rattle.serde_json.specs.View.{view, items_of}
use Rattle.serde_json.specs.declared.value.Value.{Value}
use Rattle.px_base.specs.declared.error.PlanError.{PlanError}
use Rattle.px_base.specs.declared.list.List.{List as Entries}
use Rattle.px_semantics.specs.Columns.{is_column}
use Rattle.px_types.specs.ValueTypes.{holds, dtype_of, value_type_of, layer_value_type}
use Rattle.px_semantics.specs.Rows.{Contents}
use Rattle.px_types.specs.declared.dtype.DataType.{DataType, DataType-F, out-DataType}
use Rattle.px_types.specs.declared.dtype.DataType.TheVariants as dtype
use Rattle.px_types.specs.declared.dtype.DataType.TheViews.{roll-DataType, roll-out-DataType}
use Rattle.px_types.specs.declared.dtype.Field.{Field}
use Rattle.px_functions.specs.declared.evaluated.EvaluatedBoolean.TheVariants.{IsNull, IsNotNull, Not}
use Rattle.px_functions.specs.declared.evaluated.EvaluatedFunction.{EvaluatedFunction}
use Rattle.px_functions.specs.declared.evaluated.EvaluatedFunction.TheVariants as function
use Rattle.px_types.specs.declared.function.FusedOperator.TheVariants.{MultiplyAdd, SubMultiply, MultiplySub}
use Rattle.px_types.specs.declared.type_parts.CastOptions.{CastOptions}
use Rattle.px_types.specs.declared.type_parts.CastOptions.TheVariants.{Strict, NonStrict, Overflowing}
use Rattle.px_types.specs.declared.operator.Operator.{Operator}
use Rattle.px_types.specs.declared.operator.Operator.TheVariants.{Eq, EqValidity, NotEq, NotEqValidity, Lt, LtEq, Gt, GtEq, Plus, Minus, Multiply, Divide, TrueDivide, FloorDivide, Modulus, And, Or, Xor, LogicalAnd, LogicalOr}
use Rattle.px_types.specs.declared.value_type.ValueType.{ValueType}
use Rattle.px_types.specs.declared.value_type.ValueType.TheVariants as value_type
use Rattle.px_semantics.proofs.ColumnLemmas.{is_column-column}
use Rattle.px_expr.specs.declared.expr.Expr.{Expr}
use Rattle.px_expr.specs.declared.literal.LiteralValue.{LiteralValue}
use Rattle.px_expr.specs.declared.literal.LiteralValue.TheVariants as value
use Rattle.px_meaning.proofs.EvaluatedFunctions.{evaluated_of}
use Rattle.px_functions.specs.Evaluated.{of_evaluated}
use Rattle.px_expr.specs.Tree.{Node, node_for, Tree, Trees, tree, trees, none, more, over, tree_of, fold_trees}
use Rattle.px_meaning.specs.Literals.{literal_of}
use Rattle.px_meaning.proofs.Shapes.{map-parts}
use Rattle.px_base.specs.Answer.{GivesSeen}
use Rattle.px_json.specs.Built.{single_member}
use Rattle.px_json.specs.Column.{column_data}
use Rattle.px_json.specs.Digits.{has_128_bits, is_plain_number, integer, integer_data}
use Rattle.px_json.specs.JsonAccess.{only_if, all_of}
use Rattle.px_json.specs.Names.{value_type_name, value_type_named}
use Rattle.px_json.proofs.Decimals.{integer-integer_data}
use Rattle.px_json.proofs.RoundTrip.{value_type_named-value_type_name, as_integer-of_integer, column_again}
use Rattle.px_forms.specs.Names.{form_named, operator_name, operator_named, function_text, function_named, cast_name, cast_named, literal_type_name, literal_type_named}
use Rattle.px_forms.specs.Form.{literal, literal_in, element_wise, expr_of, exprs_of}
use Rattle.px_forms.specs.Written.{bare, typed, number_data, open_data, literal_data, alias_data, binary_data, cast_data, ternary_data, function_data, node_data, data_of}
use Rattle.px_forms.specs.declared.literal.LiteralType.{LiteralType}
use Rattle.px_forms.specs.declared.literal.LiteralType.TheVariants as type
use Rattle.px_forms.proofs.Trees.{tree_of-Alias, tree_of-Column, tree_of-Literal, tree_of-BinaryExpr, tree_of-Cast, tree_of-Ternary, tree_of-Function}

operator_named-operator_name : (op : Operator) → operator_named (operator_name op) ≡ Some op
unfolding operator_named operator_name
operator_named-operator_name Eq = refl
operator_named-operator_name EqValidity = refl
operator_named-operator_name NotEq = refl
operator_named-operator_name NotEqValidity = refl
operator_named-operator_name Lt = refl
operator_named-operator_name LtEq = refl
operator_named-operator_name Gt = refl
operator_named-operator_name GtEq = refl
operator_named-operator_name Plus = refl
operator_named-operator_name Minus = refl
operator_named-operator_name Multiply = refl
operator_named-operator_name Divide = refl
operator_named-operator_name TrueDivide = refl
operator_named-operator_name FloorDivide = refl
operator_named-operator_name Modulus = refl
operator_named-operator_name And = refl
operator_named-operator_name Or = refl
operator_named-operator_name Xor = refl
operator_named-operator_name LogicalAnd = refl
operator_named-operator_name LogicalOr = refl

function_named-function_text : (f : EvaluatedFunction) → function_named (function_text f) ≡ Some f
unfolding function_named function_text
function_named-function_text (function.Boolean IsNull) = refl
function_named-function_text (function.Boolean IsNotNull) = refl
function_named-function_text (function.Boolean Not) = refl
function_named-function_text function.Negate = refl
function_named-function_text (function.Fused MultiplyAdd) = refl
function_named-function_text (function.Fused SubMultiply) = refl
function_named-function_text (function.Fused MultiplySub) = refl

cast_named-cast_name : (options : CastOptions) → cast_named (cast_name options) ≡ Some options
unfolding cast_named cast_name
cast_named-cast_name Strict = refl
cast_named-cast_name NonStrict = refl
cast_named-cast_name Overflowing = refl

literal_type_named-literal_type_name : (t : LiteralType) → literal_type_named (literal_type_name t) ≡ Some t
unfolding literal_type_named literal_type_name value_type_named value_type_name
literal_type_named-literal_type_name type.Int128 = refl
literal_type_named-literal_type_name type.Int = refl
literal_type_named-literal_type_name (type.Value value_type.Null) = refl
literal_type_named-literal_type_name (type.Value value_type.Boolean) = refl
literal_type_named-literal_type_name (type.Value value_type.String) = refl
literal_type_named-literal_type_name (type.Value value_type.UInt8) = refl
literal_type_named-literal_type_name (type.Value value_type.UInt16) = refl
literal_type_named-literal_type_name (type.Value value_type.UInt32) = refl
literal_type_named-literal_type_name (type.Value value_type.UInt64) = refl
literal_type_named-literal_type_name (type.Value value_type.Int8) = refl
literal_type_named-literal_type_name (type.Value value_type.Int16) = refl
literal_type_named-literal_type_name (type.Value value_type.Int32) = refl
literal_type_named-literal_type_name (type.Value value_type.Int64) = refl

layer_dtype : (x : DataType-F DataType Field) (k : ValueType) → layer_value_type x ≡ Some k → dtype_of k ≡ roll-DataType x
layer_dtype DataType-F.Null k e = let same : value_type.Null ≡ k = cc in ap dtype_of (sym same) ∙ sym dtype.rolls-Null
layer_dtype DataType-F.Boolean k e = let same : value_type.Boolean ≡ k = cc in ap dtype_of (sym same) ∙ sym dtype.rolls-Boolean
layer_dtype DataType-F.String k e = let same : value_type.String ≡ k = cc in ap dtype_of (sym same) ∙ sym dtype.rolls-String
layer_dtype DataType-F.UInt8 k e = let same : value_type.UInt8 ≡ k = cc in ap dtype_of (sym same) ∙ sym dtype.rolls-UInt8
layer_dtype DataType-F.UInt16 k e = let same : value_type.UInt16 ≡ k = cc in ap dtype_of (sym same) ∙ sym dtype.rolls-UInt16
layer_dtype DataType-F.UInt32 k e = let same : value_type.UInt32 ≡ k = cc in ap dtype_of (sym same) ∙ sym dtype.rolls-UInt32
layer_dtype DataType-F.UInt64 k e = let same : value_type.UInt64 ≡ k = cc in ap dtype_of (sym same) ∙ sym dtype.rolls-UInt64
layer_dtype DataType-F.Int8 k e = let same : value_type.Int8 ≡ k = cc in ap dtype_of (sym same) ∙ sym dtype.rolls-Int8
layer_dtype DataType-F.Int16 k e = let same : value_type.Int16 ≡ k = cc in ap dtype_of (sym same) ∙ sym dtype.rolls-Int16
layer_dtype DataType-F.Int32 k e = let same : value_type.Int32 ≡ k = cc in ap dtype_of (sym same) ∙ sym dtype.rolls-Int32
layer_dtype DataType-F.Int64 k e = let same : value_type.Int64 ≡ k = cc in ap dtype_of (sym same) ∙ sym dtype.rolls-Int64
layer_dtype _ k e = cc

dtype_of-value_type_of : (d : DataType) (k : ValueType) → value_type_of d ≡ Some k → dtype_of k ≡ d
dtype_of-value_type_of d k e = layer_dtype (out-DataType d) k e ∙ roll-out-DataType d

-- the value reads as an expression of the tree
abbrev ReadsAs : Data → Tree → Type 0
ReadsAs d t = option_map tree_of (expr_of d) ≡ Some t

-- the value that was made is the one asked for
back : (t : Tree) (made d : Data) → Some made ≡ Some d → ReadsAs made t → ReadsAs d t
back t made d is reads = let same : made ≡ d = cc in rw (← same) reads

-- what an `only_if` gives, it gives under a test that is true
only_if_some : {A : Type 0} (b : Bool) (o : Option A) (a : A) → only_if b o ≡ Some a → (b ≡ true) × (o ≡ Some a)
only_if_some true o a e = (refl, e)
only_if_some false o a e = cc

column_reads : (name : List ℕ) → ReadsAs (single_member (codes "col") (string name)) (over (Node.Column name) [])
unfolding form_named
column_reads name = ap Some (tree_of-Column name)

bare_reads : (d : Data) (v : LiteralValue) → literal d ≡ Some v → ReadsAs (bare d) (over (Node.Literal v) [])
unfolding form_named
bare_reads d v e = rw e (ap Some (tree_of-Literal v))

typed_reads : (t : LiteralType) (d : Data) (z : ℤ) (v : LiteralValue) → integer d ≡ Some z → literal_in t z ≡ Some v → ReadsAs (typed t d) (over (Node.Literal v) [])
typed_reads t d z v is made = bare_reads _ v (rw (literal_type_named-literal_type_name t, is, made) refl)

number_reads : (k : ValueType) (z : ℤ) (v : LiteralValue) (d : Data) → literal_of k z ≡ v → number_data k z ≡ Some d → ReadsAs d (over (Node.Literal v) [])
number_reads k z v d is e =
    let held = only_if_some (holds k z) _ d e in
    back _ (typed (type.Value k) (number (of_integer z))) d held.1 (typed_reads (type.Value k) (number (of_integer z)) z v (as_integer-of_integer z) (rw (held.0, is) refl))

open_reads : (z : ℤ) (b : Bool) → has_128_bits z ≡ true → is_plain_number z ≡ b → ReadsAs (open_data z) (over (Node.Literal (value.Int z)) [])
open_reads z true h e = rw e (bare_reads (number (of_integer z)) (value.Int z) (rw (as_integer-of_integer z) refl))
open_reads z false h e =
    subst (λ (d : Data). ReadsAs d (over (Node.Literal (value.Int z)) [])) (ap (λ c. cond c (bare (number (of_integer z))) (typed type.Int (integer_data z))) (sym e))
    (typed_reads type.Int (integer_data z) z (value.Int z) (integer-integer_data z h) (rw h refl))

series_reads : (c : Contents) → is_column c.values ≡ true → ReadsAs (single_member (codes "series") (column_data c)) (over (Node.Literal (value.Series c)) [])
unfolding form_named
series_reads c h = rw (column_again c (is_column-column c.values h)) (ap Some (tree_of-Literal (value.Series c)))

literal_reads : (v : LiteralValue) (d : Data) → literal_data v ≡ Some d → ReadsAs d (over (Node.Literal v) [])
literal_reads value.Null d e = back _ (bare null) d e (bare_reads null value.Null refl)
literal_reads (value.Boolean t) d e = back _ (bare (boolean t)) d e (bare_reads (boolean t) (value.Boolean t) refl)
literal_reads (value.String text) d e = back _ (bare (string text)) d e (bare_reads (string text) (value.String text) refl)
literal_reads (value.UInt8 n) d e = number_reads value_type.UInt8 (pos n) (value.UInt8 n) d refl e
literal_reads (value.UInt16 n) d e = number_reads value_type.UInt16 (pos n) (value.UInt16 n) d refl e
literal_reads (value.UInt32 n) d e = number_reads value_type.UInt32 (pos n) (value.UInt32 n) d refl e
literal_reads (value.UInt64 n) d e = number_reads value_type.UInt64 (pos n) (value.UInt64 n) d refl e
literal_reads (value.Int8 z) d e = number_reads value_type.Int8 z (value.Int8 z) d refl e
literal_reads (value.Int16 z) d e = number_reads value_type.Int16 z (value.Int16 z) d refl e
literal_reads (value.Int32 z) d e = number_reads value_type.Int32 z (value.Int32 z) d refl e
literal_reads (value.Int64 z) d e = number_reads value_type.Int64 z (value.Int64 z) d refl e
literal_reads (value.Int128 z) d e =
    let held = only_if_some (has_128_bits z) _ d e in
    back _ (typed type.Int128 (integer_data z)) d held.1 (typed_reads type.Int128 (integer_data z) z (value.Int128 z) (integer-integer_data z held.0) (rw held.0 refl))
literal_reads (value.Int z) d e =
    let held = only_if_some (has_128_bits z) _ d e in
    back _ (open_data z) d held.1 (open_reads z (is_plain_number z) held.0 refl)
literal_reads (value.Series c) d e =
    let held = only_if_some (is_column c.values) _ d e in
    back _ (single_member (codes "series") (column_data c)) d held.1 (series_reads c held.0)
literal_reads (value.Binary bytes) d e = cc
literal_reads (value.Range low high dtype) d e = cc
literal_reads (value.StrCat text) d e = cc

alias_reads : (t : Tree) (x : Data) (name : List ℕ) → ReadsAs x t → ReadsAs (alias_data x name) (over (Node.Alias name) (t ∷ []))
unfolding form_named
alias_reads t x name h =
    let (e, is, same) = map-parts (expr_of x) tree_of t h in
    rw is (ap Some (tree_of-Alias e name ∙ ap (λ u. over (Node.Alias name) (u ∷ [])) same))

binary_reads : (t u : Tree) (op : Operator) (x y : Data) → ReadsAs x t → ReadsAs y u → ReadsAs (binary_data x op y) (over (Node.Binary op) (t ∷ u ∷ []))
unfolding form_named
binary_reads t u op x y hx hy =
    let (l, is_l, same_l) = map-parts (expr_of x) tree_of t hx in
    let (r, is_r, same_r) = map-parts (expr_of y) tree_of u hy in
    rw (operator_named-operator_name op, is_l, is_r) (ap Some (tree_of-BinaryExpr l op r ∙ rw (same_l, same_r) refl))

cast_reads : (t : Tree) (d : DataType) (k : ValueType) (options : CastOptions) (x : Data) → value_type_of d ≡ Some k → ReadsAs x t → ReadsAs (cast_data x k options) (over (Node.Cast d options) (t ∷ []))
unfolding form_named
cast_reads t d k options x of h =
    let (e, is, same) = map-parts (expr_of x) tree_of t h in
    rw (value_type_named-value_type_name k, cast_named-cast_name options, is) (ap Some (tree_of-Cast e (dtype_of k) options ∙ rw (same, dtype_of-value_type_of d k of) refl))

ternary_reads : (p t f : Tree) (x y z : Data) → ReadsAs x p → ReadsAs y t → ReadsAs z f → ReadsAs (ternary_data x y z) (over Node.Ternary (p ∷ t ∷ f ∷ []))
unfolding form_named
ternary_reads p t f x y z hp ht hf =
    let (a, is_a, same_a) = map-parts (expr_of x) tree_of p hp in
    let (b, is_b, same_b) = map-parts (expr_of y) tree_of t ht in
    let (c, is_c, same_c) = map-parts (expr_of z) tree_of f hf in
    rw (is_a, is_b, is_c) (ap Some (tree_of-Ternary a b c ∙ rw (same_a, same_b, same_c) refl))

-- the values read as expressions of the trees
abbrev ReadAllAs : List Data → Trees → Type 0
ReadAllAs ds ts = (es : List Expr) × (exprs_of (items_of ds) ≡ Some es) × (trees (map tree_of es) ≡ ts)

function_reads : (f : EvaluatedFunction) (ts : Trees) (ds : List Data) → ReadAllAs ds ts → ReadsAs (function_data f ds) (tree (Node.Function f) ts)
unfolding form_named
function_reads f ts ds (es, are, same) =
    let input : Entries Expr = record { entries = es } in
    rw (function_named-function_text f, are) (ap Some (tree_of-Function input (of_evaluated f) element_wise ∙ (ap (λ (o : Option EvaluatedFunction). tree (node_for (of_evaluated f) o) (trees (map tree_of es))) (evaluated_of f) ∙ ap (tree (Node.Function f)) same)))

more_read : (t : Tree) (ts : Trees) (x : Data) (xs : List Data) (f : Expr) (es : List Expr) → expr_of x ≡ Some f → exprs_of (items_of xs) ≡ Some es → tree_of f ≡ t → trees (map tree_of es) ≡ ts → ReadAllAs (x ∷ xs) (more t ts)
more_read t ts x xs f es read all_read same all_same = (f ∷ es, rw (read, all_read) refl, rw (same, all_same) refl)

-- where the first value and the others read, the list reads
first_again : (t : Tree) (ts : Trees) (ds : List Data) (o : Option Data) (os : List (Option Data)) → ((x : Data) → o ≡ Some x → ReadsAs x t) → ((xs : List Data) → all_of os ≡ Some xs → ReadAllAs xs ts)
    → all_of (o ∷ os) ≡ Some ds → ReadAllAs ds (more t ts)
first_again t ts ds None os first rest e = cc
first_again t ts ds (Some x) os first rest e =
    option_and_then_some _ (all_of os) ds e (λ xs are made.
    let same : x ∷ xs ≡ ds = cc in
    let (f, read, same_tree) = map-parts (expr_of x) tree_of t (first x refl) in
    let (es, all_read, all_trees) = rest xs are in
    subst (λ (z : List Data). ReadAllAs z (more t ts)) same (more_read t ts x xs f es read all_read same_tree all_trees))

mutual
  reads_again : (t : Tree) (d : Data) → data_of t ≡ Some d → ReadsAs d t
  reads_again (tree (Node.Alias name) (more t none)) d e =
      option_and_then_some _ (data_of t) d e (λ x is made. back _ (alias_data x name) d made (alias_reads t x name (reads_again t x is)))
  reads_again (tree (Node.Column name) none) d e = back _ (single_member (codes "col") (string name)) d e (column_reads name)
  reads_again (tree (Node.Literal v) none) d e = literal_reads v d e
  reads_again (tree (Node.Binary op) (more l (more r none))) d e =
      option_and_then_some _ (data_of l) d e (λ x is made.
      option_and_then_some _ (data_of r) d made (λ y is' made'.
      back _ (binary_data x op y) d made' (binary_reads l r op x y (reads_again l x is) (reads_again r y is'))))
  reads_again (tree (Node.Cast dtype options) (more t none)) d e =
      option_and_then_some _ (value_type_of dtype) d e (λ k of made.
      option_and_then_some _ (data_of t) d made (λ x is made'.
      back _ (cast_data x k options) d made' (cast_reads t dtype k options x of (reads_again t x is))))
  reads_again (tree Node.Ternary (more p (more t (more f none)))) d e =
      option_and_then_some _ (data_of p) d e (λ x is made.
      option_and_then_some _ (data_of t) d made (λ y is' made'.
      option_and_then_some _ (data_of f) d made' (λ z is'' made''.
      back _ (ternary_data x y z) d made'' (ternary_reads p t f x y z (reads_again p x is) (reads_again t y is') (reads_again f z is'')))))
  reads_again (tree (Node.Function f) ts) d e =
      option_and_then_some _ (all_of (fold_trees node_data ts)) d e (λ ds are made.
      back _ (function_data f ds) d made (function_reads f ts ds (all_again ts ds are)))
  reads_again _ d e = cc

  all_again : (ts : Trees) (ds : List Data) → all_of (fold_trees node_data ts) ≡ Some ds → ReadAllAs ds ts
  all_again none ds e = let same : [] ≡ ds = cc in subst (λ (z : List Data). ReadAllAs z none) same ([], refl, refl)
  all_again (more t ts) ds e = first_again t ts ds (data_of t) (fold_trees node_data ts) (reads_again t) (all_again ts) e

-- the same of what a call wrote
pub written_again : (t : Tree) (r : Result (Option Value) PlanError) → GivesSeen (option_map view) r (data_of t) → IfOk r (λ o. IfSome o (λ v. option_map tree_of (expr_of (view v)) ≡ Some t))
written_again t (Ok (Some v)) e = reads_again t (view v) (sym e)
written_again t (Ok None) e = tt
written_again t (Err f) is = tt
