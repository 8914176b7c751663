-- What is written has no float.
use Rattle.std.proofs.Common.{◌≡◌, ℤ, pos, List, [], ◌∷◌, map, Bool, true, false, cond, Option, Some, None, option_map, IfSome, IfOk, Result, Ok, Err, Vec, Global, refl, sym}
use Rattle.std.proofs.lemmas.Option.{option_and_then_some}
use Rattle.std.specs.Fmt.{signed_decimal}
use Rattle.serde_json.specs.Data.{Data, number, string}
use Rattle.serde_json.specs.Find.{of_integer}
use Rattle.serde_json.specs.View.{view, items_of, items_view}
use Rattle.serde_json.specs.Written.{has_float, items_have_float}
use Rattle.serde_json.specs.declared.value.Value.{Value}
use Rattle.px_base.specs.declared.error.PlanError.{PlanError}
use Rattle.px_semantics.specs.Columns.{is_column}
use Rattle.px_types.specs.ValueTypes.{holds, value_type_of}
use Rattle.px_types.specs.declared.value_type.ValueType.{ValueType}
use Rattle.px_types.specs.declared.value_type.ValueType.TheVariants as value_type
use Rattle.px_expr.specs.declared.literal.LiteralValue.{LiteralValue}
use Rattle.px_expr.specs.declared.literal.LiteralValue.TheVariants as value
use Rattle.px_expr.specs.Tree.{Node, Tree, Trees, tree, none, more, fold_trees}
use Rattle.px_base.specs.Answer.{GivesSeen}
use Rattle.px_json.specs.Digits.{has_128_bits, is_plain_number, integer_data}
use Rattle.px_json.specs.JsonAccess.{only_if, all_of}
use Rattle.px_json.proofs.RoundTrip.{is_float-of_integer, plain_column}
use Rattle.px_forms.specs.Written.{bare, typed, number_data, open_data, literal_data, alias_data, binary_data, cast_data, ternary_data, function_data, node_data, data_of, all_data}
use Rattle.px_forms.specs.declared.literal.LiteralType.TheVariants as type

-- the value that was made is the one asked for
plain : (made d : Data) → Some made ≡ Some d → has_float made ≡ false → has_float d ≡ false
plain made d is h = let same : made ≡ d = cc in rw (← same) h

-- an `only_if` gives no more than it was given
plain_if : (b : Bool) (made d : Data) → only_if b (Some made) ≡ Some d → has_float made ≡ false → has_float d ≡ false
plain_if true made d is h = plain made d is h
plain_if false made d is h = cc

integer_plain : (z : ℤ) → has_float (integer_data z) ≡ false
integer_plain z = go (is_plain_number z)
  where
    go : (b : Bool) → has_float (cond b (number (of_integer z)) (string (signed_decimal z))) ≡ false
    go true = is_float-of_integer z
    go false = refl

number_plain : (k : ValueType) (z : ℤ) (d : Data) → number_data k z ≡ Some d → has_float d ≡ false
number_plain k z d e = plain_if (holds k z) _ d e (rw (is_float-of_integer z) refl)

open_plain : (z : ℤ) → has_float (open_data z) ≡ false
open_plain z = go (is_plain_number z)
  where
    go : (b : Bool) → has_float (cond b (bare (number (of_integer z))) (typed type.Int (integer_data z))) ≡ false
    go true = rw (is_float-of_integer z) refl
    go false = rw (integer_plain z) refl

literal_plain : (v : LiteralValue) (d : Data) → literal_data v ≡ Some d → has_float d ≡ false
literal_plain value.Null d e = plain _ d e refl
literal_plain (value.Boolean t) d e = plain _ d e refl
literal_plain (value.String text) d e = plain _ d e refl
literal_plain (value.UInt8 n) d e = number_plain value_type.UInt8 (pos n) d e
literal_plain (value.UInt16 n) d e = number_plain value_type.UInt16 (pos n) d e
literal_plain (value.UInt32 n) d e = number_plain value_type.UInt32 (pos n) d e
literal_plain (value.UInt64 n) d e = number_plain value_type.UInt64 (pos n) d e
literal_plain (value.Int8 z) d e = number_plain value_type.Int8 z d e
literal_plain (value.Int16 z) d e = number_plain value_type.Int16 z d e
literal_plain (value.Int32 z) d e = number_plain value_type.Int32 z d e
literal_plain (value.Int64 z) d e = number_plain value_type.Int64 z d e
literal_plain (value.Int128 z) d e = plain_if (has_128_bits z) _ d e (rw (integer_plain z) refl)
literal_plain (value.Int z) d e = plain_if (has_128_bits z) _ d e (open_plain z)
literal_plain (value.Series c) d e = plain_if (is_column c.values) _ d e (rw (plain_column c) refl)
literal_plain (value.Binary bytes) d e = cc
literal_plain (value.Range low high dtype) d e = cc
literal_plain (value.StrCat text) d e = cc

-- where the first value and the others have no float, the list has none
first_plain : (o : Option Data) (os : List (Option Data)) (ds : List Data) → ((d : Data) → o ≡ Some d → has_float d ≡ false) → ((es : List Data) → all_of os ≡ Some es → items_have_float (items_of es) ≡ false)
    → all_of (o ∷ os) ≡ Some ds → items_have_float (items_of ds) ≡ false
first_plain None os ds first rest e = cc
first_plain (Some d) os ds first rest e =
    option_and_then_some _ (all_of os) ds e (λ es is made.
    let same : d ∷ es ≡ ds = cc in
    rw (← same, first d refl) (rest es is))

mutual
  expr_plain : (t : Tree) (d : Data) → data_of t ≡ Some d → has_float d ≡ false
  expr_plain (tree (Node.Alias name) (more t none)) d e =
      option_and_then_some _ (data_of t) d e (λ x is made. plain (alias_data x name) d made (rw (expr_plain t x is) refl))
  expr_plain (tree (Node.Column name) none) d e = plain _ d e refl
  expr_plain (tree (Node.Literal v) none) d e = literal_plain v d e
  expr_plain (tree (Node.Binary op) (more l (more r none))) d e =
      option_and_then_some _ (data_of l) d e (λ x is made.
      option_and_then_some _ (data_of r) d made (λ y is' made'.
      plain (binary_data x op y) d made' (rw (expr_plain l x is, expr_plain r y is') refl)))
  expr_plain (tree (Node.Cast dtype options) (more t none)) d e =
      option_and_then_some _ (value_type_of dtype) d e (λ k of made.
      option_and_then_some _ (data_of t) d made (λ x is made'.
      plain (cast_data x k options) d made' (rw (expr_plain t x is) refl)))
  expr_plain (tree Node.Ternary (more p (more t (more f none)))) d e =
      option_and_then_some _ (data_of p) d e (λ x is made.
      option_and_then_some _ (data_of t) d made (λ y is' made'.
      option_and_then_some _ (data_of f) d made' (λ z is'' made''.
      plain (ternary_data x y z) d made'' (rw (expr_plain p x is, expr_plain t y is', expr_plain f z is'') refl))))
  expr_plain (tree (Node.Function f) ts) d e =
      option_and_then_some _ (all_of (fold_trees node_data ts)) d e (λ ds are made.
      plain (function_data f ds) d made (rw (exprs_plain ts ds are) refl))
  expr_plain _ d e = cc

  exprs_plain : (ts : Trees) (ds : List Data) → all_of (fold_trees node_data ts) ≡ Some ds → items_have_float (items_of ds) ≡ false
  exprs_plain none ds e = let same : [] ≡ ds = cc in rw (← same) refl
  exprs_plain (more t ts) ds e = first_plain (data_of t) (fold_trees node_data ts) ds (expr_plain t) (exprs_plain ts) e

all_plain : (ts : List Tree) (ds : List Data) → all_data ts ≡ Some ds → items_have_float (items_of ds) ≡ false
all_plain [] ds e = let same : [] ≡ ds = cc in rw (← same) refl
all_plain (t ∷ ts) ds e = first_plain (data_of t) (map data_of ts) ds (expr_plain t) (all_plain ts) e

-- the same of what a call wrote
pub written_plain : (t : Tree) (r : Result (Option Value) PlanError) → GivesSeen (option_map view) r (data_of t) → IfOk r (λ o. IfSome o (λ v. has_float (view v) ≡ false))
written_plain t (Ok (Some v)) e = expr_plain t (view v) (sym e)
written_plain t (Ok None) e = tt
written_plain t (Err f) e = tt

pub all_written_plain : (ts : List Tree) (r : Result (Option (Vec Value Global)) PlanError) → GivesSeen (option_map (λ (v : Vec Value Global). map view v.items)) r (all_data ts)
    → IfOk r (λ o. IfSome o (λ (v : Vec Value Global). items_have_float (items_view v.items) ≡ false))
all_written_plain ts (Ok (Some v)) e = all_plain ts (map view v.items) (sym e)
all_written_plain ts (Ok None) e = tt
all_written_plain ts (Err f) e = tt
