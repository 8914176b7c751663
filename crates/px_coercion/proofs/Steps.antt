-- Steps of uniting operands, and of the tables of types.
use Rattle.std.proofs.Common.{◌≡◌, ◌<◌, ◌^◌, ℤ, ℕ, List, [], ◌∷◌, map, length, Option, Some, None, Bool, true, false, cond, refl, ap}
use Rattle.std.specs.Prelude.{option_map, option_and_then}
use Rattle.std.specs.Simd.Lanes.{Each1}
use Rattle.px_types.specs.Classes.{is_boolean_or_integer}
use Rattle.px_semantics.specs.Columns.{is_column}
use Rattle.px_semantics.specs.Rows.{Contents, IsRowOf}
use Rattle.px_types.specs.ValueTypes.{holds, default_type}
use Rattle.px_types.specs.declared.value_type.ValueType.{ValueType}
use Rattle.px_semantics.proofs.ColumnLemmas.{column-is_column}
use Rattle.px_expr.specs.declared.literal.LiteralValue.TheVariants as lit
use Rattle.px_meaning.specs.Literals.{literal_rows}
use Rattle.px_meaning.specs.Signatures.{Operand, OfType, UntypedInteger, Signature, common_of, common_all, wanted_types, literal_type, own_type, unary, of_input, given}
use Rattle.px_coercion.specs.Found.{sole_type, uniform_signature, widened_by}

-- an operand widens the type so far by its default type, where it is an integer literal that `base` does not hold
pub wanted_step : (base : ValueType) (common : Option ValueType) (o : Operand) (os : List Operand)
    → common_all common (wanted_types base (o ∷ os)) ≡ common_all (widened_by base common o) (wanted_types base os)
wanted_step base common (OfType k) os = refl
wanted_step base common (UntypedInteger z) os = go (holds base z)
  where
    go : (b : Bool) → common_all common (cond b (wanted_types base os) (default_type z ∷ wanted_types base os)) ≡ common_all (cond b common (common_of common (default_type z))) (wanted_types base os)
    go true = refl
    go false = refl

-- a series has a type where it is no column of texts or of nulls
pub series_typed : (c : Contents) → length c.values.rows < 2 ^ 32 → Each1 (IsRowOf c.values.value_type) c.values.rows
    → literal_type (literal_rows (lit.Series c)) ≡ given (is_boolean_or_integer c.values.value_type) c.values.value_type
series_typed c below_limit typed = go (is_boolean_or_integer c.values.value_type)
  where
    go : (b : Bool) → literal_type (cond b (Some c.values) None) ≡ given b c.values.value_type
    go true = ap (λ (t : Bool). given t c.values.value_type) (column-is_column c.values (record { below_limit = below_limit; typed = typed }))
    go false = refl

-- the only operand's own type and the result, as a signature
pub unary_even : (result : ValueType → Option ValueType) (os : List Operand)
    → unary result os ≡ option_map (uniform_signature os) (option_and_then (λ (k : ValueType). option_map (λ (t : ValueType). (k, t)) (result k)) (sole_type os))
unary_even result [] = refl
unary_even result (o ∷ []) = go (own_type o)
  where
    at : (k : ValueType) (r : Option ValueType) → option_map (λ (r : ValueType). record { inputs = k ∷ []; result = r }) r ≡ option_map (uniform_signature (o ∷ [])) (option_map (λ (t : ValueType). (k, t)) r)
    at k (Some t) = refl
    at k None = refl

    go : (own : Option ValueType) → option_and_then (of_input result) own ≡ option_map (uniform_signature (o ∷ [])) (option_and_then (λ (k : ValueType). option_map (λ (t : ValueType). (k, t)) (result k)) own)
    go (Some k) = at k (result k)
    go None = refl
unary_even result (o ∷ (p ∷ os)) = refl
