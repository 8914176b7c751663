-- Rows that are made of a validity and a string.
use Rattle.std.proofs.Common.{◌≡◌, ◌<◌, ℕ, Bool, true, false, List, [], ◌∷◌, length, map, refl, ap, Option, Some, None, is_some, unwrap_or, zero, suc, get_or, Bor, arith}
use Rattle.std.specs.Option.{option_copied}
use Rattle.std.specs.Simd.Lanes.{zip2, Each1}
use Rattle.px_semantics.specs.Rows.{string_entry, string_row, IsRowOf}
use Rattle.px_types.specs.declared.value_type.ValueType.TheVariants.{String}

-- each row is null or a string
pub strings_typed : (us : List Bool) (xs : List (List ℕ)) → Each1 (IsRowOf String) (zip2 string_entry us xs)
strings_typed [] xs = tt
strings_typed (u ∷ us) [] = tt
strings_typed (true ∷ us) (x ∷ xs) = (tt, strings_typed us xs)
strings_typed (false ∷ us) (x ∷ xs) = (tt, strings_typed us xs)

pub strings_valid : (us : List Bool) (xs : List (List ℕ)) → length us ≡ length xs → map is_some (zip2 string_entry us xs) ≡ us
strings_valid [] xs h = refl
strings_valid (u ∷ us) [] h = cc
strings_valid (true ∷ us) (x ∷ xs) h = ap (λ l. true ∷ l) (strings_valid us xs (omega arith))
strings_valid (false ∷ us) (x ∷ xs) h = ap (λ l. false ∷ l) (strings_valid us xs (omega arith))

-- a row whose bit is not set is null
pub string_null_at : (us : List Bool) (xs : List (List ℕ)) (i : ℕ) → length us ≡ length xs → i < length us → false ≡ get_or us i false → None ≡ get_or (zip2 string_entry us xs) i None
string_null_at [] xs i h l e = absurd (omega arith)
string_null_at (v ∷ us) [] i h l e = absurd (omega arith)
string_null_at (v ∷ us) (y ∷ ys) zero h l e = ap (λ v. string_entry v y) e
string_null_at (v ∷ us) (y ∷ ys) (suc i) h l e = string_null_at us ys i (omega arith) (omega arith) e

-- the entry of an optional string
pub entry_of_text : (row : Option (Bor (List ℕ))) (other : Bor (List ℕ)) {text : Bor (List ℕ)} {u : Bool} → u ≡ is_some row → text ≡ unwrap_or row other
    → string_entry u text.now ≡ string_row (option_copied row)
entry_of_text (Some x) other e f = rw (e, f)
entry_of_text None other e f = rw e
