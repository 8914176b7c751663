-- Laws of joining lengths and of three-valued logic.
use Rattle.std.specs.Prelude.{◌≡◌, ℕ, option_and_then}
use Rattle.px_semantics.specs.Logic.{and_row, or_row, xor_row, not_row}
use Rattle.px_semantics.specs.Rows.{Row, IsRowOf, broadcast_length}
use Rattle.px_types.specs.declared.value_type.ValueType.TheVariants.{Boolean}

abbrev pub JoiningCommutes : Type 0
JoiningCommutes = (m n : ℕ) → broadcast_length m n ≡ broadcast_length n m

abbrev pub JoiningAssociates : Type 0
JoiningAssociates = (a b c : ℕ) → option_and_then (λ k. broadcast_length k c) (broadcast_length a b) ≡ option_and_then (λ k. broadcast_length a k) (broadcast_length b c)

abbrev pub AndCommutes : Type 0
AndCommutes = (x y : Row) → and_row x y ≡ and_row y x

abbrev pub AndAssociates : Type 0
AndAssociates = (x y z : Row) → and_row (and_row x y) z ≡ and_row x (and_row y z)

abbrev pub OrCommutes : Type 0
OrCommutes = (x y : Row) → or_row x y ≡ or_row y x

abbrev pub OrAssociates : Type 0
OrAssociates = (x y z : Row) → or_row (or_row x y) z ≡ or_row x (or_row y z)

abbrev pub XorCommutes : Type 0
XorCommutes = (x y : Row) → xor_row x y ≡ xor_row y x

abbrev pub NotOfAnd : Type 0
NotOfAnd = (x y : Row) → not_row (and_row x y) ≡ or_row (not_row x) (not_row y)

abbrev pub NotOfOr : Type 0
NotOfOr = (x y : Row) → not_row (or_row x y) ≡ and_row (not_row x) (not_row y)

abbrev pub NotOfNot : Type 0
NotOfNot = (x : Row) → IsRowOf Boolean x → not_row (not_row x) ≡ x
