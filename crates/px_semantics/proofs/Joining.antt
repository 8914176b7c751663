-- Lengths that broadcast, and rows of lists that are broadcast to them.
use Rattle.std.proofs.Common.{◌≡◌, ◌∙◌, ◌⊎◌, inl, inr, ℕ, List, [], ◌∷◌, length, get_or, Option, Some, None, option_map, refl, sym, ap}
use Rattle.std.specs.Simd.Lanes.{zip2}
use Rattle.std.proofs.lemmas.List.{length-replicate}
use Rattle.px_semantics.specs.Rows.{Row, TypedRows, broadcast_length, stretch}
use Rattle.px_types.specs.declared.value_type.ValueType.{ValueType}
use Rattle.px_semantics.proofs.Joins.{broadcast_same, broadcast_left, broadcast_right, broadcast_none, stretch_one, stretch_whole}
use Rattle.px_semantics.proofs.LawLemmas.{by_eq}

some_same : (a b : ℕ) → Some a ≡ Some b → a ≡ b
some_same a b e = cc

no_some : (a : ℕ) → None ≡ Some a → ⊥
no_some a e = cc

-- a length that broadcasts is one, or the common length
pub broadcasts_to : (m n k : ℕ) → broadcast_length m n ≡ Some k → ((m ≡ 1) ⊎ (m ≡ k)) × ((n ≡ 1) ⊎ (n ≡ k))
broadcasts_to m n k h = elim (by_eq m n) [
  | inl e ↦ let is : m ≡ k = some_same m k (sym (broadcast_same m n e) ∙ h) in (inr is, inr (sym e ∙ is))
  | inr d ↦ elim (by_eq m 1) [
    | inl e ↦ (inl e, inr (some_same n k (sym (broadcast_left m n e) ∙ h)))
    | inr f ↦ elim (by_eq n 1) [
      | inl e ↦ (inr (some_same m k (sym (broadcast_right m n d f e) ∙ h)), inl e)
      | inr g ↦ absurd (no_some k (sym (broadcast_none m n d f g) ∙ h))
    ]
  ]
]

pub stretch_long : (rows : List Row) (n : ℕ) → (length rows ≡ 1) ⊎ (length rows ≡ n) → length (stretch n rows) ≡ n
stretch_long rows n (inl e) = ap length (stretch_one rows n e) ∙ length-replicate n (get_or rows 0 None)
stretch_long rows n (inr e) = ap length (stretch_whole rows n e) ∙ e

-- rows under a type
abbrev pub of_type : ValueType → List Row → TypedRows
of_type value_type rows = record { value_type = value_type; rows = rows }

pub option_same : (f g : ℕ → List Row) → ((n : ℕ) → f n ≡ g n) → (o : Option ℕ) → option_map f o ≡ option_map g o
option_same f g h (Some n) = ap Some (h n)
option_same f g h None = refl

pub zip2_flip : {A B C : Type 0} (g : A → B → C) (us : List A) (vs : List B) → zip2 g us vs ≡ zip2 (λ v u. g u v) vs us
zip2_flip g [] [] = refl
zip2_flip g [] (v ∷ vs) = refl
zip2_flip g (u ∷ us) [] = refl
zip2_flip g (u ∷ us) (v ∷ vs) = ap (λ l. g u v ∷ l) (zip2_flip g us vs)
