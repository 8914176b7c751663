-- Lengths to which lists join, and the rows that are broadcast to them.
use Rattle.std.proofs.Common.{◌≡◌, ◌∙◌, ◌⊎◌, inl, inr, ℕ, List, length, Option, Some, None, option_and_then, refl, sym, ap}
use Rattle.std.specs.Simd.Lanes.{zip2}
use Rattle.px_semantics.specs.Selections.{broadcast_length_three}
use Rattle.px_semantics.specs.Rows.{Row, broadcast_length, stretch, elementwise}
use Rattle.px_semantics.proofs.Joins.{by_broadcast}
use Rattle.px_semantics.proofs.Joining.{broadcasts_to, stretch_long}

onward : (m inner len : ℕ) → (m ≡ 1) ⊎ (m ≡ inner) → (inner ≡ 1) ⊎ (inner ≡ len) → (m ≡ 1) ⊎ (m ≡ len)
onward m inner len (inl e) q = inl e
onward m inner len (inr e) (inl f) = inl (e ∙ f)
onward m inner len (inr e) (inr f) = inr (e ∙ f)

-- each of three lengths that broadcast is one, or the common length
pub joins_three : (k m n len : ℕ) → broadcast_length_three k m n ≡ Some len → ((k ≡ 1) ⊎ (k ≡ len)) × (((m ≡ 1) ⊎ (m ≡ len)) × ((n ≡ 1) ⊎ (n ≡ len)))
joins_three k m n len h = by (broadcast_length m n) refl h
  where
    by : (o : Option ℕ) → broadcast_length m n ≡ o → option_and_then (λ l. broadcast_length k l) o ≡ Some len → ((k ≡ 1) ⊎ (k ≡ len)) × (((m ≡ 1) ⊎ (m ≡ len)) × ((n ≡ 1) ⊎ (n ≡ len)))
    by (Some inner) e p =
        let pair = broadcasts_to m n inner e in
        let outer = broadcasts_to k inner len p in
        (outer.0, (onward m inner len pair.0 outer.1, onward n inner len pair.1 outer.1))
    by None e p = cc

-- two lists that are broadcast to one length
pub two_wide : (xs ys : List Row) (n : ℕ) → (length xs ≡ 1) ⊎ (length xs ≡ n) → (length ys ≡ 1) ⊎ (length ys ≡ n) → length (stretch n xs) ≡ length (stretch n ys)
two_wide xs ys n p q = stretch_long xs n p ∙ sym (stretch_long ys n q)

-- rows that were put together after both lists were broadcast
pub wide_rows : (f : Row → Row → Row) (xs ys us vs rows : List Row) (n : ℕ) → broadcast_length (length xs) (length ys) ≡ Some n → us ≡ stretch n xs → vs ≡ stretch n ys
    → rows ≡ zip2 f us vs → Some rows ≡ elementwise f xs ys
wide_rows f xs ys us vs rows n h u v e = ap Some (e ∙ ap (λ l. zip2 f l vs) u ∙ ap (zip2 f (stretch n xs)) v) ∙ sym (by_broadcast f xs ys n h)

pub no_rows : (f : Row → Row → Row) (xs ys : List Row) → broadcast_length (length xs) (length ys) ≡ None → elementwise f xs ys ≡ None
no_rows f xs ys h = rw h refl
