-- Equal rows and equal columns.
use Rattle.std.proofs.Common.{◌≡◌, ◌≢◌, ◌∙◌, ◌≤◌, ℕ, List, sym, ap, length, take, get_or, None}
use Rattle.std.proofs.lemmas.List.{take_all}
use Rattle.px_semantics.specs.Rows.{Row, Contents}

-- rows that differ at a place
pub rows_differ : (xs ys : List Row) (i : ℕ) → get_or xs i None ≢ get_or ys i None → xs ≢ ys
rows_differ xs ys i d e = d (ap (λ l. get_or l i None) e)

-- rows that agree as far as they go
pub rows_agree : (xs ys : List Row) (n : ℕ) → length xs ≤ n → length ys ≤ n → take n xs ≡ take n ys → xs ≡ ys
rows_agree xs ys n p q e = sym (take_all n xs p) ∙ e ∙ take_all n ys q

pub columns_agree : (a b : Contents) → a.name ≡ b.name → a.values.value_type ≡ b.values.value_type → a.values.rows ≡ b.values.rows → a ≡ b
columns_agree a b p q r =
    ap (λ n. record { name = n; values = a.values }) p
    ∙ ap (λ k. record { name = b.name; values = record { value_type = k; rows = a.values.rows } }) q
    ∙ ap (λ l. record { name = b.name; values = record { value_type = b.values.value_type; rows = l } }) r
