-- One more of the rows that the hash reads.
use Rattle.std.proofs.Common.{◌≡◌, ◌∙◌, ◌+◌, ◌++◌, ℕ, List, [], ◌∷◌, map, sym, ap, append-nil, arith}
use Rattle.std.proofs.lemmas.Grind.{flat_map-append}
use Rattle.std.proofs.lemmas.List.FromFn.{map-range_with_len_more}
use Rattle.std.specs.Hash.{fed_then, fed_along}
use Rattle.std.specs.List.{fold, flat_map, range_with_len}
use Rattle.px_semantics.specs.Rows.{Row}
use Rattle.px_column.specs.HashInput.{row_input}

inputs-more : (f : ℕ → Row) (i : ℕ) → flat_map row_input (map f (range_with_len 0 i)) ++ row_input (f i) ≡ flat_map row_input (map f (range_with_len 0 (i + 1)))
inputs-more f i =
    ap (λ ws. flat_map row_input (map f (range_with_len 0 i)) ++ ws) (sym (append-nil (row_input (f i))))
    ∙ sym (flat_map-append row_input (map f (range_with_len 0 i)) (f i ∷ []))
    ∙ ap (flat_map row_input) (sym (map-range_with_len_more f 0 i i (omega arith)))

pub one_more : {S : Type 0} (write : S → List ℕ → S) (f : ℕ → Row) (i : ℕ) (r : Row) (s t u : S) → r ≡ f i → t ≡ fold write s (flat_map row_input (map f (range_with_len 0 i)))
    → u ≡ fold write t (row_input r) → u ≡ fold write s (flat_map row_input (map f (range_with_len 0 (i + 1))))
one_more write f i r s t u e p q =
    fed_along write s u (inputs-more f i) (fed_then write s t u (flat_map row_input (map f (range_with_len 0 i))) (row_input (f i)) p (q ∙ ap (λ x. fold write t (row_input x)) e))
