-- What a mask selects of two lists.
use Rattle.std.specs.Prelude.{Bool, not, cond, ◌&&◌, ◌||◌, List, [], ◌∷◌, map}
use Rattle.std.specs.Simd.Lanes.{zip2}

-- the bits of the first where the mask is set, and of the second where it is not
abbrev pub selected_bits : List Bool → List Bool → List Bool → List Bool
selected_bits mask xs ys = zip2 (λ p q. p || q) (zip2 (λ x m. x && m) xs mask) (zip2 (λ y m. y && m) ys (map not mask))

-- the places of the first where the mask is set, and of the second where it is not
abbrev pub selected_places : {A : Type 0} → List Bool → List A → List A → List A
selected_places (m ∷ ms) (x ∷ xs) (y ∷ ys) = cond m x y ∷ selected_places ms xs ys
selected_places _ _ _ = []
