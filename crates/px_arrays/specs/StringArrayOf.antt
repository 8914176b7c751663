-- How strings lie in one buffer.
use Rattle.std.specs.Prelude.{◌≡◌, ℕ, ◌-◌, ◌≤◌, List, [], ◌∷◌, length, take, drop}
use Rattle.std.specs.Str.{IsCharBoundary}

-- the strings of a buffer, by where each of them ends: the first starts at `start`, each other where the one before ends
abbrev pub strings_in : List ℕ → ℕ → List ℕ → List (List ℕ)
strings_in bytes start [] = []
strings_in bytes start (end ∷ ends) = take (end - start) (drop start bytes) ∷ strings_in bytes end ends

-- the ends are in order, the buffer may be cut at each, and the last is its end
abbrev pub AreEnds : List ℕ → ℕ → List ℕ → Type 0
AreEnds bytes start [] = start ≡ length bytes
AreEnds bytes start (end ∷ ends) = (start ≤ end) × IsCharBoundary bytes end × AreEnds bytes end ends
