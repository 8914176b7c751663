-- A test of a data type that is true exactly where two values are equal.
use Rattle.std.specs.Prelude.{Bool, true, false, ◌&&◌, ◌==◌}
use base.Stored.{Gv, gnil, gnum, gcons, Coded}

abbrev pub same_code : Gv → Gv → Bool
same_code gnil gnil = true
same_code (gnum m) (gnum n) = m == n
same_code (gcons a b) (gcons c d) = same_code a c && same_code b d
same_code _ _ = false

module _ {A : Type 0} (c : Coded A) where
  unfoldable pub same : A → A → Bool
  same x y = same_code (c.code x) (c.code y)
