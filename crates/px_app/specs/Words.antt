-- The words that the program knows.
use Rattle.std.specs.Prelude.{ℕ, List, [], ◌∷◌, codes, if◌then◌else◌, Option, Some, None}
use Rattle.std.specs.Str.{bytes_eq}
use Rattle.px_expr.specs.declared.context.Context.{Context}
use Rattle.px_expr.specs.declared.context.Context.TheVariants.{Select, Filter}

abbrev pub context_named : List ℕ → Option Context
context_named word =
    if bytes_eq word (codes "select") then Some Select
    else (if bytes_eq word (codes "filter") then Some Filter
    else None)

-- what the words ask for: they are `select` or `filter` alone
abbrev pub context_of : List (List ℕ) → Option Context
context_of (word ∷ []) = context_named word
context_of _ = None
