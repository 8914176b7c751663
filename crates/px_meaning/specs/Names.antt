-- The name of what a tree means: a function of the node and of its inputs' names alone.
use Rattle.std.specs.Prelude.{ℕ, List, [], ◌∷◌, codes}
use Rattle.px_expr.specs.declared.literal.LiteralValue.{LiteralValue}
use Rattle.px_expr.specs.declared.literal.LiteralValue.TheVariants as lit
use Rattle.px_expr.specs.Tree.{Node, Alias, Column, Literal, Ternary, Len, Tree, fold_tree}

abbrev pub literal_name : LiteralValue → List ℕ
literal_name (lit.Series c) = c.name
literal_name _ = codes "literal"

abbrev pub first_name : List (List ℕ) → List ℕ
first_name [] = []
first_name (n ∷ ns) = n

-- the name of the first branch
abbrev pub branch_name : List (List ℕ) → List ℕ
branch_name (p ∷ ns) = first_name ns
branch_name [] = []

-- every other node has its first input's name
abbrev pub node_name : Node → List (List ℕ) → List ℕ
node_name (Alias name) ns = name
node_name (Column name) ns = name
node_name (Literal v) ns = literal_name v
node_name Ternary ns = branch_name ns
node_name Len ns = codes "len"
node_name _ ns = first_name ns

abbrev pub name : Tree → List ℕ
name = fold_tree node_name
