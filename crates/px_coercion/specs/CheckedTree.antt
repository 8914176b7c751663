-- Checked expressions as contracts see them.
use Rattle.px_types.specs.declared.value_type.ValueType.{ValueType}
use Rattle.px_expr.specs.declared.expr.Expr.{Expr}
use Rattle.px_expr.specs.Tree.{tree_of}
use Rattle.px_meaning.specs.Check.{Typed}

-- an expression with its type
pub record CheckedTree : Type 0 where
  pub tree : Expr
  pub value_type : ValueType

-- the tree of the expression, with its type
abbrev pub typed_of : CheckedTree → Typed
typed_of h = record { tree = tree_of h.tree; value_type = h.value_type }
