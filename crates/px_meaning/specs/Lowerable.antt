-- The nodes that a checked tree can have, which are those of a plan.
use Rattle.std.specs.Prelude.{Bool, true, false, ◌&&◌}
use Rattle.px_expr.specs.Tree.{Node, Alias, Column, Literal, Binary, Cast, Gather, Slice, Filter, Ternary, Agg, Function, OtherFunction, AnonymousFunction, Len, Aggregate, Min, Max, First, Last, Sum, Count, Tree, tree, Trees, none, more}

-- the aggregates that a plan has
abbrev pub IsPlanAggregate : Aggregate → Type 0
IsPlanAggregate Min = Unit {0}
IsPlanAggregate Max = Unit {0}
IsPlanAggregate First = Unit {0}
IsPlanAggregate Last = Unit {0}
IsPlanAggregate Sum = Unit {0}
IsPlanAggregate (Count include_nulls) = Unit {0}
IsPlanAggregate _ = ⊥

-- the nodes that a plan has
abbrev pub IsPlanNode : Node → Type 0
IsPlanNode (Alias name) = Unit {0}
IsPlanNode (Column name) = Unit {0}
IsPlanNode (Literal value) = Unit {0}
IsPlanNode (Binary op) = Unit {0}
IsPlanNode (Cast dtype options) = Unit {0}
IsPlanNode (Gather returns_scalar) = Unit {0}
IsPlanNode Slice = Unit {0}
IsPlanNode Filter = Unit {0}
IsPlanNode Ternary = Unit {0}
IsPlanNode (Agg a) = IsPlanAggregate a
IsPlanNode (Function function) = Unit {0}
IsPlanNode (OtherFunction function) = Unit {0}
IsPlanNode (AnonymousFunction kernel) = Unit {0}
IsPlanNode Len = Unit {0}
IsPlanNode _ = ⊥

abbrev mutual
  -- each node of the tree is one that a plan has
  pub IsLowerable : Tree → Type 0
  IsLowerable (tree n us) = IsPlanNode n × AreLowerable us

  pub AreLowerable : Trees → Type 0
  AreLowerable none = Unit {0}
  AreLowerable (more u us) = IsLowerable u × AreLowerable us

-- the same as tests
abbrev pub is_plan_aggregate : Aggregate → Bool
is_plan_aggregate Min = true
is_plan_aggregate Max = true
is_plan_aggregate First = true
is_plan_aggregate Last = true
is_plan_aggregate Sum = true
is_plan_aggregate (Count include_nulls) = true
is_plan_aggregate _ = false

abbrev pub is_plan_node : Node → Bool
is_plan_node (Alias name) = true
is_plan_node (Column name) = true
is_plan_node (Literal value) = true
is_plan_node (Binary op) = true
is_plan_node (Cast dtype options) = true
is_plan_node (Gather returns_scalar) = true
is_plan_node Slice = true
is_plan_node Filter = true
is_plan_node Ternary = true
is_plan_node (Agg a) = is_plan_aggregate a
is_plan_node (Function function) = true
is_plan_node (OtherFunction function) = true
is_plan_node (AnonymousFunction kernel) = true
is_plan_node Len = true
is_plan_node _ = false

abbrev mutual
  pub is_lowerable : Tree → Bool
  is_lowerable (tree n us) = is_plan_node n && are_lowerable us

  pub are_lowerable : Trees → Bool
  are_lowerable none = true
  are_lowerable (more u us) = is_lowerable u && are_lowerable us
