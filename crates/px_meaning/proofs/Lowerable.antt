-- Checked trees have only nodes of a plan.
use Rattle.std.proofs.Common.{◌≡◌, ◌&&◌, List, map, Some, Ok, Bool, true, false, refl}
use Rattle.px_types.specs.declared.value_type.ValueType.{ValueType}
use Rattle.px_expr.specs.Kernel.{Kernel}
use Rattle.px_expr.specs.Plan.{Catalog}
use Rattle.px_expr.specs.Tree.{Node, Alias, Column, Literal, Binary, Cast, Gather, Slice, Filter, Ternary, Agg, Function, OtherFunction, AnonymousFunction, Len, Aggregate, Min, Max, First, Last, Sum, Count, Tree, tree, Trees, none, more}
use Rattle.px_meaning.specs.Check.{Typed, check, resolve}
use Rattle.px_meaning.specs.Lowerable.{IsPlanAggregate, IsPlanNode, IsLowerable, AreLowerable, is_plan_aggregate, is_plan_node, is_lowerable, are_lowerable}
use Rattle.px_meaning.specs.Signatures.{Operand, OfType, Signature, signature}
use Rattle.px_meaning.proofs.Gives.{check-gives}
use Rattle.px_meaning.proofs.Typing.{Has, HaveAll, has, have_none, have_more, HasType-Has, resolve-parts}

-- a node with a signature is one that a plan has
signature-plan : (kernels : List Kernel) (n : Node) (os : List Operand) (s : Signature) → signature kernels n os ≡ Some s → IsPlanNode n
unfolding signature
signature-plan kernels (Alias m) os s e = tt
signature-plan kernels (Column m) os s e = tt
signature-plan kernels (Literal v) os s e = tt
signature-plan kernels (Binary o) os s e = tt
signature-plan kernels (Cast dtype options) os s e = tt
signature-plan kernels Ternary os s e = tt
signature-plan kernels (Function f) os s e = tt
signature-plan kernels _ os s e = cc

resolve-plan : (c : Catalog) (n : Node) (os : List Operand) (s : Signature) → resolve c n os ≡ Ok s → IsPlanNode n
resolve-plan c (Column m) os s e = tt
resolve-plan c n os s e = signature-plan c.kernels n os s (resolve-parts c n os s tt e)

module _ (c : Catalog) where
  mutual
    pub Has-lowerable : (t : Tree) (k : ValueType) → Has c t k → IsLowerable t
    Has-lowerable _ k (has {n} {us} {ks} free all signed) = (resolve-plan c n (map OfType ks) (record { inputs = ks; result = k }) signed, HaveAll-lowerable us ks all)

    HaveAll-lowerable : (us : Trees) (ks : List ValueType) → HaveAll c us ks → AreLowerable us
    HaveAll-lowerable _ _ have_none = tt
    HaveAll-lowerable _ _ (have_more {u} {us} {k} {ks} h all) = (Has-lowerable u k h, HaveAll-lowerable us ks all)

  -- what the check gives has only nodes of a plan
  pub check-lowerable : (t : Tree) (v : Typed) → check c t ≡ Ok v → IsLowerable v.tree
  check-lowerable t v e = Has-lowerable v.tree v.value_type (HasType-Has c v.tree v.value_type (check-gives c t v e))

-- the test says the same
and-parts : (a b : Bool) → a && b ≡ true → (a ≡ true) × (b ≡ true)
and-parts true b e = (refl, e)
and-parts false b e = cc

and-of : (a b : Bool) → a ≡ true → b ≡ true → a && b ≡ true
and-of true b e f = f
and-of false b e f = cc

is_plan_aggregate-is : (a : Aggregate) → is_plan_aggregate a ≡ true → IsPlanAggregate a
is_plan_aggregate-is Min e = tt
is_plan_aggregate-is Max e = tt
is_plan_aggregate-is First e = tt
is_plan_aggregate-is Last e = tt
is_plan_aggregate-is Sum e = tt
is_plan_aggregate-is (Count include_nulls) e = tt
is_plan_aggregate-is _ e = cc

is_plan_aggregate-of : (a : Aggregate) → IsPlanAggregate a → is_plan_aggregate a ≡ true
is_plan_aggregate-of Min h = refl
is_plan_aggregate-of Max h = refl
is_plan_aggregate-of First h = refl
is_plan_aggregate-of Last h = refl
is_plan_aggregate-of Sum h = refl
is_plan_aggregate-of (Count include_nulls) h = refl
is_plan_aggregate-of _ h = absurd h

pub is_plan_node-is : (n : Node) → is_plan_node n ≡ true → IsPlanNode n
is_plan_node-is (Alias name) e = tt
is_plan_node-is (Column name) e = tt
is_plan_node-is (Literal value) e = tt
is_plan_node-is (Binary op) e = tt
is_plan_node-is (Cast dtype options) e = tt
is_plan_node-is (Gather returns_scalar) e = tt
is_plan_node-is Slice e = tt
is_plan_node-is Filter e = tt
is_plan_node-is Ternary e = tt
is_plan_node-is (Agg a) e = is_plan_aggregate-is a e
is_plan_node-is (Function function) e = tt
is_plan_node-is (OtherFunction function) e = tt
is_plan_node-is (AnonymousFunction kernel) e = tt
is_plan_node-is Len e = tt
is_plan_node-is _ e = cc

pub is_plan_node-of : (n : Node) → IsPlanNode n → is_plan_node n ≡ true
is_plan_node-of (Alias name) h = refl
is_plan_node-of (Column name) h = refl
is_plan_node-of (Literal value) h = refl
is_plan_node-of (Binary op) h = refl
is_plan_node-of (Cast dtype options) h = refl
is_plan_node-of (Gather returns_scalar) h = refl
is_plan_node-of Slice h = refl
is_plan_node-of Filter h = refl
is_plan_node-of Ternary h = refl
is_plan_node-of (Agg a) h = is_plan_aggregate-of a h
is_plan_node-of (Function function) h = refl
is_plan_node-of (OtherFunction function) h = refl
is_plan_node-of (AnonymousFunction kernel) h = refl
is_plan_node-of Len h = refl
is_plan_node-of _ h = absurd h

mutual
  pub is_lowerable-is : (t : Tree) → is_lowerable t ≡ true → IsLowerable t
  is_lowerable-is (tree n us) e = let (f, g) = and-parts (is_plan_node n) (are_lowerable us) e in (is_plan_node-is n f, are_lowerable-is us g)

  pub are_lowerable-is : (us : Trees) → are_lowerable us ≡ true → AreLowerable us
  are_lowerable-is none e = tt
  are_lowerable-is (more u us) e = let (f, g) = and-parts (is_lowerable u) (are_lowerable us) e in (is_lowerable-is u f, are_lowerable-is us g)

mutual
  pub is_lowerable-of : (t : Tree) → IsLowerable t → is_lowerable t ≡ true
  is_lowerable-of (tree n us) h = and-of (is_plan_node n) (are_lowerable us) (is_plan_node-of n h.0) (are_lowerable-of us h.1)

  pub are_lowerable-of : (us : Trees) → AreLowerable us → are_lowerable us ≡ true
  are_lowerable-of none h = refl
  are_lowerable-of (more u us) h = and-of (is_lowerable u) (are_lowerable us) (is_lowerable-of u h.0) (are_lowerable-of us h.1)
