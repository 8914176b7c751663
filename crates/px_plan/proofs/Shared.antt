-- What tests know of places that stand more than once in trees.
use Rattle.std.proofs.Common.{◌≡◌, ℕ, ◌<◌, length, List, [], ◌∷◌, ◌++◌, map, Ok, Some, refl, sym, ◌∙◌, ap, subst}
use Rattle.std.specs.List.{slice_get}
use Rattle.std.proofs.lemmas.List.Elements.{All-head}
use Rattle.std.proofs.lemmas.Option.{same_Some}
use Rattle.px_types.specs.ValueTypes.{common, common_dtype}
use Rattle.px_types.specs.declared.dtype.DataType.{out-DataType}
use Rattle.px_types.specs.declared.operator.Operator.TheVariants as op
use Rattle.px_types.specs.declared.value_type.ValueType.{ValueType}
use Rattle.px_types.specs.declared.value_type.ValueType.TheVariants.{Boolean}
use Rattle.px_expr.specs.declared.context.Context.{Context}
use Rattle.px_expr.specs.Plan.{Catalog}
use Rattle.px_expr.specs.Tree.{Tree, tree, more, none, Binary, tree_of}
use Rattle.px_meaning.specs.Check.{Typed, HasType, check_list, resolve}
use Rattle.px_meaning.specs.Signatures.{signature, united, OfType}
use Rattle.px_meaning.proofs.Lists.{check_list-checked}
use Rattle.px_meaning.proofs.Typing.{has, have_none, have_more, Has-HasType, HasType-Has}
use Rattle.px_check.specs.CheckedTree.{CheckedTree, typed_of}
use Rattle.px_arena.specs.declared.node.AExpr.{AExpr}
use Rattle.px_arena.specs.declared.node.Node.{Node}
use Rattle.px_arena.specs.Denotes.{Denotes, IsIn, first, later}
use Rattle.px_arena.proofs.Measure.{denoted_within}
use Rattle.px_rules.specs.Plan.{AreCheckedAt, places}

-- the first of checked trees, where it is Boolean
pub mask_type :
    (c : Catalog) (context : Context) (ts : List Tree) (hs : List CheckedTree) (h : CheckedTree) →
    check_list c context ts ≡ Ok (map typed_of hs) → slice_get hs 0 ≡ Some h → h.value_type ≡ Boolean → HasType c (tree_of h.tree) Boolean
mask_type c context ts [] h e at mask = cc
mask_type c context ts (x ∷ hs) h e at mask =
    let same : x ≡ h = same_Some x h at in
    let has_type : HasType c (tree_of x.tree) x.value_type =
    All-head (λ (v : Typed). HasType c v.tree v.value_type) (typed_of x) (map typed_of hs) (check_list-checked c context ts (map typed_of (x ∷ hs)) e) in
    subst (λ (k : ValueType). HasType c (tree_of h.tree) k) mask (subst (λ (z : CheckedTree). HasType c (tree_of z.tree) z.value_type) same has_type)

-- an `And` takes two Boolean inputs as they are
takes_two : (c : Catalog) → resolve c (Binary op.And) (map OfType (Boolean ∷ Boolean ∷ [])) ≡ Ok (record { inputs = Boolean ∷ Boolean ∷ []; result = Boolean })
unfolding signature united common common_dtype out-DataType denote.Hole.Carrier.out
takes_two c = refl

-- a Boolean tree on both sides of an `And`
both_type : (c : Catalog) (t : Tree) → HasType c t Boolean → HasType c (tree (Binary op.And) (more t (more t none))) Boolean
both_type c t h =
    let one = HasType-Has c t Boolean h in
    Has-HasType c (tree (Binary op.And) (more t (more t none))) Boolean (has {n = Binary op.And} {us = more t (more t none)} {ks = Boolean ∷ Boolean ∷ []} {k = Boolean} refl (have_more one (have_more one have_none)) (takes_two c))

-- both operands stand in the arena
pub both_within : (items : List AExpr) (n : ℕ) (t : Tree) → Denotes items n t → (m : ℕ) → IsIn m (n ∷ n ∷ []) → m < length items
both_within items n t d _ first = denoted_within items n t d
both_within items n t d _ (later first) = denoted_within items n t d
both_within items n t d m (later (later i)) = elim i [ ]

-- a place pushed twice
pub twice_checked :
    (c : Catalog) (items : List AExpr) (n : Node) (t : Tree) (old mid new : List Node) → Denotes items n.0 t → HasType c t Boolean →
    old ≡ [] → mid ≡ old ++ n ∷ [] → new ≡ mid ++ n ∷ [] → AreCheckedAt c items (places new)
twice_checked c items n t old mid new d h e f g =
    let pushed : new ≡ n ∷ n ∷ [] = g ∙ ap (λ (z : List Node). z ++ n ∷ []) (f ∙ ap (λ (z : List Node). z ++ n ∷ []) e) in
    subst (λ (z : List Node). AreCheckedAt c items (places z)) (sym pushed)
    (more t (more t none), (d, (d, tt)), ((Boolean, h), ((Boolean, h), tt)))

-- an `And` pushed once
pub both_checked :
    (c : Catalog) (items : List AExpr) (n : Node) (t : Tree) (old new : List Node) →
    Denotes items n.0 (tree (Binary op.And) (more t (more t none))) → HasType c t Boolean →
    old ≡ [] → new ≡ old ++ n ∷ [] → AreCheckedAt c items (places new)
both_checked c items n t old new d h e f =
    let whole : Tree = tree (Binary op.And) (more t (more t none)) in
    let pushed : new ≡ n ∷ [] = f ∙ ap (λ (z : List Node). z ++ n ∷ []) e in
    subst (λ (z : List Node). AreCheckedAt c items (places z)) (sym pushed)
    (more whole none, (d, tt), ((Boolean, both_type c t h), tt))
