-- Literals and names below a place.
use Rattle.std.proofs.Common.{◌≡◌, ℕ, zero, suc, ◌+◌, ◌≤◌, ◌<◌, List, [], ◌∷◌, length, Bool, true, false, not, ◌&&◌, Some, None, refl, sym, ◌∙◌, ap, subst, arith, inl, inr}
use Rattle.std.specs.List.{slice_get}
use Rattle.std.proofs.lemmas.Bool.{cases_eq}
use Rattle.std.proofs.lemmas.Option.{same_Some}
use Rattle.px_functions.specs.declared.function.FunctionExpr.{FunctionExpr}
use Rattle.px_expr.specs.Tree.{Node as Root, function_node, Tree, tree, Trees, none, more, fold_trees}
use Rattle.px_meaning.specs.Names.{name, node_name, first_name}
use Rattle.px_meaning.specs.Rewrites.{is_literal, HasNoLiteral, HaveNoLiteral}
use Rattle.px_arena.specs.declared.node.AExpr.{AExpr}
use Rattle.px_arena.specs.declared.node.AExpr.TheVariants as ir
use Rattle.px_arena.specs.Denotes.{root_of, inputs_of, Denotes, DenoteAll}
use Rattle.px_arena.proofs.Reading.{holds}
use Rattle.px_rules.proofs.FunctionNodes.{at_function}
use Rattle.px_rules.specs.Fusion.{is_literal_free, are_literal_free, name_input, own_name}

-- the first i of the places denote trees without literals
abbrev pub AreFreeUpTo : List AExpr → List ℕ → ℕ → Type 0
AreFreeUpTo items ns i = (k m : ℕ) → k < i → slice_get ns k ≡ Some m → (u : Tree) → Denotes items m u → is_literal_free u ≡ true

pub free_none : (items : List AExpr) (ns : List ℕ) → AreFreeUpTo items ns 0
free_none items ns k m lt at u du = absurd (omega arith)

pub free_more : (items : List AExpr) (ns : List ℕ) (i n : ℕ) → AreFreeUpTo items ns i → slice_get ns i ≡ Some n → ((u : Tree) → Denotes items n u → is_literal_free u ≡ true) → AreFreeUpTo items ns (i + 1)
free_more items ns i n all at one k m lt at' u du =
    elim (cases_eq k i) [
      | inl same ↦
          let e : m ≡ n = same_Some m n (sym at' ∙ subst (λ (z : ℕ). slice_get ns z ≡ Some n) (sym same) at) in
          one u (subst (λ (z : ℕ). Denotes items z u) e du)
      | inr ne ↦ all k m (omega arith) at' u du
    ]

all_free : (items : List AExpr) (ns : List ℕ) (us : Trees) → DenoteAll items ns us → ((k m : ℕ) → slice_get ns k ≡ Some m → (u : Tree) → Denotes items m u → is_literal_free u ≡ true) → are_literal_free us ≡ true
all_free items [] none ds each = refl
all_free items [] (more u us) ds each = absurd ds
all_free items (n ∷ ns) none ds each = absurd ds
all_free items (n ∷ ns) (more u us) (d, ds) each =
    let a : is_literal_free u ≡ true = each 0 n refl u d in
    let b : are_literal_free us ≡ true = all_free items ns us ds (λ k m at. each (suc k) m at) in
    rw (a, b) refl

one_bound : (items : List AExpr) (ns : List ℕ) (us : Trees) (i n : ℕ) → DenoteAll items ns us → slice_get ns i ≡ Some n → ((u : Tree) → Denotes items n u → is_literal_free u ≡ false) → are_literal_free us ≡ false
one_bound items [] us i n ds at bound = cc
one_bound items (m ∷ ns) none i n ds at bound = absurd ds
one_bound items (m ∷ ns) (more u us) zero n (d, ds) at bound =
    let e : m ≡ n = same_Some m n at in
    let a : is_literal_free u ≡ false = bound u (subst (λ (z : ℕ). Denotes items z u) e d) in
    rw (a) refl
one_bound items (m ∷ ns) (more u us) (suc i) n (d, ds) at bound =
    let b : are_literal_free us ≡ false = one_bound items ns us i n ds at bound in
    and_false (is_literal_free u) (are_literal_free us) b
  where
    and_false : (a b : Bool) → b ≡ false → (a && b) ≡ false
    and_false true b e = e
    and_false false b e = refl

within : (ns : List ℕ) (k m : ℕ) → slice_get ns k ≡ Some m → k < length ns
within [] k m e = cc
within (n ∷ ns) zero m e = omega arith
within (n ∷ ns) (suc k) m e = let h : k < length ns = within ns k m e in omega arith

-- the whole tree
pub free_all : (items : List AExpr) (n i : ℕ) (x : AExpr) (t : Tree) → slice_get items n ≡ Some x → is_literal (root_of x) ≡ false → AreFreeUpTo items (inputs_of x) i → length (inputs_of x) ≤ i → Denotes items n t → true ≡ is_literal_free t
free_all items n i x t at lit_ all le d =
    let h = holds items n x t d at in
    let a : are_literal_free h.inputs ≡ true = all_free items (inputs_of x) h.inputs h.denote (λ k m at' u du. let lt : k < length (inputs_of x) = within (inputs_of x) k m at' in all k m (omega arith) at' u du) in
    let c : is_literal_free (tree (root_of x) h.inputs) ≡ true = rw (a, lit_) refl in
    sym (ap is_literal_free h.whole ∙ c)

pub bound_input : (items : List AExpr) (n i m : ℕ) (x : AExpr) (t : Tree) → slice_get items n ≡ Some x → slice_get (inputs_of x) i ≡ Some m → ((u : Tree) → Denotes items m u → is_literal_free u ≡ false) → Denotes items n t → false ≡ is_literal_free t
bound_input items n i m x t at at' bound d =
    let h = holds items n x t d at in
    let a : are_literal_free h.inputs ≡ false = one_bound items (inputs_of x) h.inputs i m h.denote at' bound in
    let c : is_literal_free (tree (root_of x) h.inputs) ≡ false = go (not (is_literal (root_of x))) (are_literal_free h.inputs) a in
    sym (ap is_literal_free h.whole ∙ c)
  where
    go : (a b : Bool) → b ≡ false → (a && b) ≡ false
    go true b e = e
    go false b e = refl

pub bound_here : (items : List AExpr) (n : ℕ) (x : AExpr) (t : Tree) → slice_get items n ≡ Some x → is_literal (root_of x) ≡ true → Denotes items n t → false ≡ is_literal_free t
bound_here items n x t at lit_ d =
    let h = holds items n x t d at in
    let c : is_literal_free (tree (root_of x) h.inputs) ≡ false = rw (lit_) refl in
    sym (ap is_literal_free h.whole ∙ c)

-- what the test says
pub and_parts : (a b : Bool) → (a && b) ≡ true → (a ≡ true) × (b ≡ true)
and_parts true b e = (refl, e)
and_parts false b e = cc

not_false : (b : Bool) → not b ≡ true → b ≡ false
not_false true e = cc
not_false false e = refl

mutual
  pub free_is : (t : Tree) → is_literal_free t ≡ true → HasNoLiteral t
  free_is (tree n us) e = let (a, b) = and_parts (not (is_literal n)) (are_literal_free us) e in (not_false (is_literal n) a, free_are us b)

  free_are : (us : Trees) → are_literal_free us ≡ true → HaveNoLiteral us
  free_are none e = tt
  free_are (more u us) e = let (a, b) = and_parts (is_literal_free u) (are_literal_free us) e in (free_is u a, free_are us b)

mutual
  pub is_free_of : (t : Tree) → HasNoLiteral t → is_literal_free t ≡ true
  is_free_of (tree n us) (a, b) = let e : are_literal_free us ≡ true = are_free_of us b in rw (a, e) refl

  are_free_of : (us : Trees) → HaveNoLiteral us → are_literal_free us ≡ true
  are_free_of none h = refl
  are_free_of (more u us) (a, b) = let d : is_literal_free u ≡ true = is_free_of u a in let e : are_literal_free us ≡ true = are_free_of us b in rw (d, e) refl

-- names

record Below (items : List AExpr) (m : ℕ) (t : Tree) : Type 0 where
  pub under : Tree
  pub denotes : Denotes items m under
  pub same : name t ≡ name under

first_below : (items : List AExpr) (k : Root) (ns : List ℕ) (us : Trees) (m : ℕ) → ((names : List (List ℕ)) → node_name k names ≡ first_name names) → DenoteAll items ns us → slice_get ns 0 ≡ Some m → Below items m (tree k us)
first_below items k [] us m plain ds e = cc
first_below items k (n ∷ ns) none m plain ds e = absurd ds
first_below items k (n ∷ ns) (more u us) m plain (d, ds) e =
    let same : n ≡ m = same_Some n m e in
    record { under = u; denotes = subst (λ (z : ℕ). Denotes items z u) same d; same = plain (name u ∷ fold_trees node_name us) }

-- a function has its first input's name
named_first : (names : List (List ℕ)) (f : FunctionExpr) → node_name (function_node f) names ≡ first_name names
named_first names f = at_function (λ n. node_name n names) (first_name names) (λ g. refl) (λ g. refl) f

name_below : (items : List AExpr) (x : AExpr) (us : Trees) (m : ℕ) → DenoteAll items (inputs_of x) us → name_input x ≡ Some m → Below items m (tree (root_of x) us)
name_below items (ir.Alias input nm) us m ds e = cc
name_below items (ir.Column nm) us m ds e = cc
name_below items (ir.Literal v) us m ds e = cc
name_below items ir.Len us m ds e = cc
name_below items (ir.Ternary p t f) none m ds e = absurd ds
name_below items (ir.Ternary p t f) (more a none) m (da, ds) e = absurd ds
name_below items (ir.Ternary p t f) (more a (more b us)) m (da, (db, ds)) e =
    let same : t.0 ≡ m = same_Some t.0 m e in
    record { under = b; denotes = subst (λ (z : ℕ). Denotes items z b) same db; same = refl }
name_below items (ir.BinaryExpr l o r) us m ds e = first_below items _ (l.0 ∷ r.0 ∷ []) us m (λ names. refl) ds e
name_below items (ir.Cast a b o) us m ds e = first_below items _ (a.0 ∷ []) us m (λ names. refl) ds e
name_below items (ir.Gather a b o) us m ds e = first_below items _ (a.0 ∷ b.0 ∷ []) us m (λ names. refl) ds e
name_below items (ir.Slice a b o) us m ds e = first_below items _ (a.0 ∷ b.0 ∷ o.0 ∷ []) us m (λ names. refl) ds e
name_below items (ir.Filter a b) us m ds e = first_below items _ (a.0 ∷ b.0 ∷ []) us m (λ names. refl) ds e
name_below items (ir.Agg a) us m ds e = first_below items _ (inputs_of (ir.Agg a)) us m (λ names. refl) ds e
name_below items (ir.Function input f own) us m ds e = first_below items (function_node f) (inputs_of (ir.Function input f own)) us m (λ names. named_first names f) ds e
name_below items (ir.AnonymousFunction input f own) us m ds e = first_below items _ (inputs_of (ir.AnonymousFunction input f own)) us m (λ names. refl) ds e

no_input : (items : List AExpr) (k : Root) (ns : List ℕ) (us : Trees) → ((names : List (List ℕ)) → node_name k names ≡ first_name names) → DenoteAll items ns us → slice_get ns 0 ≡ None → name (tree k us) ≡ []
no_input items k [] none plain ds e = plain []
no_input items k [] (more u us) plain ds e = absurd ds
no_input items k (n ∷ ns) us plain ds e = cc

name_here : (items : List AExpr) (x : AExpr) (us : Trees) → DenoteAll items (inputs_of x) us → name_input x ≡ None → name (tree (root_of x) us) ≡ own_name x
name_here items (ir.Alias input nm) us ds e = refl
name_here items (ir.Column nm) us ds e = refl
name_here items (ir.Literal v) us ds e = refl
name_here items ir.Len us ds e = refl
name_here items (ir.Ternary p t f) us ds e = cc
name_here items (ir.BinaryExpr l o r) us ds e = cc
name_here items (ir.Cast a b o) us ds e = cc
name_here items (ir.Gather a b o) us ds e = cc
name_here items (ir.Slice a b o) us ds e = cc
name_here items (ir.Filter a b) us ds e = cc
name_here items (ir.Agg a) us ds e = no_input items (root_of (ir.Agg a)) (inputs_of (ir.Agg a)) us (λ names. refl) ds e
name_here items (ir.Function input f own) us ds e = no_input items (root_of (ir.Function input f own)) (inputs_of (ir.Function input f own)) us (λ names. named_first names f) ds e
name_here items (ir.AnonymousFunction input f own) us ds e = no_input items (root_of (ir.AnonymousFunction input f own)) (inputs_of (ir.AnonymousFunction input f own)) us (λ names. refl) ds e

pub named_below : (items : List AExpr) (n m : ℕ) (x : AExpr) (t : Tree) → Denotes items n t → slice_get items n ≡ Some x → name_input x ≡ Some m → (u : Tree) × Denotes items m u × (name t ≡ name u)
named_below items n m x t d at e =
    let h = holds items n x t d at in
    let b = name_below items x h.inputs m h.denote e in
    (b.under, b.denotes, ap name h.whole ∙ b.same)

pub named_here : (items : List AExpr) (n : ℕ) (x : AExpr) (t : Tree) → Denotes items n t → slice_get items n ≡ Some x → name_input x ≡ None → name t ≡ own_name x
named_here items n x t d at e = let h = holds items n x t d at in ap name h.whole ∙ name_here items x h.inputs h.denote e

-- the place whose name is taken is an input
pub name_in : (x : AExpr) (m : ℕ) → name_input x ≡ Some m → (k : ℕ) × (slice_get (inputs_of x) k ≡ Some m)
name_in (ir.Alias input nm) m e = cc
name_in (ir.Column nm) m e = cc
name_in (ir.Literal v) m e = cc
name_in ir.Len m e = cc
name_in (ir.Ternary p t f) m e = (1, e)
name_in (ir.BinaryExpr l o r) m e = (0, e)
name_in (ir.Cast a b o) m e = (0, e)
name_in (ir.Gather a b o) m e = (0, e)
name_in (ir.Slice a b o) m e = (0, e)
name_in (ir.Filter a b) m e = (0, e)
name_in (ir.Agg a) m e = (0, e)
name_in (ir.Function input f own) m e = (0, e)
name_in (ir.AnonymousFunction input f own) m e = (0, e)
