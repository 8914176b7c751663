-- A table is filled while places are evaluated.
use Rattle.std.proofs.Common.{◌≡◌, ◌≢◌, ◌⊎◌, inl, inr, ◌+◌, ◌<◌, ◌≤◌, ℕ, zero, suc, List, [], ◌∷◌, map, length, take, replicate, set, Option, Some, None, Ok, refl, sym, ◌∙◌, ap, subst, arith}
use Rattle.std.specs.Prelude.{IsSome, option_and_then, option_map, slice_get}
use Rattle.std.proofs.lemmas.Bool.{cases_eq}
use Rattle.std.proofs.lemmas.List.{get_or-set_same, get_or-set_other, length-set, take_all}
use Rattle.std.proofs.lemmas.Option.{same_Some, slice_get_within}
use Rattle.px_base.specs.declared.error.PlanError.{PlanError}
use Rattle.px_types.specs.declared.value_type.ValueType.{ValueType}
use Rattle.px_semantics.specs.Rows.{TypedRows, Contents}
use Rattle.px_expr.specs.Kernel.{Kernel}
use Rattle.px_expr.specs.Tree.{Node as Root, Tree, tree, Trees, none, more, fold_trees}
use Rattle.px_meaning.specs.Check.{resolve}
use Rattle.px_meaning.specs.Faults.{HasFault, SomeHasFault, OwnFault, own, of_input, of_first, of_rest}
use Rattle.px_meaning.specs.Mean.{all_of, node_rows, rows}
use Rattle.px_meaning.specs.Schema.{Fits, schema_of}
use Rattle.px_expr.specs.Plan.{Catalog}
use Rattle.px_meaning.specs.Signatures.{OfType}
use Rattle.px_meaning.proofs.Means.{all-typed}
use Rattle.px_meaning.proofs.Typing.{Has, HaveAll, has, have_more, Has-HasType, HasType-Has}
use Rattle.px_arena.specs.declared.node.AExpr.{AExpr}
use Rattle.px_arena.specs.Denotes.{root_of, inputs_of, Denotes, DenoteAll, IsIn, Reaches, here, below}
use Rattle.px_arena.proofs.Places.{denotes_one}
use Rattle.px_arena.proofs.Reading.{holds}
use Rattle.px_base.specs.declared.error.PlanError.TheVariants.{OutOfMemory}
use Rattle.px_eval.specs.declared.table.Rows.{Rows}
use Rattle.px_eval.specs.Table.{rows_at, values_of}
use Rattle.px_eval.specs.Own.{frame_catalog, input_rows, IsReady, IsAnswer, IsReason, node_gives}
use Rattle.px_rules.specs.Plan.{IsCheckedAt}
use Rattle.px_eval.specs.Fills.{IsTable, HasFaultAt, HoldsRoots, RootHasFault, HasTicked, Dropped}
use Rattle.px_eval.specs.Order.{last_reader, IsNeeded, IsOrder, IsReader}
use Rattle.px_eval.proofs.Columns.{take_one}
use Rattle.px_eval.proofs.Lists.{some_of, is_some_of, some_within, not_both, at_in, in_at, in_more, in_longer, in_next}
use Rattle.px_eval.proofs.Ordering.{order_bound}

-- the parts of a checked node
pub record HasParts (c : Catalog) (n : Root) (us : Trees) (k : ValueType) : Type 0 where
  pub types : List ValueType
  pub inputs : HaveAll c us types
  pub takes : resolve c n (map OfType types) ≡ Ok (record { inputs = types; result = k })

pub has_parts : (c : Catalog) (n : Root) (us : Trees) (k : ValueType) → Has c (tree n us) k → HasParts c n us k
has_parts c _ _ k (has {n} {us} {ks} free all takes) = record { types = ks; inputs = all; takes = takes }

-- one of the inputs
record OneOf (c : Catalog) (kernels : List Kernel) (frame : List Contents) (items : List AExpr) (us : Trees) (m : ℕ) : Type 0 where
  tree : Tree
  value_type : ValueType
  denotes : Denotes items m tree
  has : Has c tree value_type
  fault : (e : PlanError) → HasFault kernels frame tree e → SomeHasFault kernels frame us e

first_has : {c : Catalog} {u : Tree} {us : Trees} {ks : List ValueType} → HaveAll c (more u us) ks → (k : ValueType) × Has c u k
first_has (have_more {k} h all) = (k, h)

rest_have : {c : Catalog} {u : Tree} {us : Trees} {ks : List ValueType} → HaveAll c (more u us) ks → (js : List ValueType) × HaveAll c us js
rest_have (have_more {ks} h all) = (ks, all)

one_of :
    (c : Catalog) (kernels : List Kernel) (frame : List Contents) (items : List AExpr) (ns : List ℕ) (us : Trees) (ks : List ValueType) (i m : ℕ) →
    DenoteAll items ns us → HaveAll c us ks → slice_get ns i ≡ Some m → OneOf c kernels frame items us m
one_of c kernels frame items [] us ks i m ds h e = cc
one_of c kernels frame items (n ∷ ns) none ks i m ds h e = absurd ds
one_of c kernels frame items (n ∷ ns) (more u us) ks zero m (d, ds) h e =
    let (k, g) = first_has h in
    record { tree = u; value_type = k; denotes = subst (λ (z : ℕ). Denotes items z u) (same_Some n m e) d; has = g; fault = λ f g. of_first g }
one_of c kernels frame items (n ∷ ns) (more u us) ks (suc i) m (d, ds) h e =
    let (js, g) = rest_have h in
    let o = one_of c kernels frame items ns us js i m ds g e in
    record { tree = o.tree; value_type = o.value_type; denotes = o.denotes; has = o.has; fault = λ f g. of_rest (o.fault f g) }

-- a place below a checked one is checked, and its faults are faults of that one
record Under (kernels : List Kernel) (frame : List Contents) (items : List AExpr) (n m : ℕ) : Type 0 where
  checked : IsCheckedAt (frame_catalog kernels frame) items m
  fault : (e : PlanError) → HasFaultAt kernels frame items m e → HasFaultAt kernels frame items n e

input_at :
    (kernels : List Kernel) (frame : List Contents) (items : List AExpr) (n i m : ℕ) (x : AExpr) → IsCheckedAt (frame_catalog kernels frame) items n → slice_get items n ≡ Some x →
    slice_get (inputs_of x) i ≡ Some m → Under kernels frame items n m
input_at kernels frame items n i m x (t, d, (k, ok)) at ati =
    let c = frame_catalog kernels frame in
    let h = holds items n x t d at in
    let is_has : Has c (tree (root_of x) h.inputs) k = subst (λ (z : Tree). Has c z k) h.whole (HasType-Has c t k ok) in
    let p = has_parts c (root_of x) h.inputs k is_has in
    let o = one_of c kernels frame items (inputs_of x) h.inputs p.types i m h.denote p.inputs ati in
    record {
      checked = (o.tree, o.denotes, (o.value_type, Has-HasType c o.tree o.value_type o.has));
      fault = λ e f t' d'.
          let same : t ≡ t' = denotes_one items n t t' d d' in
          let inner : HasFault kernels frame (tree (root_of x) h.inputs) e = of_input (o.fault e (f o.tree o.denotes)) in
          subst (λ (z : Tree). HasFault kernels frame z e) same (subst (λ (z : Tree). HasFault kernels frame z e) (sym h.whole) inner);
    }

under : (kernels : List Kernel) (frame : List Contents) (items : List AExpr) (n p : ℕ) → Reaches items n p → IsCheckedAt (frame_catalog kernels frame) items n → Under kernels frame items n p
under kernels frame items n _ here h = record { checked = h; fault = λ e f. f }
under kernels frame items n p (below {m} x at i r) h =
    let w = in_at (inputs_of x) m i in
    let a = input_at kernels frame items n w.index m x h at w.at in
    let b = under kernels frame items m p r a.checked in
    record { checked = b.checked; fault = λ e f. a.fault e (b.fault e f) }

-- all inputs are filled
abbrev pub AllFilled : List (Option TypedRows) → List ℕ → Type 0
AllFilled table ns = (j m : ℕ) → slice_get ns j ≡ Some m → IsSome (rows_at table m)

held_are :
    (kernels : List Kernel) (frame : List Contents) (items : List AExpr) (table : List (Option TypedRows)) (ns : List ℕ) (us : Trees) →
    IsTable kernels frame items table → DenoteAll items ns us → AllFilled table ns → map (rows_at table) ns ≡ fold_trees (node_rows kernels frame) us
held_are kernels frame items table [] none is ds f = refl
held_are kernels frame items table [] (more u us) is ds f = absurd ds
held_are kernels frame items table (n ∷ ns) none is ds f = absurd ds
held_are kernels frame items table (n ∷ ns) (more u us) is (d, ds) f =
    let (v, e) = some_of (rows_at table n) (f zero n refl) in
    let a : rows kernels frame u ≡ Some v = is.means n v e u d in
    let b : rows_at table n ≡ rows kernels frame u = e ∙ sym a in
    let r = held_are kernels frame items table ns us is ds (λ j m g. f (suc j) m g) in
    ap (λ (z : Option TypedRows). z ∷ map (rows_at table) ns) b ∙ ap (λ (z : List (Option TypedRows)). rows kernels frame u ∷ z) r

all_some : (table : List (Option TypedRows)) (ns : List ℕ) → AllFilled table ns → (vs : List TypedRows) × (all_of (map (rows_at table) ns) ≡ Some vs)
all_some table [] f = ([], refl)
all_some table (n ∷ ns) f =
    let (v, e) = some_of (rows_at table n) (f zero n refl) in
    let (vs, g) = all_some table ns (λ j m h. f (suc j) m h) in (
      v ∷ vs,
      ap (option_and_then (λ a. option_map (λ as'. a ∷ as') (all_of (map (rows_at table) ns)))) e ∙ ap (option_map (λ as'. v ∷ as')) g,
    )

-- a checked place whose inputs are filled is ready, and what it gives is what its tree means
pub record Ready (kernels : List Kernel) (frame : List Contents) (items : List AExpr) (n : ℕ) (table : List (Option TypedRows)) (x : AExpr) : Type 0 where
  pub ready : IsReady kernels frame table x
  pub means : (v : TypedRows) → node_gives kernels frame table x ≡ Some v → (t : Tree) → Denotes items n t → rows kernels frame t ≡ Some v
  pub fault : (e : PlanError) → OwnFault kernels frame (root_of x) (input_rows table x) e → HasFaultAt kernels frame items n e

pub place_ready :
    (kernels : List Kernel) (frame : List Contents) (items : List AExpr) (n : ℕ) (table : List (Option TypedRows)) (x : AExpr) → Fits frame (schema_of frame) → IsCheckedAt (frame_catalog kernels frame) items n →
    slice_get items n ≡ Some x → IsTable kernels frame items table → AllFilled table (inputs_of x) → Ready kernels frame items n table x
place_ready kernels frame items n table x fits (t, d, (k, ok)) at is filled =
    let c = frame_catalog kernels frame in
    let h = holds items n x t d at in
    let is_has : Has c (tree (root_of x) h.inputs) k = subst (λ (z : Tree). Has c z k) h.whole (HasType-Has c t k ok) in
    let p = has_parts c (root_of x) h.inputs k is_has in
    let are : input_rows table x ≡ fold_trees (node_rows kernels frame) h.inputs = held_are kernels frame items table (inputs_of x) h.inputs is h.denote filled in
    let (vs, g) = all_some table (inputs_of x) filled in
    record {
      ready = record {
        types = p.types;
        value_type = k;
        columns = vs;
        takes = p.takes;
        all = g;
        typed = all-typed c frame fits h.inputs p.types p.inputs vs (sym (ap all_of are) ∙ g);
      };
      means = λ v e t' d'.
          let same : t ≡ t' = denotes_one items n t t' d d' in
          let inner : rows kernels frame (tree (root_of x) h.inputs) ≡ Some v = sym (ap (node_rows kernels frame (root_of x)) are) ∙ e in
          subst (λ (z : Tree). rows kernels frame z ≡ Some v) same (subst (λ (z : Tree). rows kernels frame z ≡ Some v) (sym h.whole) inner);
      fault = λ e f t' d'.
          let same : t ≡ t' = denotes_one items n t t' d d' in
          let inner : HasFault kernels frame (tree (root_of x) h.inputs) e = own (subst (λ (z : List (Option TypedRows)). OwnFault kernels frame (root_of x) z e) are f) in
          subst (λ (z : Tree). HasFault kernels frame z e) same (subst (λ (z : Tree). HasFault kernels frame z e) (sym h.whole) inner);
    }

pub own_error :
    (kernels : List Kernel) (frame : List Contents) (items : List AExpr) (n : ℕ) (table : List (Option TypedRows)) (x : AExpr) (e : PlanError) → Ready kernels frame items n table x →
    IsReason kernels frame table x e → (e ≡ OutOfMemory) ⊎ HasFaultAt kernels frame items n e
own_error kernels frame items n table x e r (inl h) = inl h
own_error kernels frame items n table x e r (inr h) = inr (r.fault e h)

compare : (a b : ℕ) → (a ≤ b) ⊎ (b + 1 ≤ a)
compare zero b = inl (omega arith)
compare (suc a) zero = inr (omega arith)
compare (suc a) (suc b) = elim (compare a b) [
  | inl h ↦ inl (omega (arith, h))
  | inr h ↦ inr (omega (arith, h))
]

-- after so many places the table holds what later places and roots read
pub record Filled (kernels : List Kernel) (frame : List Contents) (items : List AExpr) (order : List ℕ) (needed : List (Option ℕ)) (k : ℕ) (rows_kept : List (Option TypedRows)) (s s' : ℕ) : Type 0 where
  pub table : IsTable kernels frame items rows_kept
  pub holds : (m : ℕ) → IsIn m (take k order) → IsNeeded needed m k → IsSome (rows_at rows_kept m)
  pub only : (m : ℕ) → IsSome (rows_at rows_kept m) → IsIn m (take k order) × IsNeeded needed m k
  pub ticks : s' ≡ s + k

held_new : (n i : ℕ) (v : TypedRows) → rows_at (replicate n None) i ≡ Some v → ⊥
held_new zero i v e = cc
held_new (suc n) zero v e = cc
held_new (suc n) (suc i) v e = held_new n i v e

length_new : (n : ℕ) → length (replicate {A = Option TypedRows} n None) ≡ n
length_new zero = refl
length_new (suc n) = let h = length_new n in omega arith

pub filled_start :
    (kernels : List Kernel) (frame : List Contents) (items : List AExpr) (order : List ℕ) (needed : List (Option ℕ)) (table : List (Option TypedRows)) (k s : ℕ) → k ≡ length items → table ≡ replicate k None →
    Filled kernels frame items order needed 0 table s s
filled_start kernels frame items order needed table k s e is =
    subst (λ (z : List (Option TypedRows)). Filled kernels frame items order needed 0 z s s) (sym is)
    (record { table = record { same_length = length_new k ∙ e; means = λ i v f t d. absurd (held_new k i v f) }; holds = λ m i need. nothing order i; only = λ m h. let (v, f) = some_of _ h in absurd (held_new k m v f); ticks = omega arith })
  where
    nothing : (ns : List ℕ) {m : ℕ} → IsIn m (take 0 ns) → IsSome (rows_at (replicate k None) m)
    nothing [] i = elim i [ ]
    nothing (n ∷ ns) i = elim i [ ]

-- what is known of the order of a checked arena's places, and of its roots
pub record Ordered (kernels : List Kernel) (frame : List Contents) (items : List AExpr) (ns : List ℕ) (ps : List ℕ) (needed : List (Option ℕ)) : Type 0 where
  pub fits : Fits frame (schema_of frame)
  pub checked : (n : ℕ) → IsIn n ns → IsCheckedAt (frame_catalog kernels frame) items n
  pub order : IsOrder items ps needed
  pub reached : (p : ℕ) → IsSome (last_reader needed p) → (n : ℕ) × IsIn n ns × Reaches items n p
  pub roots : (n : ℕ) → IsIn n ns → IsNeeded needed n (length ps)
  pub read : (m last : ℕ) → last_reader needed m ≡ Some last → IsIn m ns ⊎ IsReader items ps last m

module _ (kernels : List Kernel) (frame : List Contents) (items : List AExpr) (ns : List ℕ) (order : List ℕ) (needed : List (Option ℕ)) (o : Ordered kernels frame items ns order needed) where
  -- the place at a position, and a root above it
  record AtPosition (n : ℕ) : Type 0 where
    root : ℕ
    is_root : IsIn root ns
    under_root : Under kernels frame items root n
    within : n < length items

  at_position : (k n : ℕ) → slice_get order k ≡ Some n → AtPosition n
  at_position k n at =
      let known = o.order.known n (at_in order k n at) in
      let (root, i, r) = o.reached n known in
      let h : n < length needed = some_within needed n known in
      let l : length needed ≡ length items = o.order.same_length in
      record { root = root; is_root = i; under_root = under kernels frame items root n r (o.checked root i); within = omega arith }

  pub position_within : (k n : ℕ) → slice_get order k ≡ Some n → n < length items
  position_within k n at = (at_position k n at).within

  pub position_ready :
      (k n : ℕ) (x : AExpr) (table : List (Option TypedRows)) (s s' : ℕ) → slice_get order k ≡ Some n → slice_get items n ≡ Some x → Filled kernels frame items order needed k table s s' →
      Ready kernels frame items n table x
  position_ready k n x table s s' at atn a =
      place_ready kernels frame items n table x o.fits (at_position k n at).under_root.checked atn a.table
      (λ j m e. let (w, need) = o.order.inputs k n m x at atn (at_in (inputs_of x) j m e) in a.holds m w need)

  pub position_error :
      (k n : ℕ) (x : AExpr) (table : List (Option TypedRows)) (s s' : ℕ) (e : PlanError) → slice_get order k ≡ Some n → slice_get items n ≡ Some x → Filled kernels frame items order needed k table s s' →
      IsReason kernels frame table x e → (e ≡ OutOfMemory) ⊎ RootHasFault kernels frame items ns e
  position_error k n x table s s' e at atn a h =
      let p = at_position k n at in
      elim (own_error kernels frame items n table x e (position_ready k n x table s s' at atn a) h) [
        | inl m ↦ inl m
        | inr f ↦ inr (p.root, p.is_root, p.under_root.fault e f)
      ]

  -- one more place: it was evaluated, and inputs that it was the last to read were dropped
  pub filled_more :
      (k n : ℕ) (x : AExpr) (old mid new : List (Option TypedRows)) (r : Rows) (s u s' : ℕ) → slice_get order k ≡ Some n → slice_get items n ≡ Some x → Filled kernels frame items order needed k old s u →
      IsAnswer kernels frame old x r → mid ≡ set old n (Some (values_of r)) → Dropped needed k (inputs_of x) mid new → s' ≡ u + 1 → Filled kernels frame items order needed (k + 1) new s s'
  filled_more k n x old mid new r s u s' at atn a answer is d tick =
      record {
        table = record { same_length = d.same_length ∙ (ap (λ (z : List (Option TypedRows)). length z) is ∙ (length-set old n (Some v) ∙ a.table.same_length)); means = λ i w e t den. meant i w (d.only i w e) t den (cases_eq i n) };
        holds = λ m i need. d.kept m need (there m (in_more (take k order) n m (subst (λ (z : List ℕ). IsIn m z) (take_one order k n at) i)) (sooner m need) (cases_eq m n));
        only = λ m h. only m h (cases_eq m n);
        ticks = let t : u ≡ s + k = a.ticks in omega arith;
      }
    where
      v : TypedRows
      v = values_of r

      within : n < length old
      within = let w : n < length items = position_within k n at in let l : length old ≡ length items = a.table.same_length in omega arith

      at_n : rows_at mid n ≡ Some v
      at_n = ap (λ (z : List (Option TypedRows)). rows_at z n) is ∙ get_or-set_same old n (Some v) None within

      other : (m : ℕ) → m ≢ n → rows_at mid m ≡ rows_at old m
      other m ne = ap (λ (z : List (Option TypedRows)). rows_at z m) is ∙ get_or-set_other old n m (Some v) None ne

      meant : (i : ℕ) (w : TypedRows) → rows_at mid i ≡ Some w → (t : Tree) → Denotes items i t → (i ≡ n) ⊎ (i ≢ n) → rows kernels frame t ≡ Some w
      meant i w e t den (inl same) =
          let f : rows_at mid n ≡ Some w = subst (λ (z : ℕ). rows_at mid z ≡ Some w) same e in
          (position_ready k n x old s u at atn a).means v answer t (subst (λ (z : ℕ). Denotes items z t) same den) ∙ (sym at_n ∙ f)
      meant i w e t den (inr ne) = a.table.means i w (sym (other i ne) ∙ e) t den

      sooner : (m : ℕ) → IsNeeded needed m (k + 1) → IsNeeded needed m k
      sooner m (last, e, le) = (last, e, omega (arith, le))

      before : k < length order
      before = slice_get_within order k n at

      -- what the place itself gives is read later
      own : IsNeeded needed n (k + 1)
      own =
          let (last, e) = some_of _ (o.order.known n (at_in order k n at)) in (
            last,
            e,
            elim (o.read n last e) [
              | inl i ↦ to_end last e i
              | inr h ↦ later_on last e h
            ],
          )
        where
          to_end : (last : ℕ) → last_reader needed n ≡ Some last → IsIn n ns → k + 1 ≤ last
          to_end last e i =
              let (l, f, le) = o.roots n i in
              let same : l ≡ last = same_Some l last (sym f ∙ e) in
              omega (arith, before, le, same)

          later_on : (last : ℕ) → last_reader needed n ≡ Some last → IsReader items order last n → k + 1 ≤ last
          later_on last e h =
              let (w, need) = o.order.inputs last h.place n h.node h.at h.holds h.reads in
              elim (compare last k) [
                | inl le ↦ absurd (o.order.apart k n at (in_longer order last k n le w))
                | inr lt ↦ lt
              ]

      -- an input that was kept is read later
      kept_on : (m : ℕ) → IsSome (rows_at new m) → IsNeeded needed m k → IsNeeded needed m (k + 1)
      kept_on m h (last, e, le) = (
        last,
        e,
        elim (cases_eq last k) [
          | inl same ↦ absurd (elim (o.read m last e) [
            | inl i ↦ no_end last e same i
            | inr r ↦ not_both (rows_at new m) (d.gone m (here_read last same r) (e ∙ ap Some same)) h
          ])
          | inr ne ↦ omega (arith, le, ne)
        ],
      )
        where
          no_end : (last : ℕ) → last_reader needed m ≡ Some last → last ≡ k → IsIn m ns → ⊥
          no_end last e same i =
              let (l, f, ge) = o.roots m i in
              let is : l ≡ last = same_Some l last (sym f ∙ e) in
              omega (arith, before, ge, is, same)

          here_read : (last : ℕ) → last ≡ k → IsReader items order last m → IsIn m (inputs_of x)
          here_read last same r =
              let p : r.place ≡ n = same_Some r.place n (sym r.at ∙ (ap (slice_get order) same ∙ at)) in
              let y : r.node ≡ x = same_Some r.node x (sym r.holds ∙ (ap (slice_get items) p ∙ atn)) in
              subst (λ (z : AExpr). IsIn m (inputs_of z)) y r.reads

      only : (m : ℕ) → IsSome (rows_at new m) → (m ≡ n) ⊎ (m ≢ n) → IsIn m (take (k + 1) order) × IsNeeded needed m (k + 1)
      only m h (inl same) =
          (subst (λ (z : ℕ). IsIn z (take (k + 1) order)) (sym same) (in_next order k n at), subst (λ (z : ℕ). IsNeeded needed z (k + 1)) (sym same) own)
      only m h (inr ne) =
          let (v, e) = some_of (rows_at new m) h in
          let (i, need) = a.only m (is_some_of (rows_at old m) v (sym (other m ne) ∙ d.only m v e)) in
          (in_longer order k (k + 1) m (omega arith) i, kept_on m h need)

      there : (m : ℕ) → IsIn m (take k order) ⊎ (m ≡ n) → IsNeeded needed m k → (m ≡ n) ⊎ (m ≢ n) → IsSome (rows_at mid m)
      there m i need (inl same) = subst (λ (z : ℕ). IsSome (rows_at mid z)) (sym same) (is_some_of (rows_at mid n) v at_n)
      there m (inl i) need (inr ne) = subst (λ (z : Option TypedRows). IsSome z) (sym (other m ne)) (a.holds m i need)
      there m (inr same) need (inr ne) = absurd (ne same)

  pub roots_kept : (k : ℕ) (table : List (Option TypedRows)) (s s' : ℕ) → k ≡ length order → Filled kernels frame items order needed k table s s' → HoldsRoots kernels frame items ns table
  roots_kept k table s s' end a n i =
      let need = o.roots n i in
      let (last, e, le) = need in
      let w : IsIn n order = o.order.placed n (is_some_of (last_reader needed n) last e) in
      let w2 : IsIn n (take k order) = subst (λ (z : List ℕ). IsIn n z) (sym (take_all k order (omega (arith, end)))) w in
      let (v, f) = some_of (rows_at table n) (a.holds n w2 (subst (λ (z : ℕ). IsNeeded needed n z) (sym end) need)) in
      (v, f, λ t d. a.table.means n v f t d)

  pub roots_alone : (k : ℕ) (table : List (Option TypedRows)) (s s' : ℕ) → k ≡ length order → Filled kernels frame items order needed k table s s' → (n : ℕ) → IsSome (rows_at table n) → IsIn n ns
  roots_alone k table s s' end a n h =
      let (i, (last, e, le)) = a.only n h in
      elim (o.read n last e) [
        | inl w ↦ w
        | inr r ↦ absurd (let g : last < length order = slice_get_within order last r.place r.at in omega (arith, end, le, g))
      ]

  pub filled_ticks : (k : ℕ) (table : List (Option TypedRows)) (s s' : ℕ) → k ≤ length order → Filled kernels frame items order needed k table s s' → HasTicked items ns s s'
  filled_ticks k table s s' h a =
      let t : s' ≡ s + k = a.ticks in
      record {
        least = omega arith;
        most = λ ps all.
            let b : length order ≤ length ps = order_bound items order needed ps o.order (λ p e. let (n, i, r) = o.reached p e in all n p i r) in
            omega (arith, t, h, b);
      }

pub no_ticks : (items : List AExpr) (ns : List ℕ) (s : ℕ) → HasTicked items ns s s
no_ticks items ns s = record { least = omega arith; most = λ ps all. omega arith }

-- dropping what inputs the place was the last to read

cleared : (table : List (Option TypedRows)) (n : ℕ) → rows_at (set table n None) n ≡ None
cleared [] n = refl
cleared (o ∷ os) zero = refl
cleared (o ∷ os) (suc n) = cleared os n

none_some : (o : Option TypedRows) (v : TypedRows) → o ≡ None → o ≡ Some v → ⊥
none_some o v e f = cc

-- what the loop over the inputs has dropped
pub record Dropping (needed : List (Option ℕ)) (position : ℕ) (ns : List ℕ) (i : ℕ) (old new : List (Option TypedRows)) : Type 0 where
  pub same_length : length new ≡ length old
  pub only : (n : ℕ) (v : TypedRows) → rows_at new n ≡ Some v → rows_at old n ≡ Some v
  pub kept : (n : ℕ) → IsNeeded needed n (position + 1) → IsSome (rows_at old n) → IsSome (rows_at new n)
  pub gone : (j n : ℕ) → j < i → slice_get ns j ≡ Some n → last_reader needed n ≡ Some position → rows_at new n ≡ None

pub dropping_start : (needed : List (Option ℕ)) (k : ℕ) (ns : List ℕ) (table : List (Option TypedRows)) → Dropping needed k ns 0 table table
dropping_start needed k ns table = record { same_length = refl; only = λ n v e. e; kept = λ n need h. h; gone = λ j n h at e. absurd (omega arith) }

-- the next input is needed longer
pub dropping_on :
    (needed : List (Option ℕ)) (k i n : ℕ) (ns : List ℕ) (old new : List (Option TypedRows)) → slice_get ns i ≡ Some n → (last_reader needed n ≡ Some k → ⊥) → Dropping needed k ns i old new →
    Dropping needed k ns (i + 1) old new
dropping_on needed k i n ns old new at longer a = record { same_length = a.same_length; only = a.only; kept = a.kept; gone = λ j m h e last. gone j m h e last (cases_eq j i) }
  where
    gone : (j m : ℕ) → j < i + 1 → slice_get ns j ≡ Some m → last_reader needed m ≡ Some k → (j ≡ i) ⊎ (j ≢ i) → rows_at new m ≡ None
    gone j m h e last (inl same) =
        let q : n ≡ m = same_Some n m (sym at ∙ subst (λ (z : ℕ). slice_get ns z ≡ Some m) same e) in
        absurd (longer (subst (λ (z : ℕ). last_reader needed z ≡ Some k) (sym q) last))
    gone j m h e last (inr ne) = a.gone j m (omega arith) e last

-- the next input is dropped
pub dropping_more :
    (needed : List (Option ℕ)) (k i n : ℕ) (ns : List ℕ) (old mid new : List (Option TypedRows)) → slice_get ns i ≡ Some n → last_reader needed n ≡ Some k → new ≡ set mid n None → Dropping needed k ns i old mid →
    Dropping needed k ns (i + 1) old new
dropping_more needed k i n ns old mid new at last is a =
    subst (λ (z : List (Option TypedRows)). Dropping needed k ns (i + 1) old z) (sym is)
    (record {
      same_length = length-set mid n None ∙ a.same_length;
      only = λ m v e. only m v e (cases_eq m n);
      kept = λ m need h. kept m need h (cases_eq m n);
      gone = λ j m h e l. gone j m h e l (cases_eq m n) (cases_eq j i);
    })
  where
    only : (m : ℕ) (v : TypedRows) → rows_at (set mid n None) m ≡ Some v → (m ≡ n) ⊎ (m ≢ n) → rows_at old m ≡ Some v
    only m v e (inl same) = absurd (none_some _ v (cleared mid n) (subst (λ (z : ℕ). rows_at (set mid n None) z ≡ Some v) same e))
    only m v e (inr ne) = a.only m v (sym (get_or-set_other mid n m None None ne) ∙ e)

    kept : (m : ℕ) → IsNeeded needed m (k + 1) → IsSome (rows_at old m) → (m ≡ n) ⊎ (m ≢ n) → IsSome (rows_at (set mid n None) m)
    kept m (l, e, le) h (inl same) =
        let f : Some k ≡ Some l = sym last ∙ (ap (last_reader needed) (sym same) ∙ e) in
        let g : k ≡ l = same_Some k l f in
        absurd (omega (arith, g, le))
    kept m need h (inr ne) = subst (λ (z : Option TypedRows). IsSome z) (sym (get_or-set_other mid n m None None ne)) (a.kept m need h)

    gone : (j m : ℕ) → j < i + 1 → slice_get ns j ≡ Some m → last_reader needed m ≡ Some k → (m ≡ n) ⊎ (m ≢ n) → (j ≡ i) ⊎ (j ≢ i) → rows_at (set mid n None) m ≡ None
    gone j m h e l (inl same) q = subst (λ (z : ℕ). rows_at (set mid n None) z ≡ None) (sym same) (cleared mid n)
    gone j m h e l (inr ne) (inl q) = absurd (ne (sym (same_Some n m (sym at ∙ subst (λ (z : ℕ). slice_get ns z ≡ Some m) q e))))
    gone j m h e l (inr ne) (inr nq) = get_or-set_other mid n m None None ne ∙ a.gone j m (omega arith) e l

pub dropping_end : (needed : List (Option ℕ)) (k i : ℕ) (ns : List ℕ) (old new : List (Option TypedRows)) → length ns ≤ i → Dropping needed k ns i old new → Dropped needed k ns old new
dropping_end needed k i ns old new h a = record {
  same_length = a.same_length;
  only = a.only;
  kept = a.kept;
  gone = λ n w last. let f = in_at ns n w in let g : f.index < length ns = f.within in a.gone f.index n (omega arith) f.at last;
}
