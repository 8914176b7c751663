-- How the order of places grows, and what it leads to.
use Rattle.std.proofs.Common.{◌≡◌, ◌≢◌, ◌⊎◌, inl, inr, ◌+◌, ◌<◌, ◌≤◌, ◌++◌, ℕ, zero, suc, List, [], ◌∷◌, length, take, replicate, set, Option, Some, None, refl, sym, ◌∙◌, ap, subst, arith}
use Rattle.std.specs.Prelude.{IsSome, slice_get}
use Rattle.std.proofs.lemmas.Bool.{cases_eq}
use Rattle.std.proofs.lemmas.List.{get_or-set_same, get_or-set_other, length-set, length_push, take-append-le, take_at}
use Rattle.std.proofs.lemmas.Option.{same_Some, slice_get_within}
use Rattle.px_expr.specs.Tree.{Tree}
use Rattle.px_arena.specs.declared.node.AExpr.{AExpr}
use Rattle.px_arena.specs.Denotes.{Denotes, IsIn, Reaches, here, below, inputs_of}
use Rattle.px_arena.proofs.Measure.{take_out, weight_at}
use Rattle.px_arena.proofs.Places.{no_cycle}
use Rattle.px_arena.proofs.Raises.{has_input}
use Rattle.px_eval.proofs.Lists.{not_both, none_or_some, nothing_read, is_some_of, some_within, at_in, in_at, in_left, in_last, in_more, in_longer, at_more, at_left, at_end}
use Rattle.px_eval.specs.Order.{last_reader, IsNeeded, left_out, IsOrder, IsReader, AreRead, Raised, Stays, PlacesBelow}

-- what is known of an input of a place that denotes a tree
pub record Input (items : List AExpr) (n m : ℕ) : Type 0 where
  pub denotes : (t : Tree) × Denotes items m t
  pub lighter : weight_at items m < weight_at items n
  pub apart : Reaches items m n → ⊥
  pub reaches : (p : ℕ) → Reaches items m p → Reaches items n p

pub an_input : (items : List AExpr) (n i m : ℕ) (x : AExpr) → (t : Tree) × Denotes items n t → slice_get items n ≡ Some x → slice_get (inputs_of x) i ≡ Some m → Input items n m
an_input items n i m x (t, d) at ati =
    let within : IsIn m (inputs_of x) = at_in (inputs_of x) i m ati in
    let h = has_input items n m x t d at within in
    record {
      denotes = h.denoted;
      lighter = h.lighter;
      apart = λ r. no_cycle items n m t x d at within r;
      reaches = λ p r. below x at within r;
    }

pub needs_set : (needed : List (Option ℕ)) (n position m : ℕ) → n < length needed → (m ≡ n) ⊎ (m ≢ n) → (last_reader (set needed n (Some position)) m ≡ Some position) ⊎ (last_reader (set needed n (Some position)) m ≡ last_reader needed m)
needs_set needed n position m h (inl same) =
    inl (subst (λ (z : ℕ). last_reader (set needed n (Some position)) z ≡ Some position) (sym same) (get_or-set_same needed n (Some position) None h))
needs_set needed n position m h (inr ne) = inr (get_or-set_other needed n m (Some position) None ne)

-- raising one place after others

pub raised_start : (position : ℕ) (ns : List ℕ) (old : List (Option ℕ)) → Raised position ns old old
raised_start position ns old = record { same_length = refl; same = λ n. inl refl }

pub raised_stays : (position : ℕ) (ns : List ℕ) (old new : List (Option ℕ)) → Raised position ns old new → Stays old new
raised_stays position ns old new r n h = go (r.same n)
  where
    go : (last_reader new n ≡ last_reader old n) ⊎ (IsIn n ns × IsSome (last_reader old n) × (last_reader new n ≡ Some position)) → IsSome (last_reader new n)
    go (inl e) = subst (λ (z : Option ℕ). IsSome z) (sym e) h
    go (inr (i, s, e)) = is_some_of (last_reader new n) position e

pub raised_none : (position : ℕ) (ns : List ℕ) (old new : List (Option ℕ)) (n : ℕ) → Raised position ns old new → last_reader old n ≡ None → last_reader new n ≡ None
raised_none position ns old new n r e = go (r.same n)
  where
    go : (last_reader new n ≡ last_reader old n) ⊎ (IsIn n ns × IsSome (last_reader old n) × (last_reader new n ≡ Some position)) → last_reader new n ≡ None
    go (inl f) = f ∙ e
    go (inr (i, s, f)) = absurd (not_both (last_reader old n) e s)

-- what the loop over some places has raised
pub record Raising (position : ℕ) (ns : List ℕ) (i : ℕ) (old new : List (Option ℕ)) : Type 0 where
  pub raised : Raised position ns old new
  pub so_far : (j m : ℕ) → j < i → slice_get ns j ≡ Some m → last_reader new m ≡ Some position

pub raising_start : (position : ℕ) (ns : List ℕ) (old : List (Option ℕ)) → Raising position ns 0 old old
raising_start position ns old = record { raised = raised_start position ns old; so_far = λ j m h e. absurd (omega arith) }

pub raising_more :
    (position : ℕ) (ns : List ℕ) (i n : ℕ) (old mid new : List (Option ℕ)) → slice_get ns i ≡ Some n → IsSome (last_reader old n) → new ≡ set mid n (Some position) → Raising position ns i old mid →
    Raising position ns (i + 1) old new
raising_more position ns i n old mid new at some is a =
    subst (λ (z : List (Option ℕ)). Raising position ns (i + 1) old z) (sym is)
    (record {
      raised = record { same_length = length-set mid n (Some position) ∙ a.raised.same_length; same = λ m. same m (cases_eq m n) };
      so_far = λ j m h e. far j m h e (cases_eq m n) (cases_eq j i);
    })
  where
    within : n < length mid
    within = some_within mid n (raised_stays position ns old mid a.raised n some)

    at_n : last_reader (set mid n (Some position)) n ≡ Some position
    at_n = get_or-set_same mid n (Some position) None within

    same : (m : ℕ) → (m ≡ n) ⊎ (m ≢ n) → (last_reader (set mid n (Some position)) m ≡ last_reader old m) ⊎ (IsIn m ns × IsSome (last_reader old m) × (last_reader (set mid n (Some position)) m ≡ Some position))
    same m (inl e) =
        inr (subst (λ (z : ℕ). IsIn z ns) (sym e) (at_in ns i n at), subst (λ (z : ℕ). IsSome (last_reader old z)) (sym e) some, subst (λ (z : ℕ). last_reader (set mid n (Some position)) z ≡ Some position) (sym e) at_n)
    same m (inr ne) =
        let other = get_or-set_other mid n m (Some position) None ne in
        elim (a.raised.same m) [
          | inl f ↦ inl (other ∙ f)
          | inr f ↦ inr (f.0, f.1, other ∙ f.2)
        ]

    far : (j m : ℕ) → j < i + 1 → slice_get ns j ≡ Some m → (m ≡ n) ⊎ (m ≢ n) → (j ≡ i) ⊎ (j ≢ i) → last_reader (set mid n (Some position)) m ≡ Some position
    far j m h e (inl same) q = subst (λ (z : ℕ). last_reader (set mid n (Some position)) z ≡ Some position) (sym same) at_n
    far j m h e (inr ne) (inl q) =
        absurd (ne (sym (same_Some n m (sym at ∙ subst (λ (z : ℕ). slice_get ns z ≡ Some m) q e))))
    far j m h e (inr ne) (inr nq) = get_or-set_other mid n m (Some position) None ne ∙ a.so_far j m (omega arith) e

pub raising_end :
    (position : ℕ) (ns : List ℕ) (i : ℕ) (old new : List (Option ℕ)) → length ns ≤ i → Raising position ns i old new → (m : ℕ) → IsIn m ns → last_reader new m ≡ Some position
raising_end position ns i old new h a m w =
    let f = in_at ns m w in
    let g : f.index < length ns = f.within in
    a.so_far f.index m (omega arith) f.at

left_out_raised :
    (position : ℕ) (old new : List (Option ℕ)) → length new ≡ length old →
    ((n : ℕ) → (last_reader new n ≡ last_reader old n) ⊎ (IsSome (last_reader old n) × (last_reader new n ≡ Some position))) → left_out new ≡ left_out old
left_out_raised position [] [] l r = refl
left_out_raised position [] (n ∷ ns) l r = absurd (omega arith)
left_out_raised position (o ∷ os) [] l r = absurd (omega arith)
left_out_raised position (o ∷ os) (n ∷ ns) l r = one o n (r 0) (left_out_raised position os ns (omega arith) (λ k. r (suc k)))
  where
    one : (o n : Option ℕ) → (n ≡ o) ⊎ (IsSome o × (n ≡ Some position)) → left_out ns ≡ left_out os → left_out (n ∷ ns) ≡ left_out (o ∷ os)
    one None None h e = ap (λ (z : ℕ). z + 1) e
    one None (Some m) (inl f) e = cc
    one None (Some m) (inr (s, f)) e = cc
    one (Some k) None (inl f) e = cc
    one (Some k) None (inr (s, f)) e = cc
    one (Some k) (Some m) h e = e

-- an order whose places are needed longer
pub raised_order : (items : List AExpr) (order : List ℕ) (k : ℕ) (ns : List ℕ) (old new : List (Option ℕ)) → k ≡ length order → IsOrder items order old → Raised k ns old new → IsOrder items order new
raised_order items order k ns old new end o is =
    record {
      same_length = r.same_length ∙ o.same_length;
      placed = λ n h. o.placed n (was n h (r.same n));
      known = λ n h. raised_stays (length order) ns old new r n (o.known n h);
      apart = o.apart;
      inputs = λ k n m x at atn i. let (w, need) = o.inputs k n m x at atn i in (w, longer k n m at need (r.same m));
      once = ap (λ (z : ℕ). length order + z) (left_out_raised (length order) old new r.same_length (λ n. elim (r.same n) [
        | inl f ↦ inl f
        | inr f ↦ inr (f.1, f.2)
      ])) ∙ o.once;
    }
  where
    r : Raised (length order) ns old new
    r = subst (λ (z : ℕ). Raised z ns old new) end is

    was : (n : ℕ) → IsSome (last_reader new n) → (last_reader new n ≡ last_reader old n) ⊎ (IsIn n ns × IsSome (last_reader old n) × (last_reader new n ≡ Some (length order))) → IsSome (last_reader old n)
    was n h (inl e) = subst (λ (z : Option ℕ). IsSome z) e h
    was n h (inr (i, s, e)) = s

    longer :
        (k n m : ℕ) → slice_get order k ≡ Some n → IsNeeded old m k → (last_reader new m ≡ last_reader old m) ⊎ (IsIn m ns × IsSome (last_reader old m) × (last_reader new m ≡ Some (length order))) → IsNeeded new m k
    longer k n m at (last, e, le) (inl f) = (last, f ∙ e, le)
    longer k n m at need (inr (i, s, f)) = let w : k < length order = slice_get_within order k n at in (length order, f, omega arith)

pub count_one : (needed : List (Option ℕ)) (n position : ℕ) → n < length needed → last_reader needed n ≡ None → left_out (set needed n (Some position)) + 1 ≡ left_out needed
count_one [] n position h e = absurd (omega arith)
count_one (o ∷ os) zero position h e = let same : o ≡ None = e in subst (λ (z : Option ℕ). left_out os + 1 ≡ left_out (z ∷ os)) (sym same) refl
count_one (None ∷ os) (suc n) position h e = let r = count_one os n position (omega arith) e in omega arith
count_one (Some w ∷ os) (suc n) position h e = let r = count_one os n position (omega arith) e in omega arith

-- one more place, whose inputs are needed up to it
pub placed_order :
    (items : List AExpr) (order order' : List ℕ) (needed needed' : List (Option ℕ)) (n : ℕ) (x : AExpr) → IsOrder items order needed → slice_get items n ≡ Some x → last_reader needed n ≡ None →
    ((m : ℕ) → IsIn m (inputs_of x) → last_reader needed m ≡ Some (length order)) → order' ≡ order ++ n ∷ [] → needed' ≡ set needed n (Some (length order)) → IsOrder items order' needed'
placed_order items order order' needed needed' n x o atn none ins is are =
    subst (λ (z : List ℕ). IsOrder items z needed') (sym is)
    (subst (λ (z : List (Option ℕ)). IsOrder items (order ++ n ∷ []) z) (sym are)
    (record {
      same_length = length-set needed n (Some (length order)) ∙ o.same_length;
      placed = λ m h. placed m h (cases_eq m n);
      known = λ m h. known m (in_more order n m h) (cases_eq m n);
      apart = λ k p at i. apart k p (at_more order n k p at) i;
      inputs = λ k p m y at aty i. inputs k p m y aty i (at_more order n k p at);
      once = once;
    }))
  where
    same_length : length needed ≡ length items
    same_length = o.same_length

    within : n < length needed
    within = let h : n < length items = slice_get_within items n x atn in omega arith

    placed : (m : ℕ) → IsSome (last_reader (set needed n (Some (length order))) m) → (m ≡ n) ⊎ (m ≢ n) → IsIn m (order ++ n ∷ [])
    placed m h (inl same) = subst (λ (z : ℕ). IsIn z (order ++ n ∷ [])) (sym same) (in_last order n)
    placed m h (inr ne) = in_left m order (n ∷ []) (o.placed m (subst (λ (z : Option ℕ). IsSome z) (get_or-set_other needed n m (Some (length order)) None ne) h))

    at_n : IsSome (last_reader (set needed n (Some (length order))) n)
    at_n = is_some_of _ (length order) (get_or-set_same needed n (Some (length order)) None within)

    known : (m : ℕ) → IsIn m order ⊎ (m ≡ n) → (m ≡ n) ⊎ (m ≢ n) → IsSome (last_reader (set needed n (Some (length order))) m)
    known m i (inl same) = subst (λ (z : ℕ). IsSome (last_reader (set needed n (Some (length order))) z)) (sym same) at_n
    known m (inl i) (inr ne) = subst (λ (z : Option ℕ). IsSome z) (sym (get_or-set_other needed n m (Some (length order)) None ne)) (o.known m i)
    known m (inr same) (inr ne) = absurd (ne same)

    other : (m last : ℕ) → last_reader needed m ≡ Some last → (m ≡ n) ⊎ (m ≢ n) → last_reader (set needed n (Some (length order))) m ≡ Some last
    other m last e (inl same) = absurd (not_both (last_reader needed n) none (is_some_of _ last (subst (λ (z : ℕ). last_reader needed z ≡ Some last) same e)))
    other m last e (inr ne) = get_or-set_other needed n m (Some (length order)) None ne ∙ e

    inputs :
        (k p m : ℕ) (y : AExpr) → slice_get items p ≡ Some y → IsIn m (inputs_of y) → (slice_get order k ≡ Some p) ⊎ ((k ≡ length order) × (p ≡ n)) →
        IsIn m (take k (order ++ n ∷ [])) × IsNeeded (set needed n (Some (length order))) m k
    inputs k p m y aty i (inl at) =
        let (w, (last, e, le)) = o.inputs k p m y at aty i in
        let h : k < length order = slice_get_within order k p at in
        (subst (λ (z : List ℕ). IsIn m z) (sym (take-append-le k order (n ∷ []) (omega arith))) w, (last, other m last e (cases_eq m n), le))
    inputs k p m y aty i (inr (same, is)) =
        let same_x : y ≡ x = same_Some y x (sym aty ∙ (ap (slice_get items) is ∙ atn)) in
        let e = ins m (subst (λ (z : AExpr). IsIn m (inputs_of z)) same_x i) in
        let w : IsIn m order = o.placed m (is_some_of _ (length order) e) in
        (subst (λ (z : List ℕ). IsIn m z) (sym (take_at order (n ∷ []) k (sym same))) w, (length order, other m (length order) e (cases_eq m n), omega (arith, same)))

    apart : (k p : ℕ) → (slice_get order k ≡ Some p) ⊎ ((k ≡ length order) × (p ≡ n)) → IsIn p (take k (order ++ n ∷ [])) → ⊥
    apart k p (inl at) i =
        let h : k < length order = slice_get_within order k p at in
        o.apart k p at (subst (λ (z : List ℕ). IsIn p z) (take-append-le k order (n ∷ []) (omega arith)) i)
    apart k p (inr (same, is)) i =
        let w : IsIn n order = subst (λ (z : ℕ). IsIn z order) is (subst (λ (z : List ℕ). IsIn p z) (take_at order (n ∷ []) k (sym same)) i) in
        not_both (last_reader needed n) none (o.known n w)

    once : length (order ++ n ∷ []) + left_out (set needed n (Some (length order))) ≡ length items
    once =
        let a : length (order ++ n ∷ []) ≡ length order + 1 = length_push order n in
        let b : left_out (set needed n (Some (length order))) + 1 ≡ left_out needed = count_one needed n (length order) within none in
        let c : length order + left_out needed ≡ length items = o.once in
        omega arith

-- the inputs so far are placed, and the place itself is not
pub record Visiting (items : List AExpr) (n : ℕ) (x : AExpr) (i : ℕ) (old : List (Option ℕ)) (ps : List ℕ) (new : List (Option ℕ)) : Type 0 where
  pub order : IsOrder items ps new
  pub read : AreRead items ps new
  pub kept : Stays old new
  pub reached : PlacesBelow items n old new
  pub own : last_reader new n ≡ None
  pub so_far : (j m : ℕ) → j < i → slice_get (inputs_of x) j ≡ Some m → IsSome (last_reader new m)

pub visiting_start : (items : List AExpr) (n : ℕ) (x : AExpr) (old : List (Option ℕ)) (order : List ℕ) → IsOrder items order old → AreRead items order old → last_reader old n ≡ None → Visiting items n x 0 old order old
visiting_start items n x old order o read e =
    record { order = o; read = read; kept = λ m h. h; reached = λ p f h. absurd (not_both (last_reader old p) f h); own = e; so_far = λ j m h f. absurd (omega arith) }

pub visiting_more :
    (items : List AExpr) (n i m : ℕ) (x : AExpr) (old mid new : List (Option ℕ)) (order order' : List ℕ) → Input items n m → slice_get (inputs_of x) i ≡ Some m → Visiting items n x i old order mid →
    IsOrder items order' new → AreRead items order' new → Stays mid new → PlacesBelow items m mid new → IsSome (last_reader new m) → Visiting items n x (i + 1) old order' new
visiting_more items n i m x old mid new order order' input at a o read stays reached got =
    record {
      order = o;
      read = read;
      kept = λ p h. stays p (a.kept p h);
      reached = λ p e h. from p e h (none_or_some (last_reader mid p));
      own = nothing_read (last_reader new n) (λ h. input.apart (reached n a.own h));
      so_far = λ j p h e. far j p h e (cases_eq j i);
    }
  where
    from : (p : ℕ) → last_reader old p ≡ None → IsSome (last_reader new p) → (last_reader mid p ≡ None) ⊎ IsSome (last_reader mid p) → Reaches items n p
    from p e h (inl f) = input.reaches p (reached p f h)
    from p e h (inr s) = a.reached p e s

    far : (j p : ℕ) → j < i + 1 → slice_get (inputs_of x) j ≡ Some p → (j ≡ i) ⊎ (j ≢ i) → IsSome (last_reader new p)
    far j p h e (inl same) =
        let q : m ≡ p = same_Some m p (sym at ∙ subst (λ (z : ℕ). slice_get (inputs_of x) z ≡ Some p) same e) in
        subst (λ (z : ℕ). IsSome (last_reader new z)) q got
    far j p h e (inr ne) = stays p (a.so_far j p (omega arith) e)

pub inputs_placed :
    (items : List AExpr) (n i : ℕ) (x : AExpr) (old new : List (Option ℕ)) (order : List ℕ) → length (inputs_of x) ≤ i → Visiting items n x i old order new →
    (m : ℕ) → IsIn m (inputs_of x) → IsSome (last_reader new m)
inputs_placed items n i x old new order h a m w =
    let f = in_at (inputs_of x) m w in
    let g : f.index < length (inputs_of x) = f.within in
    a.so_far f.index m (omega arith) f.at

-- the place comes after its inputs
pub record Visited (items : List AExpr) (n : ℕ) (old : List (Option ℕ)) (ps : List ℕ) (new : List (Option ℕ)) : Type 0 where
  pub order : IsOrder items ps new
  pub read : AreRead items ps new
  pub kept : Stays old new
  pub reached : PlacesBelow items n old new
  pub placed : IsSome (last_reader new n)

pub visited :
    (items : List AExpr) (n i k : ℕ) (x : AExpr) (old mid more new : List (Option ℕ)) (order order' : List ℕ) → k ≡ length order → slice_get items n ≡ Some x → Visiting items n x i old order mid →
    Raised k (inputs_of x) mid more → ((m : ℕ) → IsIn m (inputs_of x) → last_reader more m ≡ Some k) → order' ≡ order ++ n ∷ [] → new ≡ set more n (Some k) → Visited items n old order' new
visited items n i k x old mid more new order order' end at a r ins is are =
    record {
      order = subst (λ (z : ℕ). ((m : ℕ) → IsIn m (inputs_of x) → last_reader more m ≡ Some z) → new ≡ set more n (Some z) → IsOrder items order' new) (sym end)
          (λ h f. placed_order items order order' more new n x o at none h is f) ins are;
      read = λ m last e. read m last e (cases_eq m n);
      kept = λ m h. stays m (raised_stays k (inputs_of x) mid more r m (a.kept m h)) (cases_eq m n);
      reached = λ p e h. from p e h (cases_eq p n);
      placed = at_n;
    }
  where
    o : IsOrder items order more
    o = raised_order items order k (inputs_of x) mid more end a.order r

    none : last_reader more n ≡ None
    none = raised_none k (inputs_of x) mid more n r a.own

    within : n < length more
    within = let h : n < length items = slice_get_within items n x at in let l : length more ≡ length items = o.same_length in omega arith

    at_n : IsSome (last_reader new n)
    at_n = is_some_of _ k (ap (λ (z : List (Option ℕ)). last_reader z n) are ∙ get_or-set_same more n (Some k) None within)

    other : (m : ℕ) → m ≢ n → last_reader new m ≡ last_reader more m
    other m ne = ap (λ (z : List (Option ℕ)). last_reader z m) are ∙ get_or-set_other more n m (Some k) None ne

    standing : slice_get order' k ≡ Some n
    standing = ap (λ (z : List ℕ). slice_get z k) is ∙ at_end order n k end

    still : (j m : ℕ) → slice_get order j ≡ Some m → slice_get order' j ≡ Some m
    still j m e = ap (λ (z : List ℕ). slice_get z j) is ∙ at_left order (n ∷ []) j m e

    read_more : (m last : ℕ) → (last_reader more m ≡ last_reader mid m) ⊎ (IsIn m (inputs_of x) × IsSome (last_reader mid m) × (last_reader more m ≡ Some k)) → last_reader more m ≡ Some last → (slice_get order' last ≡ Some m) ⊎ IsReader items order' last m
    read_more m last (inl same) e = elim (a.read m last (sym same ∙ e)) [
      | inl h ↦ inl (still last m h)
      | inr h ↦ inr (record { place = h.place; node = h.node; at = still last h.place h.at; holds = h.holds; reads = h.reads })
    ]
    read_more m last (inr (i, s, f)) e =
        let same : k ≡ last = same_Some k last (sym f ∙ e) in
        inr (record { place = n; node = x; at = subst (λ (z : ℕ). slice_get order' z ≡ Some n) same standing; holds = at; reads = i })

    read : (m last : ℕ) → last_reader new m ≡ Some last → (m ≡ n) ⊎ (m ≢ n) → (slice_get order' last ≡ Some m) ⊎ IsReader items order' last m
    read m last e (inl same) =
        let f : last_reader new n ≡ Some k = ap (λ (z : List (Option ℕ)). last_reader z n) are ∙ get_or-set_same more n (Some k) None within in
        let g : k ≡ last = same_Some k last (sym f ∙ subst (λ (z : ℕ). last_reader new z ≡ Some last) same e) in
        inl (subst (λ (z : ℕ). slice_get order' last ≡ Some z) (sym same) (subst (λ (z : ℕ). slice_get order' z ≡ Some n) g standing))
    read m last e (inr ne) = read_more m last (r.same m) (sym (other m ne) ∙ e)

    stays : (m : ℕ) → IsSome (last_reader more m) → (m ≡ n) ⊎ (m ≢ n) → IsSome (last_reader new m)
    stays m h (inl same) = subst (λ (z : ℕ). IsSome (last_reader new z)) (sym same) at_n
    stays m h (inr ne) = subst (λ (z : Option ℕ). IsSome z) (sym (other m ne)) h

    from : (p : ℕ) → last_reader old p ≡ None → IsSome (last_reader new p) → (p ≡ n) ⊎ (p ≢ n) → Reaches items n p
    from p e h (inl same) = subst (λ (z : ℕ). Reaches items n z) (sym same) here
    from p e h (inr ne) = below_mid p e (subst (λ (z : Option ℕ). IsSome z) (other p ne) h) (none_or_some (last_reader mid p))
      where
        below_mid : (p : ℕ) → last_reader old p ≡ None → IsSome (last_reader more p) → (last_reader mid p ≡ None) ⊎ IsSome (last_reader mid p) → Reaches items n p
        below_mid p e h (inl f) = absurd (not_both (last_reader more p) (raised_none k (inputs_of x) mid more p r f) h)
        below_mid p e h (inr s) = a.reached p e s

-- the roots so far

read_new : (k n : ℕ) → last_reader (replicate k None) n ≡ None
read_new zero n = refl
read_new (suc k) zero = refl
read_new (suc k) (suc n) = read_new k n

left_out_new : (k : ℕ) → left_out (replicate k None) ≡ k
left_out_new zero = refl
left_out_new (suc k) = let h = left_out_new k in omega arith

length_new : (k : ℕ) → length (replicate {A = Option ℕ} k None) ≡ k
length_new zero = refl
length_new (suc k) = let h = length_new k in omega arith

-- the first i roots are placed
pub record Rooting (items : List AExpr) (ns : List ℕ) (i : ℕ) (ps : List ℕ) (needed : List (Option ℕ)) : Type 0 where
  pub order : IsOrder items ps needed
  pub read : AreRead items ps needed
  pub reached : (p : ℕ) → IsSome (last_reader needed p) → (n : ℕ) × IsIn n ns × Reaches items n p
  pub so_far : (j m : ℕ) → j < i → slice_get ns j ≡ Some m → IsSome (last_reader needed m)

pub rooting_start : (items : List AExpr) (ns : List ℕ) (k : ℕ) (order : List ℕ) (needed : List (Option ℕ)) → k ≡ length items → order ≡ [] → needed ≡ replicate k None → Rooting items ns 0 order needed
rooting_start items ns k order needed e is are =
    subst (λ (z : List ℕ). Rooting items ns 0 z needed) (sym is)
    (subst (λ (z : List (Option ℕ)). Rooting items ns 0 [] z) (sym are)
    (record {
      order = record {
        same_length = length_new k ∙ e;
        placed = λ n h. absurd (not_both _ (read_new k n) h);
        known = λ n i. elim i [ ];
        apart = λ j n at i. cc;
        inputs = λ j n m x at atn i. cc;
        once = let h : left_out (replicate k None) ≡ length items = left_out_new k ∙ e in omega arith;
      };
      read = λ m last h. absurd (not_both _ (read_new k m) (is_some_of _ last h));
      reached = λ p h. absurd (not_both _ (read_new k p) h);
      so_far = λ j m h f. absurd (omega arith);
    }))

pub rooting_more :
    (items : List AExpr) (ns : List ℕ) (i m : ℕ) (order order' : List ℕ) (old new : List (Option ℕ)) → slice_get ns i ≡ Some m → Rooting items ns i order old → IsOrder items order' new → AreRead items order' new → Stays old new →
    PlacesBelow items m old new → IsSome (last_reader new m) → Rooting items ns (i + 1) order' new
rooting_more items ns i m order order' old new at a o read stays reached got =
    record {
      order = o;
      read = read;
      reached = λ p h. from p h (none_or_some (last_reader old p));
      so_far = λ j p h e. far j p h e (cases_eq j i);
    }
  where
    from : (p : ℕ) → IsSome (last_reader new p) → (last_reader old p ≡ None) ⊎ IsSome (last_reader old p) → (n : ℕ) × IsIn n ns × Reaches items n p
    from p h (inl f) = (m, at_in ns i m at, reached p f h)
    from p h (inr s) = a.reached p s

    far : (j p : ℕ) → j < i + 1 → slice_get ns j ≡ Some p → (j ≡ i) ⊎ (j ≢ i) → IsSome (last_reader new p)
    far j p h e (inl same) =
        let q : m ≡ p = same_Some m p (sym at ∙ subst (λ (z : ℕ). slice_get ns z ≡ Some p) same e) in
        subst (λ (z : ℕ). IsSome (last_reader new z)) q got
    far j p h e (inr ne) = stays p (a.so_far j p (omega arith) e)

pub roots_placed : (items : List AExpr) (ns : List ℕ) (i : ℕ) (order : List ℕ) (needed : List (Option ℕ)) → length ns ≤ i → Rooting items ns i order needed → (m : ℕ) → IsIn m ns → IsSome (last_reader needed m)
roots_placed items ns i order needed h a m w =
    let f = in_at ns m w in
    let g : f.index < length ns = f.within in
    a.so_far f.index m (omega arith) f.at

pub raised_was : (position : ℕ) (ns : List ℕ) (old new : List (Option ℕ)) (n : ℕ) → Raised position ns old new → IsSome (last_reader new n) → IsSome (last_reader old n)
raised_was position ns old new n r h = elim (r.same n) [
  | inl e ↦ subst (λ (z : Option ℕ). IsSome z) e h
  | inr p ↦ p.1
]

-- a place below one of the order has a place of the order above it
above : (items : List AExpr) (order : List ℕ) (needed : List (Option ℕ)) (n p : ℕ) → IsOrder items order needed → Reaches items n p → IsIn n order → (n ≡ p) ⊎ ((k : ℕ) × IsReader items order k p)
above items order needed n _ o here w = inl refl
above items order needed n p o (below {m} x at i r) w =
    let f = in_at order n w in
    let (v, (last, e, le)) = o.inputs f.index n m x f.at at i in
    elim (above items order needed m p o r (o.placed m (is_some_of _ last e))) [
      | inl same ↦ inr (f.index, record { place = n; node = x; at = f.at; holds = at; reads = subst (λ (z : ℕ). IsIn z (inputs_of x)) same i })
      | inr h ↦ inr h
    ]

-- where the roots are needed to the end, each other place is needed up to one that reads it
pub last_reads :
    (items : List AExpr) (ns order : List ℕ) (k : ℕ) (old new : List (Option ℕ)) → k ≡ length order → IsOrder items order old → AreRead items order old → Raised k ns old new →
    ((p : ℕ) → IsSome (last_reader old p) → (n : ℕ) × IsIn n ns × Reaches items n p) → ((n : ℕ) → IsIn n ns → IsSome (last_reader old n)) →
    (m last : ℕ) → last_reader new m ≡ Some last → IsIn m ns ⊎ IsReader items order last m
last_reads items ns order k old new end o read r reached placed m last e = go (r.same m)
  where
    new_order : IsOrder items order new
    new_order = raised_order items order k ns old new end o r

    own : slice_get order last ≡ Some m → IsIn m ns ⊎ IsReader items order last m
    own at =
        let (n, i, b) = reached m (raised_was k ns old new m r (is_some_of _ last e)) in
        elim (above items order new n m new_order b (o.placed n (placed n i))) [
          | inl same ↦ inl (subst (λ (z : ℕ). IsIn z ns) same i)
          | inr h ↦ absurd (twice at h.0 h.1)
        ]
      where
        twice : slice_get order last ≡ Some m → (j : ℕ) → IsReader items order j m → ⊥
        twice at j h =
            let (w, (l, f, le)) = new_order.inputs j h.place m h.node h.at h.holds h.reads in
            let same : l ≡ last = same_Some l last (sym f ∙ e) in
            new_order.apart last m at (in_longer order j last m (omega (arith, same, le)) w)

    go : (last_reader new m ≡ last_reader old m) ⊎ (IsIn m ns × IsSome (last_reader old m) × (last_reader new m ≡ Some k)) → IsIn m ns ⊎ IsReader items order last m
    go (inl same) = elim (read m last (sym same ∙ e)) [
      | inl at ↦ own at
      | inr h ↦ inr h
    ]
    go (inr (i, s, f)) = inl i

-- an order has no more places than a list has that has them all

counted : (needed : List (Option ℕ)) (off : ℕ) (ps : List ℕ) → ((i : ℕ) → IsSome (last_reader needed i) → IsIn (off + i) ps) → length needed ≤ left_out needed + length ps
counted [] off ps all = omega arith
counted (None ∷ t) off ps all =
    let h = counted t (suc off) ps (λ i e. subst (λ (z : ℕ). IsIn z ps) (let s : off + suc i ≡ suc off + i = omega arith in s) (all (suc i) e)) in omega arith
counted (Some w ∷ t) off ps all =
    let here_in : IsIn off ps = subst (λ (z : ℕ). IsIn z ps) (let s : off + zero ≡ off = omega arith in s) (all zero refl) in
    let out = take_out off ps here_in in
    let s : length out.rest + 1 ≡ length ps = out.shorter in
    let h = counted t (suc off) out.rest
    (λ i e. out.keeps (suc off + i) (λ (q : suc off + i ≡ off). absurd (omega arith)) (subst (λ (z : ℕ). IsIn z ps) (let u : off + suc i ≡ suc off + i = omega arith in u) (all (suc i) e))) in
    omega arith

pub order_bound :
    (items : List AExpr) (order : List ℕ) (needed : List (Option ℕ)) (ps : List ℕ) → IsOrder items order needed → ((p : ℕ) → IsSome (last_reader needed p) → IsIn p ps) → length order ≤ length ps
order_bound items order needed ps o all =
    let l : length needed ≡ length items = o.same_length in
    let c : length order + left_out needed ≡ length items = o.once in
    let h : length needed ≤ left_out needed + length ps = counted needed 0 ps (λ p e. subst (λ (z : ℕ). IsIn z ps) (let u : p ≡ 0 + p = omega arith in u) (all p e)) in
    omega arith
