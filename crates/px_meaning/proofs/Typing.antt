-- The typing relation behind the check: the check gives a tree itself exactly where the relation has it.
use Rattle.std.proofs.Common.{◌≡◌, ◌&&◌, ◌||◌, List, [], ◌∷◌, map, Option, Some, None, Result, Ok, Bool, true, false, cond, ℤ, ℕ, refl, sym, ◌∙◌, ap, subst}
use Rattle.std.specs.Prelude.{option_and_then, option_map}
use Rattle.px_base.proofs.Exact.{same-decides}
use Rattle.px_base.specs.declared.error.PlanError.{PlanError}
use Rattle.px_base.specs.declared.error.PlanError.TheVariants.{ColumnNotFound, InvalidOperation}
use Rattle.px_types.proofs.CommonTypes.{value_type_of-dtype_of}
use Rattle.px_types.specs.ValueTypes.{holds, dtype_of, value_type_of, default_type}
use Rattle.px_types.specs.Schemas.{dtype_at}
use Rattle.px_types.specs.contracts.value_type.ValueType.{the_row}
use Rattle.px_types.specs.declared.dtype.DataType.{DataType}
use Rattle.px_types.specs.declared.type_parts.CastOptions.TheVariants.{NonStrict}
use Rattle.px_functions.specs.declared.evaluated.EvaluatedBoolean.TheVariants.{IsNull, IsNotNull, Not}
use Rattle.px_functions.specs.declared.evaluated.EvaluatedFunction.{EvaluatedFunction}
use Rattle.px_functions.specs.declared.evaluated.EvaluatedFunction.TheVariants as function
use Rattle.px_types.specs.declared.value_type.ValueType.{ValueType}
use Rattle.px_types.specs.declared.value_type.ValueType.TheVariants as value_type
use Rattle.px_expr.specs.Kernel.{Kernel}
use Rattle.px_expr.specs.declared.literal.LiteralValue.TheVariants as lit
use Rattle.px_expr.specs.Tree.{Node, Alias, Column, Literal, Binary, Cast, Ternary, Function, Tree, tree, Trees, none, more, trees, fold_trees}
use Rattle.px_meaning.specs.Literals.{literal_of, literal_rows}
use Rattle.px_expr.specs.Plan.{Catalog}
use Rattle.px_meaning.specs.Signatures.{Operand, OfType, Signature, signature, leaf, unary, any_type, cast_type, boolean_result, number_type, signed_type, integer_type, group_type, group_of, function_signature, literal_type, is_type, is_castable, given}
use Rattle.px_meaning.specs.Check.{Typed, Found, Checked, Untyped, then_, all_results, or_fault, operand_of, literal, cast_tree, default_literal, coerced, coerced_all, column_type, resolve, made, deferred, with_default_type_or, find, found, with_default_type, HasType}
use Rattle.px_meaning.proofs.Answers.{from_option, then_-parts, given-parts}
use Rattle.px_meaning.proofs.Shapes.{SameLength, and_then-parts, unary-parts, unary-long, uniting-long, ternary-long, leaf-long, leaf-parts}

-- the default type of an integer holds it
pub default-holds : (z : ℤ) (d : ValueType) → default_type z ≡ Some d → holds d z ≡ true
unfolding default_type
default-holds z d e = go (holds value_type.Int32 z) (holds value_type.Int64 z) (holds value_type.UInt64 z) refl refl refl e
  where
    go : (a b u : Bool) → holds value_type.Int32 z ≡ a → holds value_type.Int64 z ≡ b → holds value_type.UInt64 z ≡ u → cond a (Some value_type.Int32) (cond b (Some value_type.Int64) (cond u (Some value_type.UInt64) None)) ≡ Some d → holds d z ≡ true
    go true b u h i j f = let same : value_type.Int32 ≡ d = cc in subst (λ (k : ValueType). holds k z ≡ true) same h
    go false true u h i j f = let same : value_type.Int64 ≡ d = cc in subst (λ (k : ValueType). holds k z ≡ true) same i
    go false false true h i j f = let same : value_type.UInt64 ≡ d = cc in subst (λ (k : ValueType). holds k z ≡ true) same j
    go false false false h i j f = cc

abbrev pub typed : Tree → ValueType → Typed
typed t k = record { tree = t; value_type = k }

mutual
  -- the tree is checked as it is, with this type: its inputs are so, and the node takes them as they are
  pub data Has (c : Catalog) : Tree → ValueType → Type 0 where
    has : {n : Node} {us : Trees} {ks : List ValueType} {k : ValueType} → deferred n ≡ None → HaveAll c us ks → resolve c n (map OfType ks) ≡ Ok (record { inputs = ks; result = k }) → Has c (tree n us) k

  pub data HaveAll (c : Catalog) : Trees → List ValueType → Type 0 where
    have_none : HaveAll c none []
    have_more : {u : Tree} {us : Trees} {k : ValueType} {ks : List ValueType} → Has c u k → HaveAll c us ks → HaveAll c (more u us) (k ∷ ks)

pub is_type-same : (k : ValueType) → is_type k k ≡ true
is_type-same k = (same-decides the_row.coded k k).1 refl

pub is_type-is : (j k : ValueType) → is_type j k ≡ true → j ≡ k
is_type-is j k e = (same-decides the_row.coded j k).0 e

pub is_type-of : (j k : ValueType) → j ≡ k → is_type j k ≡ true
is_type-of j k e = (same-decides the_row.coded j k).1 e

-- checked trees with their types, as they are found
abbrev pub checked_all : Trees → List ValueType → List Found
checked_all none ks = []
checked_all (more u us) [] = []
checked_all (more u us) (k ∷ ks) = Checked (typed u k) ∷ checked_all us ks

coerced-same : (k : ValueType) (t : Tree) → coerced k (Checked (typed t k)) ≡ t
coerced-same k t = ap (λ (b : Bool). cond b t (cast_tree k t)) (is_type-same k)

module _ (c : Catalog) where
  -- what is found at a node, from what is found at its inputs
  abbrev pub at_node : Node → List Found → Result Found PlanError
  at_node n inputs = with_default_type_or (deferred n) (then_ (resolve c n (map operand_of inputs)) (λ s. Ok (made n inputs s)))

  pub operands-checked : (us : Trees) (ks : List ValueType) → HaveAll c us ks → map operand_of (checked_all us ks) ≡ map OfType ks
  operands-checked _ _ have_none = refl
  operands-checked _ _ (have_more {u} {us} {k} {ks} h all) = ap (λ (os : List Operand). OfType k ∷ os) (operands-checked us ks all)

  pub coerced-checked : (us : Trees) (ks : List ValueType) → HaveAll c us ks → trees (coerced_all ks (checked_all us ks)) ≡ us
  coerced-checked _ _ have_none = refl
  coerced-checked _ _ (have_more {u} {us} {k} {ks} h all) =
      let first : coerced k (Checked (typed u k)) ≡ u = coerced-same k u in
      let rest : trees (coerced_all ks (checked_all us ks)) ≡ us = coerced-checked us ks all in
      cc

  mutual
    pub Has-found : (t : Tree) (k : ValueType) → Has c t k → found c t ≡ Ok (Checked (typed t k))
    Has-found _ k (has {n} {us} {ks} free all signed) =
        ap (λ (r : Result (List Found) PlanError). then_ r (at_node n)) (HaveAll-found us ks all)
        ∙ (ap (λ (d : Option Found). with_default_type_or d (then_ (resolve c n (map operand_of (checked_all us ks))) (λ s. Ok (made n (checked_all us ks) s)))) free
        ∙ (ap (λ (os : List Operand). then_ (resolve c n os) (λ s. Ok (made n (checked_all us ks) s))) (operands-checked us ks all)
        ∙ (ap (λ (r : Result Signature PlanError). then_ r (λ s. Ok (made n (checked_all us ks) s))) signed
        ∙ ap (λ (z : Trees). Ok (Checked (typed (tree n z) k))) (coerced-checked us ks all))))

    HaveAll-found : (us : Trees) (ks : List ValueType) → HaveAll c us ks → all_results (fold_trees (find c) us) ≡ Ok (checked_all us ks)
    HaveAll-found _ _ have_none = refl
    HaveAll-found _ _ (have_more {u} {us} {k} {ks} h all) =
        ap (λ (r : Result Found PlanError). then_ r (λ a. then_ (all_results (fold_trees (find c) us)) (λ as'. Ok (a ∷ as')))) (Has-found u k h)
        ∙ ap (λ (r : Result (List Found) PlanError). then_ r (λ as'. Ok (Checked (typed u k) ∷ as'))) (HaveAll-found us ks all)

  pub Has-HasType : (t : Tree) (k : ValueType) → Has c t k → HasType c t k
  Has-HasType t k h = ap (λ (r : Result Found PlanError). then_ r with_default_type) (Has-found t k h)

function-long : (f : EvaluatedFunction) (os : List Operand) (s : Signature) → function_signature f os ≡ Some s → SameLength s.inputs os
function-long (function.Boolean IsNull) os s e = unary-long boolean_result os s e
function-long (function.Boolean IsNotNull) os s e = unary-long boolean_result os s e
function-long (function.Boolean Not) os s e = unary-long number_type os s e
function-long function.Negate os s e = unary-long signed_type os s e
function-long (function.Fused f) os s e = uniting-long 3 integer_type os s e

-- a signature has a type for each input
signature-long : (kernels : List Kernel) (n : Node) (os : List Operand) (s : Signature) → signature kernels n os ≡ Some s → SameLength s.inputs os
unfolding signature
signature-long kernels (Alias m) os s e = unary-long any_type os s e
signature-long kernels (Literal v) os s e = let (k, f, g) = and_then-parts (literal_type (literal_rows v)) (λ k. leaf k os) s e in leaf-long k os s g
signature-long kernels (Binary o) os s e = uniting-long 2 (group_type (group_of o)) os s e
signature-long kernels (Cast dtype options) os s e = unary-long (cast_type (value_type_of dtype)) os s e
signature-long kernels Ternary os s e = ternary-long os s e
signature-long kernels (Function f) os s e = function-long f os s e
signature-long kernels _ os s e = cc

-- a column has no inputs, and its type is castable
pub record IsColumnAt (c : Catalog) (m : List ℕ) (os : List Operand) (s : Signature) : Type 0 where
  pub dtype : DataType
  pub value_type : ValueType
  pub at : dtype_at c.schema m ≡ Some dtype
  pub of : value_type_of dtype ≡ Some value_type
  pub core : is_castable value_type ≡ true
  pub alone : os ≡ []
  pub whole : s ≡ record { inputs = []; result = value_type }

pub column-parts : (c : Catalog) (m : List ℕ) (os : List Operand) (s : Signature) → resolve c (Column m) os ≡ Ok s → IsColumnAt c m os s
column-parts c m os s e =
    let (d, f, g) = then_-parts (or_fault (ColumnNotFound m) (dtype_at c.schema m)) (λ dtype. or_fault InvalidOperation (option_and_then (λ k. leaf k os) (column_type dtype))) s e in
    let h = from_option (ColumnNotFound m) (dtype_at c.schema m) d f in
    let (k, i, j) = and_then-parts (column_type d) (λ k. leaf k os) s (from_option InvalidOperation (option_and_then (λ k. leaf k os) (column_type d)) s g) in
    let (l, p, q) = and_then-parts (value_type_of d) (λ k. given (is_castable k) k) k i in
    let (core, same) = given-parts (is_castable l) l k q in
    let (alone, whole) = leaf-parts k os s j in
    record {
      dtype = d;
      value_type = k;
      at = h;
      of = subst (λ (z : ValueType). value_type_of d ≡ Some z) same p;
      core = subst (λ (z : ValueType). is_castable z ≡ true) same core;
      alone = alone;
      whole = whole;
    }

-- the signature of a node that is no column
abbrev pub IsOther : Node → Type 0
IsOther (Column m) = ⊥
IsOther _ = Unit {0}

pub resolve-parts : (c : Catalog) (n : Node) (os : List Operand) (s : Signature) → IsOther n → resolve c n os ≡ Ok s → signature c.kernels n os ≡ Some s
resolve-parts c (Column m) os s h e = absurd h
resolve-parts c n os s h e = from_option InvalidOperation (signature c.kernels n os) s e

pub resolve-long : (c : Catalog) (n : Node) (os : List Operand) (s : Signature) → resolve c n os ≡ Ok s → SameLength s.inputs os
resolve-long c (Column m) os s e =
    let p = column-parts c m os s e in
    subst (λ (z : Signature). SameLength z.inputs os) (sym p.whole) (subst (λ (z : List Operand). SameLength {A = ValueType} [] z) (sym p.alone) tt)
resolve-long c n os s e = signature-long c.kernels n os s (from_option InvalidOperation (signature c.kernels n os) s e)

-- an inserted cast has its type
cast-found : (c : Catalog) (k : ValueType) (x : Tree) (v : Typed) → found c (cast_tree k x) ≡ Ok (Checked v) → v.value_type ≡ k
unfolding signature
cast-found c k x v e =
    let (inputs, f, g) = then_-parts (all_results (found c x ∷ [])) (at_node c (Cast (dtype_of k) NonStrict)) (Checked v) e in
    let (s, h, i) = then_-parts (resolve c (Cast (dtype_of k) NonStrict) (map operand_of inputs)) (λ s. Ok (made (Cast (dtype_of k) NonStrict) inputs s)) (Checked v) g in
    let p = unary-parts (cast_type (value_type_of (dtype_of k))) (map operand_of inputs) s
    (from_option InvalidOperation (unary (cast_type (value_type_of (dtype_of k))) (map operand_of inputs)) s h) in
    let j = subst (λ (o : Option ValueType). cast_type o p.value_type ≡ Some s.result) (value_type_of-dtype_of k) p.gives in
    let (test, same) = given-parts (is_type p.value_type k || (is_castable p.value_type && is_castable k)) k s.result j in
    let whole : made (Cast (dtype_of k) NonStrict) inputs s ≡ Checked v = cc in
    let types : s.result ≡ v.value_type = cc in
    sym (same ∙ types)

pub deferred-untyped : (n : Node) (f : Found) → deferred n ≡ Some f → (z : ℤ) × (f ≡ Untyped z)
deferred-untyped (Literal (lit.Int z)) f e = (z, cc)
deferred-untyped _ f e = cc

untyped-found : (c : Catalog) (n : Node) (us : Trees) (z : ℤ) → found c (tree n us) ≡ Ok (Untyped z) → deferred n ≡ Some (Untyped z)
untyped-found c n us z e =
    let (inputs, f, g) = then_-parts (all_results (fold_trees (find c) us)) (at_node c n) (Untyped z) e in
    go inputs (deferred n) refl g
  where
    go : (inputs : List Found) (d : Option Found) → deferred n ≡ d → with_default_type_or d (then_ (resolve c n (map operand_of inputs)) (λ s. Ok (made n inputs s))) ≡ Ok (Untyped z) → deferred n ≡ Some (Untyped z)
    go inputs (Some f) h i = h ∙ ap Some cc
    go inputs None h i =
        let (s, j, k) = then_-parts (resolve c n (map operand_of inputs)) (λ s. Ok (made n inputs s)) (Untyped z) i in
        cc

literal_of-with_default_type : (k : ValueType) (z : ℤ) → holds k z ≡ true → deferred (Literal (literal_of k z)) ≡ None
unfolding holds
literal_of-with_default_type value_type.Null z e = cc
literal_of-with_default_type value_type.Boolean z e = cc
literal_of-with_default_type value_type.String z e = cc
literal_of-with_default_type value_type.UInt8 z e = refl
literal_of-with_default_type value_type.UInt16 z e = refl
literal_of-with_default_type value_type.UInt32 z e = refl
literal_of-with_default_type value_type.UInt64 z e = refl
literal_of-with_default_type value_type.Int8 z e = refl
literal_of-with_default_type value_type.Int16 z e = refl
literal_of-with_default_type value_type.Int32 z e = refl
literal_of-with_default_type value_type.Int64 z e = refl

-- a tree that is found to be an integer literal is no tree that the check makes
untyped-apart : (c : Catalog) (m : Node) (us vs : Trees) (z : ℤ) → found c (tree m us) ≡ Ok (Untyped z) → (n : Node) → tree n vs ≡ tree m us → deferred n ≡ None → ⊥
untyped-apart c m us vs z e n same free =
    let nodes : n ≡ m = cc in
    let a : deferred m ≡ Some (Untyped z) = untyped-found c m us z e in
    let b : deferred m ≡ None = subst (λ (x : Node). deferred x ≡ None) nodes free in
    cc

-- an input that a signature keeps is checked already, and has the type
kept-input : (c : Catalog) (u : Tree) (k : ValueType) (f : Found) → found c u ≡ Ok f → coerced k f ≡ u → f ≡ Checked (typed u k)
kept-input c u k (Checked w) e h = go (is_type w.value_type k) refl h
  where
    go : (b : Bool) → is_type w.value_type k ≡ b → cond b w.tree (cast_tree k w.tree) ≡ u → Checked w ≡ Checked (typed u k)
    go true i j = ap (λ (x : ValueType). Checked (typed w.tree x)) (is_type-is w.value_type k i) ∙ ap (λ (x : Tree). Checked (typed x k)) j
    go false i j =
        let same : w.value_type ≡ k = cast-found c k w.tree w (subst (λ (x : Tree). found c x ≡ Ok (Checked w)) (sym j) e) in
        let is : is_type w.value_type k ≡ true = is_type-of w.value_type k same in
        cc
kept-input c (tree m us) k (Untyped z) e h = go (holds k z) refl h
  where
    go : (b : Bool) → holds k z ≡ b → cond b (literal (literal_of k z)) (cast_tree k (default_literal z (default_type z))) ≡ tree m us → Untyped z ≡ Checked (typed (tree m us) k)
    go true i j = absurd (untyped-apart c m us none z e (Literal (literal_of k z)) j (literal_of-with_default_type k z i))
    go false i j = absurd (untyped-apart c m us (more (default_literal z (default_type z)) none) z e (Cast (dtype_of k) NonStrict) j refl)

module _ (c : Catalog) where
  -- the inputs that a signature keeps are checked already, and have its types
  abbrev KeptInputs : Trees → Type 0
  KeptInputs us =
      (inputs : List Found) (ks : List ValueType) → all_results (fold_trees (find c) us) ≡ Ok inputs → trees (coerced_all ks inputs) ≡ us → SameLength ks inputs →
      HaveAll c us ks × (map operand_of inputs ≡ map OfType ks)

  node-Has : (n : Node) (us : Trees) (v : Typed) → KeptInputs us → found c (tree n us) ≡ Ok (Checked v) → v.tree ≡ tree n us → Has c (tree n us) v.value_type
  node-Has n us v kept e same =
      let (inputs, f, g) = then_-parts (all_results (fold_trees (find c) us)) (at_node c n) (Checked v) e in
      go inputs f (deferred n) refl g
    where
      over_kept :
          (inputs : List Found) (s : Signature) → deferred n ≡ None → resolve c n (map operand_of inputs) ≡ Ok s → s.result ≡ v.value_type →
          HaveAll c us s.inputs × (map operand_of inputs ≡ map OfType s.inputs) → Has c (tree n us) v.value_type
      over_kept inputs s free r result (all, os) =
          subst (λ (k : ValueType). Has c (tree n us) k) result (has free all (subst (λ (z : List Operand). resolve c n z ≡ Ok s) os r))

      long : (inputs : List Found) (ks : List ValueType) → SameLength ks (map operand_of inputs) → SameLength ks inputs
      long [] [] h = tt
      long (i ∷ is) (k ∷ ks) h = long is ks h
      long [] (k ∷ ks) h = absurd h
      long (i ∷ is) [] h = absurd h

      go :
          (inputs : List Found) → all_results (fold_trees (find c) us) ≡ Ok inputs → (d : Option Found) → deferred n ≡ d →
          with_default_type_or d (then_ (resolve c n (map operand_of inputs)) (λ s. Ok (made n inputs s))) ≡ Ok (Checked v) → Has c (tree n us) v.value_type
      go inputs f (Some x) h i = let (z, j) = deferred-untyped n x h in cc
      go inputs f None h i =
          let (s, j, k) = then_-parts (resolve c n (map operand_of inputs)) (λ s. Ok (made n inputs s)) (Checked v) i in
          let whole : made n inputs s ≡ Checked v = cc in
          let result : s.result ≡ v.value_type = cc in
          let inner : tree n (trees (coerced_all s.inputs inputs)) ≡ v.tree = cc in
          let whole' : tree n (trees (coerced_all s.inputs inputs)) ≡ tree n us = inner ∙ same in
          let stand : trees (coerced_all s.inputs inputs) ≡ us = cc in
          over_kept inputs s h j result (kept inputs s.inputs f stand (long inputs s.inputs (resolve-long c n (map operand_of inputs) s j)))

  mutual
    pub found-Has : (t : Tree) (v : Typed) → found c t ≡ Ok (Checked v) → v.tree ≡ t → Has c t v.value_type
    found-Has (tree n us) v e same = node-Has n us v (inputs-Have us) e same

    inputs-Have : (us : Trees) → KeptInputs us
    inputs-Have none [] [] e stand long = (have_none, refl)
    inputs-Have none [] (k ∷ ks) e stand long = absurd long
    inputs-Have none (i ∷ is) ks e stand long = cc
    inputs-Have (more u us) [] ks e stand long =
        let (f, g, h) = then_-parts (found c u) (λ a. then_ (all_results (fold_trees (find c) us)) (λ as'. Ok (a ∷ as'))) [] e in
        let (fs, i, j) = then_-parts (all_results (fold_trees (find c) us)) (λ as'. Ok (f ∷ as')) [] h in
        cc
    inputs-Have (more u us) (i ∷ is) [] e stand long = absurd long
    inputs-Have (more u us) (i ∷ is) (k ∷ ks) e stand long =
        let (f, g, h) = then_-parts (found c u) (λ a. then_ (all_results (fold_trees (find c) us)) (λ as'. Ok (a ∷ as'))) (i ∷ is) e in
        let (fs, p, q) = then_-parts (all_results (fold_trees (find c) us)) (λ as'. Ok (f ∷ as')) (i ∷ is) h in
        let first : f ≡ i = cc in
        let others : fs ≡ is = cc in
        let at : found c u ≡ Ok i = g ∙ ap Ok first in
        let rest : all_results (fold_trees (find c) us) ≡ Ok is = p ∙ ap Ok others in
        let top : coerced k i ≡ u = cc in
        let below : trees (coerced_all ks is) ≡ us = cc in
        let is_checked : i ≡ Checked (typed u k) = kept-input c u k i at top in
        let (all, os) = inputs-Have us is ks rest below long in (
          have_more (found-Has u (typed u k) (at ∙ ap Ok is_checked) refl) all,
          ap (λ (x : Found). operand_of x ∷ map operand_of is) is_checked ∙ ap (λ (xs : List Operand). OfType k ∷ xs) os,
        )

  pub HasType-Has : (t : Tree) (k : ValueType) → HasType c t k → Has c t k
  HasType-Has (tree n us) k h =
      let (f, g, i) = then_-parts (found c (tree n us)) with_default_type (typed (tree n us) k) h in
      go f g i
    where
      default : (z : ℤ) → found c (tree n us) ≡ Ok (Untyped z) → (o : Option ValueType) → default_type z ≡ o → or_fault InvalidOperation (option_map (λ d. typed (literal (literal_of d z)) d) o) ≡ Ok (typed (tree n us) k) → Has c (tree n us) k
      default z e None d i = cc
      default z e (Some d) q i =
          let same : typed (literal (literal_of d z)) d ≡ typed (tree n us) k = cc in
          absurd (untyped-apart c n us none z e (Literal (literal_of d z)) (ap (λ (x : Typed). x.tree) same) (literal_of-with_default_type d z (default-holds z d q)))

      go : (f : Found) → found c (tree n us) ≡ Ok f → with_default_type f ≡ Ok (typed (tree n us) k) → Has c (tree n us) k
      go (Checked v) e i =
          let same : v ≡ typed (tree n us) k = cc in
          subst (λ (x : ValueType). Has c (tree n us) x) (ap (λ (x : Typed). x.value_type) same) (found-Has (tree n us) v e (ap (λ (x : Typed). x.tree) same))
      go (Untyped z) e i = default z e (default_type z) refl i
