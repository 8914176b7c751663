-- The shapes of signatures: what each says of the inputs it takes.
use Rattle.std.proofs.Common.{◌≡◌, ℕ, ◌==◌, List, [], ◌∷◌, map, length, Option, Some, None, Bool, true, false, cond, refl, sym, ap, subst}
use Rattle.std.specs.Prelude.{option_map, option_and_then}
use Rattle.px_types.specs.declared.value_type.ValueType.{ValueType}
use Rattle.px_types.specs.declared.value_type.ValueType.TheVariants as value_type
use Rattle.px_meaning.specs.Signatures.{Operand, Signature, own_type, of_input, unary, of_united, uniting, united, leaf, masked, is_mask, ternary_signature, any_type}

-- both lists are equally long
abbrev pub SameLength : {A B : Type 0} → List A → List B → Type 0
SameLength [] [] = Unit {0}
SameLength (a ∷ as') (b ∷ bs) = SameLength as' bs
SameLength [] (b ∷ bs) = ⊥
SameLength (a ∷ as') [] = ⊥

pub SameLength-map : {A B : Type 0} (f : A → B) (as' : List A) → SameLength (map f as') as'
SameLength-map f [] = tt
SameLength-map f (a ∷ as') = SameLength-map f as'

pub and_then-parts : {A B : Type 0} (o : Option A) (f : A → Option B) (b : B) → option_and_then f o ≡ Some b → (a : A) × (o ≡ Some a) × (f a ≡ Some b)
and_then-parts (Some a) f b e = (a, refl, e)
and_then-parts None f b e = cc

pub map-parts : {A B : Type 0} (o : Option A) (f : A → B) (b : B) → option_map f o ≡ Some b → (a : A) × (o ≡ Some a) × (f a ≡ b)
map-parts (Some a) f b e = (a, refl, cc)
map-parts None f b e = cc

-- a leaf has no inputs and the type
pub leaf-parts : (k : ValueType) (os : List Operand) (s : Signature) → leaf k os ≡ Some s → (os ≡ []) × (s ≡ record { inputs = []; result = k })
leaf-parts k [] s e = (refl, cc)
leaf-parts k (o ∷ os) s e = cc

pub record IsUnary (result : ValueType → Option ValueType) (os : List Operand) (s : Signature) : Type 0 where
  pub operand : Operand
  pub value_type : ValueType
  pub one : os ≡ operand ∷ []
  pub own : own_type operand ≡ Some value_type
  pub gives : result value_type ≡ Some s.result
  pub takes : s.inputs ≡ value_type ∷ []

pub unary-parts : (result : ValueType → Option ValueType) (os : List Operand) (s : Signature) → unary result os ≡ Some s → IsUnary result os s
unary-parts result [] s e = cc
unary-parts result (o ∷ []) s e =
    let (k, f, g) = and_then-parts (own_type o) (of_input result) s e in
    let (r, h, i) = map-parts (result k) (λ r. record { inputs = k ∷ []; result = r }) s g in
    record {
      operand = o;
      value_type = k;
      one = refl;
      own = f;
      gives = subst (λ (x : Signature). result k ≡ Some x.result) i h;
      takes = sym (ap (λ (x : Signature). x.inputs) i);
    }
unary-parts result (o ∷ (p ∷ os)) s e = cc

pub record IsUniting (count : ℕ) (result : ValueType → Option ValueType) (os : List Operand) (s : Signature) : Type 0 where
  pub value_type : ValueType
  pub many : (length os == count) ≡ true
  pub unites : united os ≡ Some value_type
  pub gives : result value_type ≡ Some s.result
  pub takes : s.inputs ≡ map (λ _. value_type) os

pub uniting-parts : (count : ℕ) (result : ValueType → Option ValueType) (os : List Operand) (s : Signature) → uniting count result os ≡ Some s → IsUniting count result os s
uniting-parts count result os s e = go (length os == count) refl e
  where
    go : (b : Bool) → (length os == count) ≡ b → cond b (option_and_then (of_united result os) (united os)) None ≡ Some s → IsUniting count result os s
    go true many f =
        let (k, g, h) = and_then-parts (united os) (of_united result os) s f in
        let (r, i, j) = map-parts (result k) (λ r. record { inputs = map (λ _. k) os; result = r }) s h in
        record {
          value_type = k;
          many = many;
          unites = g;
          gives = subst (λ (x : Signature). result k ≡ Some x.result) j i;
          takes = sym (ap (λ (x : Signature). x.inputs) j);
        }
    go false many f = cc

pub record IsTernary (os : List Operand) (s : Signature) : Type 0 where
  pub mask : Operand
  pub branches : List Operand
  pub inner : Signature
  pub are : os ≡ mask ∷ branches
  pub masks : is_mask (own_type mask) ≡ true
  pub unites : uniting 2 any_type branches ≡ Some inner
  pub whole : s ≡ masked inner

pub ternary-parts : (os : List Operand) (s : Signature) → ternary_signature os ≡ Some s → IsTernary os s
ternary-parts [] s e = cc
ternary-parts (p ∷ os) s e = go (is_mask (own_type p)) refl e
  where
    go : (b : Bool) → is_mask (own_type p) ≡ b → cond b (option_map masked (uniting 2 any_type os)) None ≡ Some s → IsTernary (p ∷ os) s
    go true h f =
        let (i, g, j) = map-parts (uniting 2 any_type os) masked s f in
        record { mask = p; branches = os; inner = i; are = refl; masks = h; unites = g; whole = sym j }
    go false h f = cc

pub unary-long : (result : ValueType → Option ValueType) (os : List Operand) (s : Signature) → unary result os ≡ Some s → SameLength s.inputs os
unary-long result os s e =
    let p = unary-parts result os s e in
    subst (λ (z : List Operand). SameLength s.inputs z) (sym p.one) (subst (λ (z : List ValueType). SameLength z (p.operand ∷ [])) (sym p.takes) tt)

pub uniting-long : (count : ℕ) (result : ValueType → Option ValueType) (os : List Operand) (s : Signature) → uniting count result os ≡ Some s → SameLength s.inputs os
uniting-long count result os s e =
    let p = uniting-parts count result os s e in
    subst (λ (z : List ValueType). SameLength z os) (sym p.takes) (SameLength-map (λ _. p.value_type) os)

pub ternary-long : (os : List Operand) (s : Signature) → ternary_signature os ≡ Some s → SameLength s.inputs os
ternary-long os s e =
    let p = ternary-parts os s e in
    subst (λ (z : Signature). SameLength z.inputs os) (sym p.whole)
    (subst (λ (z : List Operand). SameLength (value_type.Boolean ∷ p.inner.inputs) z) (sym p.are) (uniting-long 2 any_type p.branches p.inner p.unites))

pub leaf-long : (k : ValueType) (os : List Operand) (s : Signature) → leaf k os ≡ Some s → SameLength s.inputs os
leaf-long k os s e =
    let (f, g) = leaf-parts k os s e in
    subst (λ (z : Signature). SameLength z.inputs os) (sym g) (subst (λ (z : List Operand). SameLength {A = ValueType} [] z) (sym f) tt)
