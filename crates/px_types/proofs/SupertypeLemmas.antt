-- The common type of a type with itself and with `Null`, and in either order.
use denote.Hole.Carrier.{out, roll}
use Rattle.std.proofs.Common.{◌≡◌, ◌∙◌, ◌⊎◌, inl, inr, ℕ, zero, suc, Bool, true, false, ◌||◌, Option, Some, None, is_none, option_map, if◌then◌else◌, refl, sym, ap, true≢false, arith}
use Rattle.std.specs.Option.{option_or}
use Rattle.px_base.specs.Exact.{same}
use Rattle.px_base.proofs.Exact.{same-decides}
use Rattle.px_types.specs.contracts.dtype.DataType.{the_row}
use Rattle.px_types.specs.declared.dtype.DataType.{DataType, DataType-F, out-DataType}
use Rattle.px_types.specs.declared.dtype.DataType.TheFolds.{fold-roll-DataType}
use Rattle.px_types.specs.declared.dtype.DataType.TheViews.{roll-DataType, roll-out-DataType}
use Rattle.px_types.specs.declared.dtype.DataType.TheVariants as dtype
use Rattle.px_types.specs.declared.dtype.Field.{Field}
use Rattle.px_types.specs.declared.type_parts.UnknownKind.{UnknownKind}
use Rattle.px_types.specs.declared.type_parts.UnknownKind.TheVariants as unknown
use Rattle.px_types.specs.declared.value_type.ValueType.{ValueType}
use Rattle.px_types.specs.declared.value_type.ValueType.TheVariants as value
use Rattle.px_types.specs.declared.class.Class.{Class}
use Rattle.px_types.specs.declared.class.Class.TheVariants as class
use Rattle.px_types.specs.Classes.{class_of, layer_class, unknown_class}
use Rattle.px_types.specs.ValueTypes.{default_type}
use Rattle.px_types.specs.Supertypes.{common_type, common_within, common_flat, common_unequal, common_lists, common_of, element_of, layer_element, line, list_of, list_depth, layer_depth}
use Rattle.px_types.proofs.CommonTypes.{common_dtype-swaps}

-- Lists.

-- a layer with an element is that of a list
layer_list : (l : DataType-F DataType Field) (x : DataType) → layer_element l ≡ Some x → l ≡ DataType-F.List x
layer_list (DataType-F.List y) x e = cc
layer_list _ x e = cc

-- a type with an element is the list of it
element-list : (a x : DataType) → element_of a ≡ Some x → a ≡ list_of x
unfolding roll-DataType roll
element-list a x e = sym (roll-out-DataType a) ∙ ap roll-DataType (layer_list (out-DataType a) x e)

list_depth-list_of : (x : DataType) → list_depth (list_of x) ≡ suc (list_depth x)
unfolding roll-DataType roll
list_depth-list_of x = fold-roll-DataType ℕ (Unit {0}) layer_depth (λ f. tt) (DataType-F.List x)

-- A type that is no list.

within-first : (n : ℕ) (a b : DataType) → element_of a ≡ None → common_within n a b ≡ common_flat a b
within-first zero a b e = refl
within-first (suc n) a b e = rw e refl

lists-second : (f : DataType → DataType → Option DataType) (o : Option DataType) (d : Option DataType) → common_lists f o None d ≡ d
lists-second f None d = refl
lists-second f (Some x) d = refl

within-second : (n : ℕ) (a b : DataType) → element_of b ≡ None → common_within n a b ≡ common_flat a b
within-second zero a b e = refl
within-second (suc n) a b e = rw e (lists-second (common_within n) (element_of a) (common_flat a b))

-- A type with itself.

common_flat-same : (a : DataType) → common_flat a a ≡ Some a
unfolding common_flat
common_flat-same a = rw ((same-decides the_row.coded a a).1 refl) refl

lists-same : (f : DataType → DataType → Option DataType) (a : DataType) (o : Option DataType) → element_of a ≡ o → ((x : DataType) → f x x ≡ Some x)
    → common_lists f o o (common_flat a a) ≡ Some a
lists-same f a None e each = common_flat-same a
lists-same f a (Some x) e each = ap (option_map list_of) (each x) ∙ ap Some (sym (element-list a x e))

within-same : (n : ℕ) (a : DataType) → common_within n a a ≡ Some a
within-same zero a = common_flat-same a
within-same (suc n) a = lists-same (common_within n) a (element_of a) refl (within-same n)

pub common_type-same : (a : DataType) → common_type a a ≡ Some a
unfolding common_type
common_type-same a = within-same (list_depth a) a

-- `Null` with a type.

class_of-null : class_of dtype.Null ≡ class.Value value.Null
unfolding out-DataType out
class_of-null = refl

element_of-null : element_of dtype.Null ≡ None
unfolding out-DataType out
element_of-null = refl

flat-null : (a : DataType) → common_flat dtype.Null a ≡ Some a
unfolding common_flat
flat-null a = by (same the_row.coded dtype.Null a) refl
  where
    by : (b : Bool) → same the_row.coded dtype.Null a ≡ b → (if b then Some dtype.Null else common_unequal dtype.Null a (class_of dtype.Null) (class_of a)) ≡ Some a
    by true e = ap Some ((same-decides the_row.coded dtype.Null a).0 e)
    by false e = rw class_of-null refl

pub common_type-null : (a : DataType) → common_type dtype.Null a ≡ Some a
unfolding common_type
common_type-null a = within-first (list_depth dtype.Null) dtype.Null a element_of-null ∙ flat-null a

-- Two types in either order.

-- there is at most one value, or they are the same
abbrev Agree : Option DataType → Option DataType → Type 0
Agree o p = ((is_none o || is_none p) ≡ true) ⊎ (o ≡ p)

option_or-swaps : (o p : Option DataType) → Agree o p → option_or o p ≡ option_or p o
option_or-swaps None None h = refl
option_or-swaps None (Some y) h = refl
option_or-swaps (Some x) None h = refl
option_or-swaps (Some x) (Some y) (inl e) = absurd (true≢false (sym e))
option_or-swaps (Some x) (Some y) (inr e) = e

common_of-swaps : (a b : Option ValueType) → common_of a b ≡ common_of b a
common_of-swaps (Some a) (Some b) = common_dtype-swaps a b
common_of-swaps (Some a) None = refl
common_of-swaps None (Some b) = refl
common_of-swaps None None = refl

none_second : (o : Option DataType) → (is_none o || true) ≡ true
none_second None = refl
none_second (Some x) = refl

lines-agree : (v w : Class) → Agree (line v w) (line w v)
unfolding line
lines-agree (class.Value v) w = inl refl
lines-agree v (class.Value w) = inl (none_second (line v (class.Value w)))
lines-agree (class.Integer v) (class.Integer w) = inr (common_of-swaps (default_type v) (default_type w))
lines-agree class.Anything class.Anything = inr refl
lines-agree _ _ = inl refl

unequal-swaps : (a b : DataType) (v w : Class) → (v ≡ class.Value value.Null → w ≡ class.Value value.Null → a ≡ b) → common_unequal a b v w ≡ common_unequal b a w v
unequal-swaps a b (class.Value value.Null) (class.Value value.Null) h = ap Some (sym (h refl refl))
unequal-swaps a b (class.Value value.Null) _ h = refl
unequal-swaps a b _ (class.Value value.Null) h = refl
unequal-swaps a b (class.Value v) (class.Value w) h = common_dtype-swaps v w
unequal-swaps a b v w h = option_or-swaps (line v w) (line w v) (lines-agree v w)

unknown-not_null : (k : UnknownKind) → unknown_class k ≡ class.Value value.Null → ⊥
unknown-not_null unknown.Any e = cc
unknown-not_null (unknown.Int z) e = cc
unknown-not_null unknown.Float e = cc
unknown-not_null unknown.Str e = cc

null_rolled : (l : DataType-F DataType Field) → layer_class l ≡ class.Value value.Null → l ≡ DataType-F.Null
null_rolled DataType-F.Null e = refl
null_rolled (DataType-F.Unknown k) e = absurd (unknown-not_null k e)
null_rolled _ e = cc

-- the types of this class are `Null` alone
class_of-one : (a b : DataType) → class_of a ≡ class.Value value.Null → class_of b ≡ class.Value value.Null → a ≡ b
class_of-one a b e f =
    let p = null_rolled (out-DataType a) e in
    let q = null_rolled (out-DataType b) f in
    sym (roll-out-DataType a) ∙ ap roll-DataType (p ∙ sym q) ∙ roll-out-DataType b

flat-swaps : (a b : DataType) → common_flat a b ≡ common_flat b a
unfolding common_flat
flat-swaps a b = by (same the_row.coded a b) (same the_row.coded b a) refl refl
  where
    by : (t u : Bool) → same the_row.coded a b ≡ t → same the_row.coded b a ≡ u
        → (if t then Some a else common_unequal a b (class_of a) (class_of b)) ≡ (if u then Some b else common_unequal b a (class_of b) (class_of a))
    by true true e f = ap Some ((same-decides the_row.coded a b).0 e)
    by true false e f = absurd (true≢false (sym ((same-decides the_row.coded b a).1 (sym ((same-decides the_row.coded a b).0 e))) ∙ f))
    by false true e f = absurd (true≢false (sym ((same-decides the_row.coded a b).1 (sym ((same-decides the_row.coded b a).0 f))) ∙ e))
    by false false e f = unequal-swaps a b (class_of a) (class_of b) (class_of-one a b)

lists-swap : (f g : DataType → DataType → Option DataType) (a b : DataType) (o p : Option DataType) → element_of a ≡ o → element_of b ≡ p
    → ((x y : DataType) → o ≡ Some x → p ≡ Some y → f x y ≡ g y x) → common_lists f o p (common_flat a b) ≡ common_lists g p o (common_flat b a)
lists-swap f g a b (Some x) (Some y) d e h = ap (option_map list_of) (h x y refl refl)
lists-swap f g a b (Some x) None d e h = flat-swaps a b
lists-swap f g a b None (Some y) d e h = flat-swaps a b
lists-swap f g a b None None d e h = flat-swaps a b

depth-element : (a x : DataType) (n : ℕ) → element_of a ≡ Some x → list_depth a ≡ suc n → list_depth x ≡ n
depth-element a x n e d =
    let deeper : suc (list_depth x) ≡ suc n = sym (list_depth-list_of x) ∙ ap list_depth (sym (element-list a x e)) ∙ d in omega arith

no_element : (a : DataType) (o : Option DataType) → element_of a ≡ o → list_depth a ≡ zero → o ≡ None
no_element a None e d = refl
no_element a (Some x) e d =
    let deeper : zero ≡ suc (list_depth x) = sym d ∙ ap list_depth (element-list a x e) ∙ list_depth-list_of x in absurd (omega arith)

within-swaps : (n m : ℕ) (a b : DataType) → list_depth a ≡ n → list_depth b ≡ m → common_within n a b ≡ common_within m b a
within-swaps zero m a b d e = flat-swaps a b ∙ sym (within-second m b a (no_element a (element_of a) refl d))
within-swaps (suc n) zero a b d e = within-second (suc n) a b (no_element b (element_of b) refl e) ∙ flat-swaps a b
within-swaps (suc n) (suc m) a b d e =
    lists-swap (common_within n) (common_within m) a b (element_of a) (element_of b) refl refl
    (λ x y p q. within-swaps n m x y (depth-element a x n p d) (depth-element b y m q e))

pub common_type-swaps : (a b : DataType) → common_type a b ≡ common_type b a
unfolding common_type
common_type-swaps a b = within-swaps (list_depth a) (list_depth b) a b refl refl
