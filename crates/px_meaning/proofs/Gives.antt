-- What the check gives is checked.
use Rattle.std.proofs.Common.{◌≡◌, ◌⊎◌, inl, inr, ◌&&◌, ◌||◌, ◌==◌, ℕ, ℤ, List, [], ◌∷◌, map, length, Option, Some, None, Ok, Bool, true, false, cond, not, refl, sym, ◌∙◌, ap, subst, arith}
use Rattle.std.specs.Prelude.{option_map, option_and_then, max, ◌*◌}
use Rattle.std.proofs.lemmas.Int.{ints}
use Rattle.px_base.specs.declared.error.PlanError.TheVariants.{InvalidOperation}
use Rattle.px_semantics.proofs.CastLemmas.{holds_decides}
use Rattle.px_types.proofs.CommonTypes.{value_type_of-dtype_of, common-null, common-same}
use Rattle.std.proofs.lemmas.List.{length-map}
use Rattle.px_types.specs.Classes.{is_boolean_or_integer, is_integer_value, is_unsigned_value}
use Rattle.px_types.specs.Integers.{InRange}
use Rattle.px_semantics.specs.Rows.{IntegerValue}
use Rattle.px_types.specs.ValueTypes.{holds, default_type, common, common_dtype, common_family, family_of, type_of_family, value_type_of, dtype_of, Family, Nulls, Booleans, Strings, Unsigned, Signed}
use Rattle.px_types.specs.declared.dtype.DataType.{out-DataType}
use Rattle.px_types.specs.declared.dtype.DataType.TheVariants as dtype
use Rattle.px_types.specs.declared.type_parts.CastOptions.TheVariants.{NonStrict}
use Rattle.px_functions.specs.declared.evaluated.EvaluatedBoolean.TheVariants.{IsNull, IsNotNull, Not}
use Rattle.px_functions.specs.declared.evaluated.EvaluatedFunction.{EvaluatedFunction}
use Rattle.px_functions.specs.declared.evaluated.EvaluatedFunction.TheVariants as function
use Rattle.px_types.specs.declared.value_type.ValueType.{ValueType}
use Rattle.px_types.specs.declared.value_type.ValueType.TheVariants as value_type
use Rattle.px_expr.specs.declared.literal.LiteralValue.{LiteralValue}
use Rattle.px_expr.specs.declared.literal.LiteralValue.TheVariants as lit
use Rattle.px_expr.specs.Tree.{Node, Alias, Column, Literal, Binary, Cast, Ternary, Function, Tree, tree, Trees, none, more, trees, fold_trees}
use Rattle.px_semantics.specs.Columns.{is_column}
use Rattle.px_semantics.specs.Rows.{is_boolean}
use Rattle.px_meaning.specs.Check.{Typed, Found, Checked, Untyped, then_, all_results, or_fault, operand_of, literal, cast_tree, default_literal, coerced, coerced_all, resolve, made, deferred, with_default_type_or, find, found, with_default_type, check, HasType}
use Rattle.px_meaning.specs.Literals.{literal_of, literal_rows}
use Rattle.px_expr.specs.Plan.{Catalog}
use Rattle.px_meaning.specs.Signatures.{Operand, OfType, UntypedInteger, Signature, signature, leaf, own_type, unary, uniting, united, of_united, any_type, cast_type, boolean_result, number_type, signed_type, integer_type, group_type, group_of, Group, Arithmetic, Comparison, Bitwise, Logical, Fractional, function_signature, ternary_signature, literal_type, masked, is_mask, is_type, is_castable, given, common_of, common_all, own_types, wanted_types, widened}
use Rattle.px_meaning.proofs.Answers.{from_option, then_-parts, given-parts}
use Rattle.px_meaning.proofs.FoldLines.{has-scalar, folded-scalar}
use Rattle.px_meaning.proofs.Shapes.{and_then-parts, map-parts, unary-parts, uniting-parts, ternary-parts, leaf-parts}
use Rattle.px_meaning.proofs.Types.{Takes}
use Rattle.px_meaning.proofs.Typing.{Has, HaveAll, has, have_none, have_more, at_node, typed, is_type-is, is_type-of, deferred-untyped, default-holds, column-parts, Has-HasType}

-- the type is one of the core language
abbrev IsCore : ValueType → Type 0
IsCore k = is_castable k ≡ true

-- an integer that some type holds has a default type
holds-default : (k : ValueType) (z : ℤ) → holds k z ≡ true → (d : ValueType) × (default_type z ≡ Some d)
unfolding default_type
holds-default k z e = go (holds value_type.Int32 z) (holds value_type.Int64 z) (holds value_type.UInt64 z) refl refl refl
  where
    within : (k : ValueType) → InRange k z → (InRange value_type.Int64 z) ⊎ (InRange value_type.UInt64 z)
    within value_type.Null h = absurd h
    within value_type.Boolean h = absurd h
    within value_type.String h = absurd h
    within value_type.UInt8 h = inr (omega (arith, ints), omega (arith, ints))
    within value_type.UInt16 h = inr (omega (arith, ints), omega (arith, ints))
    within value_type.UInt32 h = inr (omega (arith, ints), omega (arith, ints))
    within value_type.UInt64 h = inr h
    within value_type.Int8 h = inl (grind (arith, ints, h))
    within value_type.Int16 h = inl (grind (arith, ints, h))
    within value_type.Int32 h = inl (grind (arith, ints, h))
    within value_type.Int64 h = inl h

    neither : holds value_type.Int64 z ≡ false → holds value_type.UInt64 z ≡ false → (InRange value_type.Int64 z) ⊎ (InRange value_type.UInt64 z) → ⊥
    neither a b (inl h) = let c : holds value_type.Int64 z ≡ true = (holds_decides value_type.Int64 z).1 h in cc
    neither a b (inr h) = let c : holds value_type.UInt64 z ≡ true = (holds_decides value_type.UInt64 z).1 h in cc

    go : (a b u : Bool) → holds value_type.Int32 z ≡ a → holds value_type.Int64 z ≡ b → holds value_type.UInt64 z ≡ u → (d : ValueType) × (cond a (Some value_type.Int32) (cond b (Some value_type.Int64) (cond u (Some value_type.UInt64) None)) ≡ Some d)
    go true b u p q r = (value_type.Int32, refl)
    go false true u p q r = (value_type.Int64, refl)
    go false false true p q r = (value_type.UInt64, refl)
    go false false false p q r = absurd (neither q r (within k ((holds_decides k z).0 e)))

-- a default type is an integer type
default-core : (z : ℤ) (d : ValueType) → default_type z ≡ Some d → IsCore d
unfolding holds
default-core z d e = go d (default-holds z d e)
  where
    go : (d : ValueType) → holds d z ≡ true → is_castable d ≡ true
    go value_type.String h = cc
    go _ h = refl

-- the common type of core types is one
abbrev family-core : Family → Type 0
family-core Strings = ⊥
family-core _ = Unit {0}

of_family-core : (k : ValueType) → IsCore k → family-core (family_of k)
of_family-core value_type.String e = cc
of_family-core _ e = tt

common-family-core : (a b f : Family) → family-core a → family-core b → common_family a b ≡ Some f → family-core f
common-family-core Nulls b f p q e = let same : b ≡ f = cc in subst family-core same q
common-family-core Booleans Nulls f p q e = let same : Booleans ≡ f = cc in subst family-core same tt
common-family-core Booleans Booleans f p q e = let same : Booleans ≡ f = cc in subst family-core same tt
common-family-core Booleans (Unsigned n) f p q e = let same : Unsigned n ≡ f = cc in subst family-core same tt
common-family-core Booleans (Signed n) f p q e = let same : Signed n ≡ f = cc in subst family-core same tt
common-family-core Booleans Strings f p q e = absurd q
common-family-core Strings b f p q e = absurd p
common-family-core a Strings f p q e = absurd q
common-family-core (Unsigned m) Nulls f p q e = let same : Unsigned m ≡ f = cc in subst family-core same tt
common-family-core (Unsigned m) Booleans f p q e = let same : Unsigned m ≡ f = cc in subst family-core same tt
common-family-core (Signed m) Nulls f p q e = let same : Signed m ≡ f = cc in subst family-core same tt
common-family-core (Signed m) Booleans f p q e = let same : Signed m ≡ f = cc in subst family-core same tt
common-family-core (Unsigned m) (Unsigned n) f p q e = let same : Unsigned (max m n) ≡ f = cc in subst family-core same tt
common-family-core (Unsigned m) (Signed n) f p q e = let same : Signed (max (2 * m) n) ≡ f = cc in subst family-core same tt
common-family-core (Signed m) (Unsigned n) f p q e = let same : Signed (max m (2 * n)) ≡ f = cc in subst family-core same tt
common-family-core (Signed m) (Signed n) f p q e = let same : Signed (max m n) ≡ f = cc in subst family-core same tt

named-core : (j k : ValueType) → IsCore j → value_type_of (dtype_of j) ≡ Some k → IsCore k
named-core j k c e = let f : Some j ≡ Some k = sym (value_type_of-dtype_of j) ∙ e in let same : j ≡ k = cc in subst IsCore same c

unsigned-core : (p q r : Bool) (k : ValueType) → value_type_of (cond p dtype.UInt8 (cond q dtype.UInt16 (cond r dtype.UInt32 dtype.UInt64))) ≡ Some k → IsCore k
unsigned-core true q r k e = named-core value_type.UInt8 k refl e
unsigned-core false true r k e = named-core value_type.UInt16 k refl e
unsigned-core false false true k e = named-core value_type.UInt32 k refl e
unsigned-core false false false k e = named-core value_type.UInt64 k refl e

signed-core : (p q r s : Bool) (k : ValueType) → value_type_of (cond p dtype.Int8 (cond q dtype.Int16 (cond r dtype.Int32 (cond s dtype.Int64 dtype.Float64)))) ≡ Some k → IsCore k
unfolding out-DataType denote.Hole.Carrier.out
signed-core true q r s k e = named-core value_type.Int8 k refl e
signed-core false true r s k e = named-core value_type.Int16 k refl e
signed-core false false true s k e = named-core value_type.Int32 k refl e
signed-core false false false true k e = named-core value_type.Int64 k refl e
signed-core false false false false k e = cc

typed-core : (f : Family) (k : ValueType) → family-core f → value_type_of (type_of_family f) ≡ Some k → IsCore k
typed-core Nulls k c e = named-core value_type.Null k refl e
typed-core Booleans k c e = named-core value_type.Boolean k refl e
typed-core Strings k c e = absurd c
typed-core (Unsigned n) k c e = unsigned-core (n == 8) (n == 16) (n == 32) k e
typed-core (Signed n) k c e = signed-core (n == 8) (n == 16) (n == 32) (n == 64) k e

common-core : (a b k : ValueType) → IsCore a → IsCore b → common a b ≡ Some k → IsCore k
unfolding common common_dtype
common-core a b k p q e =
    let (d, f, g) = and_then-parts (common_dtype a b) value_type_of k e in
    let (m, h, i) = map-parts (common_family (family_of a) (family_of b)) type_of_family d f in
    typed-core m k (common-family-core (family_of a) (family_of b) m (of_family-core a p) (of_family-core b q) h) (ap value_type_of i ∙ g)

-- a type that may be missing is core
abbrev IsCoreOr : Option ValueType → Type 0
IsCoreOr (Some k) = IsCore k
IsCoreOr None = Unit {0}

abbrev AreCoreOr : List (Option ValueType) → Type 0
AreCoreOr [] = Unit {0}
AreCoreOr (o ∷ os) = IsCoreOr o × AreCoreOr os

common_of-core : (a b : Option ValueType) → IsCoreOr a → IsCoreOr b → IsCoreOr (common_of a b)
common_of-core (Some a) (Some b) p q = go (common a b) refl
  where
    go : (o : Option ValueType) → common a b ≡ o → IsCoreOr o
    go (Some k) e = common-core a b k p q e
    go None e = tt
common_of-core (Some a) None p q = tt
common_of-core None b p q = tt

common_all-core : (a : Option ValueType) (bs : List (Option ValueType)) → IsCoreOr a → AreCoreOr bs → IsCoreOr (common_all a bs)
common_all-core a [] p q = p
common_all-core a (b ∷ bs) p q = common_all-core (common_of a b) bs (common_of-core a b p q.0) q.1

-- an operand of the core language
abbrev IsCoreOperand : Operand → Type 0
IsCoreOperand (OfType k) = IsCore k
IsCoreOperand (UntypedInteger z) = Unit {0}

abbrev AreCoreOperands : List Operand → Type 0
AreCoreOperands [] = Unit {0}
AreCoreOperands (o ∷ os) = IsCoreOperand o × AreCoreOperands os

known-core : (os : List Operand) → AreCoreOperands os → AreCoreOr (own_types os)
known-core [] h = tt
known-core (OfType k ∷ os) h = (h.0, known-core os h.1)
known-core (UntypedInteger z ∷ os) h = known-core os h.1

wanted-core : (base : ValueType) (os : List Operand) → AreCoreOr (wanted_types base os)
wanted-core base [] = tt
wanted-core base (OfType k ∷ os) = wanted-core base os
wanted-core base (UntypedInteger z ∷ os) = go (holds base z) (wanted-core base os)
  where
    default : (o : Option ValueType) → default_type z ≡ o → IsCoreOr o
    default (Some d) e = default-core z d e
    default None e = tt

    go : (b : Bool) → AreCoreOr (wanted_types base os) → AreCoreOr (cond b (wanted_types base os) (default_type z ∷ wanted_types base os))
    go true h = h
    go false h = (default (default_type z) refl, h)

-- nothing in common stays so
common_all-none : (bs : List (Option ValueType)) → common_all None bs ≡ None
common_all-none [] = refl
common_all-none (b ∷ bs) = common_all-none bs

none-known : (a : Option ValueType) (bs : List (Option ValueType)) (k : ValueType) → common_all (common_of a None) bs ≡ Some k → ⊥
none-known (Some a) bs k e = let f : None ≡ Some k = sym (common_all-none bs) ∙ e in cc
none-known None bs k e = let f : None ≡ Some k = sym (common_all-none bs) ∙ e in cc

-- each integer literal has a default type
abbrev HaveDefaults : List Operand → Type 0
HaveDefaults [] = Unit {0}
HaveDefaults (OfType k ∷ os) = HaveDefaults os
HaveDefaults (UntypedInteger z ∷ os) = ((d : ValueType) × (default_type z ≡ Some d)) × HaveDefaults os

wanted-defaults : (base : ValueType) (a : Option ValueType) (os : List Operand) (k : ValueType) → common_all a (wanted_types base os) ≡ Some k → HaveDefaults os
wanted-defaults base a [] k e = tt
wanted-defaults base a (OfType j ∷ os) k e = wanted-defaults base a os k e
wanted-defaults base a (UntypedInteger z ∷ os) k e = go (holds base z) refl (λ b f. wanted-defaults base b os k f) e
  where
    default : (o : Option ValueType) → default_type z ≡ o → common_all (common_of a o) (wanted_types base os) ≡ Some k → (d : ValueType) × (default_type z ≡ Some d)
    default (Some d) f g = (d, f)
    default None f g = absurd (none-known a (wanted_types base os) k g)

    go :
        (b : Bool) → holds base z ≡ b → ((a : Option ValueType) → common_all a (wanted_types base os) ≡ Some k → HaveDefaults os) →
        common_all a (cond b (wanted_types base os) (default_type z ∷ wanted_types base os)) ≡ Some k → ((d : ValueType) × (default_type z ≡ Some d)) × HaveDefaults os
    go true f rest g = (holds-default base z f, rest a g)
    go false f rest g = (default (default_type z) refl g, rest (common_of a (default_type z)) g)

-- the type to which core operands unite is core, and each integer literal among them has a default type
united-core : (os : List Operand) (k : ValueType) → AreCoreOperands os → united os ≡ Some k → IsCore k × HaveDefaults os
unfolding united
united-core os k h e = go (common_all (Some value_type.Null) (own_types os)) (common_all-core (Some value_type.Null) (own_types os) refl (known-core os h)) e
  where
    core : (o : Option ValueType) → IsCoreOr o → o ≡ Some k → IsCore k
    core (Some j) p f = let same : j ≡ k = cc in subst IsCore same p
    core None p f = cc

    go : (o : Option ValueType) → IsCoreOr o → widened os o ≡ Some k → IsCore k × HaveDefaults os
    go (Some base) p f = (core (common_all (Some base) (wanted_types base os)) (common_all-core (Some base) (wanted_types base os) p (wanted-core base os)) f, wanted-defaults base (Some base) os k f)
    go None p f = cc

-- an operand can be made this type
abbrev IsCoercible : Operand → ValueType → Type 0
IsCoercible (OfType j) k = (j ≡ k) ⊎ (IsCore j × IsCore k)
IsCoercible (UntypedInteger z) k = ((d : ValueType) × (default_type z ≡ Some d)) × IsCore k

abbrev AreCoercible : List Operand → List ValueType → Type 0
AreCoercible [] [] = Unit {0}
AreCoercible (o ∷ os) (k ∷ ks) = IsCoercible o k × AreCoercible os ks
AreCoercible [] (k ∷ ks) = ⊥
AreCoercible (o ∷ os) [] = ⊥

united-coercible : (k : ValueType) → IsCore k → (os : List Operand) → AreCoreOperands os → HaveDefaults os → AreCoercible os (map (λ _. k) os)
united-coercible k c [] h d = tt
united-coercible k c (OfType j ∷ os) h d = (inr (h.0, c), united-coercible k c os h.1 d)
united-coercible k c (UntypedInteger z ∷ os) h d = ((d.0, c), united-coercible k c os h.1 d.1)

own-coercible : (o : Operand) (k : ValueType) → IsCoreOperand o → own_type o ≡ Some k → IsCoercible o k × IsCore k
own-coercible (OfType j) k h e = let same : j ≡ k = cc in (inl same, subst IsCore same h)
own-coercible (UntypedInteger z) k h e = (((k, e), default-core z k e), default-core z k e)

abbrev signed : List ValueType → ValueType → Signature
signed ks k = record { inputs = ks; result = k }

whole : (s : Signature) (ks : List ValueType) → s.inputs ≡ ks → signed ks s.result ≡ s
whole s ks e = ap (λ (z : List ValueType). signed z s.result) (sym e)

-- what a signature makes of core operands: they can be made what it wants, it takes that as it is, and its type is core
record Settles (rule : List Operand → Option Signature) (os : List Operand) (s : Signature) : Type 0 where
  coercible : AreCoercible os s.inputs
  again : rule (map OfType s.inputs) ≡ Some s
  core : IsCore s.result

leaf-settles : (k : ValueType) (os : List Operand) (s : Signature) → IsCore k → leaf k os ≡ Some s → Settles (leaf k) os s
leaf-settles k os s c e =
    let (f, g) = leaf-parts k os s e in
    subst (λ (z : Signature). Settles (leaf k) os z) (sym g)
    (subst (λ (z : List Operand). Settles (leaf k) z (signed [] k)) (sym f) (record { coercible = tt; again = refl; core = c }))

module _ (result : ValueType → Option ValueType) (core : (j k : ValueType) → IsCore j → result j ≡ Some k → IsCore k) where
  unary-settles : (os : List Operand) (s : Signature) → AreCoreOperands os → unary result os ≡ Some s → Settles (unary result) os s
  unary-settles os s h e =
      let p = unary-parts result os s e in
      let (coerce, c) = own-coercible p.operand p.value_type (subst AreCoreOperands p.one h).0 p.own in
      let again : unary result (OfType p.value_type ∷ []) ≡ Some (signed (p.value_type ∷ []) s.result) = ap (option_map (λ r. signed (p.value_type ∷ []) r)) p.gives in
      let made : Settles (unary result) (p.operand ∷ []) (signed (p.value_type ∷ []) s.result) = record { coercible = (coerce, tt); again = again; core = core p.value_type s.result c p.gives } in
      subst (λ (z : Signature). Settles (unary result) os z) (whole s (p.value_type ∷ []) p.takes)
      (subst (λ (z : List Operand). Settles (unary result) z (signed (p.value_type ∷ []) s.result)) (sym p.one) made)

  same-known : (k : ValueType) (os : List Operand) → common_all (Some k) (own_types (map OfType (map (λ _. k) os))) ≡ Some k
  same-known k [] = refl
  same-known k (o ∷ os) = ap (λ (a : Option ValueType). common_all a (own_types (map OfType (map (λ _. k) os)))) (common-same k) ∙ same-known k os

  none-wanted : (base : ValueType) (ks : List ValueType) → wanted_types base (map OfType ks) ≡ []
  none-wanted base [] = refl
  none-wanted base (k ∷ ks) = none-wanted base ks

  united-many : (k : ValueType) (o : Operand) (os : List Operand) → united (map OfType (map (λ _. k) (o ∷ os))) ≡ Some k
  unfolding united
  united-many k o os =
      let all : List Operand = map OfType (map (λ _. k) (o ∷ os)) in
      ap (λ (a : Option ValueType). widened all (common_all a (own_types (map OfType (map (λ _. k) os))))) (common-null k)
      ∙ (ap (widened all) (same-known k os) ∙ ap (common_all (Some k)) (none-wanted k (map (λ _. k) (o ∷ os))))

  same-many : (k : ValueType) (os : List Operand) → map (λ _. k) (map OfType (map (λ _. k) os)) ≡ map (λ _. k) os
  same-many k [] = refl
  same-many k (o ∷ os) = ap (λ (z : List ValueType). k ∷ z) (same-many k os)

  uniting-settles : (count : ℕ) → (0 == count) ≡ false → (os : List Operand) (s : Signature) → AreCoreOperands os → uniting count result os ≡ Some s → Settles (uniting count result) os s
  uniting-settles count some os s h e =
      let p = uniting-parts count result os s e in
      let (c, defaults) = united-core os p.value_type h p.unites in
      let ks : List ValueType = map (λ _. p.value_type) os in
      let many : (length (map OfType ks) == count) ≡ true = ap (λ (n : ℕ). n == count) (length-map ks OfType ∙ length-map os (λ _. p.value_type)) ∙ p.many in
      let unites : united (map OfType ks) ≡ Some p.value_type = nonempty os p.many in
      let again : uniting count result (map OfType ks) ≡ Some (signed ks s.result) =
      ap (λ (b : Bool). cond b (option_and_then (of_united result (map OfType ks)) (united (map OfType ks))) None) many
      ∙ (ap (option_and_then (of_united result (map OfType ks))) unites
      ∙ (ap (option_map (λ r. signed (map (λ _. p.value_type) (map OfType ks)) r)) p.gives ∙ ap (λ (z : List ValueType). Some (signed z s.result)) (same-many p.value_type os))) in
      let made : Settles (uniting count result) os (signed ks s.result) = record { coercible = united-coercible p.value_type c os h defaults; again = again; core = core p.value_type s.result c p.gives } in
      subst (λ (z : Signature). Settles (uniting count result) os z) (whole s ks p.takes) made
    where
      nonempty : {k : ValueType} (os : List Operand) → (length os == count) ≡ true → united (map OfType (map (λ _. k) os)) ≡ Some k
      nonempty [] m = let no : true ≡ false = sym m ∙ some in cc
      nonempty {k} (o ∷ os) m = united-many k o os

any-core : (j k : ValueType) → IsCore j → any_type j ≡ Some k → IsCore k
any-core j k c e = let same : j ≡ k = cc in subst IsCore same c

given-core : (b : Bool) (j k : ValueType) → IsCore j → given b j ≡ Some k → IsCore k
given-core b j k c e = subst IsCore (given-parts b j k e).1 c

truth-core : (j k : ValueType) → IsCore j → boolean_result j ≡ Some k → IsCore k
truth-core j k c e = let same : value_type.Boolean ≡ k = cc in subst IsCore same refl

group-core : (g : Group) (j k : ValueType) → IsCore j → group_type g j ≡ Some k → IsCore k
group-core Arithmetic j k c e = given-core (is_integer_value j) j k c e
group-core Comparison j k c e = truth-core j k c e
group-core Bitwise j k c e = given-core (is_boolean_or_integer j) j k c e
group-core Logical j k c e = given-core (is_boolean j) j k c e
group-core Fractional j k c e = cc

cast-core : (o : Option ValueType) (j k : ValueType) → IsCore j → cast_type o j ≡ Some k → IsCore k
cast-core (Some to) j k c e =
    let (test, same) = given-parts (is_type j to || (is_castable j && is_castable to)) to k e in
    subst IsCore same (go (is_type j to) refl (is_castable j) (is_castable to) refl test)
  where
    go : (p : Bool) → is_type j to ≡ p → (q r : Bool) → is_castable to ≡ r → (p || (q && r)) ≡ true → IsCore to
    go true f q r g h = subst IsCore (is_type-is j to f) c
    go false f true true g h = g
    go false f true false g h = cc
    go false f false r g h = cc
cast-core None j k c e = cc

literal-core : (v : LiteralValue) (k : ValueType) → literal_type (literal_rows v) ≡ Some k → IsCore k
literal-core lit.Null k e = given-core _ value_type.Null k refl e
literal-core (lit.Series d) k e = go (is_boolean_or_integer d.values.value_type) refl e
  where
    castable : (j : ValueType) → is_boolean_or_integer j ≡ true → is_castable j ≡ true
    castable value_type.Null f = refl
    castable j f = f

    go : (b : Bool) → is_boolean_or_integer d.values.value_type ≡ b → literal_type (cond b (Some d.values) None) ≡ Some k → IsCore k
    go true f g = given-core (is_column d.values) d.values.value_type k (castable d.values.value_type f) g
    go false f g = cc
literal-core (lit.Boolean t) k e = given-core _ value_type.Boolean k refl e
literal-core (lit.UInt8 n) k e = given-core _ value_type.UInt8 k refl e
literal-core (lit.UInt16 n) k e = given-core _ value_type.UInt16 k refl e
literal-core (lit.UInt32 n) k e = given-core _ value_type.UInt32 k refl e
literal-core (lit.UInt64 n) k e = given-core _ value_type.UInt64 k refl e
literal-core (lit.Int8 n) k e = given-core _ value_type.Int8 k refl e
literal-core (lit.Int16 n) k e = given-core _ value_type.Int16 k refl e
literal-core (lit.Int32 n) k e = given-core _ value_type.Int32 k refl e
literal-core (lit.Int64 n) k e = given-core _ value_type.Int64 k refl e
literal-core _ k e = cc

literal-settles : (v : LiteralValue) (os : List Operand) (s : Signature) → option_and_then (λ k. leaf k os) (literal_type (literal_rows v)) ≡ Some s → Settles (λ os. option_and_then (λ k. leaf k os) (literal_type (literal_rows v))) os s
literal-settles v os s e =
    let (k, f, g) = and_then-parts (literal_type (literal_rows v)) (λ k. leaf k os) s e in
    let p = leaf-settles k os s (literal-core v k f) g in
    record { coercible = p.coercible; again = ap (option_and_then (λ k. leaf k (map OfType s.inputs))) f ∙ p.again; core = p.core }

ternary-settles : (os : List Operand) (s : Signature) → AreCoreOperands os → ternary_signature os ≡ Some s → Settles ternary_signature os s
ternary-settles os s h e =
    let p = ternary-parts os s e in
    let cores : AreCoreOperands (p.mask ∷ p.branches) = subst AreCoreOperands p.are h in
    let q = uniting-settles any_type any-core 2 refl p.branches p.inner cores.1 p.unites in
    let made : Settles ternary_signature (p.mask ∷ p.branches) (masked p.inner) = record { coercible = (mask p.mask cores.0 p.masks, q.coercible); again = ap (option_map masked) q.again; core = q.core } in
    subst (λ (z : Signature). Settles ternary_signature os z) (sym p.whole) (subst (λ (z : List Operand). Settles ternary_signature z (masked p.inner)) (sym p.are) made)
  where
    mask : (o : Operand) → IsCoreOperand o → is_mask (own_type o) ≡ true → IsCoercible o value_type.Boolean
    mask (OfType k) c m = inr (c, refl)
    mask (UntypedInteger z) c m = go (default_type z) refl m
      where
        go : (o : Option ValueType) → default_type z ≡ o → is_mask o ≡ true → ((d : ValueType) × (default_type z ≡ Some d)) × IsCore value_type.Boolean
        go (Some d) f g = ((d, f), refl)
        go None f g = cc

function-settles : (f : EvaluatedFunction) (os : List Operand) (s : Signature) → AreCoreOperands os → function_signature f os ≡ Some s → Settles (function_signature f) os s
function-settles (function.Boolean IsNull) os s h e = unary-settles boolean_result truth-core os s h e
function-settles (function.Boolean IsNotNull) os s h e = unary-settles boolean_result truth-core os s h e
function-settles (function.Boolean Not) os s h e = unary-settles number_type (λ j k c g. given-core (is_boolean_or_integer j) j k c g) os s h e
function-settles function.Negate os s h e = unary-settles signed_type (λ j k c g. given-core (is_integer_value j && not (is_unsigned_value j)) j k c g) os s h e
function-settles (function.Fused f) os s h e = uniting-settles integer_type (λ j k c g. given-core (is_integer_value j) j k c g) 3 refl os s h e

-- what a node makes of core operands
record Resolves (c : Catalog) (n : Node) (os : List Operand) (s : Signature) : Type 0 where
  coercible : AreCoercible os s.inputs
  takes : Takes c n s.inputs s.result
  core : IsCore s.result

column-resolves : (c : Catalog) (m : List ℕ) (os : List Operand) (s : Signature) → resolve c (Column m) os ≡ Ok s → Resolves c (Column m) os s
column-resolves c m os s e =
    let p = column-parts c m os s e in
    let at : resolve c (Column m) [] ≡ Ok (signed [] p.value_type) = subst (λ (z : Signature). resolve c (Column m) [] ≡ Ok z) p.whole (subst (λ (z : List Operand). resolve c (Column m) z ≡ Ok s) p.alone e) in
    let made : Resolves c (Column m) [] (signed [] p.value_type) = record { coercible = tt; takes = at; core = p.core } in
    subst (λ (z : Signature). Resolves c (Column m) os z) (sym p.whole) (subst (λ (z : List Operand). Resolves c (Column m) z (signed [] p.value_type)) (sym p.alone) made)

resolves : (c : Catalog) (n : Node) (os : List Operand) (s : Signature) → AreCoreOperands os → resolve c n os ≡ Ok s → Resolves c n os s
unfolding signature
resolves c (Column m) os s h e = column-resolves c m os s e
resolves c (Alias m) os s h e =
    let p = unary-settles any_type any-core os s h (from_option InvalidOperation (unary any_type os) s e) in
    record { coercible = p.coercible; takes = ap (or_fault InvalidOperation) p.again; core = p.core }
resolves c (Literal v) os s h e =
    let p = literal-settles v os s (from_option InvalidOperation (option_and_then (λ k. leaf k os) (literal_type (literal_rows v))) s e) in
    record { coercible = p.coercible; takes = ap (or_fault InvalidOperation) p.again; core = p.core }
resolves c (Binary o) os s h e =
    let p = uniting-settles (group_type (group_of o)) (group-core (group_of o)) 2 refl os s h (from_option InvalidOperation (uniting 2 (group_type (group_of o)) os) s e) in
    record { coercible = p.coercible; takes = ap (or_fault InvalidOperation) p.again; core = p.core }
resolves c (Cast dtype options) os s h e =
    let p = unary-settles (cast_type (value_type_of dtype)) (cast-core (value_type_of dtype)) os s h (from_option InvalidOperation (unary (cast_type (value_type_of dtype)) os) s e) in
    record { coercible = p.coercible; takes = ap (or_fault InvalidOperation) p.again; core = p.core }
resolves c Ternary os s h e =
    let p = ternary-settles os s h (from_option InvalidOperation (ternary_signature os) s e) in
    record { coercible = p.coercible; takes = ap (or_fault InvalidOperation) p.again; core = p.core }
resolves c (Function f) os s h e =
    let p = function-settles f os s h (from_option InvalidOperation (function_signature f os) s e) in
    record { coercible = p.coercible; takes = ap (or_fault InvalidOperation) p.again; core = p.core }
resolves c _ os s h e = cc

takes-cast : (c : Catalog) (j k : ValueType) → (j ≡ k) ⊎ (IsCore j × IsCore k) → Takes c (Cast (dtype_of k) NonStrict) (j ∷ []) k
unfolding signature
takes-cast c j k h =
    ap (λ (o : Option ValueType). or_fault InvalidOperation (option_map (λ r. signed (j ∷ []) r) (cast_type o j))) (value_type_of-dtype_of k)
    ∙ ap (λ (b : Bool). or_fault InvalidOperation (option_map (λ r. signed (j ∷ []) r) (given b k))) (test h)
  where
    either : (p q : Bool) → q ≡ true → (p || q) ≡ true
    either true q e = refl
    either false q e = e

    test : (j ≡ k) ⊎ (IsCore j × IsCore k) → (is_type j k || (is_castable j && is_castable k)) ≡ true
    test (inl e) = ap (λ (b : Bool). b || (is_castable j && is_castable k)) (is_type-of j k e)
    test (inr (p, q)) = either (is_type j k) (is_castable j && is_castable k) (ap (λ (b : Bool). b && is_castable k) p ∙ q)

module _ (c : Catalog) where
  -- what is found is checked, and of a core type
  abbrev IsSound : Found → Type 0
  IsSound (Checked v) = Has c v.tree v.value_type × IsCore v.value_type
  IsSound (Untyped z) = Unit {0}

  abbrev AreSound : List Found → Type 0
  AreSound [] = Unit {0}
  AreSound (f ∷ fs) = IsSound f × AreSound fs

  sound-operands : (fs : List Found) → AreSound fs → AreCoreOperands (map operand_of fs)
  sound-operands [] h = tt
  sound-operands (Checked v ∷ fs) h = (h.0.1, sound-operands fs h.1)
  sound-operands (Untyped z ∷ fs) h = (tt, sound-operands fs h.1)

  -- an integer literal of a type that holds it
  held-has : (k : ValueType) (z : ℤ) → IsCore k → holds k z ≡ true → Has c (literal (literal_of k z)) k
  held-has k z core e =
      let within : InRange k z = (holds_decides k z).0 e in
      has-scalar c (literal_of k z) k (IntegerValue z) (folded-scalar k (IntegerValue z) core within) within

  default-has : (z : ℤ) (d : ValueType) → default_type z ≡ Some d → Has c (default_literal z (default_type z)) d
  default-has z d e = subst (λ (o : Option ValueType). Has c (default_literal z o) d) (sym e) (held-has d z (default-core z d e) (default-holds z d e))

  -- an input that is made what a signature wants is checked, with that type
  coerced-has : (k : ValueType) (f : Found) → IsSound f → IsCoercible (operand_of f) k → Has c (coerced k f) k
  coerced-has k (Checked v) (h, core) may = go (is_type v.value_type k) refl
    where
      go : (b : Bool) → is_type v.value_type k ≡ b → Has c (cond b v.tree (cast_tree k v.tree)) k
      go true e = subst (Has c v.tree) (is_type-is v.value_type k e) h
      go false e = has refl (have_more h have_none) (takes-cast c v.value_type k may)
  coerced-has k (Untyped z) h ((d, e), core) = go (holds k z) refl
    where
      go : (b : Bool) → holds k z ≡ b → Has c (cond b (literal (literal_of k z)) (cast_tree k (default_literal z (default_type z)))) k
      go true f = held-has k z core f
      go false f = has refl (have_more (default-has z d e) have_none) (takes-cast c d k (inr (default-core z d e, core)))

  coerced-all : (ks : List ValueType) (fs : List Found) → AreSound fs → AreCoercible (map operand_of fs) ks → HaveAll c (trees (coerced_all ks fs)) ks
  coerced-all [] [] h may = have_none
  coerced-all (k ∷ ks) (f ∷ fs) h may = have_more (coerced-has k f h.0 may.0) (coerced-all ks fs h.1 may.1)
  coerced-all [] (f ∷ fs) h may = absurd may
  coerced-all (k ∷ ks) [] h may = absurd may

  node-sound : (n : Node) (us : Trees) (f : Found) → ((fs : List Found) → all_results (fold_trees (find c) us) ≡ Ok fs → AreSound fs) → found c (tree n us) ≡ Ok f → IsSound f
  node-sound n us f inner e =
      let (fs, g, h) = then_-parts (all_results (fold_trees (find c) us)) (at_node c n) f e in
      go fs (inner fs g) (deferred n) refl h
    where
      over_sound : (fs : List Found) (s : Signature) → AreSound fs → deferred n ≡ None → resolve c n (map operand_of fs) ≡ Ok s → IsSound (made n fs s)
      over_sound fs s sound free r =
          let p = resolves c n (map operand_of fs) s (sound-operands fs sound) r in
          (has free (coerced-all s.inputs fs sound p.coercible) p.takes, p.core)

      go : (fs : List Found) → AreSound fs → (d : Option Found) → deferred n ≡ d → with_default_type_or d (then_ (resolve c n (map operand_of fs)) (λ s. Ok (made n fs s))) ≡ Ok f → IsSound f
      go fs sound (Some x) q r =
          let (z, untyped) = deferred-untyped n x q in
          let same : x ≡ f = cc in
          subst IsSound (sym untyped ∙ same) tt
      go fs sound None q r =
          let (s, i, j) = then_-parts (resolve c n (map operand_of fs)) (λ s. Ok (made n fs s)) f r in
          let same : made n fs s ≡ f = cc in
          subst IsSound same (over_sound fs s sound q i)

  mutual
    found-sound : (t : Tree) (f : Found) → found c t ≡ Ok f → IsSound f
    found-sound (tree n us) f e = node-sound n us f (inputs-sound us) e

    inputs-sound : (us : Trees) (fs : List Found) → all_results (fold_trees (find c) us) ≡ Ok fs → AreSound fs
    inputs-sound none fs e = let same : [] ≡ fs = cc in subst AreSound same tt
    inputs-sound (more u us) fs e =
        let (f, g, h) = then_-parts (found c u) (λ a. then_ (all_results (fold_trees (find c) us)) (λ as'. Ok (a ∷ as'))) fs e in
        let (gs, i, j) = then_-parts (all_results (fold_trees (find c) us)) (λ as'. Ok (f ∷ as')) fs h in
        let same : f ∷ gs ≡ fs = cc in
        subst AreSound same (found-sound u f g, inputs-sound us gs i)

  -- what the check gives is checked
  pub check-gives : (t : Tree) (v : Typed) → check c t ≡ Ok v → HasType c v.tree v.value_type
  check-gives t v e =
      let (f, g, h) = then_-parts (found c t) with_default_type v e in
      Has-HasType c v.tree v.value_type (go f (found-sound t f g) h)
    where
      default : (z : ℤ) (o : Option ValueType) → default_type z ≡ o → or_fault InvalidOperation (option_map (λ k. typed (literal (literal_of k z)) k) o) ≡ Ok v → Has c v.tree v.value_type
      default z None q r = cc
      default z (Some d) q r =
          let same : typed (literal (literal_of d z)) d ≡ v = cc in
          subst (λ (x : Typed). Has c x.tree x.value_type) same (held-has d z (default-core z d q) (default-holds z d q))

      go : (f : Found) → IsSound f → with_default_type f ≡ Ok v → Has c v.tree v.value_type
      go (Checked w) sound r = let same : w ≡ v = cc in subst (λ (x : Typed). Has c x.tree x.value_type) same sound.0
      go (Untyped z) sound r = default z (default_type z) refl r
