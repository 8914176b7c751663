-- What the types of a node's inputs are where the node takes them as they are, and that it takes such inputs.
use Rattle.std.proofs.Common.{◌≡◌, ◌&&◌, ◌==◌, ℕ, List, [], ◌∷◌, map, length, Option, Some, Ok, Bool, true, refl, sym, ◌∙◌, ap, subst, arith}
use Rattle.std.specs.Prelude.{option_and_then, option_map, not}
use Rattle.std.proofs.lemmas.Bool.Decides.{nat_tests}
use Rattle.px_base.specs.declared.error.PlanError.TheVariants.{InvalidOperation}
use Rattle.px_types.proofs.CommonTypes.{common-null, common-same}
use Rattle.px_types.specs.Classes.{is_boolean_or_integer, is_integer_value, is_unsigned_value}
use Rattle.px_types.specs.ValueTypes.{value_type_of}
use Rattle.px_types.specs.declared.dtype.DataType.{DataType}
use Rattle.px_types.specs.declared.type_parts.CastOptions.{CastOptions}
use Rattle.px_functions.specs.declared.evaluated.EvaluatedBoolean.TheVariants.{IsNull, IsNotNull, Not}
use Rattle.px_functions.specs.declared.evaluated.EvaluatedFunction.TheVariants as function
use Rattle.px_types.specs.declared.function.FusedOperator.{FusedOperator}
use Rattle.px_types.specs.declared.operator.Operator.{Operator}
use Rattle.px_types.specs.declared.value_type.ValueType.{ValueType}
use Rattle.px_types.specs.declared.value_type.ValueType.TheVariants as value_type
use Rattle.px_expr.specs.declared.literal.LiteralValue.{LiteralValue}
use Rattle.px_expr.specs.Tree.{Node, Alias, Literal, Binary, Cast, Ternary, Function}
use Rattle.px_meaning.specs.Literals.{literal_rows}
use Rattle.px_expr.specs.Plan.{Catalog}
use Rattle.px_meaning.specs.Signatures.{Operand, OfType, Signature, signature, unary, uniting, of_united, united, widened, common_of, leaf, any_type, cast_type, boolean_result, number_type, signed_type, integer_type, group_type, group_of, ternary_signature, literal_type, masked, given}
use Rattle.px_meaning.specs.Check.{resolve, or_fault}
use Rattle.px_meaning.proofs.Answers.{from_option, given-parts}
use Rattle.px_meaning.proofs.Shapes.{and_then-parts, leaf-parts, unary-parts, uniting-parts, ternary-parts}

-- the node takes inputs of these types as they are, and has this type then
abbrev pub Takes : Catalog → Node → List ValueType → ValueType → Type 0
Takes c n ks k = resolve c n (map OfType ks) ≡ Ok (record { inputs = ks; result = k })

abbrev signed : List ValueType → ValueType → Signature
signed ks k = record { inputs = ks; result = k }

pub one-long : {A : Type 0} (xs : List A) (f : A → Operand) (o : Operand) → map f xs ≡ o ∷ [] → (a : A) × (xs ≡ a ∷ []) × (f a ≡ o)
one-long [] f o e = cc
one-long (a ∷ []) f o e = (a, refl, cc)
one-long (a ∷ (b ∷ xs)) f o e = cc

record TwoLong (ks : List ValueType) : Type 0 where
  first : ValueType
  second : ValueType
  are : ks ≡ first ∷ second ∷ []

record ThreeLong (ks : List ValueType) : Type 0 where
  first : ValueType
  second : ValueType
  third : ValueType
  are : ks ≡ first ∷ second ∷ third ∷ []

counted : (m n : ℕ) → (m == n) ≡ true → m ≡ n
counted m n e = grind (arith, nat_tests)

two-long : (ks : List ValueType) → (length (map OfType ks) == 2) ≡ true → TwoLong ks
two-long [] e = cc
two-long (a ∷ []) e = let h : length (map OfType (a ∷ [])) ≡ 2 = counted (length (map OfType (a ∷ []))) 2 e in absurd (omega arith)
two-long (a ∷ (b ∷ [])) e = record { first = a; second = b; are = refl }
two-long (a ∷ (b ∷ (d ∷ ks))) e =
    let h : length (map OfType (a ∷ b ∷ d ∷ ks)) ≡ 2 = counted (length (map OfType (a ∷ b ∷ d ∷ ks))) 2 e in absurd (omega arith)

three-long : (ks : List ValueType) → (length (map OfType ks) == 3) ≡ true → ThreeLong ks
three-long [] e = cc
three-long (a ∷ []) e = let h : length (map OfType (a ∷ [])) ≡ 3 = counted (length (map OfType (a ∷ []))) 3 e in absurd (omega arith)
three-long (a ∷ (b ∷ [])) e = let h : length (map OfType (a ∷ b ∷ [])) ≡ 3 = counted (length (map OfType (a ∷ b ∷ []))) 3 e in absurd (omega arith)
three-long (a ∷ (b ∷ (d ∷ []))) e = record { first = a; second = b; third = d; are = refl }
three-long (a ∷ (b ∷ (d ∷ (k ∷ ks)))) e =
    let h : length (map OfType (a ∷ b ∷ d ∷ k ∷ ks)) ≡ 3 = counted (length (map OfType (a ∷ b ∷ d ∷ k ∷ ks))) 3 e in absurd (omega arith)

-- the input of a node of one input
pub unary-types : (result : ValueType → Option ValueType) (ks : List ValueType) (k : ValueType) → unary result (map OfType ks) ≡ Some (signed ks k) → (j : ValueType) × (ks ≡ j ∷ []) × (result j ≡ Some k)
unary-types result ks k e =
    let p = unary-parts result (map OfType ks) (signed ks k) e in
    (p.value_type, p.takes, p.gives)

-- the inputs of a node that unites two, or three
pub two-types : (result : ValueType → Option ValueType) (ks : List ValueType) (k : ValueType) → uniting 2 result (map OfType ks) ≡ Some (signed ks k) → (j : ValueType) × (ks ≡ j ∷ j ∷ []) × (result j ≡ Some k)
two-types result ks k e =
    let p = uniting-parts 2 result (map OfType ks) (signed ks k) e in
    let l = two-long ks p.many in
    (p.value_type, p.takes ∙ ap (λ (z : List ValueType). map (λ _. p.value_type) (map OfType z)) l.are, p.gives)

pub three-types : (result : ValueType → Option ValueType) (ks : List ValueType) (k : ValueType) → uniting 3 result (map OfType ks) ≡ Some (signed ks k) → (j : ValueType) × (ks ≡ j ∷ j ∷ j ∷ []) × (result j ≡ Some k)
three-types result ks k e =
    let p = uniting-parts 3 result (map OfType ks) (signed ks k) e in
    let l = three-long ks p.many in
    (p.value_type, p.takes ∙ ap (λ (z : List ValueType). map (λ _. p.value_type) (map OfType z)) l.are, p.gives)

module _ (c : Catalog) where
  pub alias-types : (m : List ℕ) (ks : List ValueType) (k : ValueType) → Takes c (Alias m) ks k → ks ≡ k ∷ []
  unfolding signature
  alias-types m ks k e =
      let (j, f, g) = unary-types any_type ks k (from_option InvalidOperation (unary any_type (map OfType ks)) (signed ks k) e) in
      let same : j ≡ k = cc in
      f ∙ ap (λ (x : ValueType). x ∷ []) same

  pub literal-types : (v : LiteralValue) (ks : List ValueType) (k : ValueType) → Takes c (Literal v) ks k → (ks ≡ []) × (literal_type (literal_rows v) ≡ Some k)
  unfolding signature
  literal-types v ks k e =
      let (j, f, g) = and_then-parts (literal_type (literal_rows v)) (λ j. leaf j (map OfType ks)) (signed ks k)
      (from_option InvalidOperation (option_and_then (λ j. leaf j (map OfType ks)) (literal_type (literal_rows v))) (signed ks k) e) in
      let (h, i) = leaf-parts j (map OfType ks) (signed ks k) g in
      let same : k ≡ j = ap (λ (s : Signature). s.result) i in
      (ap (λ (s : Signature). s.inputs) i, f ∙ ap Some (sym same))

  pub binary-types : (o : Operator) (ks : List ValueType) (k : ValueType) → Takes c (Binary o) ks k → (j : ValueType) × (ks ≡ j ∷ j ∷ []) × (group_type (group_of o) j ≡ Some k)
  unfolding signature
  binary-types o ks k e = two-types (group_type (group_of o)) ks k (from_option InvalidOperation (uniting 2 (group_type (group_of o)) (map OfType ks)) (signed ks k) e)

  pub cast-types : (dtype : DataType) (options : CastOptions) (ks : List ValueType) (k : ValueType) → Takes c (Cast dtype options) ks k → (j : ValueType) × (ks ≡ j ∷ []) × (cast_type (value_type_of dtype) j ≡ Some k)
  unfolding signature
  cast-types dtype options ks k e = unary-types (cast_type (value_type_of dtype)) ks k (from_option InvalidOperation (unary (cast_type (value_type_of dtype)) (map OfType ks)) (signed ks k) e)

  pub not-types : (ks : List ValueType) (k : ValueType) → Takes c (Function (function.Boolean Not)) ks k → (ks ≡ k ∷ []) × (is_boolean_or_integer k ≡ true)
  unfolding signature
  not-types ks k e =
      let (j, f, g) = unary-types number_type ks k (from_option InvalidOperation (unary number_type (map OfType ks)) (signed ks k) e) in
      let (h, i) = given-parts (is_boolean_or_integer j) j k g in
      (f ∙ ap (λ (x : ValueType). x ∷ []) i, subst (λ (x : ValueType). is_boolean_or_integer x ≡ true) i h)

  pub is_null-types : (ks : List ValueType) (k : ValueType) → Takes c (Function (function.Boolean IsNull)) ks k → (j : ValueType) × (ks ≡ j ∷ []) × (k ≡ value_type.Boolean)
  unfolding signature
  is_null-types ks k e =
      let (j, f, g) = unary-types boolean_result ks k (from_option InvalidOperation (unary boolean_result (map OfType ks)) (signed ks k) e) in
      (j, f, cc)

  pub is_not_null-types : (ks : List ValueType) (k : ValueType) → Takes c (Function (function.Boolean IsNotNull)) ks k → (j : ValueType) × (ks ≡ j ∷ []) × (k ≡ value_type.Boolean)
  unfolding signature
  is_not_null-types ks k e =
      let (j, f, g) = unary-types boolean_result ks k (from_option InvalidOperation (unary boolean_result (map OfType ks)) (signed ks k) e) in
      (j, f, cc)

  pub negate-types : (ks : List ValueType) (k : ValueType) → Takes c (Function function.Negate) ks k → (ks ≡ k ∷ []) × (is_integer_value k && not (is_unsigned_value k) ≡ true)
  unfolding signature
  negate-types ks k e =
      let (j, f, g) = unary-types signed_type ks k (from_option InvalidOperation (unary signed_type (map OfType ks)) (signed ks k) e) in
      let (h, i) = given-parts (is_integer_value j && not (is_unsigned_value j)) j k g in
      (f ∙ ap (λ (x : ValueType). x ∷ []) i, subst (λ (x : ValueType). is_integer_value x && not (is_unsigned_value x) ≡ true) i h)

  pub fused-types : (o : FusedOperator) (ks : List ValueType) (k : ValueType) → Takes c (Function (function.Fused o)) ks k → (ks ≡ k ∷ k ∷ k ∷ []) × (is_integer_value k ≡ true)
  unfolding signature
  fused-types o ks k e =
      let (j, f, g) = three-types integer_type ks k (from_option InvalidOperation (uniting 3 integer_type (map OfType ks)) (signed ks k) e) in
      let (h, i) = given-parts (is_integer_value j) j k g in
      (f ∙ ap (λ (x : ValueType). x ∷ x ∷ x ∷ []) i, subst (λ (x : ValueType). is_integer_value x ≡ true) i h)

-- two and three types that are one unite to it
pub united-two : (k : ValueType) → united (OfType k ∷ OfType k ∷ []) ≡ Some k
unfolding united
united-two k =
    let os : List Operand = OfType k ∷ OfType k ∷ [] in
    ap (λ (a : Option ValueType). widened os (common_of a (Some k))) (common-null k) ∙ ap (widened os) (common-same k)

pub united-three : (k : ValueType) → united (OfType k ∷ OfType k ∷ OfType k ∷ []) ≡ Some k
unfolding united
united-three k =
    let os : List Operand = OfType k ∷ OfType k ∷ OfType k ∷ [] in
    ap (λ (a : Option ValueType). widened os (common_of (common_of a (Some k)) (Some k))) (common-null k)
    ∙ (ap (λ (a : Option ValueType). widened os (common_of a (Some k))) (common-same k) ∙ ap (widened os) (common-same k))

module _ (c : Catalog) where
  pub takes-alias : (m : List ℕ) (k : ValueType) → Takes c (Alias m) (k ∷ []) k
  unfolding signature
  takes-alias m k = refl

  pub takes-literal : (v : LiteralValue) (k : ValueType) → literal_type (literal_rows v) ≡ Some k → Takes c (Literal v) [] k
  unfolding signature
  takes-literal v k e = ap (λ (o : Option ValueType). or_fault InvalidOperation (option_and_then (λ j. leaf j []) o)) e

  pub takes-binary : (o : Operator) (j k : ValueType) → group_type (group_of o) j ≡ Some k → Takes c (Binary o) (j ∷ j ∷ []) k
  unfolding signature
  takes-binary o j k e =
      let os : List Operand = OfType j ∷ OfType j ∷ [] in
      ap (λ (u : Option ValueType). or_fault InvalidOperation (option_and_then (of_united (group_type (group_of o)) os) u)) (united-two j)
      ∙ ap (λ (r : Option ValueType). or_fault InvalidOperation (option_map (λ x. signed (j ∷ j ∷ []) x) r)) e

  pub takes-not : (k : ValueType) → is_boolean_or_integer k ≡ true → Takes c (Function (function.Boolean Not)) (k ∷ []) k
  unfolding signature
  takes-not k e = ap (λ (b : Bool). or_fault InvalidOperation (option_map (λ r. signed (k ∷ []) r) (given b k))) e

  pub takes-is_null : (j : ValueType) → Takes c (Function (function.Boolean IsNull)) (j ∷ []) value_type.Boolean
  unfolding signature
  takes-is_null j = refl

  pub takes-is_not_null : (j : ValueType) → Takes c (Function (function.Boolean IsNotNull)) (j ∷ []) value_type.Boolean
  unfolding signature
  takes-is_not_null j = refl

  pub takes-fused : (o : FusedOperator) (k : ValueType) → is_integer_value k ≡ true → Takes c (Function (function.Fused o)) (k ∷ k ∷ k ∷ []) k
  unfolding signature
  takes-fused o k e =
      let os : List Operand = OfType k ∷ OfType k ∷ OfType k ∷ [] in
      ap (λ (u : Option ValueType). or_fault InvalidOperation (option_and_then (of_united integer_type os) u)) (united-three k)
      ∙ ap (λ (b : Bool). or_fault InvalidOperation (option_map (λ x. signed (k ∷ k ∷ k ∷ []) x) (given b k))) e

  pub ternary-types : (ks : List ValueType) (k : ValueType) → Takes c Ternary ks k → ks ≡ value_type.Boolean ∷ k ∷ k ∷ []
  unfolding signature
  ternary-types ks k e =
      let p = ternary-parts (map OfType ks) (signed ks k) (from_option InvalidOperation (ternary_signature (map OfType ks)) (signed ks k) e) in
      go ks p.mask p.branches p.inner p.are p.unites p.whole
    where
      go :
          (ks : List ValueType) (mask : Operand) (branches : List Operand) (inner : Signature) → map OfType ks ≡ mask ∷ branches → uniting 2 any_type branches ≡ Some inner →
          signed ks k ≡ masked inner → ks ≡ value_type.Boolean ∷ k ∷ k ∷ []
      go [] mask branches inner are unites whole = cc
      go (j ∷ js) mask branches inner are unites whole =
          let rest : map OfType js ≡ branches = cc in
          let first : j ∷ js ≡ value_type.Boolean ∷ inner.inputs = ap (λ (s : Signature). s.inputs) whole in
          let result : k ≡ inner.result = ap (λ (s : Signature). s.result) whole in
          let same : js ≡ inner.inputs = cc in
          let whole' : signed inner.inputs inner.result ≡ signed js k = ap (λ (z : List ValueType). signed z inner.result) (sym same) ∙ ap (signed js) (sym result) in
          let at_rest : uniting 2 any_type (map OfType js) ≡ Some inner = ap (uniting 2 any_type) rest ∙ unites in
          let u : uniting 2 any_type (map OfType js) ≡ Some (signed js k) = at_rest ∙ ap Some whole' in
          let (l, f, g) = two-types any_type js k u in
          let is : l ≡ k = cc in
          first ∙ ap (λ (z : List ValueType). value_type.Boolean ∷ z) (sym same ∙ f ∙ ap (λ (z : ValueType). z ∷ z ∷ []) is)
