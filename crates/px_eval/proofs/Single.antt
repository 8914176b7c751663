-- What single nodes give, and the operators' demands.
use Rattle.std.proofs.Common.{◌≡◌, ◌⊎◌, inl, inr, ◌<◌, ◌||◌, ◌&&◌, ℕ, zero, suc, List, [], ◌∷◌, map, length, Option, Some, None, Result, Ok, Err, Bool, true, false, refl, sym, ◌∙◌, ap, subst, arith}
use Rattle.std.specs.Prelude.{option_and_then, option_map, IfOk, IfErr, IfSome, IsSome, is_some, slice_get}
use Rattle.std.specs.Simd.Lanes.{Each1}
use Rattle.px_base.specs.Answer.{GivesOr}
use Rattle.px_base.specs.declared.error.PlanError.{PlanError}
use Rattle.px_base.specs.declared.error.PlanError.TheVariants.{OutOfMemory, ShapeMismatch, InvalidCast, InvalidOperation}
use Rattle.px_semantics.specs.Casts.{HasCast, IsScalar, cast_to, cast_rows}
use Rattle.px_semantics.specs.Selections.{select_rows}
use Rattle.px_types.specs.Classes.{is_integer_value}
use Rattle.px_semantics.specs.Fused.{fused_rows}
use Rattle.px_types.specs.declared.function.FusedOperator.{FusedOperator}
use Rattle.px_types.specs.Integers.{IsInteger}
use Rattle.px_semantics.specs.Logic.{logic_rows, logic_row}
use Rattle.px_semantics.specs.Rows.{Row, TypedRows, Contents, IsBoolean, IsRowOf, broadcast_rows}
use Rattle.px_types.specs.ValueTypes.{value_type_of}
use Rattle.px_semantics.proofs.CastLemmas.{same_gives}
use Rattle.px_types.specs.declared.dtype.DataType.{DataType}
use Rattle.px_types.specs.declared.type_parts.CastOptions.{CastOptions}
use Rattle.px_functions.specs.declared.evaluated.EvaluatedBoolean.TheVariants.{IsNull, IsNotNull, Not}
use Rattle.px_functions.specs.declared.evaluated.EvaluatedFunction.{EvaluatedFunction}
use Rattle.px_functions.specs.declared.evaluated.EvaluatedFunction.TheVariants as function
use Rattle.px_functions.specs.declared.function.FunctionExpr.{FunctionExpr}
use Rattle.px_types.specs.declared.operator.Operator.{Operator}
use Rattle.px_types.specs.declared.operator.Operator.TheVariants as op
use Rattle.px_types.specs.declared.value_type.ValueType.{ValueType}
use Rattle.px_types.specs.declared.value_type.ValueType.TheVariants as value_type
use Rattle.px_expr.specs.Kernel.{Kernel}
use Rattle.px_expr.specs.Tree.{Node as Root}
use Rattle.px_expr.specs.Tree as root
use Rattle.px_meaning.specs.Faults.{OwnFault, uneven, lossy, is_joining}
use Rattle.px_meaning.specs.Mean.{all_of, own_rows, group_rows, binary_rows, function_rows, of_one, of_three}
use Rattle.px_meaning.specs.Schema.{Fits, schema_of, column_at}
use Rattle.px_meaning.specs.Literals.{literal_rows}
use Rattle.px_semantics.specs.Frames.{column_named}
use Rattle.px_expr.specs.declared.literal.LiteralValue.{LiteralValue}
use Rattle.px_meaning.specs.Signatures.{group_of, group_type, boolean_type, cast_type, is_type, is_castable, literal_type, OfType, Signature, signature, function_signature}
use Rattle.px_meaning.proofs.Answers.{given-parts, from_option}
use Rattle.px_meaning.proofs.Means.{one_column, two_columns, three_columns}
use Rattle.px_meaning.proofs.Nothing.{explains, all_of-is}
use Rattle.px_meaning.proofs.Types.{Takes, is_null-types, is_not_null-types, not-types, negate-types, fused-types, alias-types, literal-types, binary-types, cast-types, ternary-types}
use Rattle.px_meaning.proofs.Typing.{is_type-is}
use Rattle.px_arena.specs.declared.node.AExpr.{AExpr}
use Rattle.px_arena.specs.declared.node.AExpr.TheVariants as ir
use Rattle.px_arena.specs.declared.node.Node.{Node}
use Rattle.px_arena.specs.Denotes.{root_of, inputs_of}
use Rattle.px_column.specs.declared.buffer.Buffer.{Buffer}
use Rattle.px_column.specs.Buffers as buffers
use Rattle.px_eval.specs.declared.table.Rows.{Rows}
use Rattle.px_eval.specs.Table.{rows_at, values_of}
use Rattle.px_eval.specs.Own.{frame_catalog, input_rows, IsReady, IsAnswer, IsReason, IsOwned, fault_of, node_gives, cast_at, TakesTwo, TakesOne, IsFunction, IsOfOne}

-- the only fault of a node itself
only_fault : (kernels : List Kernel) (frame : List Contents) (n : Root) (ms : List (Option TypedRows)) (f : PlanError) → OwnFault kernels frame n ms f → f ≡ fault_of n
only_fault kernels frame n ms _ (uneven joins h) = joining n joins
  where
    joining : (n : Root) → is_joining n ≡ true → ShapeMismatch ≡ fault_of n
    joining (root.Cast dtype options) e = cc
    joining _ e = refl
only_fault kernels frame _ ms _ (lossy to e h) = refl

-- the node is not of the core language
abbrev pub IsOutside : AExpr → Type 0
IsOutside (ir.Gather a b c) = Unit {0}
IsOutside (ir.Slice a b c) = Unit {0}
IsOutside (ir.Filter a b) = Unit {0}
IsOutside (ir.Agg a) = Unit {0}
IsOutside (ir.AnonymousFunction a b c) = Unit {0}
IsOutside ir.Len = Unit {0}
IsOutside _ = ⊥

-- what a node gives, and its fault
pub record Case (kernels : List Kernel) (frame : List Contents) (table : List (Option TypedRows)) (x : AExpr) (w : Option TypedRows) (f : PlanError) : Type 0 where
  pub gives : node_gives kernels frame table x ≡ w
  pub fault : f ≡ fault_of (root_of x)

module _ (kernels : List Kernel) (frame : List Contents) (fits : Fits frame (schema_of frame)) (table : List (Option TypedRows)) where
  gives_of : (x : AExpr) (r : IsReady kernels frame table x) → node_gives kernels frame table x ≡ own_rows kernels frame (root_of x) r.columns
  gives_of x r = ap (option_and_then (own_rows kernels frame (root_of x))) r.all

  fails : (x : AExpr) → IsReady kernels frame table x → node_gives kernels frame table x ≡ None → OwnFault kernels frame (root_of x) (input_rows table x) (fault_of (root_of x))
  fails x r e =
      let (f, h) = explains (frame_catalog kernels frame) frame fits (root_of x) r.types r.value_type r.columns r.takes r.typed (sym (gives_of x r) ∙ e) in
      let o = h (input_rows table x) r.all in
      subst (λ (z : PlanError). OwnFault kernels frame (root_of x) (input_rows table x) z) (only_fault kernels frame (root_of x) (input_rows table x) f o) o

  pub owned_ok :
      (x : AExpr) (r : Result Rows PlanError) (c : Result Buffer PlanError) (w : Option TypedRows) (f : PlanError) → IsOwned r c → GivesOr f buffers.values_of c w → Case kernels frame table x w f →
      IfOk r (λ a. IsAnswer kernels frame table x a)
  owned_ok x (Ok r) (Ok c) w f o g h = h.gives ∙ (sym g ∙ ap Some (sym o))
  owned_ok x (Ok r) (Err e) w f o g h = absurd o
  owned_ok x (Err e) c w f o g h = tt

  pub owned_err :
      (x : AExpr) (r : Result Rows PlanError) (c : Result Buffer PlanError) (w : Option TypedRows) (f : PlanError) → IsReady kernels frame table x → IsOwned r c → GivesOr f buffers.values_of c w →
      Case kernels frame table x w f → IfErr r (λ e. IsReason kernels frame table x e)
  owned_err x (Ok r) c w f ready o g h = tt
  owned_err x (Err e) (Ok c) w f ready o g h = inl o
  owned_err x (Err e) (Err d) w f ready o (inl g) h = inl (o ∙ g)
  owned_err x (Err e) (Err d) w f ready o (inr (g, n)) h =
      inr (subst (λ (z : PlanError). OwnFault kernels frame (root_of x) (input_rows table x) z) (sym (o ∙ (g ∙ h.fault))) (fails x ready (h.gives ∙ n)))

  columns_one : (m : Option TypedRows) (vs : List TypedRows) (a : TypedRows) → all_of (m ∷ []) ≡ Some vs → m ≡ Some a → vs ≡ a ∷ []
  columns_one m vs a e h = let s : Some vs ≡ Some (a ∷ []) = sym e ∙ ap (λ (z : Option TypedRows). all_of (z ∷ [])) h in cc

  columns_two : (m n : Option TypedRows) (vs : List TypedRows) (a b : TypedRows) → all_of (m ∷ n ∷ []) ≡ Some vs → m ≡ Some a → n ≡ Some b → vs ≡ a ∷ b ∷ []
  columns_two m n vs a b e h i =
      let s : Some vs ≡ Some (a ∷ b ∷ []) = sym e ∙ (ap (λ (z : Option TypedRows). all_of (z ∷ n ∷ [])) h ∙ ap (λ (z : Option TypedRows). all_of (Some a ∷ z ∷ [])) i) in cc

  columns_three :
      (m n o : Option TypedRows) (vs : List TypedRows) (a b d : TypedRows) → all_of (m ∷ n ∷ o ∷ []) ≡ Some vs → m ≡ Some a → n ≡ Some b → o ≡ Some d → vs ≡ a ∷ b ∷ d ∷ []
  columns_three m n o vs a b d e h i j =
      let s : Some vs ≡ Some (a ∷ b ∷ d ∷ []) =
      sym e ∙ (ap (λ (z : Option TypedRows). all_of (z ∷ n ∷ o ∷ [])) h ∙ (ap (λ (z : Option TypedRows). all_of (Some a ∷ z ∷ o ∷ [])) i ∙ ap (λ (z : Option TypedRows). all_of (Some a ∷ Some b ∷ z ∷ [])) j)) in cc

  binary_at :
      (l r : Node) (o : Operator) (a b : TypedRows) → IsReady kernels frame table (ir.BinaryExpr l o r) → rows_at table l.0 ≡ Some a → rows_at table r.0 ≡ Some b →
      Case kernels frame table (ir.BinaryExpr l o r) (group_rows (group_of o) o a b) ShapeMismatch × TakesTwo o a.value_type b.value_type
  binary_at l r o a b ready ha hb =
      let are = columns_two (rows_at table l.0) (rows_at table r.0) ready.columns a b ready.all ha hb in
      let (j, f, g) = binary-types (frame_catalog kernels frame) o ready.types ready.value_type ready.takes in
      let (a', b', i, ka, kb) = two_columns j j ready.types ready.columns f ready.typed in
      let both : a ∷ b ∷ [] ≡ a' ∷ b' ∷ [] = sym are ∙ i in
      let sa : a' ≡ a = cc in
      let sb : b' ≡ b = cc in
      let type_a : a.value_type ≡ j = subst (λ (z : TypedRows). z.value_type ≡ j) sa ka.value_type in
      let type_b : b.value_type ≡ j = subst (λ (z : TypedRows). z.value_type ≡ j) sb kb.value_type in (
        record { gives = gives_of (ir.BinaryExpr l o r) ready ∙ ap (binary_rows o) are; fault = refl },
        record { value_type = ready.value_type; gives = subst (λ (z : ValueType). group_type (group_of o) z ≡ Some ready.value_type) (sym type_a) g; same = type_a ∙ sym type_b },
      )

  pub binary_case :
      (x : AExpr) (l r : Node) (o : Operator) (a b : TypedRows) → x ≡ ir.BinaryExpr l o r → IsReady kernels frame table x → rows_at table l.0 ≡ Some a → rows_at table r.0 ≡ Some b →
      Case kernels frame table x (group_rows (group_of o) o a b) ShapeMismatch × TakesTwo o a.value_type b.value_type
  binary_case x l r o a b is ready ha hb =
      subst (λ (z : AExpr). Case kernels frame table z (group_rows (group_of o) o a b) ShapeMismatch × TakesTwo o a.value_type b.value_type) (sym is)
      (binary_at l r o a b (subst (λ (z : AExpr). IsReady kernels frame table z) is ready) ha hb)

  held_within : (t : List (Option TypedRows)) (i : ℕ) (v : TypedRows) → rows_at t i ≡ Some v → i < length t
  held_within [] i v e = cc
  held_within (o ∷ os) zero v e = omega arith
  held_within (o ∷ os) (suc i) v e = let h = held_within os i v e in omega arith

  alias_at :
      (input : Node) (name : List ℕ) → IsReady kernels frame table (ir.Alias input name) →
      IsSome (rows_at table input.0) × (node_gives kernels frame table (ir.Alias input name) ≡ rows_at table input.0)
  alias_at input name ready =
      let f = alias-types (frame_catalog kernels frame) name ready.types ready.value_type ready.takes in
      let (a, i, ka) = one_column ready.value_type ready.types ready.columns f ready.typed in
      let are = all_of-is (rows_at table input.0 ∷ []) ready.columns ready.all ∙ ap (map Some) i in
      let e : rows_at table input.0 ≡ Some a = cc in
      (ap is_some e, gives_of (ir.Alias input name) ready ∙ (ap (of_one Some) i ∙ sym e))

  -- an alias gives what its input holds
  pub alias_case :
      (x : AExpr) (input : Node) (name : List ℕ) → x ≡ ir.Alias input name → IsReady kernels frame table x →
      IsSome (rows_at table input.0) × (node_gives kernels frame table x ≡ rows_at table input.0)
  alias_case x input name is ready =
      subst (λ (z : AExpr). IsSome (rows_at table input.0) × (node_gives kernels frame table z ≡ rows_at table input.0)) (sym is)
      (alias_at input name (subst (λ (z : AExpr). IsReady kernels frame table z) is ready))

  pub column_gives : (x : AExpr) (name : List ℕ) → x ≡ ir.Column name → IsReady kernels frame table x → node_gives kernels frame table x ≡ column_at frame name
  column_gives x name is ready =
      subst (λ (z : AExpr). node_gives kernels frame table z ≡ column_at frame name) (sym is) (gives_of (ir.Column name) (subst (λ (z : AExpr). IsReady kernels frame table z) is ready))

  no_column_fault : (name : List ℕ) (ms : List (Option TypedRows)) (f : PlanError) → OwnFault kernels frame (root.Column name) ms f → ⊥
  no_column_fault name ms _ (uneven joins h) = cc

  pub column_there : (x : AExpr) (name : List ℕ) → x ≡ ir.Column name → IsReady kernels frame table x → column_named frame name ≡ None → ⊥
  column_there x name is ready e =
      let nothing = column_gives x name is ready ∙ ap (option_map (λ (c : Contents). c.values)) e in
      let fault = fails x ready nothing in
      no_column_fault name (input_rows table x) (fault_of (root_of x))
      (subst (λ (z : AExpr). OwnFault kernels frame (root_of z) (input_rows table x) (fault_of (root_of x))) is fault)

  pub column_case : (x : AExpr) (name : List ℕ) (c : Contents) → x ≡ ir.Column name → IsReady kernels frame table x → column_named frame name ≡ Some c → node_gives kernels frame table x ≡ Some c.values
  column_case x name c is ready e = column_gives x name is ready ∙ ap (option_map (λ (d : Contents). d.values)) e

  literal_at : (v : LiteralValue) → IsReady kernels frame table (ir.Literal v) → (k : ValueType) × (literal_type (literal_rows v) ≡ Some k)
  literal_at v ready = let (f, g) = literal-types (frame_catalog kernels frame) v ready.types ready.value_type ready.takes in (ready.value_type, g)

  pub literal_typed : (x : AExpr) (v : LiteralValue) → x ≡ ir.Literal v → IsReady kernels frame table x → (k : ValueType) × (literal_type (literal_rows v) ≡ Some k)
  literal_typed x v is ready = literal_at v (subst (λ (z : AExpr). IsReady kernels frame table z) is ready)

  pub literal_case : (x : AExpr) (v : LiteralValue) → x ≡ ir.Literal v → IsReady kernels frame table x → node_gives kernels frame table x ≡ literal_rows v
  literal_case x v is ready =
      subst (λ (z : AExpr). node_gives kernels frame table z ≡ literal_rows v) (sym is) (gives_of (ir.Literal v) (subst (λ (z : AExpr). IsReady kernels frame table z) is ready))

  castable_scalar : (k : ValueType) → is_castable k ≡ true → IsScalar k
  castable_scalar value_type.Null e = tt
  castable_scalar value_type.Boolean e = tt
  castable_scalar value_type.String e = cc
  castable_scalar value_type.Int8 e = tt
  castable_scalar value_type.Int16 e = tt
  castable_scalar value_type.Int32 e = tt
  castable_scalar value_type.Int64 e = tt
  castable_scalar value_type.UInt8 e = tt
  castable_scalar value_type.UInt16 e = tt
  castable_scalar value_type.UInt32 e = tt
  castable_scalar value_type.UInt64 e = tt

  either : (p q r : Bool) → (p || (q && r)) ≡ true → (p ≡ true) ⊎ ((q ≡ true) × (r ≡ true))
  either true q r e = inl refl
  either false true true e = inr (refl, refl)
  either false true false e = cc
  either false false r e = cc

  has_cast : (o : Option ValueType) (j k : ValueType) → cast_type o j ≡ Some k → HasCast j o
  has_cast None j k e = cc
  has_cast (Some to) j k e =
      let (test, same) = given-parts (is_type j to || (is_castable j && is_castable to)) to k e in
      elim (either (is_type j to) (is_castable j) (is_castable to) test) [
        | inl h ↦ inl (sym (is_type-is j to h))
        | inr h ↦ inr (inr (castable_scalar j h.0, castable_scalar to h.1))
      ]

  -- a cast of what the place of its input holds
  pub record CastCase (x : AExpr) (input : ℕ) (dtype : DataType) (options : CastOptions) : Type 0 where
    pub filled : IsSome (rows_at table input)
    pub castable : IfSome (rows_at table input) (λ a. HasCast a.value_type (value_type_of dtype))
    pub case : Case kernels frame table x (cast_at table input options dtype) InvalidCast

  cast_case_at : (input : Node) (dtype : DataType) (options : CastOptions) → IsReady kernels frame table (ir.Cast input dtype options) → CastCase (ir.Cast input dtype options) input.0 dtype options
  cast_case_at input dtype options ready =
      let (j, f, g) = cast-types (frame_catalog kernels frame) dtype options ready.types ready.value_type ready.takes in
      let (a, i, ka) = one_column j ready.types ready.columns f ready.typed in
      let are = all_of-is (rows_at table input.0 ∷ []) ready.columns ready.all ∙ ap (map Some) i in
      let e : rows_at table input.0 ≡ Some a = cc in
      let has : HasCast a.value_type (value_type_of dtype) = subst (λ (z : ValueType). HasCast z (value_type_of dtype)) (sym ka.value_type) (has_cast (value_type_of dtype) j ready.value_type g) in
      record {
        filled = ap is_some e;
        castable = subst (λ (z : Option TypedRows). IfSome z (λ b. HasCast b.value_type (value_type_of dtype))) (sym e) has;
        case = record {
          gives = gives_of (ir.Cast input dtype options) ready ∙ (ap (of_one (cast_to options dtype)) i ∙ ap (option_and_then (cast_to options dtype)) (sym e));
          fault = refl;
        };
      }

  pub cast_case : (x : AExpr) (input : Node) (dtype : DataType) (options : CastOptions) → x ≡ ir.Cast input dtype options → IsReady kernels frame table x → CastCase x input.0 dtype options
  cast_case x input dtype options is ready =
      subst (λ (z : AExpr). CastCase z input.0 dtype options) (sym is) (cast_case_at input dtype options (subst (λ (z : AExpr). IsReady kernels frame table z) is ready))

  -- the error of a call that gives what the node gives
  pub given_err :
      (x : AExpr) (r : Result Rows PlanError) (w : Option TypedRows) (f : PlanError) → IsReady kernels frame table x → IfErr r (λ e. (e ≡ OutOfMemory) ⊎ ((e ≡ f) × (w ≡ None))) →
      Case kernels frame table x w f → IfErr r (λ e. IsReason kernels frame table x e)
  given_err x (Ok r) w f ready o h = tt
  given_err x (Err e) w f ready (inl o) h = inl o
  given_err x (Err e) w f ready (inr (g, n)) h =
      inr (subst (λ (z : PlanError). OwnFault kernels frame (root_of x) (input_rows table x) z) (sym (g ∙ h.fault)) (fails x ready (h.gives ∙ n)))

  -- a choice takes a mask and two columns of one type
  pub record TakesChoice (m a b : ValueType) : Type 0 where
    pub mask : IsBoolean m
    pub same : a ≡ b

  ternary_at :
      (p t f : Node) (m a b : TypedRows) → IsReady kernels frame table (ir.Ternary p t f) → rows_at table p.0 ≡ Some m → rows_at table t.0 ≡ Some a → rows_at table f.0 ≡ Some b →
      Case kernels frame table (ir.Ternary p t f) (select_rows m a b) ShapeMismatch × TakesChoice m.value_type a.value_type b.value_type
  ternary_at p t f m a b ready hm ha hb =
      let are = columns_three (rows_at table p.0) (rows_at table t.0) (rows_at table f.0) ready.columns m a b ready.all hm ha hb in
      let k = ready.value_type in
      let (m', a', b', i, km, ka, kb) = three_columns value_type.Boolean k k ready.types ready.columns (ternary-types (frame_catalog kernels frame) ready.types k ready.takes) ready.typed in
      let both : m ∷ a ∷ b ∷ [] ≡ m' ∷ a' ∷ b' ∷ [] = sym are ∙ i in
      let sm : m' ≡ m = cc in
      let sa : a' ≡ a = cc in
      let sb : b' ≡ b = cc in
      let type_m : m.value_type ≡ value_type.Boolean = subst (λ (z : TypedRows). z.value_type ≡ value_type.Boolean) sm km.value_type in
      let type_a : a.value_type ≡ k = subst (λ (z : TypedRows). z.value_type ≡ k) sa ka.value_type in
      let type_b : b.value_type ≡ k = subst (λ (z : TypedRows). z.value_type ≡ k) sb kb.value_type in (
        record { gives = gives_of (ir.Ternary p t f) ready ∙ ap (of_three select_rows) are; fault = refl },
        record { mask = subst (λ (z : ValueType). IsBoolean z) (sym type_m) tt; same = type_a ∙ sym type_b },
      )

  pub ternary_case :
      (x : AExpr) (p t f : Node) (m a b : TypedRows) → x ≡ ir.Ternary p t f → IsReady kernels frame table x → rows_at table p.0 ≡ Some m → rows_at table t.0 ≡ Some a → rows_at table f.0 ≡ Some b →
      Case kernels frame table x (select_rows m a b) ShapeMismatch × TakesChoice m.value_type a.value_type b.value_type
  ternary_case x p t f m a b is ready hm ha hb =
      subst (λ (z : AExpr). Case kernels frame table z (select_rows m a b) ShapeMismatch × TakesChoice m.value_type a.value_type b.value_type) (sym is)
      (ternary_at p t f m a b (subst (λ (z : AExpr). IsReady kernels frame table z) is ready) hm ha hb)

  not_core : (x : AExpr) → IsOutside x → IsReady kernels frame table x → ⊥
  unfolding signature
  not_core (ir.Gather a b c) o ready = let e = ready.takes in cc
  not_core (ir.Slice a b c) o ready = let e = ready.takes in cc
  not_core (ir.Filter a b) o ready = let e = ready.takes in cc
  not_core (ir.Agg a) o ready = let e = ready.takes in cc
  not_core (ir.AnonymousFunction a b c) o ready = let e = ready.takes in cc
  not_core ir.Len o ready = let e = ready.takes in cc
  not_core (ir.Alias a b) o ready = absurd o
  not_core (ir.Column a) o ready = absurd o
  not_core (ir.Literal a) o ready = absurd o
  not_core (ir.BinaryExpr a b c) o ready = absurd o
  not_core (ir.Cast a b c) o ready = absurd o
  not_core (ir.Ternary a b c) o ready = absurd o
  not_core (ir.Function a b c) o ready = absurd o

  -- a function that is not evaluated has no signature
  pub not_evaluated : (x : AExpr) (f : FunctionExpr) → root_of x ≡ root.OtherFunction f → IsReady kernels frame table x → ⊥
  unfolding signature
  not_evaluated x f is ready =
      let e = subst (λ (n : Root). Takes (frame_catalog kernels frame) n ready.types ready.value_type) is ready.takes in cc

  pub outside : (x y : AExpr) → x ≡ y → IsOutside y → IsReady kernels frame table x → ⊥
  outside x y is o ready = not_core y o (subst (λ (z : AExpr). IsReady kernels frame table z) is ready)

  single : (ns : List ℕ) (a : TypedRows) → map (rows_at table) ns ≡ Some a ∷ [] → (n : ℕ) × (ns ≡ n ∷ []) × (rows_at table n ≡ Some a)
  single [] a e = cc
  single (n ∷ []) a e = (n, refl, cc)
  single (n ∷ (m ∷ ns)) a e = cc

  types_of_one : (f : EvaluatedFunction) → IsOfOne f → (ks : List ValueType) (k : ValueType) → Takes (frame_catalog kernels frame) (root.Function f) ks k → (j : ValueType) × (ks ≡ j ∷ [])
  types_of_one (function.Boolean IsNull) o ks k t = let (j, f, g) = is_null-types (frame_catalog kernels frame) ks k t in (j, f)
  types_of_one (function.Boolean IsNotNull) o ks k t = let (j, f, g) = is_not_null-types (frame_catalog kernels frame) ks k t in (j, f)
  types_of_one (function.Boolean Not) o ks k t = let (f, g) = not-types (frame_catalog kernels frame) ks k t in (k, f)
  types_of_one function.Negate o ks k t = let (f, g) = negate-types (frame_catalog kernels frame) ks k t in (k, f)
  types_of_one (function.Fused f) o ks k t = absurd o

  one_takes : (f : EvaluatedFunction) (ks : List ValueType) (j k : ValueType) → Takes (frame_catalog kernels frame) (root.Function f) ks k → ks ≡ j ∷ [] → TakesOne f j
  unfolding signature
  one_takes f ks j k t e =
      let s : Signature = record { inputs = ks; result = k } in
      (s, subst (λ (z : List ValueType). function_signature f (map OfType z) ≡ Some s) e (from_option InvalidOperation (function_signature f (map OfType ks)) s t))

  -- a function of one input, and that input
  pub record OneInput (x : AExpr) (f : EvaluatedFunction) : Type 0 where
    pub place : ℕ
    pub rows : TypedRows
    pub are : inputs_of x ≡ place ∷ []
    pub holds : rows_at table place ≡ Some rows
    pub takes : TakesOne f rows.value_type
    pub case : Case kernels frame table x (function_rows f (rows ∷ [])) ShapeMismatch

  -- a ready function takes the types of its inputs
  function_takes : (x : AExpr) (f : EvaluatedFunction) → IsFunction x f → (r : IsReady kernels frame table x) → Takes (frame_catalog kernels frame) (root.Function f) r.types r.value_type
  function_takes x f is r = subst (λ (n : Root). Takes (frame_catalog kernels frame) n r.types r.value_type) is r.takes

  pub one_input : (x : AExpr) (f : EvaluatedFunction) → IsFunction x f → IsOfOne f → IsReady kernels frame table x → OneInput x f
  one_input x f is one ready =
      let takes = function_takes x f is ready in
      let (j, e) = types_of_one f one ready.types ready.value_type takes in
      let (a, i, ka) = one_column j ready.types ready.columns e ready.typed in
      let maps = all_of-is (map (rows_at table) (inputs_of x)) ready.columns ready.all ∙ ap (map Some) i in
      let (n, are, h) = single (inputs_of x) a maps in
      record {
        place = n;
        rows = a;
        are = are;
        holds = h;
        takes = subst (λ (z : ValueType). TakesOne f z) (sym ka.value_type) (one_takes f ready.types j ready.value_type takes e);
        case = record { gives = gives_of x ready ∙ (ap (λ (n : Root). own_rows kernels frame n ready.columns) is ∙ ap (function_rows f) i); fault = sym (ap fault_of is) };
      }

  -- what was read of that input
  pub one_read : (x : AExpr) (f : EvaluatedFunction) (m : ℕ) (v : TypedRows) (o : OneInput x f) → slice_get (inputs_of x) 0 ≡ Some m → rows_at table m ≡ Some v → v ≡ o.rows
  one_read x f m v o at h =
      let s : Some o.place ≡ Some m = sym (ap (λ (z : List ℕ). slice_get z 0) o.are) ∙ at in
      let same : o.place ≡ m = cc in
      let t : Some v ≡ Some o.rows = sym h ∙ (ap (rows_at table) (sym same) ∙ o.holds) in cc

  pub one_held : (x : AExpr) (f : EvaluatedFunction) (m : ℕ) (o : OneInput x f) → slice_get (inputs_of x) 0 ≡ Some m → IsSome (rows_at table m)
  one_held x f m o at =
      let s : Some o.place ≡ Some m = sym (ap (λ (z : List ℕ). slice_get z 0) o.are) ∙ at in
      let same : o.place ≡ m = cc in
      ap is_some (ap (rows_at table) (sym same) ∙ o.holds)

  triple :
      (ns : List ℕ) (a b d : TypedRows) → map (rows_at table) ns ≡ Some a ∷ Some b ∷ Some d ∷ [] →
      (p : ℕ) × (q : ℕ) × (r : ℕ) × (ns ≡ p ∷ q ∷ r ∷ []) × (rows_at table p ≡ Some a) × (rows_at table q ≡ Some b) × (rows_at table r ≡ Some d)
  triple [] a b d e = cc
  triple (p ∷ []) a b d e = cc
  triple (p ∷ (q ∷ [])) a b d e = cc
  triple (p ∷ (q ∷ (r ∷ []))) a b d e = (p, q, r, refl, cc, cc, cc)
  triple (p ∷ (q ∷ (r ∷ (s ∷ ns)))) a b d e = cc

  -- a fused operator, and its inputs
  pub record ThreeInputs (x : AExpr) (o : FusedOperator) : Type 0 where
    pub first : ℕ
    pub second : ℕ
    pub third : ℕ
    pub a : TypedRows
    pub b : TypedRows
    pub d : TypedRows
    pub are : inputs_of x ≡ first ∷ second ∷ third ∷ []
    pub holds_a : rows_at table first ≡ Some a
    pub holds_b : rows_at table second ≡ Some b
    pub holds_d : rows_at table third ≡ Some d
    pub integer : IsInteger a.value_type
    pub same : a.value_type ≡ b.value_type
    pub also : b.value_type ≡ d.value_type
    pub case : Case kernels frame table x (fused_rows o a b d) ShapeMismatch

  integer_of : (k : ValueType) → is_integer_value k ≡ true → IsInteger k
  integer_of value_type.Null e = cc
  integer_of value_type.Boolean e = cc
  integer_of value_type.String e = cc
  integer_of value_type.Int8 e = tt
  integer_of value_type.Int16 e = tt
  integer_of value_type.Int32 e = tt
  integer_of value_type.Int64 e = tt
  integer_of value_type.UInt8 e = tt
  integer_of value_type.UInt16 e = tt
  integer_of value_type.UInt32 e = tt
  integer_of value_type.UInt64 e = tt

  pub three_inputs : (x : AExpr) (o : FusedOperator) → IsFunction x (function.Fused o) → IsReady kernels frame table x → ThreeInputs x o
  three_inputs x o is ready =
      let k = ready.value_type in
      let (e, int) = fused-types (frame_catalog kernels frame) o ready.types k (function_takes x (function.Fused o) is ready) in
      let (a, b, d, i, ka, kb, kd) = three_columns k k k ready.types ready.columns e ready.typed in
      let maps = all_of-is (map (rows_at table) (inputs_of x)) ready.columns ready.all ∙ ap (map Some) i in
      let (p, q, r, are, ha, hb, hd) = triple (inputs_of x) a b d maps in
      record {
        first = p;
        second = q;
        third = r;
        a = a;
        b = b;
        d = d;
        are = are;
        holds_a = ha;
        holds_b = hb;
        holds_d = hd;
        integer = subst (λ (z : ValueType). IsInteger z) (sym ka.value_type) (integer_of k int);
        same = ka.value_type ∙ sym kb.value_type;
        also = kb.value_type ∙ sym kd.value_type;
        case = record { gives = gives_of x ready ∙ (ap (λ (n : Root). own_rows kernels frame n ready.columns) is ∙ ap (function_rows (function.Fused o)) i); fault = sym (ap fault_of is) };
      }

  -- the place at an index of a list of three
  pub place_is : (ns ms : List ℕ) (i m n : ℕ) → ns ≡ ms → slice_get ns i ≡ Some m → slice_get ms i ≡ Some n → n ≡ m
  place_is ns ms i m n e at at' = let s : Some n ≡ Some m = sym at' ∙ (ap (λ (z : List ℕ). slice_get z i) (sym e) ∙ at) in cc

  pub rows_at_place : (m n : ℕ) (a : TypedRows) → n ≡ m → rows_at table n ≡ Some a → IsSome (rows_at table m)
  rows_at_place m n a e h = ap is_some (ap (rows_at table) (sym e) ∙ h)

  pub read_at : (m n : ℕ) (a v : TypedRows) → n ≡ m → rows_at table n ≡ Some a → rows_at table m ≡ Some v → a ≡ v
  read_at m n a v e h g = let s : Some a ≡ Some v = sym h ∙ (ap (rows_at table) e ∙ g) in cc

-- a cast to their own type leaves rows as they are
pub own_type : (options : CastOptions) (to : DataType) (a : TypedRows) → value_type_of to ≡ Some a.value_type → Each1 (IsRowOf a.value_type) a.rows → cast_to options to a ≡ Some a
unfolding cast_rows
own_type options to a is typed =
    let same : cast_rows options a.value_type a ≡ Some a = ap (option_map (λ (rows : List Row). record { value_type = a.value_type; rows = rows })) (sym (same_gives options a.value_type a.rows typed)) in
    ap (option_and_then (λ k. cast_rows options k a)) is ∙ same

pub shared_cast :
    (options : CastOptions) (to : DataType) (w : Option TypedRows) (a : TypedRows) (r : Result Rows PlanError) → w ≡ Some a → value_type_of to ≡ Some a.value_type → Each1 (IsRowOf a.value_type) a.rows →
    IfOk r (λ s. w ≡ Some (values_of s)) → IfErr r (λ x. x ≡ OutOfMemory) → GivesOr InvalidCast values_of r (option_and_then (cast_to options to) w)
shared_cast options to w a (Ok s) e same typed h out = sym (ap (option_and_then (cast_to options to)) e ∙ (own_type options to a same typed ∙ (sym e ∙ h)))
shared_cast options to w a (Err f) e same typed h out = inl out

-- what was shared is what the place holds
pub shared_ok : (w o : Option TypedRows) (r : Result Rows PlanError) → w ≡ o → IfOk r (λ a. o ≡ Some (values_of a)) → IfOk r (λ a. w ≡ Some (values_of a))
shared_ok w o (Ok r) same h = same ∙ h
shared_ok w o (Err e) same h = tt

-- what a call gives is what the node gives
pub cast_ok : (w o : Option TypedRows) (r : Result Rows PlanError) → w ≡ o → GivesOr InvalidCast values_of r o → IfOk r (λ a. w ≡ Some (values_of a))
cast_ok w o (Ok r) same h = same ∙ sym h
cast_ok w o (Err e) same h = tt

boolean_only : (k j : ValueType) → boolean_type k ≡ Some j → k ≡ value_type.Boolean
boolean_only value_type.Boolean j e = refl
boolean_only value_type.Null j e = cc
boolean_only value_type.String j e = cc
boolean_only value_type.Int8 j e = cc
boolean_only value_type.Int16 j e = cc
boolean_only value_type.Int32 j e = cc
boolean_only value_type.Int64 j e = cc
boolean_only value_type.UInt8 j e = cc
boolean_only value_type.UInt16 j e = cc
boolean_only value_type.UInt32 j e = cc
boolean_only value_type.UInt64 j e = cc

pub logical_and : (a b : TypedRows) (j : ValueType) → boolean_type a.value_type ≡ Some j → logic_rows op.And a b ≡ logic_rows op.LogicalAnd a b
unfolding logic_rows
logical_and a b j e =
    let k = boolean_only a.value_type j e in
    subst (λ (z : ValueType). broadcast_rows z (logic_row op.And z) a.rows b.rows ≡ broadcast_rows z (logic_row op.LogicalAnd z) a.rows b.rows) (sym k) refl

pub logical_or : (a b : TypedRows) (j : ValueType) → boolean_type a.value_type ≡ Some j → logic_rows op.Or a b ≡ logic_rows op.LogicalOr a b
unfolding logic_rows
logical_or a b j e =
    let k = boolean_only a.value_type j e in
    subst (λ (z : ValueType). broadcast_rows z (logic_row op.Or z) a.rows b.rows ≡ broadcast_rows z (logic_row op.LogicalOr z) a.rows b.rows) (sym k) refl
