-- A checked tree that means something on a fitting frame means a column of its type.
use Rattle.std.proofs.Common.{All, ◌≡◌, ◌&&◌, ℕ, List, [], ◌∷◌, map, Option, Some, None, Bool, true, false, cond, refl, sym, ◌∙◌, ap, subst}
use Rattle.std.specs.Prelude.{option_map, option_and_then, not}
use Rattle.std.specs.Cmp.{both_ways}
use Rattle.std.specs.Str.{bytes_eq}
use Rattle.std.proofs.lemmas.List.Elements.{All-head, All-tail}
use Rattle.std.proofs.lemmas.Slice.Eq.{bytes_eq-Decides}
use Rattle.px_types.proofs.CommonTypes.{value_type_of-dtype_of}
use Rattle.px_semantics.specs.Arithmetic.{arith_row, arith_rows, negate_rows}
use Rattle.px_semantics.specs.Casts.{cast_to, cast_rows}
use Rattle.px_semantics.specs.Comparisons.{compare_row, compare_rows}
use Rattle.px_semantics.specs.Selections.{select_rows}
use Rattle.px_types.specs.Classes.{is_integer_value, is_boolean_or_integer, is_unsigned_value}
use Rattle.px_semantics.specs.Frames.{column_named}
use Rattle.px_semantics.specs.Fused.{fused_row, fused_rows}
use Rattle.px_semantics.specs.Logic.{logic_row, logic_rows, inverse_row, null_row, value_row}
use Rattle.px_semantics.specs.Rows.{TypedRows, Contents}
use Rattle.px_types.specs.Schemas.{dtype_at}
use Rattle.px_types.specs.ValueTypes.{dtype_of, value_type_of}
use Rattle.px_types.specs.declared.dtype.DataType.{DataType}
use Rattle.px_types.specs.declared.type_parts.CastOptions.{CastOptions}
use Rattle.px_functions.specs.declared.evaluated.EvaluatedBoolean.TheVariants.{IsNull, IsNotNull, Not}
use Rattle.px_functions.specs.declared.evaluated.EvaluatedFunction.{EvaluatedFunction}
use Rattle.px_functions.specs.declared.evaluated.EvaluatedFunction.TheVariants as function
use Rattle.px_types.specs.declared.operator.Operator.{Operator}
use Rattle.px_types.specs.declared.value_type.ValueType.{ValueType}
use Rattle.px_types.specs.declared.value_type.ValueType.TheVariants as value_type
use Rattle.px_expr.specs.declared.literal.LiteralValue.{LiteralValue}
use Rattle.px_expr.specs.Tree.{Node, Alias, Column, Literal, Binary, Cast, Ternary, Function, Tree, Trees, fold_trees}
use Rattle.px_semantics.specs.Columns.{IsColumn, is_column}
use Rattle.px_meaning.specs.Mean.{group_rows, binary_rows, of_one, of_three, function_rows, own_rows, all_of, node_rows, rows}
use Rattle.px_meaning.specs.Schema.{schema_of, Fits}
use Rattle.px_expr.specs.Plan.{Catalog}
use Rattle.px_meaning.specs.Signatures.{OfType, Signature, Group, Arithmetic, Comparison, Bitwise, Logical, Fractional, group_of, group_type, literal_type, cast_type}
use Rattle.px_meaning.proofs.Answers.{given-parts}
use Rattle.px_meaning.proofs.ColumnTypes.{IsColumnOf, broadcast_rows-typed, map-column, three-column, select_rows-typed, cast_rows-typed}
use Rattle.px_semantics.proofs.ColumnLemmas.{is_column-column}
use Rattle.px_meaning.proofs.RowTypes.{arith_row-typed, compare_row-typed, logic_row-typed, negate_row-typed, inverse_row-typed, null_row-typed, value_row-typed, fused_row-typed, cast_row-typed}
use Rattle.px_meaning.proofs.Shapes.{and_then-parts, map-parts}
use Rattle.px_meaning.proofs.Types.{Takes, alias-types, literal-types, binary-types, cast-types, not-types, is_null-types, is_not_null-types, negate-types, fused-types, ternary-types}
use Rattle.px_meaning.proofs.Typing.{Has, HaveAll, has, have_none, have_more, column-parts}

bytes_eq-comm : (xs ys : List ℕ) → bytes_eq xs ys ≡ bytes_eq ys xs
bytes_eq-comm xs ys =
    let a = bytes_eq-Decides xs ys in
    let b = bytes_eq-Decides ys xs in
    both_ways (bytes_eq xs ys) (bytes_eq ys xs) (λ e. b.1 (sym (a.0 e))) (λ e. a.1 (sym (b.0 e)))

-- the schema gives the type of the first column of the name
pub dtype_at-column_named : (frame : List Contents) (name : List ℕ) → dtype_at (schema_of frame) name ≡ option_map (λ (c : Contents). dtype_of c.values.value_type) (column_named frame name)
dtype_at-column_named [] name = refl
dtype_at-column_named (c ∷ cs) name = go (bytes_eq c.name name) (bytes_eq name c.name) (bytes_eq-comm c.name name) (dtype_at-column_named cs name)
  where
    go :
        (a b : Bool) → a ≡ b → dtype_at (schema_of cs) name ≡ option_map (λ (c : Contents). dtype_of c.values.value_type) (column_named cs name) →
        cond b (Some (dtype_of c.values.value_type)) (dtype_at (schema_of cs) name) ≡ option_map (λ (c : Contents). dtype_of c.values.value_type) (cond a (Some c) (column_named cs name))
    go true true e h = refl
    go false false e h = h
    go true false e h = cc
    go false true e h = cc

pub column_named-all : (P : Contents → Type 0) (frame : List Contents) (name : List ℕ) (c : Contents) → All P frame → column_named frame name ≡ Some c → P c
column_named-all P [] name c all e = cc
column_named-all P (d ∷ ds) name c all e = go (bytes_eq d.name name) (λ f. column_named-all P ds name c (All-tail P d ds all) f) e
  where
    go : (b : Bool) → (column_named ds name ≡ Some c → P c) → cond b (Some d) (column_named ds name) ≡ Some c → P c
    go true rest f = let same : d ≡ c = cc in subst P same (All-head P d ds all)
    go false rest f = rest f

-- columns of these types
pub data AreColumns : List ValueType → List TypedRows → Type 0 where
  no_columns : AreColumns [] []
  columns : {k : ValueType} {ks : List ValueType} {a : TypedRows} {as' : List TypedRows} → IsColumnOf k a → AreColumns ks as' → AreColumns (k ∷ ks) (a ∷ as')

pub one_column : (k : ValueType) (ks : List ValueType) (vs : List TypedRows) → ks ≡ k ∷ [] → AreColumns ks vs → (a : TypedRows) × (vs ≡ a ∷ []) × IsColumnOf k a
one_column k ks vs e h = go ks vs e h
  where
    go : (ks : List ValueType) (vs : List TypedRows) → ks ≡ k ∷ [] → AreColumns ks vs → (a : TypedRows) × (vs ≡ a ∷ []) × IsColumnOf k a
    go _ _ e no_columns = cc
    go _ _ e (columns {k = j} {a} h no_columns) = let same : j ≡ k = cc in (a, refl, subst (λ (z : ValueType). IsColumnOf z a) same h)
    go _ _ e (columns h (columns i all)) = cc

pub two_columns :
    (j k : ValueType) (ks : List ValueType) (vs : List TypedRows) → ks ≡ j ∷ k ∷ [] → AreColumns ks vs → (a : TypedRows) × (b : TypedRows) × (vs ≡ a ∷ b ∷ []) × IsColumnOf j a × IsColumnOf k b
two_columns j k ks vs e h = go ks vs e h
  where
    go : (ks : List ValueType) (vs : List TypedRows) → ks ≡ j ∷ k ∷ [] → AreColumns ks vs → (a : TypedRows) × (b : TypedRows) × (vs ≡ a ∷ b ∷ []) × IsColumnOf j a × IsColumnOf k b
    go _ _ e no_columns = cc
    go _ _ e (columns {k = i} {ks} {a} {as' = bs} h all) =
        let first : i ≡ j = cc in
        let rest : ks ≡ k ∷ [] = cc in
        let (b, f, g) = one_column k ks bs rest all in
        (a, b, ap (λ (z : List TypedRows). a ∷ z) f, subst (λ (z : ValueType). IsColumnOf z a) first h, g)

pub three_columns :
    (i j k : ValueType) (ks : List ValueType) (vs : List TypedRows) → ks ≡ i ∷ j ∷ k ∷ [] → AreColumns ks vs →
    (a : TypedRows) × (b : TypedRows) × (d : TypedRows) × (vs ≡ a ∷ b ∷ d ∷ []) × IsColumnOf i a × IsColumnOf j b × IsColumnOf k d
three_columns i j k ks vs e h = go ks vs e h
  where
    go :
        (ks : List ValueType) (vs : List TypedRows) → ks ≡ i ∷ j ∷ k ∷ [] → AreColumns ks vs →
        (a : TypedRows) × (b : TypedRows) × (d : TypedRows) × (vs ≡ a ∷ b ∷ d ∷ []) × IsColumnOf i a × IsColumnOf j b × IsColumnOf k d
    go _ _ e no_columns = cc
    go _ _ e (columns {k = l} {ks} {a} {as' = bs} h all) =
        let first : l ≡ i = cc in
        let rest : ks ≡ j ∷ k ∷ [] = cc in
        let (b, d, f, g, m) = two_columns j k ks bs rest all in
        (a, b, d, ap (λ (z : List TypedRows). a ∷ z) f, subst (λ (z : ValueType). IsColumnOf z a) first h, g, m)

no_column : (ks : List ValueType) (vs : List TypedRows) → ks ≡ [] → AreColumns ks vs → vs ≡ []
no_column _ _ e no_columns = refl
no_column _ _ e (columns h all) = cc

-- the kind of what is made of a column by its own kind
at_type : (k : ValueType) (a : TypedRows) (f : ValueType → TypedRows) → a.value_type ≡ k → IsColumnOf k (f k) → IsColumnOf k (f a.value_type)
at_type k a f e h = subst (λ (j : ValueType). IsColumnOf k (f j)) (sym e) h

module _ (j : ValueType) (a b v : TypedRows) (ha : IsColumnOf j a) (hb : IsColumnOf j b) where
  arith-typed : (o : Operator) → is_integer_value j ≡ true → arith_rows o a b ≡ Some v → IsColumnOf j v
  unfolding arith_rows
  arith-typed o i e = subst (λ (k : ValueType). IsColumnOf k v) ha.value_type
      (broadcast_rows-typed a.value_type a.value_type a.value_type (arith_row o a.value_type) (arith_row-typed o a.value_type (subst (λ (k : ValueType). is_integer_value k ≡ true) (sym ha.value_type) i)) a b v
      (record { value_type = refl; column = ha.column }) (record { value_type = hb.value_type ∙ sym ha.value_type; column = hb.column }) e)

  compare-typed : (o : Operator) → compare_rows o a b ≡ Some v → IsColumnOf value_type.Boolean v
  unfolding compare_rows
  compare-typed o e = broadcast_rows-typed j j value_type.Boolean (compare_row o) (λ x y p q. compare_row-typed o x y) a b v ha hb e

  logic-typed : (o : Operator) → logic_rows o a b ≡ Some v → IsColumnOf j v
  unfolding logic_rows
  logic-typed o e = subst (λ (k : ValueType). IsColumnOf k v) ha.value_type
      (broadcast_rows-typed a.value_type a.value_type a.value_type (logic_row o a.value_type) (logic_row-typed o a.value_type) a b v
      (record { value_type = refl; column = ha.column }) (record { value_type = hb.value_type ∙ sym ha.value_type; column = hb.column }) e)

  -- an operator of a group on two columns of a type gives a column of the group's type
  pub group-typed : (g : Group) (o : Operator) (k : ValueType) → group_type g j ≡ Some k → group_rows g o a b ≡ Some v → IsColumnOf k v
  group-typed Arithmetic o k t e = let (i, same) = given-parts (is_integer_value j) j k t in subst (λ (z : ValueType). IsColumnOf z v) same (arith-typed o i e)
  group-typed Comparison o k t e = let same : value_type.Boolean ≡ k = cc in subst (λ (z : ValueType). IsColumnOf z v) same (compare-typed o e)
  group-typed Bitwise o k t e = let (i, same) = given-parts (is_boolean_or_integer j) j k t in subst (λ (z : ValueType). IsColumnOf z v) same (logic-typed o e)
  group-typed Logical o k t e = let (i, same) = given-parts _ j k t in subst (λ (z : ValueType). IsColumnOf z v) same (logic-typed o e)
  group-typed Fractional o k t e = cc

cast_to-typed : (dtype : DataType) (options : CastOptions) (j k : ValueType) (a v : TypedRows) → value_type_of dtype ≡ Some k → IsColumnOf j a → cast_to options dtype a ≡ Some v → IsColumnOf k v
cast_to-typed dtype options j k a v t ha e =
    cast_rows-typed options j k (cast_row-typed options k) a v ha (sym (ap (option_and_then (λ l. cast_rows options l a)) t) ∙ e)

pub cast-target : (o : Option ValueType) (j k : ValueType) → cast_type o j ≡ Some k → o ≡ Some k
cast-target (Some to) j k e = let (test, same) = given-parts _ to k e in ap Some same
cast-target None j k e = cc

module _ (c : Catalog) (frame : List Contents) (fits : Fits frame c.schema) where
  -- what a node means over columns of types that it takes is a column of its type
  abbrev IsTypedNode : Node → Type 0
  IsTypedNode n =
      (ks : List ValueType) (k : ValueType) (vs : List TypedRows) (v : TypedRows) → Takes c n ks k → AreColumns ks vs → own_rows c.kernels frame n vs ≡ Some v → IsColumnOf k v

  column-typed : (m : List ℕ) → IsTypedNode (Column m)
  column-typed m ks k vs v t h e =
      let p = column-parts c m (map OfType ks) (record { inputs = ks; result = k }) t in
      let (d, f, g) = map-parts (column_named frame m) (λ (x : Contents). x.values) v e in
      let at : dtype_at c.schema m ≡ Some (dtype_of d.values.value_type) =
      subst (λ (s : _). dtype_at s m ≡ Some (dtype_of d.values.value_type)) fits.same (dtype_at-column_named frame m ∙ ap (option_map (λ (x : Contents). dtype_of x.values.value_type)) f) in
      let dtypes : dtype_of d.values.value_type ≡ p.dtype = some_is (sym at ∙ p.at) in
      let types : d.values.value_type ≡ p.value_type = some_is (sym (value_type_of-dtype_of d.values.value_type) ∙ ap value_type_of dtypes ∙ p.of) in
      let result : k ≡ p.value_type = ap (λ (s : Signature). s.result) p.whole in
      let whole : IsColumn d.values = column_named-all (λ (x : Contents). IsColumn x.values) frame m d fits.frame.columns f in
      subst (IsColumnOf k) g (record { value_type = types ∙ sym result; column = whole })
    where
      some_is : {A : Type 0} {x y : A} → Some x ≡ Some y → x ≡ y
      some_is e = cc

  literal-typed : (w : LiteralValue) → IsTypedNode (Literal w)
  literal-typed w ks k vs v t h e =
      let (f, g) = literal-types c w ks k t in
      let i : literal_type (Some v) ≡ Some k = sym (ap literal_type e) ∙ g in
      let (test, same) = given-parts (is_column v) v.value_type k i in
      record { value_type = same; column = is_column-column v test }

  alias-typed : (m : List ℕ) → IsTypedNode (Alias m)
  alias-typed m ks k vs v t h e =
      let (a, f, ha) = one_column k ks vs (alias-types c m ks k t) h in
      let same : Some a ≡ Some v = sym (ap (of_one Some) f) ∙ e in
      let is : a ≡ v = cc in
      subst (IsColumnOf k) is ha

  binary-typed : (o : Operator) → IsTypedNode (Binary o)
  binary-typed o ks k vs v t h e =
      let (j, f, g) = binary-types c o ks k t in
      let (a, b, i, ha, hb) = two_columns j j ks vs f h in
      group-typed j a b v ha hb (group_of o) o k g (sym (ap (binary_rows o) i) ∙ e)

  cast-typed : (dtype : DataType) (options : CastOptions) → IsTypedNode (Cast dtype options)
  cast-typed dtype options ks k vs v t h e =
      let (j, f, g) = cast-types c dtype options ks k t in
      let (a, i, ha) = one_column j ks vs f h in
      cast_to-typed dtype options j k a v (cast-target (value_type_of dtype) j k g) ha (sym (ap (of_one (cast_to options dtype)) i) ∙ e)

  ternary-typed : IsTypedNode Ternary
  ternary-typed ks k vs v t h e =
      let (m, a, b, f, hm, ha, hb) = three_columns value_type.Boolean k k ks vs (ternary-types c ks k t) h in
      select_rows-typed k m a b v hm ha hb (sym (ap (of_three select_rows) f) ∙ e)

  function-typed : (f : EvaluatedFunction) → IsTypedNode (Function f)
  unfolding fused_rows
  function-typed (function.Boolean IsNull) ks k vs v t h e =
      let (j, f, g) = is_null-types c ks k t in
      let (a, i, ha) = one_column j ks vs f h in
      let made : TypedRows = record { value_type = value_type.Boolean; rows = map null_row a.rows } in
      let same : Some made ≡ Some v = sym (ap (function_rows (function.Boolean IsNull)) i) ∙ e in
      let is : made ≡ v = cc in
      subst (IsColumnOf k) is (subst (λ (z : ValueType). IsColumnOf z made) (sym g) (map-column j value_type.Boolean null_row (λ r p. null_row-typed r) a ha))
  function-typed (function.Boolean IsNotNull) ks k vs v t h e =
      let (j, f, g) = is_not_null-types c ks k t in
      let (a, i, ha) = one_column j ks vs f h in
      let made : TypedRows = record { value_type = value_type.Boolean; rows = map value_row a.rows } in
      let same : Some made ≡ Some v = sym (ap (function_rows (function.Boolean IsNotNull)) i) ∙ e in
      let is : made ≡ v = cc in
      subst (IsColumnOf k) is (subst (λ (z : ValueType). IsColumnOf z made) (sym g) (map-column j value_type.Boolean value_row (λ r p. value_row-typed r) a ha))
  function-typed (function.Boolean Not) ks k vs v t h e =
      let (f, g) = not-types c ks k t in
      let (a, i, ha) = one_column k ks vs f h in
      let made : ValueType → TypedRows = λ j. record { value_type = j; rows = map (inverse_row j) a.rows } in
      let same : Some (made a.value_type) ≡ Some v = sym (ap (function_rows (function.Boolean Not)) i) ∙ e in
      let is : made a.value_type ≡ v = cc in
      subst (IsColumnOf k) is (at_type k a made ha.value_type (map-column k k (inverse_row k) (inverse_row-typed k) a ha))
  function-typed function.Negate ks k vs v t h e =
      let (f, g) = negate-types c ks k t in
      let (a, i, ha) = one_column k ks vs f h in
      let same : Some (negate_rows a) ≡ Some v = sym (ap (function_rows function.Negate) i) ∙ e in
      let is : negate_rows a ≡ v = cc in
      let integer : is_integer_value a.value_type ≡ true = subst (λ (z : ValueType). is_integer_value z ≡ true) (sym ha.value_type) (first_true (is_integer_value k) (not (is_unsigned_value k)) g) in
      subst (IsColumnOf k) is (subst (λ (z : ValueType). IsColumnOf z (negate_rows a)) ha.value_type
      (map-column a.value_type a.value_type _ (negate_row-typed a.value_type integer) a (record { value_type = refl; column = ha.column })))
    where
      first_true : (p q : Bool) → (p && q) ≡ true → p ≡ true
      first_true true q e = refl
      first_true false q e = cc
  function-typed (function.Fused o) ks k vs v t h e =
      let (f, g) = fused-types c o ks k t in
      let (x, y, z, i, hx, hy, hz) = three_columns k k k ks vs f h in
      let integer : is_integer_value x.value_type ≡ true = subst (λ (l : ValueType). is_integer_value l ≡ true) (sym hx.value_type) g in
      subst (λ (l : ValueType). IsColumnOf l v) hx.value_type
      (three-column k k k x.value_type (fused_row o x.value_type) (λ r s w. fused_row-typed o x.value_type integer r s w) x y z v hx hy hz (sym (ap (function_rows (function.Fused o)) i) ∙ e))

  pub own-typed : (n : Node) → IsTypedNode n
  own-typed (Alias m) = alias-typed m
  own-typed (Column m) = column-typed m
  own-typed (Literal w) = literal-typed w
  own-typed (Binary o) = binary-typed o
  own-typed (Cast dtype options) = cast-typed dtype options
  own-typed Ternary = ternary-typed
  own-typed (Function f) = function-typed f
  own-typed _ = λ ks k vs v t h e. cc

  mutual
    -- a checked tree that means something means a column of its type
    pub rows-typed : (t : Tree) (k : ValueType) → Has c t k → (v : TypedRows) → rows c.kernels frame t ≡ Some v → IsColumnOf k v
    rows-typed _ k (has {n} {us} {ks} free all takes) v e =
        let (vs, f, g) = and_then-parts (all_of (fold_trees (node_rows c.kernels frame) us)) (own_rows c.kernels frame n) v e in
        own-typed n ks k vs v takes (all-typed us ks all vs f) g

    pub all-typed : (us : Trees) (ks : List ValueType) → HaveAll c us ks → (vs : List TypedRows) → all_of (fold_trees (node_rows c.kernels frame) us) ≡ Some vs → AreColumns ks vs
    all-typed _ _ have_none vs e = let same : [] ≡ vs = cc in subst (AreColumns []) same no_columns
    all-typed _ _ (have_more {u} {us} {k} {ks} h all) vs e =
        let (v, f, g) = and_then-parts (rows c.kernels frame u) (λ a. option_map (λ as'. a ∷ as') (all_of (fold_trees (node_rows c.kernels frame) us))) vs e in
        let (ws, i, j) = map-parts (all_of (fold_trees (node_rows c.kernels frame) us)) (λ as'. v ∷ as') vs g in
        subst (AreColumns (k ∷ ks)) j (columns (rows-typed u k h v f) (all-typed us ks all ws i))
