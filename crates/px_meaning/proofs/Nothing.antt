-- A checked tree means nothing on a fitting frame exactly where it has a fault.
use Rattle.std.proofs.Common.{◌≡◌, ℕ, List, [], ◌∷◌, map, length, Option, Some, None, Bool, true, false, cond, refl, sym, ◌∙◌, ap, subst}
use Rattle.std.specs.Prelude.{option_map, option_and_then}
use Rattle.std.specs.Simd.Lanes.{zip2}
use Rattle.px_base.specs.declared.error.PlanError.{PlanError}
use Rattle.px_base.specs.declared.error.PlanError.TheVariants.{ShapeMismatch, InvalidCast}
use Rattle.px_semantics.specs.Arithmetic.{arith_row, arith_rows}
use Rattle.px_semantics.specs.Casts.{any_lost, cast_value, cast_row, cast_list, cast_rows, cast_to}
use Rattle.px_semantics.specs.Selections.{broadcast_length_three, select_all, select_rows}
use Rattle.px_semantics.specs.Comparisons.{compare_row, compare_rows}
use Rattle.px_semantics.specs.Frames.{column_named}
use Rattle.px_semantics.specs.Fused.{fused_row, fused_rows, zip3}
use Rattle.px_semantics.specs.Logic.{logic_row, logic_rows}
use Rattle.px_semantics.specs.Rows.{Row, TypedRows, Contents, broadcast_length, stretch, elementwise, broadcast_rows, broadcast_lengths}
use Rattle.px_types.specs.Schemas.{dtype_at}
use Rattle.px_types.specs.ValueTypes.{value_type_of, dtype_of}
use Rattle.px_types.specs.declared.dtype.DataType.{DataType}
use Rattle.px_functions.specs.declared.evaluated.EvaluatedBoolean.TheVariants.{IsNull, IsNotNull, Not}
use Rattle.px_functions.specs.declared.evaluated.EvaluatedFunction.{EvaluatedFunction}
use Rattle.px_functions.specs.declared.evaluated.EvaluatedFunction.TheVariants as function
use Rattle.px_types.specs.declared.function.FusedOperator.{FusedOperator}
use Rattle.px_types.specs.declared.type_parts.CastOptions.{CastOptions}
use Rattle.px_types.specs.declared.type_parts.CastOptions.TheVariants.{Strict, NonStrict, Overflowing}
use Rattle.px_types.specs.declared.operator.Operator.{Operator}
use Rattle.px_types.specs.declared.value_type.ValueType.{ValueType}
use Rattle.px_types.specs.declared.value_type.ValueType.TheVariants as value_type
use Rattle.px_expr.specs.declared.literal.LiteralValue.{LiteralValue}
use Rattle.px_expr.specs.Tree.{Node, Alias, Column, Literal, Binary, Cast, Ternary, Function, Tree, tree, Trees, more, fold_trees}
use Rattle.px_meaning.specs.Faults.{is_joining, lengths, OwnFault, uneven, lossy, HasFault, SomeHasFault, own, of_input, of_first, of_rest}
use Rattle.px_meaning.specs.Mean.{group_rows, binary_rows, of_one, of_three, function_rows, own_rows, all_of, node_rows, rows}
use Rattle.px_meaning.specs.Schema.{Fits}
use Rattle.px_expr.specs.Plan.{Catalog}
use Rattle.px_meaning.specs.Signatures.{OfType, Group, Arithmetic, Comparison, Bitwise, Logical, Fractional, group_of, group_type, literal_type, signature}
use Rattle.px_meaning.proofs.Means.{AreColumns, one_column, two_columns, three_columns, dtype_at-column_named, cast-target, all-typed}
use Rattle.px_meaning.proofs.Types.{Takes, alias-types, literal-types, binary-types, cast-types, not-types, is_null-types, is_not_null-types, negate-types, fused-types, ternary-types}
use Rattle.px_meaning.proofs.Typing.{Has, HaveAll, has, have_none, have_more, column-parts}

abbrev of_type : ValueType → List Row → TypedRows
of_type k rows = record { value_type = k; rows = rows }

mapped-none : {A B : Type 0} (f : A → B) (o : Option A) → option_map f o ≡ None → o ≡ None
mapped-none f None e = refl
mapped-none f (Some a) e = cc

broadcast_rows-none : (k : ValueType) (f : Row → Row → Row) (xs ys : List Row) → broadcast_rows k f xs ys ≡ None → broadcast_length (length xs) (length ys) ≡ None
broadcast_rows-none k f xs ys e = mapped-none (λ n. zip2 f (stretch n xs) (stretch n ys)) (broadcast_length (length xs) (length ys)) (mapped-none (of_type k) (elementwise f xs ys) e)

none-broadcast_rows : (k : ValueType) (f : Row → Row → Row) (xs ys : List Row) → broadcast_length (length xs) (length ys) ≡ None → broadcast_rows k f xs ys ≡ None
none-broadcast_rows k f xs ys e = ap (λ (m : Option ℕ). option_map (of_type k) (option_map (λ n. zip2 f (stretch n xs) (stretch n ys)) m)) e

-- an operator gives nothing exactly where the lengths do not broadcast
group-none : (g : Group) (o : Operator) (a b : TypedRows) (j k : ValueType) → group_type g j ≡ Some k → group_rows g o a b ≡ None → broadcast_length (length a.rows) (length b.rows) ≡ None
unfolding arith_rows compare_rows logic_rows
group-none Arithmetic o a b j k t e = broadcast_rows-none a.value_type (arith_row o a.value_type) a.rows b.rows e
group-none Comparison o a b j k t e = broadcast_rows-none value_type.Boolean (compare_row o) a.rows b.rows e
group-none Bitwise o a b j k t e = broadcast_rows-none a.value_type (logic_row o a.value_type) a.rows b.rows e
group-none Logical o a b j k t e = broadcast_rows-none a.value_type (logic_row o a.value_type) a.rows b.rows e
group-none Fractional o a b j k t e = cc

none-group : (g : Group) (o : Operator) (a b : TypedRows) → broadcast_length (length a.rows) (length b.rows) ≡ None → group_rows g o a b ≡ None
unfolding arith_rows compare_rows logic_rows
none-group Arithmetic o a b e = none-broadcast_rows a.value_type (arith_row o a.value_type) a.rows b.rows e
none-group Comparison o a b e = none-broadcast_rows value_type.Boolean (compare_row o) a.rows b.rows e
none-group Bitwise o a b e = none-broadcast_rows a.value_type (logic_row o a.value_type) a.rows b.rows e
none-group Logical o a b e = none-broadcast_rows a.value_type (logic_row o a.value_type) a.rows b.rows e
none-group Fractional o a b e = refl

select_rows-none : (m a b : TypedRows) → select_rows m a b ≡ None → broadcast_length_three (length m.rows) (length a.rows) (length b.rows) ≡ None
unfolding select_rows
select_rows-none m a b e = mapped-none (λ n. of_type a.value_type (select_all (stretch n m.rows) (stretch n a.rows) (stretch n b.rows))) (broadcast_length_three (length m.rows) (length a.rows) (length b.rows)) e

none-select_rows : (m a b : TypedRows) → broadcast_length_three (length m.rows) (length a.rows) (length b.rows) ≡ None → select_rows m a b ≡ None
unfolding select_rows
none-select_rows m a b e = ap (option_map (λ n. of_type a.value_type (select_all (stretch n m.rows) (stretch n a.rows) (stretch n b.rows)))) e

fused-none : (f : FusedOperator) (a b d : TypedRows) → fused_rows f a b d ≡ None → broadcast_length_three (length a.rows) (length b.rows) (length d.rows) ≡ None
unfolding fused_rows
fused-none f a b d e =
    let make : ℕ → List Row = λ n. zip3 (fused_row f a.value_type) (stretch n a.rows) (stretch n b.rows) (stretch n d.rows) in
    let three : Option ℕ = broadcast_length_three (length a.rows) (length b.rows) (length d.rows) in
    mapped-none make three (mapped-none (of_type a.value_type) (option_map make three) e)

none-fused : (f : FusedOperator) (a b d : TypedRows) → broadcast_length_three (length a.rows) (length b.rows) (length d.rows) ≡ None → fused_rows f a b d ≡ None
unfolding fused_rows
none-fused f a b d e = ap (λ (m : Option ℕ). option_map (of_type a.value_type) (option_map (λ n. zip3 (fused_row f a.value_type) (stretch n a.rows) (stretch n b.rows) (stretch n d.rows)) m)) e

-- a cast gives nothing exactly where it is strict and loses a value
record IsLossy (options : CastOptions) (k : ValueType) (a : TypedRows) : Type 0 where
  strict : options ≡ Strict
  lost : any_lost (cast_value Strict k) a.rows ≡ true

cast-none : (options : CastOptions) (k : ValueType) (a : TypedRows) → cast_rows options k a ≡ None → IsLossy options k a
unfolding cast_rows
cast-none options k a e = go options (mapped-none (of_type k) (cast_list options (cast_value options k) a.rows) e)
  where
    test : (b : Bool) → cond b None (Some (map (cast_row (cast_value Strict k)) a.rows)) ≡ None → b ≡ true
    test true e = refl
    test false e = cc

    go : (options : CastOptions) → cast_list options (cast_value options k) a.rows ≡ None → IsLossy options k a
    go Strict e = record { strict = refl; lost = test (any_lost (cast_value Strict k) a.rows) e }
    go NonStrict e = cc
    go Overflowing e = cc

none-cast : (k : ValueType) (a : TypedRows) → any_lost (cast_value Strict k) a.rows ≡ true → cast_rows Strict k a ≡ None
unfolding cast_rows
none-cast k a e = ap (λ (b : Bool). option_map (of_type k) (cond b None (Some (map (cast_row (cast_value Strict k)) a.rows)))) e

pub all_of-is : (ms : List (Option TypedRows)) (vs : List TypedRows) → all_of ms ≡ Some vs → ms ≡ map Some vs
all_of-is [] vs e = let same : [] ≡ vs = cc in ap (map Some) same
all_of-is (None ∷ ms) vs e = cc
all_of-is (Some a ∷ ms) vs e = go (all_of ms) refl (all_of-is ms) e
  where
    go : (o : Option (List TypedRows)) → all_of ms ≡ o → ((ws : List TypedRows) → all_of ms ≡ Some ws → ms ≡ map Some ws) → option_map (λ as'. a ∷ as') o ≡ Some vs → Some a ∷ ms ≡ map Some vs
    go None f inner e = cc
    go (Some ws) f inner e = let rest = inner ws f in let same : a ∷ ws ≡ vs = cc in ap (λ (z : List (Option TypedRows)). Some a ∷ z) rest ∙ ap (map Some) same

module _ (c : Catalog) (frame : List Contents) (fits : Fits frame c.schema) where
  -- a fault of a node whose inputs mean these columns
  abbrev pub FaultOver : Node → List TypedRows → Type 0
  FaultOver n vs = (f : PlanError) × ((ms : List (Option TypedRows)) → all_of ms ≡ Some vs → OwnFault c.kernels frame n ms f)

  uneven-over : (n : Node) (vs : List TypedRows) → is_joining n ≡ true → broadcast_lengths (lengths vs) ≡ None → FaultOver n vs
  uneven-over n vs joins e = (ShapeMismatch, λ ms all. uneven joins (vs, all, e))

  -- where a node gives nothing over columns of types that it takes, it has a fault
  abbrev pub Explains : Node → Type 0
  Explains n = (ks : List ValueType) (k : ValueType) (vs : List TypedRows) → Takes c n ks k → AreColumns ks vs → own_rows c.kernels frame n vs ≡ None → FaultOver n vs

  explains-column : (m : List ℕ) → Explains (Column m)
  explains-column m ks k vs t h e =
      let p = column-parts c m (map OfType ks) (record { inputs = ks; result = k }) t in
      let absent = mapped-none (λ (x : Contents). x.values) (column_named frame m) e in
      let at : dtype_at c.schema m ≡ None = subst (λ (s : _). dtype_at s m ≡ None) fits.same (dtype_at-column_named frame m ∙ ap (option_map (λ (x : Contents). dtype_of x.values.value_type)) absent) in
      let there : dtype_at c.schema m ≡ Some p.dtype = p.at in
      cc

  explains-literal : (w : LiteralValue) → Explains (Literal w)
  explains-literal w ks k vs t h e =
      let (f, g) = literal-types c w ks k t in
      let i : None ≡ Some k = sym (ap literal_type e) ∙ g in
      cc

  explains-alias : (m : List ℕ) → Explains (Alias m)
  explains-alias m ks k vs t h e =
      let (a, f, ha) = one_column k ks vs (alias-types c m ks k t) h in
      let i : Some a ≡ None = sym (ap (of_one Some) f) ∙ e in
      cc

  explains-binary : (o : Operator) → Explains (Binary o)
  explains-binary o ks k vs t h e =
      let (j, f, g) = binary-types c o ks k t in
      let (a, b, i, ha, hb) = two_columns j j ks vs f h in
      let apart = group-none (group_of o) o a b j k g (sym (ap (binary_rows o) i) ∙ e) in
      uneven-over (Binary o) vs refl (ap (λ (z : List TypedRows). broadcast_lengths (lengths z)) i ∙ apart)

  explains-cast : (dtype : DataType) (options : CastOptions) → Explains (Cast dtype options)
  explains-cast dtype options ks k vs t h e =
      let (j, f, g) = cast-types c dtype options ks k t in
      let (a, i, ha) = one_column j ks vs f h in
      let to = cast-target (value_type_of dtype) j k g in
      let nothing : cast_rows options k a ≡ None = sym (ap (option_and_then (λ l. cast_rows options l a)) to) ∙ (sym (ap (of_one (cast_to options dtype)) i) ∙ e) in
      let lossy_one = cast-none options k a nothing in (
        InvalidCast,
        λ ms all.
            subst (λ (x : CastOptions). OwnFault c.kernels frame (Cast dtype x) ms InvalidCast) (sym lossy_one.strict)
            (lossy k to (a, all_of-is ms vs all ∙ ap (map Some) i, lossy_one.lost)),
      )

  explains-ternary : Explains Ternary
  explains-ternary ks k vs t h e =
      let (m, a, b, f, hm, ha, hb) = three_columns value_type.Boolean k k ks vs (ternary-types c ks k t) h in
      let apart = select_rows-none m a b (sym (ap (of_three select_rows) f) ∙ e) in
      uneven-over Ternary vs refl (ap (λ (z : List TypedRows). broadcast_lengths (lengths z)) f ∙ apart)

  explains-function : (f : EvaluatedFunction) → Explains (Function f)
  explains-function (function.Boolean IsNull) ks k vs t h e =
      let (j, f, g) = is_null-types c ks k t in
      let (a, i, ha) = one_column j ks vs f h in
      let no = sym (ap (function_rows (function.Boolean IsNull)) i) ∙ e in cc
  explains-function (function.Boolean IsNotNull) ks k vs t h e =
      let (j, f, g) = is_not_null-types c ks k t in
      let (a, i, ha) = one_column j ks vs f h in
      let no = sym (ap (function_rows (function.Boolean IsNotNull)) i) ∙ e in cc
  explains-function (function.Boolean Not) ks k vs t h e =
      let (f, g) = not-types c ks k t in
      let (a, i, ha) = one_column k ks vs f h in
      let no = sym (ap (function_rows (function.Boolean Not)) i) ∙ e in cc
  explains-function function.Negate ks k vs t h e =
      let (f, g) = negate-types c ks k t in
      let (a, i, ha) = one_column k ks vs f h in
      let no = sym (ap (function_rows function.Negate) i) ∙ e in cc
  explains-function (function.Fused o) ks k vs t h e =
      let (f, g) = fused-types c o ks k t in
      let (x, y, z, i, hx, hy, hz) = three_columns k k k ks vs f h in
      let apart = fused-none o x y z (sym (ap (function_rows (function.Fused o)) i) ∙ e) in
      uneven-over (Function (function.Fused o)) vs refl (ap (λ (z : List TypedRows). broadcast_lengths (lengths z)) i ∙ apart)

  pub explains : (n : Node) → Explains n
  unfolding signature
  explains (Alias m) = explains-alias m
  explains (Column m) = explains-column m
  explains (Literal w) = explains-literal w
  explains (Binary o) = explains-binary o
  explains (Cast dtype options) = explains-cast dtype options
  explains Ternary = explains-ternary
  explains (Function f) = explains-function f
  explains _ = λ ks k vs t h e. cc

  -- a node with a fault gives nothing over columns of types that it takes
  joining-nothing : (n : Node) (ks : List ValueType) (k : ValueType) (vs : List TypedRows) → is_joining n ≡ true → Takes c n ks k → AreColumns ks vs → broadcast_lengths (lengths vs) ≡ None → own_rows c.kernels frame n vs ≡ None
  joining-nothing (Binary o) ks k vs joins t h e =
      let (j, f, g) = binary-types c o ks k t in
      let (a, b, i, ha, hb) = two_columns j j ks vs f h in
      ap (binary_rows o) i ∙ none-group (group_of o) o a b (sym (ap (λ (z : List TypedRows). broadcast_lengths (lengths z)) i) ∙ e)
  joining-nothing Ternary ks k vs joins t h e =
      let (m, a, b, f, hm, ha, hb) = three_columns value_type.Boolean k k ks vs (ternary-types c ks k t) h in
      ap (of_three select_rows) f ∙ none-select_rows m a b (sym (ap (λ (z : List TypedRows). broadcast_lengths (lengths z)) f) ∙ e)
  joining-nothing (Function (function.Fused o)) ks k vs joins t h e =
      let (f, g) = fused-types c o ks k t in
      let (x, y, z, i, hx, hy, hz) = three_columns k k k ks vs f h in
      ap (function_rows (function.Fused o)) i ∙ none-fused o x y z (sym (ap (λ (z : List TypedRows). broadcast_lengths (lengths z)) i) ∙ e)
  joining-nothing (Function (function.Boolean f)) ks k vs joins t h e = cc
  joining-nothing (Function function.Negate) ks k vs joins t h e = cc
  joining-nothing _ ks k vs joins t h e = cc

  fault-nothing-over : (n : Node) (ks : List ValueType) (k : ValueType) (ms : List (Option TypedRows)) (vs : List TypedRows) (f : PlanError) → OwnFault c.kernels frame n ms f → all_of ms ≡ Some vs → Takes c n ks k → AreColumns ks vs → own_rows c.kernels frame n vs ≡ None
  fault-nothing-over n ks k ms vs _ (uneven joins (cols, e, apart)) all t h =
      let same : Some cols ≡ Some vs = sym e ∙ all in
      let is : cols ≡ vs = cc in
      joining-nothing n ks k vs joins t h (subst (λ (z : List TypedRows). broadcast_lengths (lengths z) ≡ None) is apart)
  fault-nothing-over _ ks k ms vs _ (lossy {dtype} to e (a, q, lost)) all t h =
      let same : Some (a ∷ []) ≡ Some vs = sym (ap all_of q) ∙ all in
      let is : a ∷ [] ≡ vs = cc in
      ap (of_one (cast_to Strict dtype)) (sym is) ∙ (ap (option_and_then (λ l. cast_rows Strict l a)) e ∙ none-cast to a lost)

  node-fault :
      (n : Node) (us : Trees) (ks : List ValueType) (k : ValueType) → Takes c n ks k → ((vs : List TypedRows) → all_of (fold_trees (node_rows c.kernels frame) us) ≡ Some vs → AreColumns ks vs) →
      (all_of (fold_trees (node_rows c.kernels frame) us) ≡ None → (f : PlanError) × SomeHasFault c.kernels frame us f) →
      (o : Option (List TypedRows)) → all_of (fold_trees (node_rows c.kernels frame) us) ≡ o → option_and_then (own_rows c.kernels frame n) o ≡ None → (f : PlanError) × HasFault c.kernels frame (tree n us) f
  node-fault n us ks k takes columns inner None g e = let (f, h) = inner g in (f, of_input h)
  node-fault n us ks k takes columns inner (Some vs) g e =
      let (f, h) = explains n ks k vs takes (columns vs g) e in
      (f, own (h (fold_trees (node_rows c.kernels frame) us) g))

  input-fault :
      (u : Tree) (us : Trees) → (rows c.kernels frame u ≡ None → (f : PlanError) × HasFault c.kernels frame u f) →
      (all_of (fold_trees (node_rows c.kernels frame) us) ≡ None → (f : PlanError) × SomeHasFault c.kernels frame us f) →
      (o : Option TypedRows) → rows c.kernels frame u ≡ o → option_and_then (λ a. option_map (λ as'. a ∷ as') (all_of (fold_trees (node_rows c.kernels frame) us))) o ≡ None →
      (f : PlanError) × SomeHasFault c.kernels frame (more u us) f
  input-fault u us first rest None g e = let (f, h) = first g in (f, of_first h)
  input-fault u us first rest (Some a) g e = let (f, h) = rest (mapped-none (λ as'. a ∷ as') (all_of (fold_trees (node_rows c.kernels frame) us)) e) in (f, of_rest h)

  nowhere : (o : Option TypedRows) → option_and_then (λ a. option_map (λ as'. a ∷ as') None) o ≡ None
  nowhere None = refl
  nowhere (Some a) = refl

  own-nothing :
      (n : Node) (us : Trees) (ks : List ValueType) (k : ValueType) → Takes c n ks k → (f : PlanError) →
      ((vs : List TypedRows) → all_of (fold_trees (node_rows c.kernels frame) us) ≡ Some vs → AreColumns ks vs) →
      OwnFault c.kernels frame n (fold_trees (node_rows c.kernels frame) us) f → (o : Option (List TypedRows)) → all_of (fold_trees (node_rows c.kernels frame) us) ≡ o →
      rows c.kernels frame (tree n us) ≡ None
  own-nothing n us ks k takes f columns o None g = ap (option_and_then (own_rows c.kernels frame n)) g
  own-nothing n us ks k takes f columns o (Some vs) g =
      ap (option_and_then (own_rows c.kernels frame n)) g ∙ fault-nothing-over n ks k (fold_trees (node_rows c.kernels frame) us) vs f o g takes (columns vs g)

  mutual
    -- a checked tree that means nothing has a fault
    pub nothing-fault : (t : Tree) (k : ValueType) → Has c t k → rows c.kernels frame t ≡ None → (f : PlanError) × HasFault c.kernels frame t f
    nothing-fault _ k (has {n} {us} {ks} free all takes) e =
        node-fault n us ks k takes (λ vs g. all-typed c frame fits us ks all vs g) (some-fault us ks all) (all_of (fold_trees (node_rows c.kernels frame) us)) refl e

    some-fault : (us : Trees) (ks : List ValueType) → HaveAll c us ks → all_of (fold_trees (node_rows c.kernels frame) us) ≡ None → (f : PlanError) × SomeHasFault c.kernels frame us f
    some-fault _ _ have_none e = cc
    some-fault _ _ (have_more {u} {us} {k} {ks} h all) e = input-fault u us (nothing-fault u k h) (some-fault us ks all) (rows c.kernels frame u) refl e

  mutual
    -- a checked tree with a fault means nothing
    pub fault-nothing : (t : Tree) (k : ValueType) → Has c t k → (f : PlanError) → HasFault c.kernels frame t f → rows c.kernels frame t ≡ None
    fault-nothing _ k (has {n} {us} {ks} free all takes) f (own o) = own-nothing n us ks k takes f (λ vs g. all-typed c frame fits us ks all vs g) o (all_of (fold_trees (node_rows c.kernels frame) us)) refl
    fault-nothing _ k (has {n} {us} {ks} free all takes) f (of_input h) = ap (option_and_then (own_rows c.kernels frame n)) (some-nothing us ks all f h)

    some-nothing : (us : Trees) (ks : List ValueType) → HaveAll c us ks → (f : PlanError) → SomeHasFault c.kernels frame us f → all_of (fold_trees (node_rows c.kernels frame) us) ≡ None
    some-nothing _ _ have_none f h = elim h [ ]
    some-nothing _ _ (have_more {u} {us} {k} {ks} h all) f (of_first g) =
        ap (option_and_then (λ a. option_map (λ as'. a ∷ as') (all_of (fold_trees (node_rows c.kernels frame) us)))) (fault-nothing u k h f g)
    some-nothing _ _ (have_more {u} {us} {k} {ks} h all) f (of_rest g) =
        ap (λ (o : Option (List TypedRows)). option_and_then (λ a. option_map (λ as'. a ∷ as') o) (rows c.kernels frame u)) (some-nothing us ks all f g) ∙ nowhere (rows c.kernels frame u)
