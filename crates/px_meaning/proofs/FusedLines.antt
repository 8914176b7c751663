-- What the rewrites of fused arithmetic keep.
use Rattle.std.proofs.Common.{◌≡◌, ℕ, List, [], ◌∷◌, length, Option, Some, None, true, refl, sym, ◌∙◌, ap, subst, arith}
use Rattle.std.specs.Prelude.{option_map, option_and_then}
use Rattle.std.specs.Simd.Lanes.{zip2}
use Rattle.px_base.specs.declared.error.PlanError.{PlanError}
use Rattle.px_base.specs.declared.error.PlanError.TheVariants.{ShapeMismatch}
use Rattle.px_semantics.specs.Arithmetic.{arith_row, arith_rows}
use Rattle.px_semantics.specs.Selections.{broadcast_length_three}
use Rattle.px_types.specs.Classes.{is_integer_value}
use Rattle.px_semantics.specs.Fused.{fused_rows, fused_row, zip3}
use Rattle.px_semantics.specs.Rows.{Row, TypedRows, Contents, broadcast_length, stretch, broadcast_lengths}
use Rattle.px_types.specs.declared.function.FusedOperator.{FusedOperator}
use Rattle.px_types.specs.declared.function.FusedOperator.TheVariants.{MultiplyAdd, SubMultiply, MultiplySub}
use Rattle.px_types.specs.declared.operator.Operator.{Operator}
use Rattle.px_types.specs.declared.operator.Operator.TheVariants as op
use Rattle.px_types.specs.declared.value_type.ValueType.{ValueType}
use Rattle.px_semantics.proofs.FusedRows.{sum_with_product_columns, difference_with_product_columns, product_with_sum_columns, product_with_difference_columns}
use Rattle.px_semantics.specs.FusedLaws.{HaveOneType}
use Rattle.px_expr.specs.declared.context.Context.{Context}
use Rattle.px_expr.specs.Tree.{Alias, Tree, over}
use Rattle.px_meaning.specs.Faults.{HasFault, own, uneven, of_input, of_first, of_rest, lengths, HasUnevenInputs}
use Rattle.px_meaning.specs.Mean.{binary_rows, group_rows, of_one, of_three, all_of, rows}
use Rattle.px_meaning.specs.Names.{name}
use Rattle.px_meaning.specs.Rewrites.{binary, fused_tree}
use Rattle.px_meaning.specs.Schema.{Fits}
use Rattle.px_expr.specs.Plan.{Catalog}
use Rattle.px_meaning.specs.Signatures.{group_of, group_type}
use Rattle.px_meaning.proofs.Answers.{given-parts}
use Rattle.px_meaning.proofs.ColumnTypes.{IsColumnOf}
use Rattle.px_meaning.proofs.LogicLines.{LineKeeps}
use Rattle.px_meaning.proofs.Means.{rows-typed}
use Rattle.px_meaning.proofs.Nodes.{binary-has, has-fused, has-alias, weight-binary, weight-fused, weight-alias}
use Rattle.px_meaning.proofs.Typing.{Has}

-- the operator is one of arithmetic
record IsArithmetic (o : Operator) : Type 0 where
  plain : (a b : TypedRows) → group_rows (group_of o) o a b ≡ arith_rows o a b
  keeps : (j k : ValueType) → group_type (group_of o) j ≡ Some k → (is_integer_value j ≡ true) × (j ≡ k)

plus : IsArithmetic op.Plus
plus = record { plain = λ a b. refl; keeps = λ j k e. given-parts (is_integer_value j) j k e }

minus : IsArithmetic op.Minus
minus = record { plain = λ a b. refl; keeps = λ j k e. given-parts (is_integer_value j) j k e }

times : IsArithmetic op.Multiply
times = record { plain = λ a b. refl; keeps = λ j k e. given-parts (is_integer_value j) j k e }

abbrev of_type : ValueType → List Row → TypedRows
of_type k rows = record { value_type = k; rows = rows }

-- columns of one type that arithmetic does not join have lengths that do not
arith-none : (o : Operator) (a b : TypedRows) → arith_rows o a b ≡ None → broadcast_length (length a.rows) (length b.rows) ≡ None
unfolding arith_rows
arith-none o a b e = go (broadcast_length (length a.rows) (length b.rows)) e
  where
    go :
        (m : Option ℕ) → option_map (of_type a.value_type) (option_map (λ n. zip2 (arith_row o a.value_type) (stretch n a.rows) (stretch n b.rows)) m) ≡ None →
        m ≡ None
    go None e = refl
    go (Some n) e = cc

fused-none : (f : FusedOperator) (a b d : TypedRows) → broadcast_length_three (length a.rows) (length b.rows) (length d.rows) ≡ None → fused_rows f a b d ≡ None
unfolding fused_rows
fused-none f a b d e = ap (λ (m : Option ℕ). option_map (of_type a.value_type) (option_map (λ n. zip3 (fused_row f a.value_type) (stretch n a.rows) (stretch n b.rows) (stretch n d.rows)) m)) e

-- three inputs that mean columns whose lengths do not broadcast
uneven-three :
    (l m n : Option TypedRows) → HasUnevenInputs (l ∷ m ∷ n ∷ []) →
    (a : TypedRows) × (b : TypedRows) × (d : TypedRows) × (l ≡ Some a) × (m ≡ Some b) × (n ≡ Some d) × (broadcast_length_three (length a.rows) (length b.rows) (length d.rows) ≡ None)
uneven-three None m n (cols, e, f) = cc
uneven-three (Some a) None n (cols, e, f) = cc
uneven-three (Some a) (Some b) None (cols, e, f) = cc
uneven-three (Some a) (Some b) (Some d) (cols, e, f) =
    let same : a ∷ b ∷ d ∷ [] ≡ cols = cc in
    (a, b, d, refl, refl, refl, ap (λ (z : List TypedRows). broadcast_lengths (lengths z)) same ∙ f)

-- an operator of arithmetic over inputs that mean columns, where it means nothing
binary-uneven : (o : Operator) → IsArithmetic o → (m n : Option TypedRows) (a b : TypedRows) → m ≡ Some a → n ≡ Some b → option_and_then (binary_rows o) (all_of (m ∷ n ∷ [])) ≡ None → HasUnevenInputs (m ∷ n ∷ [])
binary-uneven o i None n a b p q e = cc
binary-uneven o i (Some x) None a b p q e = cc
binary-uneven o i (Some x) (Some y) a b p q e = (x ∷ y ∷ [], refl, arith-none o x y (sym (i.plain x y) ∙ e))

one_type : (k : ValueType) (a b d : TypedRows) → IsColumnOf k a → IsColumnOf k b → IsColumnOf k d → HaveOneType a b d
one_type k a b d ha hb hd = (ha.value_type ∙ sym hb.value_type, hb.value_type ∙ sym hd.value_type)

module _ (c : Catalog) (context : Context) (o : Operator) (i : IsArithmetic o) (x y z : Tree) where
  -- the types of a product on the right, and of one on the left
  right-types : (k : ValueType) → Has c (binary o x (binary op.Multiply y z)) k → Has c x k × Has c y k × Has c z k × (is_integer_value k ≡ true)
  right-types k h =
      let p = binary-has c o x (binary op.Multiply y z) k h in
      let (n, same) = i.keeps p.value_type k p.gives in
      let q = binary-has c op.Multiply y z p.value_type p.right in
      let (m, inner) = times.keeps q.value_type p.value_type q.gives in
      (subst (Has c x) same p.left, subst (Has c y) (inner ∙ same) q.left, subst (Has c z) (inner ∙ same) q.right, subst (λ (j : ValueType). is_integer_value j ≡ true) same n)

  left-types : (k : ValueType) → Has c (binary o (binary op.Multiply x y) z) k → Has c x k × Has c y k × Has c z k × (is_integer_value k ≡ true)
  left-types k h =
      let p = binary-has c o (binary op.Multiply x y) z k h in
      let (n, same) = i.keeps p.value_type k p.gives in
      let q = binary-has c op.Multiply x y p.value_type p.left in
      let (m, inner) = times.keeps q.value_type p.value_type q.gives in
      (subst (Has c x) (inner ∙ same) q.left, subst (Has c y) (inner ∙ same) q.right, subst (Has c z) same p.right, subst (λ (j : ValueType). is_integer_value j ≡ true) same n)

  -- where the whole means nothing over inputs that mean columns, the product or the whole has lengths that do not broadcast
  right-uneven :
      (frame : List Contents) (a b d : TypedRows) → rows c.kernels frame x ≡ Some a → rows c.kernels frame y ≡ Some b → rows c.kernels frame z ≡ Some d →
      rows c.kernels frame (binary o x (binary op.Multiply y z)) ≡ None → HasFault c.kernels frame (binary o x (binary op.Multiply y z)) ShapeMismatch
  right-uneven frame a b d p q r e = go (rows c.kernels frame (binary op.Multiply y z)) refl
    where
      go : (m : Option TypedRows) → rows c.kernels frame (binary op.Multiply y z) ≡ m → HasFault c.kernels frame (binary o x (binary op.Multiply y z)) ShapeMismatch
      go None f = of_input (of_rest (of_first (own (uneven refl (binary-uneven op.Multiply times (rows c.kernels frame y) (rows c.kernels frame z) b d q r f)))))
      go (Some v) f = own (uneven refl (binary-uneven o i (rows c.kernels frame x) (rows c.kernels frame (binary op.Multiply y z)) a v p f e))

  left-uneven :
      (frame : List Contents) (a b d : TypedRows) → rows c.kernels frame x ≡ Some a → rows c.kernels frame y ≡ Some b → rows c.kernels frame z ≡ Some d →
      rows c.kernels frame (binary o (binary op.Multiply x y) z) ≡ None → HasFault c.kernels frame (binary o (binary op.Multiply x y) z) ShapeMismatch
  left-uneven frame a b d p q r e = go (rows c.kernels frame (binary op.Multiply x y)) refl
    where
      go : (m : Option TypedRows) → rows c.kernels frame (binary op.Multiply x y) ≡ m → HasFault c.kernels frame (binary o (binary op.Multiply x y) z) ShapeMismatch
      go None f = of_input (of_first (own (uneven refl (binary-uneven op.Multiply times (rows c.kernels frame x) (rows c.kernels frame y) a b p q f))))
      go (Some v) f = own (uneven refl (binary-uneven o i (rows c.kernels frame (binary op.Multiply x y)) (rows c.kernels frame z) v d f r e))

  -- what the whole means where its leaves mean columns
  after : (a : TypedRows) (m : Option TypedRows) → option_and_then (binary_rows o) (all_of (Some a ∷ m ∷ [])) ≡ option_and_then (λ p. arith_rows o a p) m
  after a None = refl
  after a (Some p) = i.plain a p

  before : (d : TypedRows) (m : Option TypedRows) → option_and_then (binary_rows o) (all_of (m ∷ Some d ∷ [])) ≡ option_and_then (λ p. arith_rows o p d) m
  before d None = refl
  before d (Some p) = i.plain p d

  nothing-left : (l : Option TypedRows) → option_and_then (binary_rows o) (all_of (l ∷ None ∷ [])) ≡ None
  nothing-left None = refl
  nothing-left (Some a) = refl

  nothing-three : (f : FusedOperator) (l m : Option TypedRows) → option_and_then (of_three (fused_rows f)) (all_of (l ∷ m ∷ None ∷ [])) ≡ None
  nothing-three f None m = refl
  nothing-three f (Some a) None = refl
  nothing-three f (Some a) (Some b) = refl

  nothing-second : (f : FusedOperator) (l n : Option TypedRows) → option_and_then (of_three (fused_rows f)) (all_of (l ∷ None ∷ n ∷ [])) ≡ None
  nothing-second f None n = refl
  nothing-second f (Some a) n = refl

  -- a product on the right
  right-keeps :
      (f : FusedOperator) → ((a b d : TypedRows) → HaveOneType a b d → option_and_then (λ p. arith_rows o a p) (arith_rows op.Multiply b d) ≡ fused_rows f a b d) →
      LineKeeps c context (binary o x (binary op.Multiply y z)) (fused_tree f x y z)
  right-keeps f law =
      record {
        value_type = λ k h. let (hx, hy, hz, n) = right-types k h in has-fused c f x y z k hx hy hz n;
        rows = λ k h frame fits. same-rows k h frame fits;
        name = λ k h select. refl;
        faults = λ k h frame fits e g. within k h frame fits e g;
        lighter = omega (arith, weight-binary o x (binary op.Multiply y z), weight-binary op.Multiply y z, weight-fused f x y z);
      }
    where
      go :
          (k : ValueType) (l m n : Option TypedRows) → ((v : TypedRows) → l ≡ Some v → IsColumnOf k v) → ((v : TypedRows) → m ≡ Some v → IsColumnOf k v) → ((v : TypedRows) → n ≡ Some v → IsColumnOf k v) →
          option_and_then (binary_rows o) (all_of (l ∷ option_and_then (binary_rows op.Multiply) (all_of (m ∷ n ∷ [])) ∷ [])) ≡ option_and_then (of_three (fused_rows f)) (all_of (l ∷ m ∷ n ∷ []))
      go k None m n p q r = refl
      go k (Some a) None n p q r = refl
      go k (Some a) (Some b) None p q r = refl
      go k (Some a) (Some b) (Some d) p q r = after a (arith_rows op.Multiply b d) ∙ law a b d (one_type k a b d (p a refl) (q b refl) (r d refl))

      same-rows : (k : ValueType) → Has c (binary o x (binary op.Multiply y z)) k → (frame : List Contents) → Fits frame c.schema → rows c.kernels frame (binary o x (binary op.Multiply y z)) ≡ rows c.kernels frame (fused_tree f x y z)
      same-rows k h frame fits =
          let (hx, hy, hz, n) = right-types k h in
          go k (rows c.kernels frame x) (rows c.kernels frame y) (rows c.kernels frame z) (λ v e. rows-typed c frame fits x k hx v e) (λ v e. rows-typed c frame fits y k hy v e) (λ v e. rows-typed c frame fits z k hz v e)

      within :
          (k : ValueType) → Has c (binary o x (binary op.Multiply y z)) k → (frame : List Contents) → Fits frame c.schema → (e : PlanError) →
          HasFault c.kernels frame (fused_tree f x y z) e → HasFault c.kernels frame (binary o x (binary op.Multiply y z)) e
      within k h frame fits e (own (uneven joins g)) =
          let (a, b, d, p, q, r, none) = uneven-three (rows c.kernels frame x) (rows c.kernels frame y) (rows c.kernels frame z) g in
          let nothing : rows c.kernels frame (fused_tree f x y z) ≡ None =
          ap (λ (l : Option TypedRows). option_and_then (of_three (fused_rows f)) (all_of (l ∷ rows c.kernels frame y ∷ rows c.kernels frame z ∷ []))) p
          ∙ (ap (λ (m : Option TypedRows). option_and_then (of_three (fused_rows f)) (all_of (Some a ∷ m ∷ rows c.kernels frame z ∷ []))) q
          ∙ (ap (λ (n : Option TypedRows). option_and_then (of_three (fused_rows f)) (all_of (Some a ∷ Some b ∷ n ∷ []))) r ∙ fused-none f a b d none)) in
          right-uneven frame a b d p q r (same-rows k h frame fits ∙ nothing)
      within k h frame fits e (of_input (of_first g)) = of_input (of_first g)
      within k h frame fits e (of_input (of_rest (of_first g))) = of_input (of_rest (of_first (of_input (of_first g))))
      within k h frame fits e (of_input (of_rest (of_rest (of_first g)))) = of_input (of_rest (of_first (of_input (of_rest (of_first g)))))
      within k h frame fits e (of_input (of_rest (of_rest (of_rest g)))) = elim g [ ]

  -- a product on the left
  left-keeps :
      (f : FusedOperator) → ((a b d : TypedRows) → HaveOneType a b d → option_and_then (λ p. arith_rows o p d) (arith_rows op.Multiply a b) ≡ fused_rows f a b d) →
      LineKeeps c context (binary o (binary op.Multiply x y) z) (fused_tree f x y z)
  left-keeps f law =
      record {
        value_type = λ k h. let (hx, hy, hz, n) = left-types k h in has-fused c f x y z k hx hy hz n;
        rows = λ k h frame fits. same-rows k h frame fits;
        name = λ k h select. refl;
        faults = λ k h frame fits e g. within k h frame fits e g;
        lighter = omega (arith, weight-binary o (binary op.Multiply x y) z, weight-binary op.Multiply x y, weight-fused f x y z);
      }
    where
      go :
          (k : ValueType) (l m n : Option TypedRows) → ((v : TypedRows) → l ≡ Some v → IsColumnOf k v) → ((v : TypedRows) → m ≡ Some v → IsColumnOf k v) → ((v : TypedRows) → n ≡ Some v → IsColumnOf k v) →
          option_and_then (binary_rows o) (all_of (option_and_then (binary_rows op.Multiply) (all_of (l ∷ m ∷ [])) ∷ n ∷ [])) ≡ option_and_then (of_three (fused_rows f)) (all_of (l ∷ m ∷ n ∷ []))
      go k None m n p q r = refl
      go k (Some a) None n p q r = refl
      go k (Some a) (Some b) None p q r = nothing-left (arith_rows op.Multiply a b)
      go k (Some a) (Some b) (Some d) p q r = before d (arith_rows op.Multiply a b) ∙ law a b d (one_type k a b d (p a refl) (q b refl) (r d refl))

      same-rows : (k : ValueType) → Has c (binary o (binary op.Multiply x y) z) k → (frame : List Contents) → Fits frame c.schema → rows c.kernels frame (binary o (binary op.Multiply x y) z) ≡ rows c.kernels frame (fused_tree f x y z)
      same-rows k h frame fits =
          let (hx, hy, hz, n) = left-types k h in
          go k (rows c.kernels frame x) (rows c.kernels frame y) (rows c.kernels frame z) (λ v e. rows-typed c frame fits x k hx v e) (λ v e. rows-typed c frame fits y k hy v e) (λ v e. rows-typed c frame fits z k hz v e)

      within :
          (k : ValueType) → Has c (binary o (binary op.Multiply x y) z) k → (frame : List Contents) → Fits frame c.schema → (e : PlanError) →
          HasFault c.kernels frame (fused_tree f x y z) e → HasFault c.kernels frame (binary o (binary op.Multiply x y) z) e
      within k h frame fits e (own (uneven joins g)) =
          let (a, b, d, p, q, r, none) = uneven-three (rows c.kernels frame x) (rows c.kernels frame y) (rows c.kernels frame z) g in
          let nothing : rows c.kernels frame (fused_tree f x y z) ≡ None =
          ap (λ (l : Option TypedRows). option_and_then (of_three (fused_rows f)) (all_of (l ∷ rows c.kernels frame y ∷ rows c.kernels frame z ∷ []))) p
          ∙ (ap (λ (m : Option TypedRows). option_and_then (of_three (fused_rows f)) (all_of (Some a ∷ m ∷ rows c.kernels frame z ∷ []))) q
          ∙ (ap (λ (n : Option TypedRows). option_and_then (of_three (fused_rows f)) (all_of (Some a ∷ Some b ∷ n ∷ []))) r ∙ fused-none f a b d none)) in
          left-uneven frame a b d p q r (same-rows k h frame fits ∙ nothing)
      within k h frame fits e (of_input (of_first g)) = of_input (of_first (of_input (of_first g)))
      within k h frame fits e (of_input (of_rest (of_first g))) = of_input (of_first (of_input (of_rest (of_first g))))
      within k h frame fits e (of_input (of_rest (of_rest (of_first g)))) = of_input (of_rest (of_first g))
      within k h frame fits e (of_input (of_rest (of_rest (of_rest g)))) = elim g [ ]

  -- a product on the left of a sum goes to the right, under the name of the product
  turned-keeps :
      (f : FusedOperator) → ((a b d : TypedRows) → HaveOneType a b d → option_and_then (λ p. arith_rows o p d) (arith_rows op.Multiply a b) ≡ fused_rows f d a b) →
      LineKeeps c context (binary o (binary op.Multiply x y) z) (over (Alias (name (binary op.Multiply x y))) (fused_tree f z x y ∷ []))
  turned-keeps f law =
      record {
        value_type = λ k h. let (hx, hy, hz, n) = left-types k h in has-alias c (name (binary op.Multiply x y)) (fused_tree f z x y) k (has-fused c f z x y k hz hx hy n);
        rows = λ k h frame fits. same-rows k h frame fits ∙ sym (aliased (rows c.kernels frame (fused_tree f z x y)));
        name = λ k h select. refl;
        faults = λ k h frame fits e g. named k h frame fits e g;
        lighter = omega (arith, weight-binary o (binary op.Multiply x y) z, weight-binary op.Multiply x y, weight-fused f z x y, weight-alias (name (binary op.Multiply x y)) (fused_tree f z x y));
      }
    where
      aliased : (m : Option TypedRows) → option_and_then (of_one Some) (all_of (m ∷ [])) ≡ m
      aliased None = refl
      aliased (Some v) = refl

      go :
          (k : ValueType) (l m n : Option TypedRows) → ((v : TypedRows) → l ≡ Some v → IsColumnOf k v) → ((v : TypedRows) → m ≡ Some v → IsColumnOf k v) → ((v : TypedRows) → n ≡ Some v → IsColumnOf k v) →
          option_and_then (binary_rows o) (all_of (option_and_then (binary_rows op.Multiply) (all_of (l ∷ m ∷ [])) ∷ n ∷ [])) ≡ option_and_then (of_three (fused_rows f)) (all_of (n ∷ l ∷ m ∷ []))
      go k None m n p q r = sym (nothing-second f n m)
      go k (Some a) None n p q r = sym (nothing-three f n (Some a))
      go k (Some a) (Some b) None p q r = nothing-left (arith_rows op.Multiply a b)
      go k (Some a) (Some b) (Some d) p q r = before d (arith_rows op.Multiply a b) ∙ law a b d (one_type k a b d (p a refl) (q b refl) (r d refl))

      same-rows : (k : ValueType) → Has c (binary o (binary op.Multiply x y) z) k → (frame : List Contents) → Fits frame c.schema → rows c.kernels frame (binary o (binary op.Multiply x y) z) ≡ rows c.kernels frame (fused_tree f z x y)
      same-rows k h frame fits =
          let (hx, hy, hz, n) = left-types k h in
          go k (rows c.kernels frame x) (rows c.kernels frame y) (rows c.kernels frame z) (λ v e. rows-typed c frame fits x k hx v e) (λ v e. rows-typed c frame fits y k hy v e) (λ v e. rows-typed c frame fits z k hz v e)

      within :
          (k : ValueType) → Has c (binary o (binary op.Multiply x y) z) k → (frame : List Contents) → Fits frame c.schema → (e : PlanError) →
          HasFault c.kernels frame (fused_tree f z x y) e → HasFault c.kernels frame (binary o (binary op.Multiply x y) z) e
      within k h frame fits e (own (uneven joins g)) =
          let (d, a, b, r, p, q, none) = uneven-three (rows c.kernels frame z) (rows c.kernels frame x) (rows c.kernels frame y) g in
          let nothing : rows c.kernels frame (fused_tree f z x y) ≡ None =
          ap (λ (l : Option TypedRows). option_and_then (of_three (fused_rows f)) (all_of (l ∷ rows c.kernels frame x ∷ rows c.kernels frame y ∷ []))) r
          ∙ (ap (λ (m : Option TypedRows). option_and_then (of_three (fused_rows f)) (all_of (Some d ∷ m ∷ rows c.kernels frame y ∷ []))) p
          ∙ (ap (λ (n : Option TypedRows). option_and_then (of_three (fused_rows f)) (all_of (Some d ∷ Some a ∷ n ∷ []))) q ∙ fused-none f d a b none)) in
          left-uneven frame a b d p q r (same-rows k h frame fits ∙ nothing)
      within k h frame fits e (of_input (of_first g)) = of_input (of_rest (of_first g))
      within k h frame fits e (of_input (of_rest (of_first g))) = of_input (of_first (of_input (of_first g)))
      within k h frame fits e (of_input (of_rest (of_rest (of_first g)))) = of_input (of_first (of_input (of_rest (of_first g))))
      within k h frame fits e (of_input (of_rest (of_rest (of_rest g)))) = elim g [ ]

      named :
          (k : ValueType) → Has c (binary o (binary op.Multiply x y) z) k → (frame : List Contents) → Fits frame c.schema → (e : PlanError) →
          HasFault c.kernels frame (over (Alias (name (binary op.Multiply x y))) (fused_tree f z x y ∷ [])) e → HasFault c.kernels frame (binary o (binary op.Multiply x y) z) e
      named k h frame fits e (own (uneven joins g)) = cc
      named k h frame fits e (of_input (of_first g)) = within k h frame fits e g
      named k h frame fits e (of_input (of_rest g)) = elim g [ ]

pub plus-left-keeps : (c : Catalog) (context : Context) (x y z : Tree) → LineKeeps c context (binary op.Plus (binary op.Multiply x y) z) (over (Alias (name (binary op.Multiply x y))) (fused_tree MultiplyAdd z x y ∷ []))
plus-left-keeps c context x y z = turned-keeps c context op.Plus plus x y z MultiplyAdd product_with_sum_columns

pub plus-right-keeps : (c : Catalog) (context : Context) (x y z : Tree) → LineKeeps c context (binary op.Plus x (binary op.Multiply y z)) (fused_tree MultiplyAdd x y z)
plus-right-keeps c context x y z = right-keeps c context op.Plus plus x y z MultiplyAdd sum_with_product_columns

pub minus-right-keeps : (c : Catalog) (context : Context) (x y z : Tree) → LineKeeps c context (binary op.Minus x (binary op.Multiply y z)) (fused_tree SubMultiply x y z)
minus-right-keeps c context x y z = right-keeps c context op.Minus minus x y z SubMultiply difference_with_product_columns

pub minus-left-keeps : (c : Catalog) (context : Context) (x y z : Tree) → LineKeeps c context (binary op.Minus (binary op.Multiply x y) z) (fused_tree MultiplySub x y z)
minus-left-keeps c context x y z = left-keeps c context op.Minus minus x y z MultiplySub product_with_difference_columns
