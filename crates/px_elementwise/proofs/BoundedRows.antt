-- Rows that are filled, and rows beside bounds.
use Rattle.std.proofs.Common.{◌≡◌, ◌∙◌, inl, Bool, true, false, List, [], ◌∷◌, map, length, replicate, Option, Some, None, option_map, option_and_then, sym, ap, refl}
use Rattle.std.specs.Prelude.{Result, Ok, Err, IfOk}
use Rattle.std.specs.Simd.Lanes.{zip2}
use Rattle.px_base.specs.Answer.{GivesOr}
use Rattle.px_base.specs.declared.error.PlanError.{PlanError}
use Rattle.px_base.specs.declared.error.PlanError.TheVariants.{ShapeMismatch}
use Rattle.px_types.specs.declared.operator.Operator.{Operator}
use Rattle.px_types.specs.declared.operator.Operator.TheVariants as op
use Rattle.px_types.specs.declared.type_parts.ClosedInterval.{ClosedInterval}
use Rattle.px_types.specs.declared.value_type.ValueType.{ValueType}
use Rattle.px_types.specs.declared.value_type.ValueType.TheVariants.{Boolean}
use Rattle.px_semantics.specs.Bounds.{fill_row, fill_null_rows, raised_row, lowered_row, clip_row, clip_rows, lower_test, upper_test, is_between_row, is_between_rows}
use Rattle.px_semantics.specs.Comparisons.{less, both_pass, test_row, compare_row, compare_rows}
use Rattle.px_semantics.specs.Fused.{elementwise_three}
use Rattle.px_semantics.specs.Logic.{is_true, value_row, and_row, logic_row, logic_rows}
use Rattle.px_semantics.specs.Rows.{Datum, Row, TypedRows, BooleanValue, broadcast_rows, elementwise}
use Rattle.px_semantics.specs.Selections.{select_row, select_rows}
use Rattle.px_semantics.proofs.Joins.{stretch_whole, by_broadcast}
use Rattle.px_semantics.proofs.Joining.{of_type}
use Rattle.px_semantics.proofs.FusedRows.{two_steps_left, three_turned}
use Rattle.px_column.specs.Buffers.{values_of}
use Rattle.px_column.specs.ColumnOf.{type_of, rows_of}
use Rattle.px_column.specs.declared.buffer.Buffer.{Buffer}
use Rattle.px_column.proofs.KernelRows.{refused, logic_gives, logic_none}
use Rattle.px_elementwise.proofs.Broadcasts.{absorbed_right, typed_parts, untyped_none, none_for, selected_by_pairs, selected_by_first, two_then_one, first_refused, second_refused}

filled : (x y : Row) → select_row (is_true (value_row x)) x y ≡ fill_row x y
filled None y = refl
filled (Some x) y = refl

-- a column by its validity, and else another
pub fills : (mask a fill : TypedRows) → mask.rows ≡ map value_row a.rows → select_rows mask a fill ≡ fill_null_rows a fill
unfolding fill_null_rows
fills = selected_by_first value_row fill_row filled

true_of : (t : Bool) → is_true (Some (BooleanValue t)) ≡ t
true_of true = refl
true_of false = refl

-- a test is true where both are values that pass it
passes : (test : Datum → Datum → Bool) (x y : Row) → is_true (test_row test x y) ≡ both_pass test x y
passes test (Some x) (Some y) = true_of (test x y)
passes test (Some x) None = refl
passes test None y = refl

raised : (x low : Row) → select_row (is_true (compare_row op.Lt x low)) low x ≡ raised_row x low
raised x low = ap (λ b. select_row b low x) (passes less x low)

turned : (x y : Row) → both_pass (λ a b. less b a) x y ≡ both_pass less y x
turned (Some x) (Some y) = refl
turned (Some x) None = refl
turned None (Some y) = refl
turned None None = refl

lowered : (x high : Row) → select_row (is_true (compare_row op.Gt x high)) high x ≡ lowered_row x high
lowered x high = ap (λ b. select_row b high x) (passes (λ a b. less b a) x high ∙ turned x high)

-- a bound by the comparison with it
pub raises : (mask a low : TypedRows) → a.value_type ≡ low.value_type → Some mask ≡ compare_rows op.Lt a low → select_rows mask low a ≡ broadcast_rows a.value_type raised_row a.rows low.rows
unfolding compare_rows
raises mask a low t e =
    selected_by_pairs (compare_row op.Lt) raised_row raised mask a low (typed_parts Boolean mask (elementwise (compare_row op.Lt) a.rows low.rows) e).1
    ∙ ap (λ k. broadcast_rows k raised_row a.rows low.rows) (sym t)

pub lowers : (mask a high : TypedRows) → a.value_type ≡ high.value_type → Some mask ≡ compare_rows op.Gt a high → select_rows mask high a ≡ broadcast_rows a.value_type lowered_row a.rows high.rows
unfolding compare_rows
lowers mask a high t e =
    selected_by_pairs (compare_row op.Gt) lowered_row lowered mask a high (typed_parts Boolean mask (elementwise (compare_row op.Gt) a.rows high.rows) e).1
    ∙ ap (λ k. broadcast_rows k lowered_row a.rows high.rows) (sym t)

-- where the comparison is refused, all is
pub comparison_refused : (o : Operator) (f : Row → Row → Row) (k : ValueType) (a b : TypedRows) → compare_rows o a b ≡ None → broadcast_rows k f a.rows b.rows ≡ None
unfolding compare_rows
comparison_refused o f k a b e =
    ap (option_map (of_type k)) (none_for (compare_row o) f a.rows b.rows (untyped_none Boolean (elementwise (compare_row o) a.rows b.rows) e))

kept_each : (f : Row → Row → Row) → ((x : Row) → f x None ≡ x) → (xs : List Row) → zip2 f xs (replicate (length xs) None) ≡ xs
kept_each f same [] = refl
kept_each f same (x ∷ xs) = let here = same x in let rest = kept_each f same xs in cc

-- a single null that changes nothing
unbound : (f : Row → Row → Row) → ((x : Row) → f x None ≡ x) → (xs : List Row) → elementwise f xs (None ∷ []) ≡ Some xs
unbound f same xs =
    by_broadcast f xs (None ∷ []) (length xs) (absorbed_right 1 (length xs) (inl refl))
    ∙ ap (λ l. Some (zip2 f l (replicate (length xs) None))) (stretch_whole xs (length xs) refl)
    ∙ ap Some (kept_each f same xs)

raised_null : (x : Row) → raised_row x None ≡ x
raised_null (Some x) = refl
raised_null None = refl

lowered_null : (x : Row) → lowered_row x None ≡ x
lowered_null (Some x) = refl
lowered_null None = refl

-- the two bounds one after the other
clip_steps : (xs ls hs : List Row) → option_and_then (λ p. elementwise lowered_row p hs) (elementwise raised_row xs ls) ≡ elementwise_three clip_row xs ls hs
clip_steps xs ls hs = two_steps_left lowered_row raised_row (λ high x low. clip_row x low high) (λ x y z. refl) xs ls hs ∙ three_turned clip_row xs ls hs

onward_some : (o : Option (List Row)) → option_and_then (λ p. elementwise lowered_row p (None ∷ [])) o ≡ o
onward_some (Some p) = unbound lowered_row lowered_null p
onward_some None = refl

pub clip_none : (a : TypedRows) → Some a ≡ clip_rows a None None
unfolding clip_rows
clip_none a =
    sym (ap (option_map (of_type a.value_type))
    (sym (clip_steps a.rows (None ∷ []) (None ∷ [])) ∙ onward_some (elementwise raised_row a.rows (None ∷ [])) ∙ unbound raised_row raised_null a.rows))

pub clip_low : (a low : TypedRows) → broadcast_rows a.value_type raised_row a.rows low.rows ≡ clip_rows a (Some low) None
unfolding clip_rows
clip_low a low =
    sym (ap (option_map (of_type a.value_type)) (sym (clip_steps a.rows low.rows (None ∷ [])) ∙ onward_some (elementwise raised_row a.rows low.rows)))

pub clip_high : (a high : TypedRows) → broadcast_rows a.value_type lowered_row a.rows high.rows ≡ clip_rows a None (Some high)
unfolding clip_rows
clip_high a high =
    sym (ap (option_map (of_type a.value_type))
    (sym (clip_steps a.rows (None ∷ []) high.rows) ∙ ap (option_and_then (λ p. elementwise lowered_row p high.rows)) (unbound raised_row raised_null a.rows)))

pub clip_both : (a low high r : TypedRows) → Some r ≡ broadcast_rows a.value_type raised_row a.rows low.rows → broadcast_rows r.value_type lowered_row r.rows high.rows ≡ clip_rows a (Some low) (Some high)
unfolding clip_rows
clip_both a low high r e =
    let parts = typed_parts a.value_type r (elementwise raised_row a.rows low.rows) e in
    ap (λ k. broadcast_rows k lowered_row r.rows high.rows) parts.0
    ∙ ap (option_map (of_type a.value_type)) (ap (option_and_then (λ p. elementwise lowered_row p high.rows)) parts.1 ∙ clip_steps a.rows low.rows high.rows)

pub clip_refused : (a low high : TypedRows) → broadcast_rows a.value_type raised_row a.rows low.rows ≡ None → clip_rows a (Some low) (Some high) ≡ None
unfolding clip_rows
clip_refused a low high e =
    ap (option_map (of_type a.value_type))
    (sym (clip_steps a.rows low.rows high.rows) ∙ ap (option_and_then (λ p. elementwise lowered_row p high.rows)) (untyped_none a.value_type (elementwise raised_row a.rows low.rows) e))

-- an answer whose type and rows are known, and a refusal
pub logic_answer : (o : Operator) (a b : TypedRows) (r : Result Buffer PlanError) → IfOk r (λ c. type_of c ≡ a.value_type)
    → GivesOr ShapeMismatch rows_of r (elementwise (logic_row o a.value_type) a.rows b.rows) → GivesOr ShapeMismatch values_of r (logic_rows o a b)
logic_answer o a b (Ok c) h e = logic_gives o a b (values_of c) h e
logic_answer o a b (Err x) h e = refused x (logic_none o a b) e

-- the comparisons with both ends
pub between : (closed : ClosedInterval) (a low high above below : TypedRows) → Some above ≡ compare_rows (lower_test closed) a low → Some below ≡ compare_rows (upper_test closed) a high
    → logic_rows op.And above below ≡ is_between_rows closed a low high
unfolding compare_rows logic_rows is_between_rows
between closed a low high above below p q =
    let first = typed_parts Boolean above (elementwise (compare_row (lower_test closed)) a.rows low.rows) p in
    let second = typed_parts Boolean below (elementwise (compare_row (upper_test closed)) a.rows high.rows) q in
    ap (λ k. broadcast_rows k (logic_row op.And k) above.rows below.rows) first.0
    ∙ ap (option_map (of_type Boolean))
    (two_then_one and_row (compare_row (lower_test closed)) (compare_row (upper_test closed)) (is_between_row closed) (λ x y z. refl) a.rows low.rows high.rows above.rows below.rows first.1 second.1)

pub lower_refused : (closed : ClosedInterval) (a low high : TypedRows) → compare_rows (lower_test closed) a low ≡ None → is_between_rows closed a low high ≡ None
unfolding compare_rows is_between_rows
lower_refused closed a low high e =
    ap (option_map (of_type Boolean))
    (first_refused and_row (compare_row (lower_test closed)) (compare_row (upper_test closed)) (is_between_row closed) (λ x y z. refl) a.rows low.rows high.rows
    (untyped_none Boolean (elementwise (compare_row (lower_test closed)) a.rows low.rows) e))

pub upper_refused : (closed : ClosedInterval) (a low high : TypedRows) → compare_rows (upper_test closed) a high ≡ None → is_between_rows closed a low high ≡ None
unfolding compare_rows is_between_rows
upper_refused closed a low high e =
    ap (option_map (of_type Boolean))
    (second_refused and_row (compare_row (lower_test closed)) (compare_row (upper_test closed)) (is_between_row closed) (λ x y z. refl) a.rows low.rows high.rows
    (untyped_none Boolean (elementwise (compare_row (upper_test closed)) a.rows high.rows) e))

-- a comparison gives Booleans
pub compared_type : (o : Operator) (a b r : TypedRows) → Some r ≡ compare_rows o a b → r.value_type ≡ Boolean
unfolding compare_rows
compared_type o a b r e = (typed_parts Boolean r (elementwise (compare_row o) a.rows b.rows) e).0
