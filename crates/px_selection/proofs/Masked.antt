-- Columns by a mask.
use Rattle.std.proofs.Common.{◌≡◌, ◌≢◌, ◌∙◌, ℕ, zero, suc, Bool, true, false, cond, List, [], ◌∷◌, Some, None, option_map, length, map, get_or, replicate, refl, sym, ap}
use Rattle.std.specs.Prelude.{Result, Ok, Err, IfOk}
use Rattle.std.specs.List.{items_where_true}
use Rattle.std.proofs.lemmas.List.{length-map}
use Rattle.px_base.specs.Answer.{GivesOr}
use Rattle.px_base.specs.declared.error.PlanError.{PlanError}
use Rattle.px_base.specs.declared.error.PlanError.TheVariants.{ShapeMismatch}
use Rattle.px_column.proofs.KernelRows.{flag_at, refused}
use Rattle.px_column.specs.ColumnOf.{type_of, rows_of}
use Rattle.px_column.specs.declared.buffer.Buffer.{Buffer}
use Rattle.px_semantics.specs.Logic.{is_true}
use Rattle.px_semantics.specs.Rows.{Row, TypedRows, stretch}
use Rattle.px_semantics.proofs.Joining.{of_type}
use Rattle.px_semantics.proofs.Joins.{stretch_one, stretch_whole, broadcast_same, broadcast_left, broadcast_right, broadcast_none}
use Rattle.px_column.specs.Buffers.{values_of}
use Rattle.px_semantics.specs.Filters.{masked_rows, filter_rows, rows_where_true}
use Rattle.px_selection.proofs.Taken.{where_all, where_none}

pub masked_same : (mask rows : List Row) → length rows ≡ length mask → Some (rows_where_true mask rows) ≡ masked_rows mask rows
masked_same mask rows h =
    sym (ap (option_map (λ n. rows_where_true (stretch n mask) (stretch n rows))) (broadcast_same (length rows) (length mask) h)
    ∙ ap (λ l. Some (rows_where_true l (stretch (length rows) rows))) (stretch_whole mask (length rows) (sym h))
    ∙ ap (λ l. Some (rows_where_true mask l)) (stretch_whole rows (length rows) refl))

map-replicate : {A B : Type 0} (f : A → B) (n : ℕ) (x : A) → map f (replicate n x) ≡ replicate n (f x)
map-replicate f zero x = refl
map-replicate f (suc n) x = ap (λ l. f x ∷ l) (map-replicate f n x)

where_const : {A : Type 0} (t : Bool) (n : ℕ) (xs : List A) → n ≡ length xs → items_where_true (replicate n t) xs ≡ cond t xs []
where_const true n xs h = where_all n xs h
where_const false n xs h = where_none n xs

pub masked_one : (mask rows : List Row) (t : Bool) → length rows ≢ length mask → length mask ≡ 1 → t ≡ get_or (map is_true mask) 0 false → Some (cond t rows []) ≡ masked_rows mask rows
masked_one mask rows t h k e =
    let n = length rows in
    let row : Row = get_or mask 0 None in
    sym (ap (option_map (λ n. rows_where_true (stretch n mask) (stretch n rows))) (broadcast_right n (length mask) h (λ one. h (one ∙ sym k)) k)
    ∙ ap (λ l. Some (rows_where_true l (stretch n rows))) (stretch_one mask n k)
    ∙ ap (λ l. Some (rows_where_true (replicate n row) l)) (stretch_whole rows n refl)
    ∙ ap (λ l. Some (items_where_true l rows)) (map-replicate is_true n row)
    ∙ ap Some (where_const (is_true row) n rows refl)
    ∙ ap (λ b. Some (cond b rows [])) (sym (flag_at is_true refl mask 0) ∙ sym e))

pub masked_scalar : (mask rows : List Row) (flags : List Bool) → length rows ≡ 1 → flags ≡ map is_true mask
    → Some (items_where_true flags (replicate (length flags) (get_or rows 0 None))) ≡ masked_rows mask rows
masked_scalar mask rows flags h f =
    let n = length mask in
    let row : Row = get_or rows 0 None in
    ap (λ l. Some (items_where_true l (replicate (length l) row))) f
    ∙ ap (λ k. Some (items_where_true (map is_true mask) (replicate k row))) (length-map mask is_true)
    ∙ sym (ap (option_map (λ n. rows_where_true (stretch n mask) (stretch n rows))) (broadcast_left (length rows) n h)
    ∙ ap (λ l. Some (rows_where_true l (stretch n rows))) (stretch_whole mask n refl)
    ∙ ap (λ l. Some (rows_where_true mask l)) (stretch_one rows n h))

pub masked_none : (mask rows : List Row) → length rows ≢ length mask → length rows ≢ 1 → length mask ≢ 1 → masked_rows mask rows ≡ None
masked_none mask rows h k l = ap (option_map (λ n. rows_where_true (stretch n mask) (stretch n rows))) (broadcast_none (length rows) (length mask) h k l)

-- the answer of a filter, from its type and its rows
pub filter_answer : (a by : TypedRows) (mask : List Row) (r : Result Buffer PlanError) → by.rows ≡ mask → IfOk r (λ c. type_of c ≡ a.value_type)
    → GivesOr ShapeMismatch rows_of r (masked_rows mask a.rows) → GivesOr ShapeMismatch values_of r (filter_rows a by)
unfolding filter_rows
filter_answer a by mask (Ok c) h p q =
    ap (λ j. Some (of_type j (rows_of c))) p ∙ ap (option_map (of_type a.value_type)) (q ∙ ap (λ l. masked_rows l a.rows) (sym h))
filter_answer a by mask (Err e) h p q =
    refused e (λ none. ap (option_map (of_type a.value_type)) (ap (λ l. masked_rows l a.rows) h ∙ none)) q
