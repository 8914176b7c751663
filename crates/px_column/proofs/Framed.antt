-- What a schema of columns says of their names.
use Rattle.std.proofs.Common.{◌≡◌, ◌∙◌, ◌+◌, ◌<◌, ◌≤◌, ◌^◌, length, ℕ, suc, Bool, true, false, not, cond, if◌then◌else◌, nat_lt, List, [], ◌∷◌, map, position, slice_get, find, Option, Some, None, option_and_then, Ok, Err, refl, sym, ap, subst, arith}
use Rattle.std.proofs.lemmas.List.Folds.{find_at}
use Rattle.std.proofs.lemmas.Option.{slice_get_past}
use Rattle.std.proofs.lemmas.Slice.Eq.{bytes_eq-Decides}
use Rattle.std.specs.Cmp.{both_ways}
use Rattle.std.specs.List.{position_or_len}
use Rattle.std.specs.Simd.Lanes.{Each1}
use Rattle.std.specs.Str.{bytes_eq}
use Rattle.px_base.specs.declared.error.PlanError.TheVariants.{Duplicate, ShapeMismatch}
use Rattle.px_types.specs.declared.dtype.Field.{Field}
use Rattle.px_semantics.specs.Rows.{Contents, TypedRows, IsRowOf}
use Rattle.px_types.specs.Schemas.{names_of, first_repeated}
use Rattle.px_semantics.specs.Columns.{is_column, are_columns}
use Rattle.px_semantics.proofs.ColumnLemmas.{are_columns-All, column-is_column}
use Rattle.px_semantics.specs.Frames.{column_named, column_names, frame_or_refusal, are_equal, heights, frame_of, IsFrame}
use Rattle.px_column.specs.FrameOf.{field_of}

names_of-fields : (cs : List Contents) → names_of (map field_of cs) ≡ column_names cs
names_of-fields [] = refl
names_of-fields (c ∷ cs) = ap (λ ns. c.name ∷ ns) (names_of-fields cs)

bytes_eq-swaps : (a b : List ℕ) → bytes_eq a b ≡ bytes_eq b a
bytes_eq-swaps a b =
    let (to, from) = bytes_eq-Decides a b in
    let (back, forth) = bytes_eq-Decides b a in
    both_ways (bytes_eq a b) (bytes_eq b a) (λ e. forth (sym (to e))) (λ e. from (sym (back e)))

named-find : (cs : List Contents) (name : List ℕ) → column_named cs name ≡ find (λ (c : Contents). bytes_eq name c.name) cs
named-find [] name = refl
named-find (c ∷ cs) name =
    ap (λ b. if b then Some c else column_named cs name) (bytes_eq-swaps c.name name)
    ∙ ap (λ o. cond (bytes_eq name c.name) (Some c) o) (named-find cs name)

first-named : (cs : List Contents) (name : List ℕ) → position_or_len (bytes_eq name) (names_of (map field_of cs)) ≡ position_or_len (λ (c : Contents). bytes_eq name c.name) cs
first-named [] name = refl
first-named (c ∷ cs) name = ap (λ n. cond (not (bytes_eq name c.name)) (1 + n) 0) (first-named cs name)

-- columns of which a name is repeated
pub repeated : (cs : List Contents) (name : List ℕ) → first_repeated (column_names cs) ≡ Some name → frame_of cs ≡ Err (Duplicate name)
repeated cs name e = ap (λ o. frame_or_refusal cs o (are_equal (heights cs))) e

pub uneven : (cs : List Contents) → first_repeated (column_names cs) ≡ None → are_equal (heights cs) ≡ false → frame_of cs ≡ Err ShapeMismatch
uneven cs names one_height = ap (λ o. frame_or_refusal cs o (are_equal (heights cs))) names ∙ ap (frame_or_refusal cs None) one_height

pub frames_of_one_height : (cs : List Contents) → first_repeated (column_names cs) ≡ None → are_equal (heights cs) ≡ true → frame_of cs ≡ Ok cs
frames_of_one_height cs names one_height = ap (λ o. frame_or_refusal cs o (are_equal (heights cs))) names ∙ ap (frame_or_refusal cs None) one_height

first-column : (cs : List Contents) (name : List ℕ) → column_named cs name ≡ slice_get cs (position_or_len (bytes_eq name) (names_of (map field_of cs)))
first-column cs name = named-find cs name ∙ find_at (λ (c : Contents). bytes_eq name c.name) cs ∙ ap (slice_get cs) (sym (first-named cs name))

length-names : (cs : List Contents) → length (names_of (map field_of cs)) ≡ length cs
length-names [] = refl
length-names (c ∷ cs) = ap suc (length-names cs)

placed : (within : Bool) (cs : List Contents) (place : ℕ) → (within ≡ false → length cs ≤ place) → slice_get cs place ≡ option_and_then (slice_get cs) (cond within (Some place) None)
placed true cs place h = refl
placed false cs place h = slice_get_past cs place (h refl)

outside : (m n : ℕ) → nat_lt m n ≡ false → n ≤ m
outside m n e = grind (arith, e)

column_placed : (cs : List Contents) (name : List ℕ) → column_named cs name ≡ option_and_then (slice_get cs) (position (bytes_eq name) (names_of (map field_of cs)))
column_placed cs name =
    let place = position_or_len (bytes_eq name) (names_of (map field_of cs)) in
    first-column cs name ∙ placed (nat_lt place (length (names_of (map field_of cs)))) cs place (λ e. subst (λ n. n ≤ place) (length-names cs) (outside place (length (names_of (map field_of cs))) e))

-- the column at the place of a name in the schema
pub column_at : (cs : List Contents) (schema : List Field) (name : List ℕ) (place : Option ℕ) → schema ≡ map field_of cs → place ≡ position (bytes_eq name) (names_of schema)
    → option_and_then (slice_get cs) place ≡ column_named cs name
column_at cs schema name place s e = ap (option_and_then (slice_get cs)) (e ∙ ap (λ (z : List Field). position (bytes_eq name) (names_of z)) s) ∙ sym (column_placed cs name)

pub is_frame : (cs : List Contents) → frame_of cs ≡ Ok cs → are_columns cs ≡ true → IsFrame cs
is_frame cs frame_or_refusal columns = record { frame_or_refusal = frame_or_refusal; columns = are_columns-All cs columns }

pub passes : (v : TypedRows) → length v.rows < 2 ^ 32 → Each1 (IsRowOf v.value_type) v.rows → is_column v ≡ true
passes v below_limit typed = column-is_column v (record { below_limit = below_limit; typed = typed })
