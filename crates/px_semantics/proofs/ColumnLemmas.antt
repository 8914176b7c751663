-- The test of columns, and columns in a list.
use Rattle.std.proofs.Common.{◌≡◌, ◌&&◌, ◌^◌, ◌<◌, ℕ, List, [], ◌∷◌, length, Some, None, Bool, true, false, refl, ap, arith}
use Rattle.std.specs.Prelude.{nat_lt}
use Rattle.std.specs.List.{All, list_all}
use Rattle.std.specs.Simd.Lanes.{Each1}
use Rattle.std.proofs.lemmas.Bool.Decides.{nat_tests}
use Rattle.std.proofs.lemmas.List.Elements.{All-nil, All-cons}
use Rattle.px_semantics.specs.Columns.{IsColumn, is_row_of, is_column, are_columns}
use Rattle.px_semantics.specs.Rows.{BooleanValue, StringValue, IntegerValue, Row, TypedRows, Contents, IsRowOf}
use Rattle.px_types.specs.declared.value_type.ValueType.{ValueType}
use Rattle.px_types.specs.declared.value_type.ValueType.TheVariants as value_type
use Rattle.px_semantics.proofs.CastLemmas.{holds_decides}

both-true : (p q : Bool) → (p && q) ≡ true → (p ≡ true) × (q ≡ true)
both-true true true e = (refl, refl)
both-true true false e = cc
both-true false q e = cc

is_row_of-row : (k : ValueType) (r : Row) → is_row_of k r ≡ true → IsRowOf k r
is_row_of-row k None e = tt
is_row_of-row k (Some (IntegerValue z)) e = (holds_decides k z).0 e
is_row_of-row value_type.Boolean (Some (BooleanValue t)) e = tt
is_row_of-row value_type.String (Some (StringValue t)) e = tt
is_row_of-row _ (Some (BooleanValue t)) e = cc
is_row_of-row _ (Some (StringValue t)) e = cc

pub row-is_row_of : (k : ValueType) (r : Row) → IsRowOf k r → is_row_of k r ≡ true
row-is_row_of k None h = refl
row-is_row_of k (Some (IntegerValue z)) h = (holds_decides k z).1 h
row-is_row_of value_type.Boolean (Some (BooleanValue t)) h = refl
row-is_row_of value_type.String (Some (StringValue t)) h = refl
row-is_row_of _ (Some (BooleanValue t)) h = absurd h
row-is_row_of _ (Some (StringValue t)) h = absurd h

all-rows : (k : ValueType) (rows : List Row) → list_all (is_row_of k) rows ≡ true → Each1 (IsRowOf k) rows
all-rows k [] e = tt
all-rows k (r ∷ rows) e = let (f, g) = both-true (is_row_of k r) (list_all (is_row_of k) rows) e in (is_row_of-row k r f, all-rows k rows g)

-- the test of columns is exact
pub is_column-column : (a : TypedRows) → is_column a ≡ true → IsColumn a
unfolding is_column
is_column-column a e =
    let (f, g) = both-true (nat_lt (length a.rows) (2 ^ 32)) (list_all (is_row_of a.value_type) a.rows) e in
    record { below_limit = grind (arith, nat_tests); typed = all-rows a.value_type a.rows g }

rows-all : (k : ValueType) (rows : List Row) → Each1 (IsRowOf k) rows → list_all (is_row_of k) rows ≡ true
rows-all k [] h = refl
rows-all k (r ∷ rows) h = let here = row-is_row_of k r h.0 in let rest = rows-all k rows h.1 in rw (here, rest) refl

pub column-is_column : (a : TypedRows) → IsColumn a → is_column a ≡ true
unfolding is_column
column-is_column a h =
    let below_limit : nat_lt (length a.rows) (2 ^ 32) ≡ true = below (length a.rows) h.below_limit in
    let all = rows-all a.value_type a.rows h.typed in
    rw (below_limit, all) refl
  where
    below : (n : ℕ) → n < 2 ^ 32 → nat_lt n (2 ^ 32) ≡ true
    below n h = grind (arith, nat_tests)

-- one row of a type passes it
pub one-is_column : (k : ValueType) (r : Row) → IsRowOf k r → is_column (record { value_type = k; rows = r ∷ [] }) ≡ true
unfolding is_column
one-is_column k r h = ap (λ (b : Bool). b && true) (row-is_row_of k r h)

-- the same of a list of columns
pub are_columns-All : (cs : List Contents) → are_columns cs ≡ true → All (λ (c : Contents). IsColumn c.values) cs
are_columns-All [] e = All-nil (λ (c : Contents). IsColumn c.values)
are_columns-All (c ∷ cs) e =
    let (f, g) = both-true (is_column c.values) (are_columns cs) e in
    All-cons (λ (d : Contents). IsColumn d.values) c cs (is_column-column c.values f) (are_columns-All cs g)

-- one more column
pub are_columns-more : (c : Contents) (cs : List Contents) → IsColumn c.values → are_columns cs ≡ true → are_columns (c ∷ cs) ≡ true
are_columns-more c cs h e = let f = column-is_column c.values h in rw (f, e) refl
