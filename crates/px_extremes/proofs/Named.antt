-- A column of what is made of a column's rows, under the column's name.
use Rattle.std.proofs.Common.{◌≡◌, ◌∙◌, ℕ, List, ap}
use Rattle.px_types.specs.declared.value_type.ValueType.{ValueType}
use Rattle.px_semantics.specs.Rows.{Contents, Row, TypedRows}

abbrev pub typed_rows : ValueType → List Row → TypedRows
typed_rows value_type rows = record { value_type = value_type; rows = rows }

abbrev pub contents : List ℕ → TypedRows → Contents
contents name values = record { name = name; values = values }

pub named_answer : (f : TypedRows → TypedRows) (a values : TypedRows) (value_type : ValueType) (rows : List Row) (n m : List ℕ) → n ≡ m → value_type ≡ a.value_type → rows ≡ a.rows
    → values ≡ f (typed_rows value_type rows) → contents n values ≡ contents m (f a)
named_answer f a values value_type rows n m e p q h =
    ap (λ k. contents k values) e
    ∙ ap (contents m) (h ∙ ap (λ k. f (typed_rows k rows)) p ∙ ap (λ l. f (typed_rows a.value_type l)) q)
