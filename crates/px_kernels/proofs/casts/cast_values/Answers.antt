use Rattle.std.proofs.Common.{◌≡◌, ◌∙◌, sym, rules}
use Rattle.std.proofs.lemmas.Result.{err_from_is_err_and}
use denote.Enum.Bare.{same_true}
use Rattle.px_types.specs.contracts.value_type.ValueType.{the_type}
use Rattle.px_column.specs.ColumnOf.{type_of, rows_of}
use Rattle.px_types.specs.declared.value_type.ValueType.TheVariants as value_type
use Rattle.px_base.proofs.Answers.{gives_value}
use Rattle.px_base.specs.declared.error.PlanError.TheVariants.{InvalidCast}
use Rattle.px_kernels.proofs.CastRows.{same_type, null_strings_gives}
use Rattle.px_kernels.proofs.casts.cast_values.Goals as goal

pub returns-then-eq-clause-rows : goal.returns-then-eq-clause-rows
returns-then-eq-clause-rows c =
    let same = same_true the_type (search rules) _ _ (sym c.if-eq.ensures) in
    gives_value InvalidCast rows_of c.try_clone.result _ _ c.try_clone.ensures
    (same_type c.args.options (type_of c.args.a.now) c.args.to (rows_of c.args.a.now) (sym c.value_type.ensures ∙ same) c.len.ensures.typed)

pub returns-in_err-integers-in-Int8-clause-rows : goal.returns-in_err-integers-in-Int8-clause-rows
returns-in_err-integers-in-Int8-clause-rows c =
    let p = err_from_is_err_and c.from_residual-in_err-integers-in-Int8.result c.from_residual-in_err-integers-in-Int8.ensures.1 in
    rw (p.1, p.2, c.in-Int8.is) c.in_err-integers-in-Int8.ensures.rows

pub returns-in_err-integers-in-Int16-clause-rows : goal.returns-in_err-integers-in-Int16-clause-rows
returns-in_err-integers-in-Int16-clause-rows c =
    let p = err_from_is_err_and c.from_residual-in_err-integers-in-Int16.result c.from_residual-in_err-integers-in-Int16.ensures.1 in
    rw (p.1, p.2, c.in-Int16.is) c.in_err-integers-in-Int16.ensures.rows

pub returns-in_err-integers-in-Int32-clause-rows : goal.returns-in_err-integers-in-Int32-clause-rows
returns-in_err-integers-in-Int32-clause-rows c =
    let p = err_from_is_err_and c.from_residual-in_err-integers-in-Int32.result c.from_residual-in_err-integers-in-Int32.ensures.1 in
    rw (p.1, p.2, c.in-Int32.is) c.in_err-integers-in-Int32.ensures.rows

pub returns-in_err-integers-in-Int64-clause-rows : goal.returns-in_err-integers-in-Int64-clause-rows
returns-in_err-integers-in-Int64-clause-rows c =
    let p = err_from_is_err_and c.from_residual-in_err-integers-in-Int64.result c.from_residual-in_err-integers-in-Int64.ensures.1 in
    rw (p.1, p.2, c.in-Int64.is) c.in_err-integers-in-Int64.ensures.rows

pub returns-in_err-integers-in-UInt8-clause-rows : goal.returns-in_err-integers-in-UInt8-clause-rows
returns-in_err-integers-in-UInt8-clause-rows c =
    let p = err_from_is_err_and c.from_residual-in_err-integers-in-UInt8.result c.from_residual-in_err-integers-in-UInt8.ensures.1 in
    rw (p.1, p.2, c.in-UInt8.is) c.in_err-integers-in-UInt8.ensures.rows

pub returns-in_err-integers-in-UInt16-clause-rows : goal.returns-in_err-integers-in-UInt16-clause-rows
returns-in_err-integers-in-UInt16-clause-rows c =
    let p = err_from_is_err_and c.from_residual-in_err-integers-in-UInt16.result c.from_residual-in_err-integers-in-UInt16.ensures.1 in
    rw (p.1, p.2, c.in-UInt16.is) c.in_err-integers-in-UInt16.ensures.rows

pub returns-in_err-integers-in-UInt32-clause-rows : goal.returns-in_err-integers-in-UInt32-clause-rows
returns-in_err-integers-in-UInt32-clause-rows c =
    let p = err_from_is_err_and c.from_residual-in_err-integers-in-UInt32.result c.from_residual-in_err-integers-in-UInt32.ensures.1 in
    rw (p.1, p.2, c.in-UInt32.is) c.in_err-integers-in-UInt32.ensures.rows

pub returns-in_err-integers-in-UInt64-clause-rows : goal.returns-in_err-integers-in-UInt64-clause-rows
returns-in_err-integers-in-UInt64-clause-rows c =
    let p = err_from_is_err_and c.from_residual-in_err-integers-in-UInt64.result c.from_residual-in_err-integers-in-UInt64.ensures.1 in
    rw (p.1, p.2, c.in-UInt64.is) c.in_err-integers-in-UInt64.ensures.rows

pub returns-in_ok-null_strings-in-String-clause-rows : goal.returns-in_ok-null_strings-in-String-clause-rows
returns-in_ok-null_strings-in-String-clause-rows c =
    let null : type_of c.args.a.now ≡ value_type.Null = search rules in
    rw c.in-String.is (null_strings_gives c.args.options c.args.a.now null c.in_ok-null_strings-in-String.field-0 c.len-in-String.result c.in_ok-null_strings-in-String.ensures c.len-in-String.ensures.rows)
