use Rattle.std.proofs.Common.{ap, map, List}
use Rattle.px_semantics.specs.Logic.{null_row}
use Rattle.px_semantics.specs.Rows.{Row, Contents}
use Rattle.px_types.specs.declared.value_type.ValueType.TheVariants.{Boolean}
use Rattle.px_kernels.proofs.logic.is_null.Goals as goal

pub returns : goal.returns
returns c =
    let a = c.args.a.now in
    let column : List Row → Contents = λ rows. record { name = a.name; values = record { value_type = Boolean; rows = rows } } in
    rw (c.new.ensures, c.in_ok-name.ensures, c.name.ensures, c.in_ok-rows.ensures) (ap (λ l. column (map null_row l)) c.buffer.ensures.rows)
