use Rattle.std.proofs.Common.{◌∙◌}
use Rattle.px_column.specs.Buffers.{values_of}
use Rattle.px_column.specs.ColumnOf.{type_of, rows_of}
use Rattle.px_semantics.specs.Bits.{bit_reduce_of}
use Rattle.px_extremes.proofs.Named.{named_answer}
use Rattle.px_extremes.proofs.bits.bit_reduce.Goals as goal

pub returns : goal.returns
returns c =
    let a = c.buffer.result.now in
    c.new.ensures
    ∙ named_answer (bit_reduce_of c.args.function) c.args.a.now.values (values_of c.in_ok-buffer.buffer) (type_of a) (rows_of a) c.in_ok-name.name c.args.a.now.name
    (c.in_ok-name.ensures ∙ c.name.ensures) c.buffer.ensures.value_type c.buffer.ensures.rows c.in_ok-buffer.ensures
