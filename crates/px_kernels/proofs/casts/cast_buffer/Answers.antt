use Rattle.std.proofs.Common.{◌∙◌, sym}
use Rattle.px_column.specs.Buffers.{values_of}
use Rattle.px_kernels.proofs.CastRows.{cast_answer}
use Rattle.px_kernels.proofs.casts.cast_buffer.Goals as goal

pub returns : goal.returns
returns c =
    record {
      rows = cast_answer c.args.options c.args.to.now (values_of c.args.a.now) c.in-Some.value_type c.cast_values.result (sym c.value_type.ensures.value ∙ c.in-Some.is)
          c.cast_values.ensures.value_type c.cast_values.ensures.rows;
    }
