use Rattle.std.proofs.Common.{ap}
use Rattle.px_column.specs.ColumnOf.{rows_of}
use Rattle.px_column.specs.Buffers.{values_of}
use Rattle.px_selection.proofs.Masked.{filter_answer}
use Rattle.px_selection.proofs.masks.filter_buffers.Goals as goal

pub returns : goal.returns
returns c =
    record {
      rows = filter_answer (values_of c.args.a.now) (values_of c.args.by.now) _ c.rows_by_mask.result (ap rows_of c.in-Boolean.is)
          c.rows_by_mask.ensures.value_type c.rows_by_mask.ensures.rows;
    }
