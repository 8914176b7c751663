use Rattle.std.proofs.Common.{◌≡◌, Some, rules}
use Rattle.px_types.specs.ValueTypes.{value_type_of}
use Rattle.px_column.specs.ColumnOf.{type_of}
use Rattle.px_column.specs.Buffers.{values_of}
use Rattle.px_eval.specs.Table.{rows_at}
use Rattle.px_eval.proofs.Single.{shared_cast}
use Rattle.px_eval.proofs.own.cast_own_type.Goals as goal

pub returns-then-eq : goal.returns-then-eq
returns-then-eq c =
    let same : value_type_of c.args.dtype.now ≡ Some (type_of c.at-from.result.now) = search rules in
    record {
      answer = shared_cast c.args.options c.args.dtype.now (rows_at c.args.table.now c.args.input.0) (values_of c.at-from.result.now) c.share.result c.at-from.ensures same c.len-len.ensures.typed c.share.ensures.ok c.share.ensures.err;
    }
