use Rattle.std.proofs.Common.{rules, Bor}
use Rattle.std.proofs.lemmas.Iterator.{YieldsList-from_map_by, YieldsList-from_slice}
use Rattle.std.proofs.lemmas.Iterator.Consumers.{YieldsList-at, map_from_collect}
use Rattle.px_semantics.specs.Rows.{Contents}
use Rattle.px_column.specs.Buffers.{values_of}
use Rattle.px_column.specs.declared.buffer.Buffer.{Buffer}
use Rattle.px_horizontals.proofs.folds.buffers_of.Goals as goal

pub returns : goal.returns
returns c =
    map_from_collect c.collect.result c.collect.ensures.ran
    (YieldsList-from_map_by _ (λ (b : Bor Buffer). values_of b.now) (λ (d : Contents). d.values) (YieldsList-at c.map.ensures.source (YieldsList-from_slice c.args.columns.now c.iter.ensures.rest)) c.map.ensures.closure (λ x r q k. search rules))
