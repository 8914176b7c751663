use Rattle.px_json.proofs.Rows.{one_longer, booleans_step}
use Rattle.px_json.proofs.read.booleans_of.Goals as goal

pub loop-item-preserved : goal.loop-item-preserved
loop-item-preserved c =
    let reads = rw c.in-Some.is at c.boolean_cell.ensures in
    record {
      read = booleans_step c.args.items.now c.loop-item.item-index c.item-item.result c.loop-item.flags.items c.loop-item.valid.items _ _ c.in-Some.row _ _ c.loop-item-test.true c.item-item.is reads c.unwrap_or.ensures c.is_some.ensures
          c.in_ok-push.ensures.items c.in_ok-push-2.ensures.items c.loop-item.invariant.flags c.loop-item.invariant.valid c.loop-item.invariant.read;
      flags = one_longer c.loop-item.flags.items _ _ c.loop-item.item-index c.in_ok-push.ensures.items c.loop-item.invariant.flags;
      valid = one_longer c.loop-item.valid.items _ _ c.loop-item.item-index c.in_ok-push-2.ensures.items c.loop-item.invariant.valid;
    }
