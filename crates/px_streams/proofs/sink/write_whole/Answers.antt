use Rattle.std.proofs.Common.{rules, arith}
use Rattle.px_streams.proofs.Streams.{more_written}
use Rattle.px_streams.proofs.sink.write_whole.Goals as goal

pub loop-written-preserved : goal.loop-written-preserved
loop-written-preserved g c = record {
  within = grind arith;
  front = more_written _ _ _ c.args.bytes.now _ _ c.loop-written.invariant.front c.in_ok-written.ensures.bytes;
  faults_count_up = search rules;
}
