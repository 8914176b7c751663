use Rattle.std.proofs.Common.{arith}
use Rattle.px_streams.proofs.Streams.{all_taken, took_more, took_at_most, more_taken, within_limit}
use Rattle.px_streams.proofs.source.read_whole.Goals as goal

pub returns-in-Err-clause-fault_within : goal.returns-in-Err-clause-fault_within
returns-in-Err-clause-fault_within g c = λ _. took_at_most _ _ _ _ _ c.loop-bytes.invariant.taken c.in-Err.ensures.bytes c.loop-bytes.invariant.within

pub returns-in-Ok-eq0-clause-all : goal.returns-in-Ok-eq0-clause-all
returns-in-Ok-eq0-clause-all g c =
    all_taken _ _ _ _ c.read.new.buffer _ c.loop-bytes.invariant.taken c.in-Ok-eq0.field-0-test (grind arith) c.in-Ok-eq0.ensures.bytes

pub returns-then-count-len-clause-too_large : goal.returns-then-count-len-clause-too_large
returns-then-count-len-clause-too_large g c =
    λ _. took_more _ _ _ _ c.read.new.buffer _ _ c.loop-bytes.invariant.taken c.in-Ok.ensures.bytes.0 c.in-Ok.ensures.bound.1
    (omega (arith, c.if-count-len.true, c.len.ensures, c.loop-bytes.bytes.ok.0))

pub loop-bytes-preserved : goal.loop-bytes-preserved
loop-bytes-preserved g c =
    let grown = c.in_ok-extend_from_slice-in-Ok.ensures.items in
    let read = c.in-Ok.ensures in
    record {
      within = within_limit _ _ _ _ _ grown read.bound.1 (omega (arith, c.if-count-len.false, c.len.ensures, c.loop-bytes.bytes.ok.0)) c.loop-bytes.invariant.within;
      room = omega (arith, c.read.auto.buffer, c.loop-bytes.invariant.room);
      taken = more_taken _ _ _ _ c.read.new.buffer _ c.in-Ok.count c.loop-bytes.invariant.taken read.bytes.0 grown;
      faults_count_up = omega (arith, c.read.ensures.cause.faults_count_up, c.loop-bytes.invariant.faults_count_up);
    }
