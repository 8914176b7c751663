use Rattle.std.proofs.Common.{◌≤◌, ◌∙◌, ℕ, Some, set, length, ap, refl, arith}
use Rattle.px_arena.specs.Denotes.{inputs_of}
use Rattle.px_eval.proofs.Lists.{some_within, at_in}
use Rattle.px_eval.proofs.Ordering.{raising_start, raising_more, raising_end, raised_stays}
use Rattle.px_eval.proofs.order.need_inputs.Goals as goal

pub loop-i-init : goal.loop-i-init
loop-i-init c = record { kept = refl; raising = raising_start (length c.args.order.now.places.items) (inputs_of c.args.expr.now) c.args.order.now.needed.items }

pub need-requires : goal.need-requires
need-requires c =
    some_within c.loop-i.order.needed.items c.input.result.0
    (raised_stays (length c.args.order.now.places.items) (inputs_of c.args.expr.now) c.args.order.now.needed.items c.loop-i.order.needed.items c.loop-i.invariant.raising.raised c.input.result.0
    (c.requires c.input.result.0 (at_in (inputs_of c.args.expr.now) c.loop-i.i c.input.result.0 c.input.ensures)))

pub loop-i-preserved : goal.loop-i-preserved
loop-i-preserved c = record {
  kept = c.need.ensures.places ∙ c.loop-i.invariant.kept;
  raising = raising_more (length c.args.order.now.places.items) (inputs_of c.args.expr.now) c.loop-i.i c.input.result.0 c.args.order.now.needed.items c.loop-i.order.needed.items c.need.new.self.needed.items
      c.input.ensures (c.requires c.input.result.0 (at_in (inputs_of c.args.expr.now) c.loop-i.i c.input.result.0 c.input.ensures))
      (c.need.ensures.needed ∙ ap (λ (z : ℕ). set c.loop-i.order.needed.items c.input.result.0 (Some z)) (ap length c.loop-i.invariant.kept)) c.loop-i.invariant.raising;
}

pub returns-clause-places : goal.returns-clause-places
returns-clause-places c = c.loop-i.invariant.kept

pub returns-clause-raised : goal.returns-clause-raised
returns-clause-raised c = c.loop-i.invariant.raising.raised

pub returns-clause-inputs : goal.returns-clause-inputs
returns-clause-inputs c =
    raising_end (length c.args.order.now.places.items) (inputs_of c.args.expr.now) c.loop-i.i c.args.order.now.needed.items c.loop-i.order.needed.items
    (let e : c.input_count-i-end.result ≤ c.loop-i.i = c.loop-i-test.false in omega (arith, c.input_count-i-end.ensures)) c.loop-i.invariant.raising
