use Rattle.std.proofs.Common.{◌≡◌, ◌≤◌, length, arith}
use Rattle.px_arena.specs.Denotes.{inputs_of}
use Rattle.px_eval.proofs.Lists.{some_within, at_in}
use Rattle.px_eval.proofs.Fills.{dropping_start, dropping_end}
use Rattle.px_eval.proofs.filling.drop_inputs.Goals as goal

pub loop-i-init : goal.loop-i-init
loop-i-init c = dropping_start c.args.order.now.needed.items c.args.position (inputs_of c.args.expr.now) c.args.table.now

pub is_last-requires : goal.is_last-requires
is_last-requires c = some_within c.args.order.now.needed.items c.input-input.result.0 (c.requires.inputs c.input-input.result.0 (at_in (inputs_of c.args.expr.now) c.loop-i.i c.input-input.result.0 c.input-input.ensures))

pub clear-requires : goal.clear-requires
clear-requires c =
    let within = some_within c.args.order.now.needed.items c.input-input.result.0 (c.requires.inputs c.input-input.result.0 (at_in (inputs_of c.args.expr.now) c.loop-i.i c.input-input.result.0 c.input-input.ensures)) in
    let same_length : length c.args.table.now ≡ length c.args.order.now.needed.items = c.requires.same_length in
    let same : length c.loop-i.table ≡ length c.args.table.now = c.loop-i.invariant.same_length in
    omega arith

pub returns : goal.returns
returns c =
    dropping_end c.args.order.now.needed.items c.args.position c.loop-i.i (inputs_of c.args.expr.now) c.args.table.now c.loop-i.table
    (let e : c.input_count-i-end.result ≤ c.loop-i.i = c.loop-i-test.false in omega (arith, c.input_count-i-end.ensures)) c.loop-i.invariant
