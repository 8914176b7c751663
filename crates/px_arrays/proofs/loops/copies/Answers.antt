use Rattle.std.proofs.Common.{◌∙◌, rules, arith, ap, replicate}
use Rattle.std.specs.List.{range_with_len}
use Rattle.std.proofs.lemmas.Iterator.{items_from_collect, YieldsList-from_map, YieldsList-from_range}
use Rattle.std.proofs.lemmas.Result.{IfOk-weaker}
use Rattle.std.proofs.lemmas.List.FromFn.{length-range_with_len}
use Rattle.px_arrays.proofs.Entries.{map-const}
use Rattle.px_arrays.proofs.loops.copies.Goals as goal

pub returns : goal.returns
returns g c =
    IfOk-weaker c.collect.result _ _
    (λ v e. e ∙ map-const c.args.x (range_with_len 0 c.args.len) ∙ ap (λ k. replicate k c.args.x) (length-range_with_len 0 c.args.len))
    (items_from_collect c.collect.result c.collect.ensures.ran
    (YieldsList-from_map _ (λ _. c.args.x) (YieldsList-from_range 0 c.args.len c.args.len c.map.ensures.source (omega arith)) c.map.ensures.closure (λ x r q k. search rules)))
