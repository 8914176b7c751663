use Rattle.std.proofs.Common.{◌∙◌, rules, arith, cond, false, get_or, length, map, pos, sym}
use Rattle.std.proofs.lemmas.Iterator.{YieldsList-from_map_by, YieldsList-from_range}
use Rattle.std.proofs.lemmas.Iterator.Consumers.{map_from_collect}
use Rattle.std.proofs.lemmas.List.{length-map}
use Rattle.std.proofs.lemmas.Result.{IfOk-weaker}
use Rattle.px_kernels.proofs.SelectionRows.{picked_by_place}
use Rattle.px_kernels.proofs.selection.select_values.Goals as goal

pub returns : goal.returns
returns g c =
    let n = g.T.Integer.integer in
    let ms = c.args.mask.now in
    let xs = map n c.args.a.now in
    let ys = map n c.args.b.now in
    let first = c.requires.mask ∙ sym (length-map c.args.a.now n) in
    let second = length-map c.args.a.now n ∙ c.requires.same_length ∙ sym (length-map c.args.b.now n) in
    IfOk-weaker c.collect.result _ _ (λ v e. e ∙ picked_by_place ms xs ys (pos 0) (length c.args.a.now) (sym (length-map c.args.a.now n)) first second)
    (map_from_collect c.collect.result c.collect.ensures.ran (YieldsList-from_map_by _ n (λ i. cond (get_or ms i false) (get_or xs i (pos 0)) (get_or ys i (pos 0))) (YieldsList-from_range 0 (length c.args.a.now) (length c.args.a.now) c.map.ensures.source (omega arith)) c.map.ensures.closure (λ x r q k. search rules)))
