use Rattle.std.proofs.Common.{◌∙◌, map}
use Rattle.std.proofs.lemmas.List.{length-map}
use Rattle.std.proofs.lemmas.Result.{IfOk-weaker}
use Rattle.px_kernels.proofs.CastRows.{all_held}
use Rattle.px_kernels.proofs.casts.in_range_validity.Goals as goal

pub returns-then-are_in_range : goal.returns-then-are_in_range
returns-then-are_in_range g c =
    let n = g.S.Integer.integer in
    let xs = c.args.values.now in
    IfOk-weaker c.try_clone.result _ _
    (λ b e. e ∙ all_held g.T.Integer.value_type c.args.valid.now (map n xs) (rw (length-map xs n) (c.are_in_range.ensures c.if-are_in_range.true)) (length-map xs n ∙ c.requires))
    c.try_clone.ensures
