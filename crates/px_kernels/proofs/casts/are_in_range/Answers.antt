use Rattle.std.proofs.Common.{◌≡◌, Bool, true, false, rules, tests}
use Rattle.px_types.specs.ValueTypes.{holds}
use Rattle.std.proofs.lemmas.Iterator.{cases_from_all, YieldsList-from_slice}
use Rattle.px_arrays.proofs.Bitmaps.{maps}
use Rattle.px_kernels.proofs.CastRows.{when_all}
use Rattle.px_kernels.proofs.casts.are_in_range.Goals as goal

pub returns : goal.returns
returns g c =
    let n = g.S.Integer.integer in
    let p : _ → Bool = λ x. holds g.T.Integer.value_type (n x) in
    when_all _ p c.args.values.now c.all.result _
    (cases_from_all _ _ _ (λ x. p x ≡ true) (λ x. p x ≡ false) c.all.ensures.ran (YieldsList-from_slice c.args.values.now c.iter.ensures.rest) (λ x q k. search (rules, tests)) (λ x q k. search (rules, tests)))
    (maps n (holds g.T.Integer.value_type) c.args.values.now)
