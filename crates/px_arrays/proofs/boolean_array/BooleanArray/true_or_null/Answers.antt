use Rattle.px_arrays.proofs.BooleanRows.{have_rows, with_null_or}
use Rattle.px_arrays.proofs.boolean_array.BooleanArray.true_or_null.Goals as goal

pub invariant_of-result : goal.invariant_of-result
invariant_of-result c =
    let mine = have_rows c.self.inside.truth c.self.inside.valid c.args.self.now c.self.invariant c.self.view_is in
    (with_null_or c.in_ok-truth.truth c.in_ok-valid.valid mine c.in_ok-truth.ensures c.in_ok-valid.ensures).inv

pub returns : goal.returns
returns c =
    let mine = have_rows c.self.inside.truth c.self.inside.valid c.args.self.now c.self.invariant c.self.view_is in
    (with_null_or c.in_ok-truth.truth c.in_ok-valid.valid mine c.in_ok-truth.ensures c.in_ok-valid.ensures).is
