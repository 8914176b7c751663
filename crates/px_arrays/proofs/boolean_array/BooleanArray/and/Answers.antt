use Rattle.std.proofs.Common.{◌&&◌, ◌||◌}
use Rattle.px_arrays.proofs.BooleanRows.{have_rows, same_booleans, kleene}
use Rattle.px_arrays.proofs.boolean_array.BooleanArray.and.Goals as goal

pub and-requires : goal.and-requires
and-requires c =
    let mine = have_rows c.self.inside.truth c.self.inside.valid c.args.self.now c.self.invariant c.self.view_is in
    let others = have_rows c.other.inside.truth c.other.inside.valid c.args.other.now c.other.invariant c.other.view_is in
    same_booleans mine others c.requires

pub and_validity-requires-clause-same_length : goal.and_validity-requires-clause-same_length
and_validity-requires-clause-same_length c =
    let mine = have_rows c.self.inside.truth c.self.inside.valid c.args.self.now c.self.invariant c.self.view_is in
    let others = have_rows c.other.inside.truth c.other.inside.valid c.args.other.now c.other.invariant c.other.view_is in
    same_booleans mine others c.requires

pub invariant_of-result : goal.invariant_of-result
invariant_of-result c =
    let mine = have_rows c.self.inside.truth c.self.inside.valid c.args.self.now c.self.invariant c.self.view_is in
    let others = have_rows c.other.inside.truth c.other.inside.valid c.args.other.now c.other.invariant c.other.view_is in
    (kleene (λ x y. x && y) (λ x y. x || y) c.in_ok-truth.truth c.in_ok-valid.valid mine others c.requires c.in_ok-truth.ensures c.in_ok-valid.ensures).inv

pub returns : goal.returns
returns c =
    let mine = have_rows c.self.inside.truth c.self.inside.valid c.args.self.now c.self.invariant c.self.view_is in
    let others = have_rows c.other.inside.truth c.other.inside.valid c.args.other.now c.other.invariant c.other.view_is in
    (kleene (λ x y. x && y) (λ x y. x || y) c.in_ok-truth.truth c.in_ok-valid.valid mine others c.requires c.in_ok-truth.ensures c.in_ok-valid.ensures).is
