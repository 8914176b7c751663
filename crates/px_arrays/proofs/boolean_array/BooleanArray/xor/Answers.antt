use Rattle.std.proofs.Common.{◌∙◌, ◌&&◌, sym, ap, length}
use Rattle.std.proofs.lemmas.Simd.{length-zip2}
use Rattle.px_arrays.proofs.BooleanRows.{have_rows, same_booleans, exclusive}
use Rattle.px_arrays.proofs.boolean_array.BooleanArray.xor.Goals as goal

pub and-requires : goal.and-requires
and-requires c =
    let mine = have_rows c.self.inside.truth c.self.inside.valid c.args.self.now c.self.invariant c.self.view_is in
    let others = have_rows c.other.inside.truth c.other.inside.valid c.args.other.now c.other.invariant c.other.view_is in
    sym c.self.invariant.same_length ∙ same_booleans mine others c.requires ∙ c.other.invariant.same_length

pub masked_xor-requires-clause-same_length : goal.masked_xor-requires-clause-same_length
masked_xor-requires-clause-same_length c =
    let mine = have_rows c.self.inside.truth c.self.inside.valid c.args.self.now c.self.invariant c.self.view_is in
    let others = have_rows c.other.inside.truth c.other.inside.valid c.args.other.now c.other.invariant c.other.view_is in
    same_booleans mine others c.requires

pub masked_xor-requires-clause-mask : goal.masked_xor-requires-clause-mask
masked_xor-requires-clause-mask c =
    let mine = have_rows c.self.inside.truth c.self.inside.valid c.args.self.now c.self.invariant c.self.view_is in
    let others = have_rows c.other.inside.truth c.other.inside.valid c.args.other.now c.other.invariant c.other.view_is in
    let valids = sym c.self.invariant.same_length ∙ same_booleans mine others c.requires ∙ c.other.invariant.same_length in
    c.self.invariant.same_length ∙ sym (ap length c.in_ok-valid.ensures ∙ length-zip2 (λ x y. x && y) c.self.inside.valid c.other.inside.valid valids)

pub invariant_of-result : goal.invariant_of-result
invariant_of-result c =
    let mine = have_rows c.self.inside.truth c.self.inside.valid c.args.self.now c.self.invariant c.self.view_is in
    let others = have_rows c.other.inside.truth c.other.inside.valid c.args.other.now c.other.invariant c.other.view_is in
    (exclusive c.in_ok-truth.truth c.in_ok-valid.valid mine others c.requires c.in_ok-valid.ensures c.in_ok-truth.ensures).inv

pub returns : goal.returns
returns c =
    let mine = have_rows c.self.inside.truth c.self.inside.valid c.args.self.now c.self.invariant c.self.view_is in
    let others = have_rows c.other.inside.truth c.other.inside.valid c.args.other.now c.other.invariant c.other.view_is in
    (exclusive c.in_ok-truth.truth c.in_ok-valid.valid mine others c.requires c.in_ok-valid.ensures c.in_ok-truth.ensures).is
