use Rattle.std.proofs.Common.{rules, FitsSigned}
use Rattle.std.specs.Int.{w128}
use Rattle.std.proofs.lemmas.Int.{to_z-of_z}
use Rattle.serde_json.specs.View.{view}
use Rattle.px_json.proofs.JsonAccessLemmas.{held_number}
use Rattle.px_json.proofs.access.number.Goals as goal

pub returns : goal.returns
returns g c =
    let fits : FitsSigned w128 c.in_ok-integer_of.field-0 = search rules in
    held_number g.T.Integer.integer g.T.Integer.value_type (view c.args.value.now) c.in_ok-integer_of.field-0 _ c.from_wide.result c.in_ok-integer_of.ensures (to_z-of_z w128 c.in_ok-integer_of.field-0 fits) c.from_wide.ensures.value c.from_wide.ensures.inside
