use Rattle.std.proofs.Common.{◌∙◌, List, Option, Some, set, ap}
use Rattle.std.specs.Prelude.{option_map}
use Rattle.std.proofs.lemmas.List.{map-set}
use Rattle.px_semantics.specs.Rows.{TypedRows}
use Rattle.px_eval.specs.Table.{values_of}
use Rattle.px_eval.proofs.table.Table.put.Goals as goal

pub returns : goal.returns
returns c =
    map-set (option_map values_of) c.self.inside.places.items c.args.node.0 (Some c.args.rows)
    ∙ ap (λ (z : List (Option TypedRows)). set z c.args.node.0 (Some (values_of c.args.rows))) c.self.view_is
