use Rattle.std.proofs.Common.{◌∙◌, List, Option, None, set, ap}
use Rattle.std.specs.Prelude.{option_map}
use Rattle.std.proofs.lemmas.List.{map-set}
use Rattle.px_semantics.specs.Rows.{TypedRows}
use Rattle.px_eval.specs.Table.{values_of}
use Rattle.px_eval.proofs.table.Table.clear.Goals as goal

pub returns : goal.returns
returns c =
    map-set (option_map values_of) c.self.inside.places.items c.args.node.0 None
    ∙ ap (λ (z : List (Option TypedRows)). set z c.args.node.0 None) c.self.view_is
