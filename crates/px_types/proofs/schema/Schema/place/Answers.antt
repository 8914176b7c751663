use Rattle.std.proofs.Common.{◌∙◌}
use Rattle.px_types.proofs.SchemaLemmas.{position-names}
use Rattle.px_types.proofs.schema.Schema.place.Goals as goal

pub returns-clause-place : goal.returns-clause-place
returns-clause-place c = rw (← c.self.view_is) (c.get_index_of.ensures.index ∙ position-names c.args.name.now c.self.inside.types.entries)
