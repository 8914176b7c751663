use Rattle.std.proofs.Common.{◌∙◌}
use Rattle.px_types.proofs.SchemaLemmas.{lookup-any}
use Rattle.px_types.proofs.schema.Schema.contains.Goals as goal

pub returns : goal.returns
returns c = rw (← c.self.view_is) (c.contains_key.ensures ∙ lookup-any c.args.name.now c.self.inside.types.entries)
