use Rattle.std.proofs.Common.{◌∙◌}
use Rattle.px_types.proofs.SchemaLemmas.{lookup-dtype}
use Rattle.px_types.proofs.schema.Schema.get.Goals as goal

pub returns : goal.returns
returns c = rw (← c.self.view_is) (c.get.ensures.value ∙ lookup-dtype c.args.name.now c.self.inside.types.entries)
