use Rattle.std.proofs.Common.{◌∙◌, ap, length, refl}
use Rattle.std.specs.Prelude.{option_map}
use Rattle.std.proofs.lemmas.Option.{slice_get-map, slice_get_read}
use Rattle.px_arena.specs.declared.node.Node.{Node}
use Rattle.px_eval.proofs.order.Order.at.Goals as goal

pub returns : goal.returns
returns c =
    slice_get-map (λ (n : Node). n.0) c.args.self.now.places.items c.args.position
    ∙ ap (option_map (λ (n : Node). n.0)) (slice_get_read c.args.self.now.places.items (length c.args.self.now.places.items) c.args.position c.index.result.now refl c.requires c.index.ensures)
