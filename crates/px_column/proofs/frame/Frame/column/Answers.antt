use Rattle.std.proofs.Common.{◌∙◌, Some, None}
use Rattle.px_column.proofs.Framed.{column_at}
use Rattle.px_column.proofs.frame.Frame.column.Goals as goal

pub returns-in_err-place : goal.returns-in_err-place
returns-in_err-place c =
    rw (c.from_residual.ensures, ← c.self.view_is)
    (column_at c.self.inside.columns.entries c.self.inside.schema c.args.name.now None c.self.invariant.2 c.in_err-place.ensures.place)

pub returns : goal.returns
returns c =
    rw (← c.self.view_is)
    (c.get.ensures ∙ column_at c.self.inside.columns.entries c.self.inside.schema c.args.name.now (Some c.in_ok-place.place) c.self.invariant.2 c.in_ok-place.ensures.place)
