use Rattle.px_base.proofs.Exact.{same-answers}
use Rattle.px_expr.specs.contracts.literal.LiteralValue.{the_row}
use Rattle.px_expr.proofs.literal.LiteralValuePartialEq.eq.Goals as goal

pub returns-clause-value : goal.returns-clause-value
returns-clause-value c =
    same-answers the_row.coded c.same_literal.result c.args.self.now c.args.other.now c.same_literal.ensures.0 c.same_literal.ensures.1
