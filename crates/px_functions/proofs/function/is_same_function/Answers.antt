use Rattle.px_functions.proofs.Exactness.{function-exact}
use Rattle.px_functions.proofs.function.is_same_function.Goals as goal

pub returns : goal.returns
returns c = rw c.eq.ensures (function-exact c.args.a.now c.args.b.now)
