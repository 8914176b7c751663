use Rattle.std.proofs.Common.{ap}
use Rattle.std.proofs.lemmas.List.{reverse-reverse}
use Rattle.px_semantics.proofs.Joining.{of_type}
use Rattle.px_selection.proofs.laws.reverse_undoes_reverse.Goals as goal

pub returns : goal.returns
returns c = λ a. ap (of_type a.value_type) (reverse-reverse a.rows)
