use Rattle.px_selection.proofs.LawLemmas.{parts}
use Rattle.px_selection.proofs.laws.append_keeps_its_parts.Goals as goal

pub returns : goal.returns
returns c = λ a b both same h. parts a b both same h
