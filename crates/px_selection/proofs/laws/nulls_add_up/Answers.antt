use Rattle.px_selection.proofs.LawLemmas as lemma
use Rattle.px_selection.proofs.laws.nulls_add_up.Goals as goal

pub returns : goal.returns
returns c = λ a. lemma.nulls_add_up a.rows
