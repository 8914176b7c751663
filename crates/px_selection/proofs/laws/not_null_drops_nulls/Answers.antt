use Rattle.px_selection.proofs.LawLemmas.{by_not_null}
use Rattle.px_selection.proofs.laws.not_null_drops_nulls.Goals as goal

pub returns : goal.returns
returns c = λ a. by_not_null a
