use Rattle.px_meaning.proofs.Lists.{check_list-map, check_list-count, check_list-checked, check_list-masks, check_list-names}
use Rattle.px_meaning.proofs.laws.checked_lists.Goals as goal

pub returns-clause-each : goal.returns-clause-each
returns-clause-each g = check_list-map

pub returns-clause-count : goal.returns-clause-count
returns-clause-count g = check_list-count

pub returns-clause-checked : goal.returns-clause-checked
returns-clause-checked g = check_list-checked

pub returns-clause-masks : goal.returns-clause-masks
returns-clause-masks g = check_list-masks

pub returns-clause-names : goal.returns-clause-names
returns-clause-names g = check_list-names
