use Rattle.px_forms.proofs.HasForms.{checked_has_form, checked_list_has_forms}
use Rattle.px_forms.proofs.laws.checked_trees_have_forms.Goals as goal

pub returns-clause-tree : goal.returns-clause-tree
returns-clause-tree g = checked_has_form

pub returns-clause-list : goal.returns-clause-list
returns-clause-list g = checked_list_has_forms
