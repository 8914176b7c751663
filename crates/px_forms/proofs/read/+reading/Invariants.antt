use Rattle.std.proofs.Common.{◌≡◌, ◌+◌, ◌*◌, max, ◌++◌, option_map, drop}
use Rattle.serde_json.specs.Data.{depth, items_depth}
use Rattle.serde_json.specs.View.{view, items_view}
use Rattle.px_forms.specs.Form.{exprs_of}
use Rattle.px_forms.proofs.read.+reading.Given as goal

abbrev pub decreases-expr_in : goal.decreases-expr_in
decreases-expr_in l = 4 * depth (view l.value.now)

abbrev pub decreases-boxed_in : goal.decreases-boxed_in
decreases-boxed_in l = 4 * depth (view l.value.now) + 1

abbrev pub decreases-list_form : goal.decreases-list_form
decreases-list_form l = 4 * items_depth (items_view l.items.now) + 5

abbrev pub decreases-aliased : goal.decreases-aliased
decreases-aliased l = 4 * items_depth (items_view l.items.now) + 2

abbrev pub decreases-binary : goal.decreases-binary
decreases-binary l = 4 * items_depth (items_view l.items.now) + 3

abbrev pub decreases-cast : goal.decreases-cast
decreases-cast l = 4 * items_depth (items_view l.items.now) + 2

abbrev pub decreases-ternary : goal.decreases-ternary
decreases-ternary l = 4 * items_depth (items_view l.items.now) + 4

abbrev pub decreases-operated : goal.decreases-operated
decreases-operated l = 4 * depth (view l.r.now) + 2

abbrev pub decreases-choice : goal.decreases-choice
decreases-choice l = 4 * max (depth (view l.t.now)) (depth (view l.f.now)) + 3

abbrev pub decreases-choice_between : goal.decreases-choice_between
decreases-choice_between l = 4 * depth (view l.f.now) + 2

abbrev pub decreases-function : goal.decreases-function
decreases-function l = 4 * items_depth (items_view l.items.now) + 2

abbrev pub decreases-exprs_in : goal.decreases-exprs_in
decreases-exprs_in l = 4 * items_depth (items_view l.values.now) + 1

-- all expressions are those that were read, before those of the values that are left
abbrev pub invariant-exprs_in-loop-value : goal.invariant-exprs_in-loop-value
invariant-exprs_in-loop-value l =
    exprs_of (items_view l.values) ≡ option_map (λ es. l.exprs.entries ++ es) (exprs_of (items_view (drop l.value-index l.values)))
