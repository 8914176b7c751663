use Rattle.std.proofs.Common.{◌≡◌, ◌∙◌, ◌<◌, inr, refl, sym, ap, arith, length, take, get_or, true, false, None, is_some, List, ℕ, ◌++◌, ◌∷◌, []}
use Rattle.std.proofs.lemmas.List.{take_all}
use Rattle.std.specs.List.{list_all}
use Rattle.std.specs.Option.{unwrap_or}
use Rattle.px_semantics.specs.Rows.{Row}
use Rattle.px_semantics.specs.Gathers.{is_inside}
use Rattle.px_selection.specs.Positions.{position_or_end}
use Rattle.px_selection.proofs.Indexed.{inside_position, all_more, map_one_more, all_fails}
use Rattle.px_selection.proofs.indices.index_positions.Goals as goal

pub returns-in_default-clause-err : goal.returns-in_default-clause-err
returns-in_default-clause-err g c =
    let rows = c.args.indices.now in
    let n = c.args.len in
    let i = c.loop-i.i in
    let none : Row = None in
    let below : i < length rows = omega (arith, c.len-count.ensures.rows) in
    inr (refl, all_fails (is_inside n) rows i none below (inside_position n (get_or rows i none) ∙ ap is_some (sym c.in_default.ensures)))

pub loop-i-preserved : goal.loop-i-preserved
loop-i-preserved g c =
    let rows = c.args.indices.now in
    let n = c.args.len in
    let i = c.loop-i.i in
    let none : Row = None in
    let below : i < length rows = omega (arith, c.len-count.ensures.rows) in
    let position = sym c.in-Some.ensures in
    record {
      positions = c.in_ok-push.ensures.items ∙ ap (λ (l : List ℕ). l ++ c.in-Some.position ∷ []) c.loop-i.invariant.positions
          ∙ map_one_more (position_or_end n) rows i none c.in-Some.position below (sym (ap (λ o. unwrap_or o n) position));
      inside = all_more (is_inside n) rows i none below c.loop-i.invariant.inside (inside_position n (get_or rows i none) ∙ ap is_some position);
    }
