use Rattle.std.proofs.Common.{◌≡◌, true, map, take}
use Rattle.std.specs.List.{list_all}
use Rattle.px_semantics.specs.Gathers.{is_inside}
use Rattle.px_selection.specs.Positions.{position_or_end}
use Rattle.px_selection.proofs.indices.index_positions.Given as goal

abbrev pub invariant-loop-i : goal.invariant-loop-i
invariant-loop-i g l = record {
  positions : l.positions.items ≡ map (position_or_end l.len) (take l.i l.indices);
  inside : list_all (is_inside l.len) (take l.i l.indices) ≡ true;
}
