use Rattle.std.proofs.Common.{◌≡◌, false, Some, length}
use Rattle.std.specs.List.{slice_get}
use Rattle.px_arena.specs.Denotes.{root_of, inputs_of}
use Rattle.px_arena.proofs.Measure.{weight_at}
use Rattle.px_meaning.specs.Rewrites.{is_literal}
use Rattle.px_rules.proofs.LiteralFree.{AreFreeUpTo}
use Rattle.px_rules.proofs.literal_free.+is_literal_free.Given as goal

abbrev pub decreases-is_literal_free : goal.decreases-is_literal_free
decreases-is_literal_free l = weight_at l.arena.now l.node.0

abbrev pub invariant-loop-i : goal.invariant-loop-i
invariant-loop-i l =
    (slice_get l.arena l.fn.node.0 ≡ Some l.expr) × (l.inputs ≡ length (inputs_of l.expr)) × (is_literal (root_of l.expr) ≡ false) × AreFreeUpTo l.arena (inputs_of l.expr) l.i
