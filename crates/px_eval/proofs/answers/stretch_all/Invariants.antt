use Rattle.std.proofs.Common.{◌≡◌, map, ◌++◌}
use Rattle.std.specs.Vec.Iter.{into_iter_items}
use Rattle.px_expr.specs.declared.context.Context.TheVariants.{Select}
use Rattle.px_meaning.specs.Mean.{as_answer}
use Rattle.px_eval.specs.Answers.{column_of}
use Rattle.px_eval.proofs.Columns.{AllFit}
use Rattle.px_eval.proofs.answers.stretch_all.Given as goal

-- the columns so far, and then those of the answers that are left
abbrev pub invariant-loop-answer : goal.invariant-loop-answer
invariant-loop-answer l = record {
  lined : map (as_answer Select l.len) (map column_of l.fn.answers.items) ≡ l.columns.entries ++ map (as_answer Select l.len) (map column_of (into_iter_items l.answer-iterator));
  fit : AllFit l.len (map column_of (into_iter_items l.answer-iterator));
}
