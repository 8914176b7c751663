use Rattle.std.proofs.Common.{◌≡◌, List, map, take, Some}
use Rattle.px_expr.specs.Tree.{Tree}
use Rattle.px_meaning.specs.Mean.{answer_name}
use Rattle.px_meaning.specs.Names.{name}
use Rattle.px_rules.specs.Plan.{places}
use Rattle.px_eval.specs.declared.answers.Answer.{Answer}
use Rattle.px_eval.specs.Table.{rows_at, values_of}
use Rattle.px_eval.specs.Evaluated.{DenoteTrees}
use Rattle.px_eval.proofs.answers.answers_of.Given as goal

-- the answers of the first roots
abbrev pub invariant-loop-i : goal.invariant-loop-i
invariant-loop-i l = record {
  rows : map (λ (a : Answer). Some (values_of a.rows)) l.answers.items ≡ map (rows_at l.table) (take l.i (places l.roots));
  names : (ts : List Tree) → DenoteTrees l.arena l.roots ts → map (λ (a : Answer). a.name) l.answers.items ≡ map (λ t. answer_name l.context (name t)) (take l.i ts);
}
