use Rattle.std.proofs.Common.{◌≡◌, ◌≤◌, ◌∙◌, map, get_or, length, Some, ap, arith}
use Rattle.px_expr.specs.Tree.{Tree}
use Rattle.px_meaning.specs.Mean.{answer_name}
use Rattle.px_meaning.specs.Names.{name}
use Rattle.px_rules.specs.Plan.{places}
use Rattle.px_eval.specs.declared.answers.Answer.{Answer}
use Rattle.px_eval.specs.Table.{rows_at, values_of}
use Rattle.px_eval.proofs.Lists.{in_roots, at_in, length_places}
use Rattle.px_eval.proofs.Columns.{nth_denotes, listed_more, take_whole, as_many}
use Rattle.px_eval.proofs.answers.answers_of.Goals as goal

pub answer_at-requires-clause-denotes : goal.answer_at-requires-clause-denotes
answer_at-requires-clause-denotes c =
    let (ts, d) = c.requires.denote in
    let at = in_roots c.args.roots.now c.loop-i.i (record { 0 = 0 }) c.loop-i-test.true in
    let n = nth_denotes c.args.arena.now (places c.args.roots.now) ts c.loop-i.i (get_or c.args.roots.now c.loop-i.i (record { 0 = 0 })).0 d at in
    (n.tree, n.denotes)

pub answer_at-requires-clause-filled : goal.answer_at-requires-clause-filled
answer_at-requires-clause-filled c =
    let at = in_roots c.args.roots.now c.loop-i.i (record { 0 = 0 }) c.loop-i-test.true in
    c.requires.filled (get_or c.args.roots.now c.loop-i.i (record { 0 = 0 })).0 (at_in (places c.args.roots.now) c.loop-i.i (get_or c.args.roots.now c.loop-i.i (record { 0 = 0 })).0 at)

pub loop-i-preserved : goal.loop-i-preserved
loop-i-preserved c =
    let root = (get_or c.args.roots.now c.loop-i.i (record { 0 = 0 })).0 in
    let at = in_roots c.args.roots.now c.loop-i.i (record { 0 = 0 }) c.loop-i-test.true in
    record {
      rows = listed_more (λ (a : Answer). Some (values_of a.rows)) (rows_at c.args.table.now) c.loop-i.answers.items c.push.new.self.items c.in-Ok.answer (places c.args.roots.now) c.loop-i.i root
          c.in_ok-push-in-Ok.ensures.items c.loop-i.invariant.rows c.in-Ok.ensures.rows at;
      names = λ ts d.
          let n = nth_denotes c.args.arena.now (places c.args.roots.now) ts c.loop-i.i root d at in
          listed_more (λ (a : Answer). a.name) (λ (t : Tree). answer_name c.args.context (name t)) c.loop-i.answers.items c.push.new.self.items c.in-Ok.answer ts c.loop-i.i n.tree
          c.in_ok-push-in-Ok.ensures.items (c.loop-i.invariant.names ts d) (c.in-Ok.ensures.name n.tree n.denotes) n.at;
    }

pub returns-clause-rows : goal.returns-clause-rows
returns-clause-rows c =
    let end : length c.args.roots.now ≤ c.loop-i.i = c.loop-i-test.false in
    let same = length_places c.args.roots.now in
    c.loop-i.invariant.rows ∙ ap (map (rows_at c.args.table.now)) (take_whole (places c.args.roots.now) c.loop-i.i (omega arith))

pub returns-clause-names : goal.returns-clause-names
returns-clause-names c =
    let end : length c.args.roots.now ≤ c.loop-i.i = c.loop-i-test.false in
    let same = length_places c.args.roots.now in
    λ ts d.
    let many : length ts ≡ length (places c.args.roots.now) = as_many c.args.arena.now (places c.args.roots.now) ts d in
    c.loop-i.invariant.names ts d ∙ ap (map (λ (t : Tree). answer_name c.args.context (name t))) (take_whole ts c.loop-i.i (omega arith))
