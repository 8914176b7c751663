use Rattle.std.proofs.Common.{◌≡◌, ◌∙◌, ◌++◌, ◌∷◌, List, map, ap, sym, subst, rules}
use Rattle.std.specs.Vec.Iter.{into_iter_items}
use Rattle.px_semantics.specs.Rows.{Contents}
use Rattle.px_expr.specs.declared.context.Context.TheVariants.{Select}
use Rattle.px_meaning.specs.Mean.{as_answer}
use Rattle.px_eval.specs.declared.answers.Answer.{Answer}
use Rattle.px_eval.specs.Answers.{column_of}
use Rattle.px_eval.proofs.Columns.{AllFit, all_fit, first_fits, rest_fit, lined_more}
use Rattle.px_eval.proofs.answers.stretch_all.Goals as goal

pub loop-answer-init : goal.loop-answer-init
loop-answer-init c =
    let e : into_iter_items c.into_iter-answer-iterator.result ≡ c.args.answers.items = c.into_iter-answer-iterator.ensures.into_iter_gives.0 in
    record {
      lined = ap (λ (z : List Answer). map (as_answer Select c.args.len) (map column_of z)) (sym e)
          ∙ ap (λ (z : List Contents). z ++ map (as_answer Select c.args.len) (map column_of (into_iter_items c.into_iter-answer-iterator.result))) (sym c.new-columns.ensures);
      fit = subst (λ (z : List Answer). AllFit c.args.len (map column_of z)) (sym e) (all_fit c.args.len (map column_of c.args.answers.items) c.requires);
    }

pub broadcast_answer-requires : goal.broadcast_answer-requires
broadcast_answer-requires c =
    let steps : into_iter_items c.loop-answer.answer-iterator ≡ c.in-Some.answer ∷ into_iter_items c.next.new.self = c.in-Some.ensures.steps.0 in
    first_fits c.args.len (column_of c.in-Some.answer) (map column_of (into_iter_items c.next.new.self))
    (subst (λ (z : List Answer). AllFit c.args.len (map column_of z)) steps c.loop-answer.invariant.fit)

pub loop-answer-preserved : goal.loop-answer-preserved
loop-answer-preserved c =
    let steps : into_iter_items c.loop-answer.answer-iterator ≡ c.in-Some.answer ∷ into_iter_items c.next.new.self = c.in-Some.ensures.steps.0 in
    let one : c.in_ok-broadcast_answer.field-0 ≡ as_answer Select c.args.len (column_of c.in-Some.answer) = search rules in
    record {
      lined = lined_more c.args.len (map (as_answer Select c.args.len) (map column_of c.args.answers.items)) c.loop-answer.columns.entries c.try_push.new.self.entries
          (into_iter_items c.loop-answer.answer-iterator) c.in-Some.answer (into_iter_items c.next.new.self) c.in_ok-broadcast_answer.field-0 steps one c.in_ok-try_push.ensures.ok c.loop-answer.invariant.lined;
      fit = rest_fit c.args.len (column_of c.in-Some.answer) (map column_of (into_iter_items c.next.new.self))
          (subst (λ (z : List Answer). AllFit c.args.len (map column_of z)) steps c.loop-answer.invariant.fit);
    }
