use Rattle.std.proofs.lemmas.Result.{on_ok_weaker}
use Rattle.px_selection.proofs.Words.{none_more, all_more}
use Rattle.px_selection.proofs.positions.push_word.Goals as goal

pub returns-in-0 : goal.returns-in-0
returns-in-0 c = none_more _ c.args.word c.args.start c.in-0.is

pub returns-in-18446744073709551615 : goal.returns-in-18446744073709551615
returns-in-18446744073709551615 c = on_ok_weaker c.push_all.result (all_more _ _ c.args.word c.args.start c.in-18446744073709551615.is) c.push_all.ensures
