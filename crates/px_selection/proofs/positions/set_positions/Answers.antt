use Rattle.std.proofs.Common.{◌∙◌, arith, refl, ap, not, length}
use Rattle.std.specs.List.{range_with_len}
use Rattle.std.proofs.lemmas.List.Sums.{count_by-le-length}
use Rattle.px_selection.proofs.Taken.{where_short}
use Rattle.px_selection.proofs.Words.{word_more, words_all}
use Rattle.px_selection.proofs.positions.set_positions.Goals as goal

pub overflow_sub-count : goal.overflow_sub-count
overflow_sub-count c = omega (arith, c.zeros.ensures.count, c.len.ensures.bits, count_by-le-length not c.args.bits.now)

pub loop-i-preserved : goal.loop-i-preserved
loop-i-preserved c = word_more c.words-words.result.now _ _ c.loop-i.i _ _ c.loop-i.invariant refl refl c.in_ok-push_word.ensures

pub returns-clause-positions : goal.returns-clause-positions
returns-clause-positions c =
    c.loop-i.invariant ∙ words_all c.words-words.result.now c.args.bits.now c.loop-i.i (omega (arith, c.words-words.ensures.whole)) c.words-words.ensures.bits

pub returns-clause-below_limit : goal.returns-clause-below_limit
returns-clause-below_limit c =
    let bits = c.args.bits.now in
    let all = c.loop-i.invariant ∙ words_all c.words-words.result.now bits c.loop-i.i (omega (arith, c.words-words.ensures.whole)) c.words-words.ensures.bits in
    omega (arith, ap length all, where_short bits (range_with_len 0 (length bits)), c.len.ensures.bits, c.len.ensures.below_limit)
