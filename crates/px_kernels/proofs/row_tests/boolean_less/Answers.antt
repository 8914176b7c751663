use Rattle.std.proofs.Common.{◌∙◌, ◌&&◌, cond, not, is_some, sym, map}
use Rattle.std.proofs.lemmas.List.{length-map}
use Rattle.std.proofs.lemmas.Result.{IfOk-weaker}
use Rattle.px_semantics.specs.Comparisons.{less}
use Rattle.px_semantics.specs.Logic.{is_true}
use Rattle.px_arrays.proofs.BooleanRows.{length_both}
use Rattle.px_kernels.proofs.TestRows.{below, below_is, boolean_tests, zip2_right}
use Rattle.px_kernels.proofs.row_tests.boolean_less.Goals as goal

pub and-requires : goal.and-requires
and-requires c =
    let xs = c.args.a.now in
    let ys = c.args.b.now in
    rw (c.in_ok-differ.ensures, c.truth.ensures, c.truth-2.ensures, c.truth-3.ensures)
    (length_both (λ x y. cond x (not y) y) is_true xs ys c.requires ∙ c.requires ∙ sym (length-map ys is_true))

pub masked-requires : goal.masked-requires
masked-requires c =
    let xs = c.args.a.now in
    let ys = c.args.b.now in
    rw (c.in_ok-flags.ensures, c.in_ok-differ.ensures, c.in_ok-valid.ensures, c.truth.ensures, c.truth-2.ensures, c.truth-3.ensures, c.valid.ensures, c.valid-2.ensures, zip2_right (λ x y. x && y) (λ x y. cond x (not y) y) (map is_true xs) (map is_true ys))
    (length_both below is_true xs ys c.requires ∙ sym (length_both (λ x y. x && y) is_some xs ys c.requires))

pub returns : goal.returns
returns c =
    let xs = c.args.a.now in
    let ys = c.args.b.now in
    IfOk-weaker c.masked.result _ _
    (λ r e. e ∙ rw (c.in_ok-flags.ensures, c.in_ok-differ.ensures, c.in_ok-valid.ensures, c.truth.ensures, c.truth-2.ensures, c.truth-3.ensures, c.valid.ensures, c.valid-2.ensures, zip2_right (λ x y. x && y) (λ x y. cond x (not y) y) (map is_true xs) (map is_true ys))
    (boolean_tests below less below_is xs ys c.len.ensures.typed c.len-2.ensures.typed))
    c.masked.ensures
