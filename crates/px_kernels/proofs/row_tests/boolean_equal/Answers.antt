use Rattle.std.proofs.Common.{◌∙◌, ◌&&◌, cond, not, is_some, sym, map}
use Rattle.std.proofs.lemmas.Result.{IfOk-weaker}
use Rattle.px_semantics.specs.Comparisons.{equal}
use Rattle.px_semantics.specs.Logic.{is_true}
use Rattle.px_arrays.proofs.BooleanRows.{length_both}
use Rattle.px_kernels.proofs.TestRows.{alike, alike_is, boolean_tests, map_zip2}
use Rattle.px_kernels.proofs.row_tests.boolean_equal.Goals as goal

pub masked-requires : goal.masked-requires
masked-requires c =
    let xs = c.args.a.now in
    let ys = c.args.b.now in
    rw (c.in_ok-flags.ensures, c.in_ok-differ.ensures, c.in_ok-valid.ensures, c.truth.ensures, c.truth-2.ensures, c.valid.ensures, c.valid-2.ensures, map_zip2 not (λ x y. cond x (not y) y) (map is_true xs) (map is_true ys))
    (length_both alike is_true xs ys c.requires ∙ sym (length_both (λ x y. x && y) is_some xs ys c.requires))

pub returns : goal.returns
returns c =
    let xs = c.args.a.now in
    let ys = c.args.b.now in
    IfOk-weaker c.masked.result _ _
    (λ r e. e ∙ rw (c.in_ok-flags.ensures, c.in_ok-differ.ensures, c.in_ok-valid.ensures, c.truth.ensures, c.truth-2.ensures, c.valid.ensures, c.valid-2.ensures, map_zip2 not (λ x y. cond x (not y) y) (map is_true xs) (map is_true ys))
    (boolean_tests alike equal alike_is xs ys c.len.ensures.typed c.len-2.ensures.typed))
    c.masked.ensures
