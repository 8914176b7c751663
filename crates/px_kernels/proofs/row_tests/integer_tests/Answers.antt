use Rattle.std.proofs.Common.{◌∙◌, ◌&&◌, sym, ap, length, map, is_some}
use Rattle.std.specs.Simd.Lanes.{zip2}
use Rattle.std.proofs.lemmas.List.{length-map}
use Rattle.std.proofs.lemmas.Result.{IfOk-weaker}
use Rattle.std.proofs.lemmas.Simd.{length-zip2}
use Rattle.px_semantics.specs.Comparisons.{test_row}
use Rattle.px_semantics.specs.Rows.{IntegerValue, entry}
use Rattle.px_arrays.proofs.Bitmaps.{zip2_maps}
use Rattle.px_kernels.proofs.TestRows.{test_entries}
use Rattle.px_kernels.proofs.row_tests.integer_tests.Goals as goal

pub and-requires : goal.and-requires
and-requires g c = ap length c.valid.ensures ∙ length-map c.args.a.now is_some ∙ c.requires ∙ sym (ap length c.valid-2.ensures ∙ length-map c.args.b.now is_some)

pub from_flags-requires : goal.from_flags-requires
from_flags-requires g c =
    let n = g.T.Integer.integer in
    let f = g.F.Test.meaning in
    let xs = c.values.result.now in
    let ys = c.values-2.result.now in
    let us = c.args.a.now in
    let vs = c.args.b.now in
    rw (c.as_slice.ensures.value, c.in_ok-flags.ensures, c.in_ok-valid.ensures, c.valid.ensures, c.valid-2.ensures, zip2_maps n (λ x y. f (IntegerValue x) (IntegerValue y)) xs ys)
    (length-zip2 (λ x y. f (IntegerValue x) (IntegerValue y)) (map n xs) (map n ys) (length-map xs n ∙ c.values.ensures.same_length ∙ c.requires ∙ sym (length-map ys n ∙ c.values-2.ensures.same_length))
    ∙ length-map xs n ∙ c.values.ensures.same_length
    ∙ sym (length-zip2 (λ x y. x && y) (map is_some us) (map is_some vs) (length-map us is_some ∙ c.requires ∙ sym (length-map vs is_some)) ∙ length-map us is_some))

pub returns : goal.returns
returns g c =
    let n = g.T.Integer.integer in
    let f = g.F.Test.meaning in
    let xs = c.values.result.now in
    let ys = c.values-2.result.now in
    let us = c.args.a.now in
    let vs = c.args.b.now in
    IfOk-weaker c.from_flags.result _ _
    (λ r e. e ∙ rw (c.as_slice.ensures.value, c.in_ok-flags.ensures, c.in_ok-valid.ensures, c.valid.ensures, c.valid-2.ensures, zip2_maps n (λ x y. f (IntegerValue x) (IntegerValue y)) xs ys)
    (test_entries f (map is_some us) (map is_some vs) (map n xs) (map n ys)
    ∙ ap (λ l. zip2 (test_row f) l (zip2 entry (map is_some vs) (map n ys))) c.values.ensures.entries
    ∙ ap (λ l. zip2 (test_row f) us l) c.values-2.ensures.entries))
    c.from_flags.ensures
