use Rattle.std.proofs.Common.{◌≡◌, ◌∙◌, ◌<◌, ◌++◌, ◌∷◌, ◌&&◌, [], sym, ap, arith, length, map, is_some, take, get_or, false, None}
use Rattle.std.specs.Simd.Lanes.{zip2}
use Rattle.std.proofs.lemmas.List.{take_more, take_all, length-map}
use Rattle.std.proofs.lemmas.Result.{IfOk-weaker}
use Rattle.std.proofs.lemmas.Simd.{length-zip2, get_or-zip2}
use Rattle.px_semantics.specs.Comparisons.{both_pass}
use Rattle.px_kernels.proofs.TestRows.{pass_entries}
use Rattle.px_kernels.proofs.row_tests.string_tests.Goals as goal

pub loop-i-preserved : goal.loop-i-preserved
loop-i-preserved g c =
    let f = g.F.StringTest.meaning in
    let xs = c.args.a.now in
    let ys = c.args.b.now in
    let i = c.loop-i.i in
    let below : i < length xs = omega (arith, c.len-len.ensures.rows) in
    let other : i < length ys = omega (arith, c.requires) in
    let same_length : i < length (zip2 (both_pass f) xs ys) = omega (arith, length-zip2 (both_pass f) xs ys c.requires) in
    let seen = rw (c.get.ensures, c.get-in-loop-i.ensures) at c.strings_pass.ensures in
    let here : c.strings_pass.result ≡ get_or (zip2 (both_pass f) xs ys) i false = seen ∙ sym (get_or-zip2 (both_pass f) xs ys i None None false below other) in
    rw (c.in_ok-push.ensures.items, take_more (zip2 (both_pass f) xs ys) i false same_length)
    (ap (λ l. l ++ c.strings_pass.result ∷ []) c.loop-i.invariant ∙ ap (λ r. take i (zip2 (both_pass f) xs ys) ++ r ∷ []) here)

pub from_flags-requires : goal.from_flags-requires
from_flags-requires g c =
    let f = g.F.StringTest.meaning in
    let xs = c.args.a.now in
    let ys = c.args.b.now in
    let all = c.loop-i.invariant ∙ take_all c.loop-i.i (zip2 (both_pass f) xs ys) (omega (arith, length-zip2 (both_pass f) xs ys c.requires, c.len-len.ensures.rows)) in
    rw (c.as_slice.ensures.value, all, c.in_ok-valid.ensures, c.valid.ensures, c.valid-2.ensures)
    (length-zip2 (both_pass f) xs ys c.requires
    ∙ sym (length-zip2 (λ x y. x && y) (map is_some xs) (map is_some ys) (length-map xs is_some ∙ c.requires ∙ sym (length-map ys is_some)) ∙ length-map xs is_some))

pub returns : goal.returns
returns g c =
    let f = g.F.StringTest.meaning in
    let xs = c.args.a.now in
    let ys = c.args.b.now in
    let all = c.loop-i.invariant ∙ take_all c.loop-i.i (zip2 (both_pass f) xs ys) (omega (arith, length-zip2 (both_pass f) xs ys c.requires, c.len-len.ensures.rows)) in
    IfOk-weaker c.from_flags.result _ _
    (λ r e. e ∙ rw (c.as_slice.ensures.value, all, c.in_ok-valid.ensures, c.valid.ensures, c.valid-2.ensures) (pass_entries f xs ys))
    c.from_flags.ensures
