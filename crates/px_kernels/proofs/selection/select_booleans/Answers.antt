use Rattle.std.proofs.Common.{◌∙◌, is_some, sym, ap, length, map}
use Rattle.std.proofs.lemmas.List.{length-map}
use Rattle.std.proofs.lemmas.Result.{IfOk-weaker}
use Rattle.px_semantics.specs.Logic.{is_true}
use Rattle.px_kernels.proofs.SelectionRows.{select_bitmaps, selected_long}
use Rattle.px_kernels.proofs.selection.select_booleans.Goals as goal

pub select_bits-requires : goal.select_bits-requires
select_bits-requires c =
    let ms = c.args.mask.now in
    let xs = c.args.a.now in
    let ys = c.args.b.now in
    record {
      mask = ap length c.truth.ensures ∙ length-map ms is_true ∙ c.requires.mask ∙ sym (ap length c.truth-2.ensures ∙ length-map xs is_true);
      same_length = ap length c.truth-2.ensures ∙ length-map xs is_true ∙ c.requires.same_length ∙ sym (ap length c.truth-3.ensures ∙ length-map ys is_true);
    }

pub select_bits-requires-2 : goal.select_bits-requires-2
select_bits-requires-2 c =
    let ms = c.args.mask.now in
    let xs = c.args.a.now in
    let ys = c.args.b.now in
    record {
      mask = ap length c.truth-4.ensures ∙ length-map ms is_true ∙ c.requires.mask ∙ sym (ap length c.valid.ensures ∙ length-map xs is_some);
      same_length = ap length c.valid.ensures ∙ length-map xs is_some ∙ c.requires.same_length ∙ sym (ap length c.valid-2.ensures ∙ length-map ys is_some);
    }

pub masked-requires : goal.masked-requires
masked-requires c =
    let ms = c.args.mask.now in
    let xs = c.args.a.now in
    let ys = c.args.b.now in
    rw (c.in_ok-truth.ensures, c.in_ok-valid.ensures, c.truth.ensures, c.truth-2.ensures, c.truth-3.ensures, c.truth-4.ensures, c.valid.ensures, c.valid-2.ensures)
    (selected_long (map is_true ms) (map is_true xs) (map is_true ys) (length xs) (length-map ms is_true ∙ c.requires.mask) (length-map xs is_true) (length-map ys is_true ∙ sym c.requires.same_length)
    ∙ sym (selected_long (map is_true ms) (map is_some xs) (map is_some ys) (length xs) (length-map ms is_true ∙ c.requires.mask) (length-map xs is_some) (length-map ys is_some ∙ sym c.requires.same_length)))

pub returns : goal.returns
returns c =
    IfOk-weaker c.masked.result _ _
    (λ r e. e ∙ rw (c.in_ok-truth.ensures, c.in_ok-valid.ensures, c.truth.ensures, c.truth-2.ensures, c.truth-3.ensures, c.truth-4.ensures, c.valid.ensures, c.valid-2.ensures)
    (select_bitmaps c.args.mask.now c.args.a.now c.args.b.now c.len.ensures.typed c.len-2.ensures.typed))
    c.masked.ensures
