use Rattle.std.proofs.Common.{◌≡◌, ◌∙◌, ◌*◌, ◌/◌, ℕ, min, ap, length, get_or, None}
use Rattle.px_column.specs.Values.{row_of}
use Rattle.px_column.proofs.Sample.{one_more}
use Rattle.px_column.proofs.same.hash_sample.Goals as goal

pub loop-i-preserved : goal.loop-i-preserved
loop-i-preserved g c =
    let rows = c.args.column.now.values.rows in
    let i = c.loop-i.i in
    let len : c.from-len.result ≡ length rows = c.from-len.ensures ∙ c.len.ensures.rows in
    let count : c.min-count.result ≡ min (length rows) 8 = c.min-count.ensures ∙ ap (λ n. min n 8) len in
    let row = c.get.ensures.row ∙ ap (λ n. get_or rows (i * n / c.min-count.result) None) len ∙ ap (λ n. get_or rows (i * length rows / n) None) count in
    one_more g.H.Hasher.write (λ (j : ℕ). get_or rows (j * length rows / min (length rows) 8) None) i (row_of c.get.result) c.args.state.now c.loop-i.state c.hash_value.new.state
    row c.loop-i.invariant c.hash_value.ensures
