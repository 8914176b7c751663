use Rattle.std.proofs.Common.{◌≡◌, ◌∙◌, sym, ap, length, arith}
use Rattle.px_streams.specs.Memory.{Readable}
use Rattle.px_streams.proofs.Copied.{is_taken}
use Rattle.px_streams.proofs.memory.MemorySourceSource.read.Goals as goal

pub returns-clause-bytes : goal.returns-clause-bytes
returns-clause-bytes c =
    let bytes = c.self.inside.bytes in
    let long : c.len.result ≡ length bytes.items = omega (arith, bytes.ok) in
    let copied = rw (c.deref-2.ensures.value) at c.copy_from_slice.ensures.after in
    let t = is_taken bytes.items c.copy_from_slice.new.self c.args.buffer.now c.self.inside.at c.min-count.result c.len.result copied c.min-count.ensures long in
    (sym (ap (λ (r : Readable). r.left) c.self.view_is) ∙ t.all, t.end)
