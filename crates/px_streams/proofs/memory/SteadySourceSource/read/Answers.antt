use Rattle.std.proofs.Common.{◌≡◌, ◌∙◌, sym, length, arith}
use Rattle.px_streams.proofs.Copied.{is_taken}
use Rattle.px_streams.proofs.memory.SteadySourceSource.read.Goals as goal

pub returns-clause-bytes : goal.returns-clause-bytes
returns-clause-bytes c =
    let bytes = c.self.inside.bytes in
    let long : c.len.result ≡ length bytes.items = omega (arith, bytes.ok) in
    let copied = rw (c.deref.ensures.value) at c.copy_from_slice.ensures.after in
    let t = is_taken bytes.items c.copy_from_slice.new.self c.args.buffer.now c.self.inside.at c.min-count.result c.len.result copied c.min-count.ensures long in
    (sym c.self.view_is ∙ t.all, t.end)
