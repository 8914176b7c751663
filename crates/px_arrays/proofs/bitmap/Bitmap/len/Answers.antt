use Rattle.std.proofs.Common.{◌∙◌, sym, ap, length}
use Rattle.px_arrays.proofs.Bitmaps.{length-bits_of}
use Rattle.px_arrays.proofs.bitmap.Bitmap.len.Goals as goal

pub returns-clause-bits : goal.returns-clause-bits
returns-clause-bits c = sym (length-bits_of c.self.inside.words.items c.self.inside.len) ∙ ap length c.self.view_is
