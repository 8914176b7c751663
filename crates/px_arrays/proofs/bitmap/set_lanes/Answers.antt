use Rattle.std.proofs.Common.{eqb, not, arith, w8}
use Rattle.std.proofs.lemmas.Simd.{bitmask_splat}
use Rattle.px_arrays.proofs.bitmap.set_lanes.Goals as goal

pub returns : goal.returns
returns c = bitmask_splat w8 (λ a b. not (eqb a b)) c.args.lanes 64 0 c.requires (omega arith)
