use Rattle.std.specs.Int.{w64}
use Rattle.px_integers.proofs.Residues.{signed_residue}
use Rattle.px_integers.proofs.residue.I64Residue.residue.Goals as goal

pub returns : goal.returns
returns c = signed_residue w64 c.args.wide c.cast_signed.result c.residue.result c.ranges.wide c.cast_signed.ensures c.residue.ensures
