use Rattle.std.specs.Int.{w16}
use Rattle.px_integers.proofs.Residues.{signed_residue}
use Rattle.px_integers.proofs.residue.I16Residue.residue.Goals as goal

pub returns : goal.returns
returns c = signed_residue w16 c.args.wide c.cast_signed.result c.residue.result c.ranges.wide c.cast_signed.ensures c.residue.ensures
