use Rattle.px_kernels.proofs.casts.cast_integers.Goals as goal

pub returns-in-Strict : goal.returns-in-Strict
returns-in-Strict g c =
    record {
      rows = rw c.in-Strict.is c.strict_integers.ensures.rows;
    }
