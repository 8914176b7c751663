use Rattle.px_kernels.proofs.arithmetic.ring_integers.Goals as goal

pub returns-in-Plus : goal.returns-in-Plus
returns-in-Plus g c =
    record {
      rows = rw c.in-Plus.is c.combine.ensures.rows;
    }

pub returns-in-Minus : goal.returns-in-Minus
returns-in-Minus g c =
    record {
      rows = rw c.in-Minus.is c.combine-in-Minus.ensures.rows;
    }

pub returns-in-Multiply : goal.returns-in-Multiply
returns-in-Multiply g c =
    record {
      rows = rw c.in-Multiply.is c.combine-in-Multiply.ensures.rows;
    }
