use Rattle.px_arrays.proofs.integer_array.IntegerArray.logic.Goals as goal

pub returns-in-And : goal.returns-in-And
returns-in-And g c =
    record {
      rows = rw c.in-And.is c.combine.ensures.rows;
    }

pub returns-in-Or : goal.returns-in-Or
returns-in-Or g c =
    record {
      rows = rw c.in-Or.is c.combine-in-Or.ensures.rows;
    }

pub returns-in-Xor : goal.returns-in-Xor
returns-in-Xor g c =
    record {
      rows = rw c.in-Xor.is c.combine-in-Xor.ensures.rows;
    }
