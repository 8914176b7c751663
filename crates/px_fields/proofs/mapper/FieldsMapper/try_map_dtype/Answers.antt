use Rattle.std.proofs.Common.{Ok, inr}
use Rattle.std.specs.Fn.{FnOnceReturnsAt}
use Rattle.px_fields.specs.FieldTypes.{first}
use Rattle.px_fields.proofs.FieldLemmas.{of_given}
use Rattle.px_fields.proofs.mapper.FieldsMapper.try_map_dtype.Goals as goal

pub returns-in-Ok-clause-dtype : goal.returns-in-Ok-clause-dtype
returns-in-Ok-clause-dtype g c =
    of_given (λ d. FnOnceReturnsAt g.F.FnOnce c.args.func (first c.args.self.now).dtype (Ok d)) c.with_dtype.result _ c.in-Ok.dtype c.with_dtype.ensures
    (c.first_dtype.result, c.in-Ok.ensures, c.first_dtype.ensures)

pub returns-in-Err-clause-refusal : goal.returns-in-Err-clause-refusal
returns-in-Err-clause-refusal g c = inr (c.first_dtype.result, c.in-Err.ensures, c.first_dtype.ensures)
