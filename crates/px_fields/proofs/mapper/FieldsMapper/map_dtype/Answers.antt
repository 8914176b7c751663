use Rattle.std.specs.Fn.{FnOnceReturnsAt}
use Rattle.px_fields.specs.FieldTypes.{first}
use Rattle.px_fields.proofs.FieldLemmas.{of_given}
use Rattle.px_fields.proofs.mapper.FieldsMapper.map_dtype.Goals as goal

pub returns-clause-dtype : goal.returns-clause-dtype
returns-clause-dtype g c =
    of_given (λ d. FnOnceReturnsAt g.F.FnOnce c.args.func (first c.args.self.now).dtype d) c.with_dtype.result _ c.func-dtype.result c.with_dtype.ensures
    (c.first_dtype.result, c.func-dtype.ensures, c.first_dtype.ensures)
