use Rattle.std.proofs.Common.{◌≡◌, ◌∙◌, ◌*ℤ◌, [], ◌∷◌, ap, subst, Some}
use Rattle.px_base.specs.Answer.{GivesOrMemory}
use Rattle.px_semantics.specs.Rows.{IntegerValue}
use Rattle.px_types.specs.Integers.{into}
use Rattle.px_semantics.specs.Aggregates.{product_of, numbers_of}
use Rattle.px_aggregates.specs.Folds.{fold_into}
use Rattle.px_aggregates.proofs.Wrapping.{product_into}
use Rattle.px_aggregates.proofs.sums.multiply_integers.Goals as goal

pub returns : goal.returns
returns g c =
    let n = g.A.Integer.integer in
    let k = g.A.Integer.value_type in
    let zs = numbers_of c.args.rows.now in
    let total : n c.fold_valid-product.result ≡ into k (product_of zs) =
    c.fold_valid-product.ensures ∙ ap (λ s. fold_into k (λ x y. into k (x *ℤ y)) s zs) c.residue.ensures ∙ product_into k zs in
    subst (λ z. GivesOrMemory c.one_integer.result (Some (IntegerValue z) ∷ [])) total c.one_integer.ensures
