use Rattle.std.proofs.Common.{◌≡◌, ◌<◌, ◌^◌, drop}
use Rattle.std.specs.List.{fold}
use Rattle.px_fields.specs.Reshape.{times, specified_product}
use Rattle.px_fields.proofs.reshape.specified_product.Given as goal

-- the product goes on over the sizes that are left
abbrev pub invariant-loop-dimension : goal.invariant-loop-dimension
invariant-loop-dimension l = (specified_product l.dimensions ≡ fold times l.product (drop l.dimension-index l.dimensions)) × (0 < l.product) × (l.product < 2 ^ 64)
