-- Which products fuse into a sum or a difference, and what a tree without literals is.
use Rattle.std.specs.Prelude.{Bool, true, false, not, ◌&&◌, Option, Some, None, List, [], ◌∷◌, ℕ, slice_get, codes}
use Rattle.px_functions.specs.declared.evaluated.EvaluatedFunction.TheVariants as function
use Rattle.px_functions.specs.Evaluated.{of_evaluated}
use Rattle.px_types.specs.declared.function.FusedOperator.TheVariants.{MultiplyAdd, SubMultiply, MultiplySub}
use Rattle.px_types.specs.declared.operator.Operator.{Operator}
use Rattle.px_types.specs.declared.operator.Operator.TheVariants as op
use Rattle.px_types.specs.declared.options.ApplyOptions.TheVariants.{ElementWise}
use Rattle.px_types.specs.declared.options.CastingRules.TheVariants.{Supertype}
use Rattle.px_types.specs.declared.options.FmtName.TheVariants.{Empty}
use Rattle.px_types.specs.declared.options.FunctionOptions.{FunctionOptions}
use Rattle.px_expr.specs.Tree.{Tree, tree, Trees, none, more}
use Rattle.px_meaning.specs.Names.{literal_name}
use Rattle.px_meaning.specs.Rewrites.{is_literal}
use Rattle.px_arena.specs.Denotes.{inputs_of}
use Rattle.px_arena.specs.declared.node.AExpr.{AExpr}
use Rattle.px_arena.specs.declared.node.AExpr.TheVariants as ir
use Rattle.px_arena.specs.declared.node.Node.{Node}
use Rattle.px_rules.specs.declared.fused.Fusion.{Fusion}
use Rattle.px_rules.specs.declared.views.BinaryParts.{BinaryParts}
use Rattle.px_rules.specs.Views.{binary_of}

abbrev mutual
  -- whether no literal stands anywhere in the tree
  pub is_literal_free : Tree → Bool
  is_literal_free (tree n us) = not (is_literal n) && are_literal_free us

  pub are_literal_free : Trees → Bool
  are_literal_free none = true
  are_literal_free (more u us) = is_literal_free u && are_literal_free us

abbrev pub if_product : Operator → BinaryParts → Option BinaryParts
if_product op.Multiply parts = Some parts
if_product _ parts = None

abbrev pub option_product : Option BinaryParts → Option BinaryParts
option_product (Some parts) = if_product parts.op parts
option_product None = None

-- the operands of a product
abbrev pub product_of : AExpr → Option BinaryParts
product_of x = option_product (binary_of x)

abbrev pub fused_by : Operator → Node → Node → Option BinaryParts → Option BinaryParts → Option Fusion
fused_by op.Plus l r (Some p) q = Some (record { operator = MultiplyAdd; first = r; second = p.left; third = p.right; is_named = true })
fused_by op.Plus l r None (Some q) = Some (record { operator = MultiplyAdd; first = l; second = q.left; third = q.right; is_named = false })
fused_by op.Minus l r p (Some q) = Some (record { operator = SubMultiply; first = l; second = q.left; third = q.right; is_named = false })
fused_by op.Minus l r (Some p) None = Some (record { operator = MultiplySub; first = p.left; second = p.right; third = r; is_named = false })
fused_by _ l r p q = None

-- element by element, and all inputs in their common type
abbrev pub fused_options : FunctionOptions
fused_options = record { collect_groups = ElementWise; flags = record { 0 = 1 }; fmt_str = Empty; cast_options = Some (Supertype true) }

-- the fused node
abbrev pub fused_call : Fusion → AExpr
fused_call f = ir.Function (record { entries = record { 0 = f.first } ∷ record { 0 = f.second } ∷ record { 0 = f.third } ∷ [] }) (of_evaluated (function.Fused f.operator)) fused_options

-- the place whose name a node takes, and the name of one that takes none
abbrev pub name_input : AExpr → Option ℕ
name_input (ir.Alias input name) = None
name_input (ir.Column name) = None
name_input (ir.Literal v) = None
name_input ir.Len = None
name_input (ir.Ternary p t f) = Some t.0
name_input x = slice_get (inputs_of x) 0

abbrev pub own_name : AExpr → List ℕ
own_name (ir.Alias input name) = name
own_name (ir.Column name) = name
own_name (ir.Literal v) = literal_name v
own_name ir.Len = codes "len"
own_name _ = []
