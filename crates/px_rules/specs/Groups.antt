-- The rewrites in groups, and the groups of each rule.
use Rattle.std.specs.Prelude.{◌≡◌}
use Rattle.px_expr.specs.declared.context.Context.{Context}
use Rattle.px_expr.specs.Plan.{Catalog}
use Rattle.px_expr.specs.Tree.{Tree}
use Rattle.px_meaning.specs.declared.rewrite.RewriteName.{RewriteName}
use Rattle.px_meaning.specs.declared.rewrite.RewriteName.TheVariants as named
use Rattle.px_meaning.specs.Rewrites.{IsRewrite}

pub data Group : Type 0 where
  boolean_operands : Group
  literal_negations : Group
  literal_folds : Group
  pushed_negations : Group
  fused_products : Group

-- C1 to C8 have a Boolean literal beside `And` or `Or`, C9 a minus over a literal, C10 to C13 an operator over
-- literals, C14 to C25 a `not` that goes into its input, C26 to C29 a product in a sum or a difference
abbrev pub group_of : RewriteName → Group
group_of named.C1 = boolean_operands
group_of named.C2 = boolean_operands
group_of named.C3 = boolean_operands
group_of named.C4 = boolean_operands
group_of named.C5 = boolean_operands
group_of named.C6 = boolean_operands
group_of named.C7 = boolean_operands
group_of named.C8 = boolean_operands
group_of named.C9 = literal_negations
group_of named.C10 = literal_folds
group_of named.C11 = literal_folds
group_of named.C12 = literal_folds
group_of named.C13 = literal_folds
group_of named.C14 = pushed_negations
group_of named.C15 = pushed_negations
group_of named.C16 = pushed_negations
group_of named.C17 = pushed_negations
group_of named.C18 = pushed_negations
group_of named.C19 = pushed_negations
group_of named.C20 = pushed_negations
group_of named.C21 = pushed_negations
group_of named.C22 = pushed_negations
group_of named.C23 = pushed_negations
group_of named.C24 = pushed_negations
group_of named.C25 = pushed_negations
group_of named.C26 = fused_products
group_of named.C27 = fused_products
group_of named.C28 = fused_products
group_of named.C29 = fused_products

pub data Rule : Type 0 where
  expr_rule : Rule
  boolean_rule : Rule
  fused_rule : Rule

abbrev pub rule_of_group : Group → Rule
rule_of_group literal_folds = expr_rule
rule_of_group pushed_negations = expr_rule
rule_of_group boolean_operands = boolean_rule
rule_of_group literal_negations = boolean_rule
rule_of_group fused_products = fused_rule

-- the rule of a rewrite: C10 to C25, C1 to C9, and C26 to C29
abbrev pub rule_of : RewriteName → Rule
rule_of name = rule_of_group (group_of name)

-- a rewrite whose name is in the group
pub record IsRewriteIn (g : Group) (c : Catalog) (context : Context) (t t' : Tree) : Type 0 where
  pub rewrite : IsRewrite c context t t'
  pub of_group : group_of rewrite.by ≡ g

-- a rewrite whose name is of the rule
pub record IsRewriteOf (r : Rule) (c : Catalog) (context : Context) (t t' : Tree) : Type 0 where
  pub rewrite : IsRewrite c context t t'
  pub of_rule : rule_of rewrite.by ≡ r
