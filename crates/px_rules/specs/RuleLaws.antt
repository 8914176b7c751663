-- Each rule keeps the meaning.
use Rattle.px_expr.specs.declared.context.Context.{Context}
use Rattle.px_expr.specs.Plan.{Catalog}
use Rattle.px_meaning.specs.Laws.{KeepsMeaning}
use Rattle.px_meaning.specs.Rewrites.{IsRewrite}
use Rattle.px_meaning.proofs.Lines.{IsRewrite-keeps}
use Rattle.px_rules.specs.Groups.{Rule, IsRewriteOf}

pub rule_keeps : (r : Rule) (c : Catalog) (context : Context) → KeepsMeaning c context (IsRewriteOf r c context)
rule_keeps r c context =
    let all = IsRewrite-keeps c context in
    record {
      value_type = λ t u of_rule. all.value_type t u of_rule.rewrite;
      rows = λ t u of_rule. all.rows t u of_rule.rewrite;
      name = λ t u of_rule. all.name t u of_rule.rewrite;
      faults = λ t u of_rule. all.faults t u of_rule.rewrite;
      lighter = λ t u of_rule. all.lighter t u of_rule.rewrite;
    }

pub all_keeps : (c : Catalog) (context : Context) → KeepsMeaning c context (IsRewrite c context)
all_keeps c context = IsRewrite-keeps c context
