-- What each rewrite keeps.
use Rattle.std.proofs.Common.{◌≡◌}
use Rattle.px_types.specs.declared.operator.Operator.TheVariants as op
use Rattle.px_expr.specs.declared.context.Context.{Context}
use Rattle.px_expr.specs.declared.context.Context.TheVariants.{Select, Filter}
use Rattle.px_expr.specs.Tree.{Tree}
use Rattle.px_meaning.specs.Laws.{KeepsMeaning}
use Rattle.px_meaning.specs.declared.rewrite.RewriteName.{RewriteName}
use Rattle.px_meaning.specs.Rewrites.{Rewrites, C1, C2, C3, C4, C5, C6, C7, C8, C9, C10, C11, C12, C13, C14, C15, C16, C17, C18, C19, C20, C21, C22, C23, C24, C25, C26, C27, C28, C29, IsRewrite}
use Rattle.px_expr.specs.Plan.{Catalog}
use Rattle.px_meaning.proofs.FoldLines.{ring-keeps, division-line, compare-keeps, logic-keeps, and-false-keeps, false-and-keeps, or-true-keeps, true-or-keeps, negate-keeps}
use Rattle.px_meaning.proofs.FusedLines.{plus-left-keeps, plus-right-keeps, minus-right-keeps, minus-left-keeps}
use Rattle.px_meaning.proofs.LogicLines.{LineKeeps, Opposes, and-true-keeps, or-false-keeps, true-and-keeps, false-or-keeps, not-and-keeps, not-or-keeps, not-not-keeps, not-truth-keeps, not-is_null-keeps, not-is_not_null-keeps, opposed-keeps}
use Rattle.px_meaning.proofs.RowLaws.{not-Eq, not-NotEq, not-Lt, not-LtEq, not-Gt, not-GtEq}
use Rattle.px_meaning.proofs.Typing.{Has-HasType, HasType-Has}
use Rattle.std.proofs.Common.{refl}

no_select : (context : Context) → context ≡ Filter → context ≡ Select → ⊥
no_select context e f = cc

opposes_eq : Opposes op.Eq op.NotEq
opposes_eq = record { plain = λ a b. refl; plain' = λ a b. refl; gives = λ j. refl; gives' = λ j. refl; opposite = not-Eq }

opposes_not_eq : Opposes op.NotEq op.Eq
opposes_not_eq = record { plain = λ a b. refl; plain' = λ a b. refl; gives = λ j. refl; gives' = λ j. refl; opposite = not-NotEq }

opposes_lt : Opposes op.Lt op.GtEq
opposes_lt = record { plain = λ a b. refl; plain' = λ a b. refl; gives = λ j. refl; gives' = λ j. refl; opposite = not-Lt }

opposes_lt_eq : Opposes op.LtEq op.Gt
opposes_lt_eq = record { plain = λ a b. refl; plain' = λ a b. refl; gives = λ j. refl; gives' = λ j. refl; opposite = not-LtEq }

opposes_gt : Opposes op.Gt op.LtEq
opposes_gt = record { plain = λ a b. refl; plain' = λ a b. refl; gives = λ j. refl; gives' = λ j. refl; opposite = not-Gt }

opposes_gt_eq : Opposes op.GtEq op.Lt
opposes_gt_eq = record { plain = λ a b. refl; plain' = λ a b. refl; gives = λ j. refl; gives' = λ j. refl; opposite = not-GtEq }

pub line-keeps : (c : Catalog) (context : Context) (t u : Tree) (n : RewriteName) → Rewrites c context n t u → LineKeeps c context t u
line-keeps c context _ _ _ (C1 {x} filter) = true-and-keeps c context x (no_select context filter)
line-keeps c context _ _ _ (C2 {x}) = and-true-keeps c context x
line-keeps c context _ _ _ (C3 {v} s) = and-false-keeps c context v s
line-keeps c context _ _ _ (C4 {v} s) = false-and-keeps c context v s
line-keeps c context _ _ _ (C5 {x} filter) = false-or-keeps c context x (no_select context filter)
line-keeps c context _ _ _ (C6 {x}) = or-false-keeps c context x
line-keeps c context _ _ _ (C7 {v} s) = or-true-keeps c context v s
line-keeps c context _ _ _ (C8 {v} s) = true-or-keeps c context v s
line-keeps c context _ _ _ (C9 {v} {k} {z} i s) = negate-keeps c context v k z i s
line-keeps c context _ _ _ (C10 {o} {v} {w} {k} {x} {y} i s r) = ring-keeps c context o v w k x y i s r
line-keeps c context _ _ _ (C11 {o} {v} {w} {k} {x} {y} i s r n) = division-line c context o v w k x y i s r n
line-keeps c context _ _ _ (C12 {o} {v} {w} {k} {d} {e} i s r) = compare-keeps c context o v w k d e i s r
line-keeps c context _ _ _ (C13 {o} {s} {t} i) = logic-keeps c context o s t i
line-keeps c context _ _ _ (C14 {o} {a} {b} i) = not-and-keeps o i c context a b
line-keeps c context _ _ _ (C15 {o} {a} {b} i) = not-or-keeps o i c context a b
line-keeps c context _ _ _ (C16 {x}) = not-not-keeps c context x
line-keeps c context _ _ _ (C17 {t}) = not-truth-keeps c context t
line-keeps c context _ _ _ (C18 {x}) = not-is_null-keeps c context x
line-keeps c context _ _ _ (C19 {x}) = not-is_not_null-keeps c context x
line-keeps c context _ _ _ (C20 {a} {b}) = opposed-keeps op.Eq op.NotEq opposes_eq c context a b
line-keeps c context _ _ _ (C21 {a} {b}) = opposed-keeps op.NotEq op.Eq opposes_not_eq c context a b
line-keeps c context _ _ _ (C22 {a} {b}) = opposed-keeps op.Lt op.GtEq opposes_lt c context a b
line-keeps c context _ _ _ (C23 {a} {b}) = opposed-keeps op.LtEq op.Gt opposes_lt_eq c context a b
line-keeps c context _ _ _ (C24 {a} {b}) = opposed-keeps op.Gt op.LtEq opposes_gt c context a b
line-keeps c context _ _ _ (C25 {a} {b}) = opposed-keeps op.GtEq op.Lt opposes_gt_eq c context a b
line-keeps c context _ _ _ (C26 {x} {y} {z} m) = plus-left-keeps c context x y z
line-keeps c context _ _ _ (C27 {x} {y} {z} m n) = plus-right-keeps c context x y z
line-keeps c context _ _ _ (C28 {x} {y} {z} m) = minus-right-keeps c context x y z
line-keeps c context _ _ _ (C29 {x} {y} {z} m n) = minus-left-keeps c context x y z

-- rewrites keep the meaning of the tree that they replace
pub IsRewrite-keeps : (c : Catalog) (context : Context) → KeepsMeaning c context (IsRewrite c context)
IsRewrite-keeps c context =
    record {
      value_type = λ t u rewrite k h. Has-HasType c u k ((line-keeps c context t u rewrite.by rewrite.rewrites).value_type k (HasType-Has c t k h));
      rows = λ t u rewrite frame fits. (line-keeps c context t u rewrite.by rewrite.rewrites).rows rewrite.checked.0 (HasType-Has c t rewrite.checked.0 rewrite.checked.1) frame fits;
      name = λ t u rewrite select. (line-keeps c context t u rewrite.by rewrite.rewrites).name rewrite.checked.0 (HasType-Has c t rewrite.checked.0 rewrite.checked.1) select;
      faults = λ t u rewrite frame fits f h. (line-keeps c context t u rewrite.by rewrite.rewrites).faults rewrite.checked.0 (HasType-Has c t rewrite.checked.0 rewrite.checked.1) frame fits f h;
      lighter = λ t u rewrite. (line-keeps c context t u rewrite.by rewrite.rewrites).lighter;
    }
