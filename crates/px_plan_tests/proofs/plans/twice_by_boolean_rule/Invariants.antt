use Rattle.px_plan_tests.proofs.plans.twice_by_boolean_rule.Given as goal

-- the counter's own name and parts
abbrev pub ghosts-twice : goal.ghosts-twice
ghosts-twice g a = record { name = a.blank.name; parts = a.blank.parts }
