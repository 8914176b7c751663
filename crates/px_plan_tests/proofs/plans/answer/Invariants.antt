use Rattle.px_plan_tests.proofs.plans.answer.Given as goal

-- the counter's own name and parts
abbrev pub ghosts-optimized_text : goal.ghosts-optimized_text
ghosts-optimized_text a = record { name = a.blank.name; parts = a.blank.parts }
