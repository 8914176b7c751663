use Rattle.px_plan_tests.proofs.plans.shared_mask.Given as goal

-- the counter's own name and parts
abbrev pub ghosts-twice : goal.ghosts-twice
ghosts-twice g a = record { name = a.blank.name; parts = a.blank.parts }

abbrev pub ghosts-beside_itself : goal.ghosts-beside_itself
ghosts-beside_itself g a = record { name = a.blank.name; parts = a.blank.parts }
