use Rattle.px_plan_tests.proofs.selects.driver.answer.Given as goal

-- the ledger of the blank one
abbrev pub ghosts-selected : goal.ghosts-selected
ghosts-selected a = record { name = a.blank.name; parts = a.blank.parts }
