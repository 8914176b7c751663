use Rattle.px_c.proofs.px_answer.Given as goal

-- the ledger of the blank one
abbrev pub ghosts-answer_in : goal.ghosts-answer_in
ghosts-answer_in a = record { name = a.blank.name; parts = a.blank.parts }
