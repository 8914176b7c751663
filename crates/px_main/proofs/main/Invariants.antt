use Rattle.px_main.proofs.main.Given as goal

-- the ledger of the blank one
abbrev pub ghosts-answered : goal.ghosts-answered
ghosts-answered a = record { name = a.blank.name; parts = a.blank.parts }
