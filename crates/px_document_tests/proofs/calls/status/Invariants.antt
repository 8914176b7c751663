use Rattle.px_document_tests.proofs.calls.status.Given as goal

-- the ledger of the blank one
abbrev pub ghosts-counted : goal.ghosts-counted
ghosts-counted g a = record { name = a.blank.name; parts = a.blank.parts }
