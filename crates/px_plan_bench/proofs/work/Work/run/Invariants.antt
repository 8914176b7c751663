use Rattle.px_plan_bench.proofs.work.Work.run.Given as goal

-- the ledger of the blank one
abbrev pub ghosts-rewrites : goal.ghosts-rewrites
ghosts-rewrites g a = record { name = a.blank.name; parts = a.blank.parts }
