use Rattle.px_eval_bench.proofs.work.Work.run.Given as goal

-- the ledger of the blank one
abbrev pub ghosts-select : goal.ghosts-select
ghosts-select a = record { name = a.blank.name; parts = a.blank.parts }
