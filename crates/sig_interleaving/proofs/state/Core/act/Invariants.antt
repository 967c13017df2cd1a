use Rattle.sig_interleaving.proofs.state.Core.act.Given as goal

-- the ledger of a step is that of its blank
abbrev pub ghosts-step : goal.ghosts-step
ghosts-step g a = record { name = a.blank.name; parts = a.blank.parts }
