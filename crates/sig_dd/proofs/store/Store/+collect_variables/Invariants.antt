use Rattle.sig_dd.proofs.store.Store.+collect_variables.Given as goal

-- children stand before their node
abbrev pub decreases-collect_variables : goal.decreases-collect_variables
decreases-collect_variables l = l.r.number
