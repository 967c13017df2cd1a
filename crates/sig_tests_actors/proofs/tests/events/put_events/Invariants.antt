use Rattle.sig_interleaving.specs.Cores.{IsCore, IsReached}
use Rattle.sig_tests_actors.proofs.tests.events.put_events.Given as goal

-- the core goes on being one that was reached
abbrev pub invariant-loop-word : goal.invariant-loop-word
invariant-loop-word l = record { core : IsCore l.core; reached : IsReached l.core }
