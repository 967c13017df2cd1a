use Rattle.std.proofs.Common.{◌≡◌, length}
use Rattle.sig_step.specs.States.{IsStateOf}
use Rattle.sig_tests_actors.proofs.tests.steps.stepped.Given as goal

-- the state goes on being one of the plan, and the ends those of its links
abbrev pub invariant-loop : goal.invariant-loop
invariant-loop g l = record { state : IsStateOf l.plan l.inputs l.state; links : l.ends.links ≡ length l.plan.links }
