use Rattle.sig_machine.proofs.{◌+◌, arith, Actor, actor_at, Machine, none_written}
use Rattle.sig_machine.proofs.machine.Machine.next_instant.Goals as goal

pub returns-clause-actor : goal.returns-clause-actor
returns-clause-actor c = λ plan lowered flows is step.
    let next : Machine = record c.args.self.now { instant = c.args.self.now.instant + 1 } in
    let none = none_written next (λ number stamp there. let past = is.past number stamp there in omega (arith, past)) in
    λ j. let a : Actor = record (actor_at next 0) { registers = none j } in a
