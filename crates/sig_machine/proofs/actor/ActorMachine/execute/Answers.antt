use Rattle.sig_machine.proofs.{◌≡◌, ◌∙◌, ap, ActorMachine, Cells, Machine, cells_of, nothing_done, same_machine, listed}
use Rattle.sig_machine.proofs.actor.ActorMachine.execute.Goals as goal

pub returns-clause-same : goal.returns-clause-same
returns-clause-same c = λ none.
    let old = c.args.self.now in
    let s = cells_of c.as_mut_slice.result.now c.as_mut_slice-2.result.now c.as_mut_slice-3.result.now in
    let t = cells_of c.execute.new.cells c.execute.new.stamps c.execute.new.taken in
    let same : t ≡ s = nothing_done (listed old.instructions) c.args.inputs.now old.machine.instant c.args.from c.execute.result s t c.execute.ensures.goes none in
    ap (λ (m : Machine). let a : ActorMachine = record old { machine = m } in a)
    (same_machine old.machine t (ap (λ (u : Cells). u.values) same ∙ c.as_mut_slice.ensures.value) (ap (λ (u : Cells). u.stamps) same ∙ c.as_mut_slice-2.ensures.value)
    (ap (λ (u : Cells). u.taken) same ∙ c.as_mut_slice-3.ensures.value))
