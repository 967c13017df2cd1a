use Rattle.sig_meaning_laws.proofs.{◌++◌, ◌∷◌, [], subst, arith, operations_in, numbers_of, IsReference, compiled, first_fault, fitting, clean, flow_count, bounds_without_faults}
use Rattle.sig_meaning_laws.proofs.laws_accepted.faults_are_out_of_bounds.Goals as goal

pub returns-clause-none : goal.returns-clause-none
returns-clause-none c = λ plan accepted flows fit.
    bounds_without_faults plan.kernel plan.clocks.conditions (operations_in plan.store.nodes plan.ops) (numbers_of plan.order) (compiled plan accepted) flows (flow_count (fitting plan accepted flows fit))

pub returns-clause-first : goal.returns-clause-first
returns-clause-first c = λ plan accepted flows fit trace instant is fits speaks stops.
    let f = fitting plan accepted flows fit in
    first_fault plan.kernel plan.clocks.conditions (operations_in plan.store.nodes plan.ops) (numbers_of plan.order) (compiled plan accepted) flows f trace (clean f trace is fits speaks) instant
    (subst (λ n. IsReference plan.kernel flows n (trace ++ instant ∷ [])) (omega arith) stops.next) stops.beyond
