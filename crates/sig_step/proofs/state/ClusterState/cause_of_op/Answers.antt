use Rattle.sig_step.proofs.{◌≡◌, ℕ, ℤ, List, Some, refl, slice_get, subst, slice_get_read, Kernel, Faults, Gives, Outcome, outcome, Op, cause_is, faults_it, gives_it, actor_in, ActorMachine}
use Rattle.sig_step.proofs.state.ClusterState.cause_of_op.Goals as goal

-- the operation of a number is this one
abbrev IsOpAt : ℕ → Op → List Op → Type 0
IsOpAt number op ops = slice_get ops number ≡ Some op

-- an operation comes to this
abbrev ComesTo : List (List ℤ) → ActorMachine → ℕ → Op → Outcome → Kernel → Type 0
ComesTo flows v step op out kernel = outcome kernel flows (actor_in v step) op ≡ out

pub returns-in-Ok : goal.returns-in-Ok
returns-in-Ok c =
    let found = c.in-Some.ensures.lookup in
    let s = c.args.self.now in
    let op = c.in-Some.op.now in
    let there = subst (IsOpAt c.args.o.0 op) c.ops_of.ensures (slice_get_read c.ops_of.result.now _ c.args.o.0 op refl found.3.0 found.1) in
    let gives = subst (ComesTo c.args.inputs.now s.values s.step op (Gives c.in-Ok.field-0)) c.kernel_of.ensures.kernel
    (gives_it (outcome c.kernel_of.result.now c.args.inputs.now (actor_in s.values s.step) op) c.in-Ok.field-0 (c.in-Ok.ensures s.step)) in
    cause_is c.args.plan.now c.args.inputs.now s c.args.o op there (Gives c.in-Ok.field-0) gives

pub returns-in-Err : goal.returns-in-Err
returns-in-Err c =
    let found = c.in-Some.ensures.lookup in
    let s = c.args.self.now in
    let op = c.in-Some.op.now in
    let there = subst (IsOpAt c.args.o.0 op) c.ops_of.ensures (slice_get_read c.ops_of.result.now _ c.args.o.0 op refl found.3.0 found.1) in
    let faults = subst (ComesTo c.args.inputs.now s.values s.step op (Faults c.in-Err.cause)) c.kernel_of.ensures.kernel
    (faults_it (outcome c.kernel_of.result.now c.args.inputs.now (actor_in s.values s.step) op) c.in-Err.cause (c.in-Err.ensures s.step)) in
    cause_is c.args.plan.now c.args.inputs.now s c.args.o op there (Faults c.in-Err.cause) faults
