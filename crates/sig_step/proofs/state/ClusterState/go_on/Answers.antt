use Rattle.sig_step.proofs.{◌≡◌, ◌<◌, ◌≤◌, ◌+◌, ◌∙◌, ℕ, true, refl, ap, arith, code_of, known_holds, length, position_of, row_operates, slice_get, slice_get_read, stretch_over, List, Some, ClusterState, IsKnown, IsRow, IsStateOf, PassesOver, PlanView, Step, ℤ}
use Rattle.sig_step.proofs.state.ClusterState.go_on.Goals.{then-row-most, else-row-most}
use Rattle.sig_step.proofs.state.ClusterState.go_on.Goals as goal

-- the row that begins at the next step
row_here : (plan : PlanView) (flows : List (List ℤ)) (s : ClusterState) → IsStateOf plan flows s → (to : ℕ) → (s.step < length s.rows.items → slice_get s.rows.items s.step ≡ Some to) → IsRow (code_of plan s.actor).steps s.step to
row_here plan flows s state to at = state.rows s.step to (at (let below = state.step in let count = state.row_count in omega (arith, below, count)))

-- no step is done
none_over : (plan : PlanView) (flows : List (List ℤ)) (s : ClusterState) → IsStateOf plan flows s → (over : PassesOver plan flows s s) × (over.count ≡ 0)
none_over plan flows s state = (record { count = 0; turns = refl; state = state; actor = record { actor = refl; limit = refl }; ended = refl; instant = refl }, refl)

pub returns-then-row-eq0-clause-over : goal.returns-then-row-eq0-clause-over
returns-then-row-eq0-clause-over c = none_over c.args.plan.now c.args.inputs.now c.args.self.now c.requires.state

pub returns-then-not-is_on-clause-over : goal.returns-then-not-is_on-clause-over
returns-then-not-is_on-clause-over c = none_over c.args.plan.now c.args.inputs.now c.args.self.now c.requires.state

pub overflow_sub-row : goal.overflow_sub-row
overflow_sub-row c =
    let s = c.args.self.now in
    (row_here c.args.plan.now c.args.inputs.now s c.requires.state c.index.result.now (λ within. slice_get_read s.rows.items (length s.rows.items) s.step c.index.result.now refl within c.index.ensures)).forth

pub follow_row-done-requires-clause-operations : goal.follow_row-done-requires-clause-operations
follow_row-done-requires-clause-operations c =
    let s = c.args.self.now in
    let to = c.index.result.now in
    let row = row_here c.args.plan.now c.args.inputs.now s c.requires.state to (λ within. slice_get_read s.rows.items (length s.rows.items) s.step to refl within c.index.ensures) in
    let forth = row.forth in
    let short : s.step + c.if-row-most.count ≤ to = elim c.if-row-most.branch [
      | then-row-most w ↦ grind (arith, w.count-is, forth)
      | else-row-most w ↦ grind (arith, w.count-is, w.if-row-most.false, forth)
    ] in
    row_operates c.args.plan.now c.plans_can_run.ensures.accepted s.actor c.requires.state.actor s.step to c.if-row-most.count row short

pub follow_row-done-requires-clause-within : goal.follow_row-done-requires-clause-within
follow_row-done-requires-clause-within c =
    let s = c.args.self.now in
    let to = c.index.result.now in
    let row = row_here c.args.plan.now c.args.inputs.now s c.requires.state to (λ within. slice_get_read s.rows.items (length s.rows.items) s.step to refl within c.index.ensures) in
    let forth = row.forth in
    let inside = row.inside in
    let short : s.step + c.if-row-most.count ≤ to = elim c.if-row-most.branch [
      | then-row-most w ↦ grind (arith, w.count-is, forth)
      | else-row-most w ↦ grind (arith, w.count-is, w.if-row-most.false, forth)
    ] in
    omega (arith, short, inside)

pub returns-clause-over : goal.returns-clause-over
returns-clause-over c =
    let s = c.args.self.now in
    let to = c.index.result.now in
    let n = c.follow_row-done.result in
    let v = c.follow_row-done.new.self in
    let row = row_here c.args.plan.now c.args.inputs.now s c.requires.state to (λ within. slice_get_read s.rows.items (length s.rows.items) s.step to refl within c.index.ensures) in
    let forth = row.forth in
    let short : s.step + c.if-row-most.count ≤ to = elim c.if-row-most.branch [
      | then-row-most w ↦ grind (arith, w.count-is, forth)
      | else-row-most w ↦ grind (arith, w.count-is, w.if-row-most.false, forth)
    ] in
    let few = c.follow_row-done.ensures.few in
    let step = c.next_step_in-step.result in
    let known : IsKnown step.slot true s = known_holds s step.slot _ refl true (c.is_on.ensures.0 c.if-not-is_on.false) in
    let here : c.position_of-self.result ≡ position_of (slice_get (code_of c.args.plan.now s.actor).steps (s.step + n)) =
    c.position_of-self.ensures ∙ ap (λ (xs : List Step). position_of (slice_get xs (s.step + n))) c.requires.code in
    let placed = ap (λ (p : ℕ). let m : ClusterState = record s { values = v; step = s.step + n; pos = p } in m) here in
    stretch_over c.args.plan.now c.args.inputs.now c.plans_can_run.ensures s c.requires.state c.requires.runs c.requires.within to row step c.next_step_in-step.ensures known
    n v (omega (arith, few, short)) c.follow_row-done.ensures.followed _ placed
