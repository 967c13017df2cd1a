use Rattle.sig_machine.proofs.{◌≡◌, ◌∙◌, inl, inr, ℕ, List, ap, arith, sym, subst, length, listed, AreNextTold, AreVariables, IsBehind, IsOpOfStep, IsRowDone, SigId, inside, outside, instructions_here, row_done, row_stops, stamps_same, tells, ActorMachine}
use Rattle.sig_machine.proofs.actor.ActorMachine.follow_row.Goals.{then-reached-first, else-reached-first}
use Rattle.sig_machine.proofs.actor.ActorMachine.follow_row.Goals as goal

pub execute-reached-requires-clause-code : goal.execute-reached-requires-clause-code
execute-reached-requires-clause-code c =
    instructions_here c.args._plan.now c.args._actor c.args.inputs.now c.args.self.now (inside c.args._plan.now c.args._actor c.args.inputs.now c.args.self.now c.requires.machine)

pub execute-reached-requires-clause-stamps : goal.execute-reached-requires-clause-stamps
execute-reached-requires-clause-stamps c =
    stamps_same c.args._plan.now c.args._actor c.args.inputs.now c.args.self.now (inside c.args._plan.now c.args._actor c.args.inputs.now c.args.self.now c.requires.machine)

pub execute-reached-requires-clause-within : goal.execute-reached-requires-clause-within
execute-reached-requires-clause-within c =
    let is = inside c.args._plan.now c.args._actor c.args.inputs.now c.args.self.now c.requires.machine in
    let count = is.count in
    let within = c.requires.within in
    omega (arith, count, within)

-- what was made of the machine but for its cells
abbrev TellsOn : ActorMachine → Type 0
TellsOn a = (conditions : List SigId) × (signals : ℕ) × AreVariables conditions signals a.variables.items × (length a.truths.items ≡ length conditions)

pub tell_row-requires-clause-table : goal.tell_row-requires-clause-table
tell_row-requires-clause-table c =
    subst TellsOn (sym c.execute-reached.ensures.on.machine)
    (tells c.args._plan.now c.args._actor c.args.inputs.now c.args.self.now (inside c.args._plan.now c.args._actor c.args.inputs.now c.args.self.now c.requires.machine))

pub tell_row-requires-clause-next : goal.tell_row-requires-clause-next
tell_row-requires-clause-next c =
    subst (λ (a : ActorMachine). AreNextTold (listed a.instructions) a.variables.items a.next_told.items) (sym c.execute-reached.ensures.on.machine)
    (inside c.args._plan.now c.args._actor c.args.inputs.now c.args.self.now c.requires.machine).next

pub tell_row-requires-clause-within : goal.tell_row-requires-clause-within
tell_row-requires-clause-within c =
    let is = inside c.args._plan.now c.args._actor c.args.inputs.now c.args.self.now c.requires.machine in
    let count = ap (λ (a : ActorMachine). length (listed a.instructions)) c.execute-reached.ensures.on.machine ∙ is.count in
    let within = c.requires.within in
    let reached = c.execute-reached.ensures.within in
    omega (arith, count, within, reached)

pub returns-clause-followed : goal.returns-clause-followed
returns-clause-followed c =
    let old = c.args.self.now in
    let is = inside c.args._plan.now c.args._actor c.args.inputs.now old c.requires.machine in
    let mid = c.execute-reached.new.self in
    let reached = c.execute-reached.result in
    let later = c.execute-reached.ensures.later in
    let new = c.if-reached-first.self in
    let behind : IsBehind c.args._plan.now c.args._actor c.args.inputs.now old is c.args.from reached mid c.execute-reached.ensures.on c.execute-reached.ensures.goes new = elim c.if-reached-first.branch [
      | then-reached-first w ↦ inl (w.tell_row.new.self, w.self-is, w.if-reached-first.true, w.tell_row.ensures.stays, w.tell_row.ensures.told)
      | else-reached-first w ↦ inr (w.self-is, let none = w.if-reached-first.false in omega (arith, none))
    ] in
    let done : IsRowDone c.args._plan.now c.args._actor c.args.inputs.now old is c.args.from reached mid c.execute-reached.ensures.on c.execute-reached.ensures.goes new =
    row_done c.args._plan.now c.args._actor c.args.inputs.now old is c.args.from reached mid c.execute-reached.ensures.on c.execute-reached.ensures.goes
    c.args.most c.requires.operations later c.execute-reached.ensures.within c.execute-reached.ensures.same new behind in
    done.followed

pub returns-clause-stops : goal.returns-clause-stops
returns-clause-stops c = λ before op does.
    let old = c.args.self.now in
    let is = inside c.args._plan.now c.args._actor c.args.inputs.now old c.requires.machine in
    let mid = c.execute-reached.new.self in
    let reached = c.execute-reached.result in
    let later = c.execute-reached.ensures.later in
    let new = c.if-reached-first.self in
    let behind : IsBehind c.args._plan.now c.args._actor c.args.inputs.now old is c.args.from reached mid c.execute-reached.ensures.on c.execute-reached.ensures.goes new = elim c.if-reached-first.branch [
      | then-reached-first w ↦ inl (w.tell_row.new.self, w.self-is, w.if-reached-first.true, w.tell_row.ensures.stays, w.tell_row.ensures.told)
      | else-reached-first w ↦ inr (w.self-is, let none = w.if-reached-first.false in omega (arith, none))
    ] in
    let done : IsRowDone c.args._plan.now c.args._actor c.args.inputs.now old is c.args.from reached mid c.execute-reached.ensures.on c.execute-reached.ensures.goes new =
    row_done c.args._plan.now c.args._actor c.args.inputs.now old is c.args.from reached mid c.execute-reached.ensures.on c.execute-reached.ensures.goes
    c.args.most c.requires.operations later c.execute-reached.ensures.within c.execute-reached.ensures.same new behind in
    row_stops c.args._plan.now c.args._actor c.args.inputs.now old is c.args.from reached mid c.execute-reached.ensures.on c.execute-reached.ensures.goes new done
    (c.execute-reached.ensures.stops (omega (arith, before, later))) op
    (subst (λ (n : ℕ). IsOpOfStep c.args._plan.now c.args._actor n op) (omega (arith, later)) does)

pub returns-clause-machine : goal.returns-clause-machine
returns-clause-machine c =
    let old = c.args.self.now in
    let is = inside c.args._plan.now c.args._actor c.args.inputs.now old c.requires.machine in
    let mid = c.execute-reached.new.self in
    let reached = c.execute-reached.result in
    let later = c.execute-reached.ensures.later in
    let new = c.if-reached-first.self in
    let behind : IsBehind c.args._plan.now c.args._actor c.args.inputs.now old is c.args.from reached mid c.execute-reached.ensures.on c.execute-reached.ensures.goes new = elim c.if-reached-first.branch [
      | then-reached-first w ↦ inl (w.tell_row.new.self, w.self-is, w.if-reached-first.true, w.tell_row.ensures.stays, w.tell_row.ensures.told)
      | else-reached-first w ↦ inr (w.self-is, let none = w.if-reached-first.false in omega (arith, none))
    ] in
    let done : IsRowDone c.args._plan.now c.args._actor c.args.inputs.now old is c.args.from reached mid c.execute-reached.ensures.on c.execute-reached.ensures.goes new =
    row_done c.args._plan.now c.args._actor c.args.inputs.now old is c.args.from reached mid c.execute-reached.ensures.on c.execute-reached.ensures.goes
    c.args.most c.requires.operations later c.execute-reached.ensures.within c.execute-reached.ensures.same new behind in
    outside c.args._plan.now c.args._actor c.args.inputs.now new done.is_new
