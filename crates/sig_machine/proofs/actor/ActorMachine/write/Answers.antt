use Rattle.sig_machine.proofs.{◌≡◌, ◌<◌, ◌∙◌, ℕ, ℤ, Option, Some, IfSome, length, ap, arith, sym, slice_get, subst, w64, to_z-of_z, SigId, is_one, with_signal, told_at, actor_in, actor_written, cell_there, is_written, seen_written, stamp_of_signal, tells, inside, outside, wider, IsPut, seen_in, ActorMachine}
use Rattle.sig_machine.proofs.actor.ActorMachine.write.Goals as goal

-- a signal that is there, where there is one
abbrev IsBelow : ℕ → Option SigId → Type 0
IsBelow signals target = IfSome target (λ x. x.0 < signals)

pub put-requires-clause-cells : goal.put-requires-clause-cells
put-requires-clause-cells c =
    let (plan, k, flows, is_machine, below) = c.requires in
    let is = inside plan k flows c.args.self.now is_machine in
    cell_there plan k flows c.args.self.now is c.in-Some.x (subst (IsBelow (length plan.kernel.signals)) c.in-Some.is below)

pub put-requires-clause-stamps : goal.put-requires-clause-stamps
put-requires-clause-stamps c =
    let (plan, k, flows, is_machine, below) = c.requires in
    let is = inside plan k flows c.args.self.now is_machine in
    stamp_of_signal plan k flows c.args.self.now is c.in-Some.x (subst (IsBelow (length plan.kernel.signals)) c.in-Some.is below)

pub tell-requires : goal.tell-requires
tell-requires c =
    let (plan, k, flows, is_machine, below) = c.requires in
    let is = inside plan k flows c.args.self.now is_machine in
    tells plan k flows c.args.self.now is

pub returns-in-Some-clause-seen : goal.returns-in-Some-clause-seen
returns-in-Some-clause-seen c =
    let (plan, k, flows, is_machine, below) = c.requires in
    let is = wider plan k flows c.args.self.now (inside plan k flows c.args.self.now is_machine) c.in-Some.x c.with-self.result c.with-self.ensures.others c.with-self.ensures.below
    (subst (IsBelow (length plan.kernel.signals)) c.in-Some.is below) in
    let old : ActorMachine = record c.args.self.now { own = c.with-self.result } in
    let new : ActorMachine = c.tell.new.self in
    let x = c.in-Some.x in
    let v = c.args.value in
    let put : IsPut x.0 v old.machine c.put.new.self = subst (λ (z : ℤ). IsPut x.0 z old.machine c.put.new.self) (to_z-of_z w64 v c.ranges.value) c.put.ensures in
    let truths : new.truths.items ≡ told_at (slice_get old.variables.items x.0) (is_one v) old.truths.items =
    subst (λ (z : ℤ). new.truths.items ≡ told_at (slice_get old.variables.items x.0) (is_one z) old.truths.items) (to_z-of_z w64 v c.ranges.value) c.tell.ensures.truths in
    seen_written plan k flows old is x (subst (IsBelow (length plan.kernel.signals)) c.in-Some.is below) v c.put.new.self put new c.tell.ensures.stays truths
    ∙ ap (λ (o : Option SigId). with_signal o (Some v) (seen_in old)) (sym c.in-Some.is)

pub returns-in-Some-clause-actor : goal.returns-in-Some-clause-actor
returns-in-Some-clause-actor c =
    let (plan, k, flows, is_machine, below) = c.requires in
    let is = wider plan k flows c.args.self.now (inside plan k flows c.args.self.now is_machine) c.in-Some.x c.with-self.result c.with-self.ensures.others c.with-self.ensures.below
    (subst (IsBelow (length plan.kernel.signals)) c.in-Some.is below) in
    let old : ActorMachine = record c.args.self.now { own = c.with-self.result } in
    let new : ActorMachine = c.tell.new.self in
    let x = c.in-Some.x in
    let v = c.args.value in
    let put : IsPut x.0 v old.machine c.put.new.self = subst (λ (z : ℤ). IsPut x.0 z old.machine c.put.new.self) (to_z-of_z w64 v c.ranges.value) c.put.ensures in
    let truths : new.truths.items ≡ told_at (slice_get old.variables.items x.0) (is_one v) old.truths.items =
    subst (λ (z : ℤ). new.truths.items ≡ told_at (slice_get old.variables.items x.0) (is_one z) old.truths.items) (to_z-of_z w64 v c.ranges.value) c.tell.ensures.truths in
    λ step.
    actor_written plan k flows old is x (subst (IsBelow (length plan.kernel.signals)) c.in-Some.is below) v c.put.new.self put new c.tell.ensures.stays truths step
    ∙ ap (λ (o : Option SigId). record (actor_in old step) { registers = with_signal o (Some v) (seen_in old) }) (sym c.in-Some.is)

pub returns-in-Some-clause-instant : goal.returns-in-Some-clause-instant
returns-in-Some-clause-instant c = ap (λ (a : ActorMachine). a.machine.instant) c.tell.ensures.stays ∙ c.put.ensures.instant

pub returns-in-Some-clause-machine : goal.returns-in-Some-clause-machine
returns-in-Some-clause-machine c = λ plan k flows is_machine.
    let was = inside plan k flows c.args.self.now is_machine in
    let (plan0, k0, flows0, was_machine, below0) = c.requires in
    let is0 = inside plan0 k0 flows0 c.args.self.now was_machine in
    let old : ActorMachine = record c.args.self.now { own = c.with-self.result } in
    let new : ActorMachine = c.tell.new.self in
    let x = c.in-Some.x in
    let v = c.args.value in
    let here : x.0 < length plan0.kernel.signals = subst (IsBelow (length plan0.kernel.signals)) c.in-Some.is below0 in
    let below : x.0 < length plan.kernel.signals = let a = was.machine.signals in let b = is0.machine.signals in omega (arith, here, a, b) in
    let is = wider plan k flows c.args.self.now was x c.with-self.result c.with-self.ensures.others c.with-self.ensures.below below in
    let put : IsPut x.0 v old.machine c.put.new.self = subst (λ (z : ℤ). IsPut x.0 z old.machine c.put.new.self) (to_z-of_z w64 v c.ranges.value) c.put.ensures in
    let truths : new.truths.items ≡ told_at (slice_get old.variables.items x.0) (is_one v) old.truths.items =
    subst (λ (z : ℤ). new.truths.items ≡ told_at (slice_get old.variables.items x.0) (is_one z) old.truths.items) (to_z-of_z w64 v c.ranges.value) c.tell.ensures.truths in
    outside plan k flows new (is_written plan k flows old is x below v c.put.new.self put new c.tell.ensures.stays truths c.with-self.ensures.here)
