-- A kernel is accepted, or refused for one reason.
use Rattle.sig_plan.proofs.Common.{◌≡◌, ℕ, List, length, refl, sym, ap, ◌∙◌, subst, arith, None, Some, All, false≢true, SigId, HasClocks, IsFirstPinned, IsMissingRoot, IsOpen, IsUnsolved, IsDead, status_at, dead_has_none, one_least, same_pinned, same_roots, absent_in_silence, IsValid, Kernel, HasCycle, HasOperations, HasTooManyLinks, IsAcceptedKernel, KernelFault, Cycle, Dead, MissingRoot, Pinned, TooManyLinks, Unsolved, Operation, HasNoCycle, IsCycle, IsOnCycle, AreParts}
use Rattle.sig_plan.specs.Acceptance.{IsRefusedFor}
use Rattle.sig_plan.proofs.Lists.{signal_same}
use Rattle.sig_plan.proofs.OperationsOnce.{operations_once}
use Rattle.sig_plan.proofs.PartsOnce.{WritesWithin, operations_fine, parts_once}

module _ (kernel : Kernel) where
  dead_root : (x y : ℕ) → IsDead kernel → IsMissingRoot kernel x y → ⊥
  dead_root x y dead missing = let possible = missing.first.holds in false≢true (sym possible.1.some ∙ dead possible.0 possible.1.is)

  dead_open : (x : ℕ) → IsDead kernel → IsUnsolved kernel x → ⊥
  dead_open x dead unsolved = unsolved.first.holds.1 1 (λ a b speaks_a speaks_b agree. absurd (false≢true (sym speaks_a.some ∙ dead a speaks_a.is)))

  dead_pinned : (b : ℕ) → IsDead kernel → IsFirstPinned kernel b → ⊥
  dead_pinned b dead first =
      let pinned = first.pinned in
      let absent : status_at pinned.reaction b ≡ None = absent_in_silence pinned.reaction b (dead pinned.reaction pinned.possible) in
      let both : None ≡ Some pinned.truth = sym absent ∙ pinned.present in
      cc

  root_open : (x y u : ℕ) → IsMissingRoot kernel x y → IsUnsolved kernel u → ⊥
  root_open x y u missing unsolved = missing.none unsolved.root.0 unsolved.root.1

  root_pinned : (x y b : ℕ) → IsMissingRoot kernel x y → IsFirstPinned kernel b → ⊥
  root_pinned x y b missing pinned = missing.none pinned.root.0 pinned.root.1

  root_clocks : (x y : ℕ) → IsMissingRoot kernel x y → HasClocks kernel → ⊥
  root_clocks x y missing has = missing.none has.root.0 has.root.1

  open_pinned : (x b : ℕ) → IsUnsolved kernel x → IsFirstPinned kernel b → ⊥
  open_pinned x b unsolved pinned = let solved = pinned.solved x unsolved.first.holds.0 in unsolved.first.holds.1 solved.0 solved.1.enters

  open_clocks : (x : ℕ) → IsUnsolved kernel x → HasClocks kernel → ⊥
  open_clocks x unsolved has = let solved = has.solved x unsolved.first.holds.0 in unsolved.first.holds.1 solved.0 solved.1.enters

  pinned_clocks : (b : ℕ) → IsFirstPinned kernel b → HasClocks kernel → ⊥
  pinned_clocks b first has =
      let pinned = first.pinned in
      let other = has.free b pinned.is pinned.reaction pinned.truth pinned.possible pinned.present in
      pinned.forced other.0 other.1 other.2 other.3

  module _ (valid : IsValid kernel) where
    -- what holds of one order of the conditions and one list of operations holds of another one
    over_these : (P : List SigId → List Operation → Type 0) (conditions others : List SigId) (operations other_operations : List Operation) → HasOperations kernel conditions operations → HasOperations kernel others other_operations
        → P others other_operations → P conditions operations
    over_these P conditions others operations other_operations one other is =
        let same = operations_once kernel valid conditions others operations other_operations one other in
        subst (λ cs. P cs operations) (sym same.0) (subst (P others) (sym same.1) is)

    cycle_or_none : (x : SigId) (conditions : List SigId) (operations : List Operation) → HasCycle kernel x → HasOperations kernel conditions operations → HasNoCycle conditions operations → ⊥
    cycle_or_none x conditions operations cycle has acyclic =
        let on = cycle.cycle.holds in
        let none = over_these HasNoCycle cycle.conditions conditions cycle.operations operations cycle.has has acyclic in
        none on.number on.cycle

    same_cycle : (x y : SigId) → HasCycle kernel x → HasCycle kernel y → x ≡ y
    same_cycle x y one other =
        let moved = over_these (λ cs os. IsCycle cs os y.0) one.conditions other.conditions one.operations other.operations one.has other.has other.cycle in
        signal_same x y (one_least (IsOnCycle one.conditions one.operations) x.0 y.0 one.cycle moved)

    pub fault_once : (a b : KernelFault) → IsRefusedFor kernel a → IsRefusedFor kernel b → a ≡ b
    fault_once Dead (MissingRoot x y) one other = absurd (dead_root x.0 y.0 one other)
    fault_once Dead (Unsolved x) one other = absurd (dead_open x.0 one other)
    fault_once Dead (Pinned b) one other = absurd (dead_pinned b.0 one other)
    fault_once Dead (Cycle x) one other = absurd (dead_has_none kernel one other.has.clocks)
    fault_once Dead TooManyLinks one other = absurd (dead_has_none kernel one other.has.clocks)
    fault_once (MissingRoot x y) Dead one other = absurd (dead_root x.0 y.0 other one)
    fault_once (MissingRoot x y) (MissingRoot u v) one other = let same = same_roots kernel x.0 y.0 u.0 v.0 one other in λ j. MissingRoot (signal_same x u same.0 j) (signal_same y v same.1 j)
    fault_once (MissingRoot x y) (Unsolved u) one other = absurd (root_open x.0 y.0 u.0 one other)
    fault_once (MissingRoot x y) (Pinned b) one other = absurd (root_pinned x.0 y.0 b.0 one other)
    fault_once (Unsolved x) Dead one other = absurd (dead_open x.0 other one)
    fault_once (Unsolved x) (MissingRoot u v) one other = absurd (root_open u.0 v.0 x.0 other one)
    fault_once (Unsolved x) (Unsolved y) one other = ap Unsolved (signal_same x y (one_least (IsOpen kernel) x.0 y.0 one.first other.first))
    fault_once (Unsolved x) (Pinned b) one other = absurd (open_pinned x.0 b.0 one other)
    fault_once (Pinned b) Dead one other = absurd (dead_pinned b.0 other one)
    fault_once (Pinned b) (MissingRoot u v) one other = absurd (root_pinned u.0 v.0 b.0 other one)
    fault_once (Pinned b) (Unsolved x) one other = absurd (open_pinned x.0 b.0 other one)
    fault_once (Pinned b) (Pinned d) one other = ap Pinned (signal_same b d (same_pinned kernel b.0 d.0 one other))
    fault_once (Cycle x) Dead one other = absurd (dead_has_none kernel other one.has.clocks)
    fault_once (Cycle x) (Cycle y) one other = ap Cycle (same_cycle x y one other)
    fault_once (Cycle x) TooManyLinks one other = absurd (cycle_or_none x other.conditions other.operations one other.has other.acyclic)
    fault_once TooManyLinks Dead one other = absurd (dead_has_none kernel other one.has.clocks)
    fault_once TooManyLinks (Cycle y) one other = absurd (cycle_or_none y one.conditions one.operations other one.has one.acyclic)
    fault_once (MissingRoot x y) _ one other = absurd (root_clocks x.0 y.0 one other.has.clocks)
    fault_once (Unsolved x) _ one other = absurd (open_clocks x.0 one other.has.clocks)
    fault_once (Pinned b) _ one other = absurd (pinned_clocks b.0 one other.has.clocks)
    fault_once _ (MissingRoot u v) one other = absurd (root_clocks u.0 v.0 other one.has.clocks)
    fault_once _ (Unsolved u) one other = absurd (open_clocks u.0 other one.has.clocks)
    fault_once _ (Pinned b) one other = absurd (pinned_clocks b.0 other one.has.clocks)
    fault_once _ _ one other = refl

    links_or_few : HasTooManyLinks kernel → IsAcceptedKernel kernel → ⊥
    links_or_few many is =
        let split : AreParts kernel many.conditions many.operations is.parts =
        over_these (λ cs os. AreParts kernel cs os is.parts) many.conditions is.conditions many.operations is.operations many.has is.has is.split in
        let fine = subst (λ (os : List Operation). All (WritesWithin (length kernel.signals)) os) (sym many.has.are) (operations_fine kernel many.has.presence valid) in
        let links = parts_once kernel many.conditions many.operations fine many.many.parts is.parts many.many.are split in
        omega (arith, ap length links.1, many.many.many, is.few)

    pub accepted_or_refused : (fault : KernelFault) → IsAcceptedKernel kernel → IsRefusedFor kernel fault → ⊥
    accepted_or_refused Dead is refused = dead_has_none kernel refused is.has.clocks
    accepted_or_refused (MissingRoot x y) is refused = root_clocks x.0 y.0 refused is.has.clocks
    accepted_or_refused (Unsolved x) is refused = open_clocks x.0 refused is.has.clocks
    accepted_or_refused (Pinned b) is refused = pinned_clocks b.0 refused is.has.clocks
    accepted_or_refused (Cycle x) is refused = cycle_or_none x is.conditions is.operations refused is.has is.acyclic
    accepted_or_refused TooManyLinks is refused = links_or_few refused is
