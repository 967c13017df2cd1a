-- Operations of an actor that its machine does in a row.
use Rattle.sig_machine.proofs.Common.{◌≡◌, ◌<◌, ◌≤◌, ◌+◌, ◌⊎◌, ◌∙◌, inl, inr, if◌then◌else◌, ℕ, zero, suc, ℤ, pos, Bool, List, length, nat_lt, set, slice_get, slice_index_or, None, Some, Ok, refl, sym, ap, subst, arith, length-set, eq-eqb, eqb_tells, get_within, with_items, with_items_is, Op, PlanView, SigId, is_one, is_true, truths_of, answered, AreToldBetween, TellNoneBetween, TellsBetween, DoOperations, AreFollowed, HasActor, HasFault, IsOnCells, GoesTo, Stops, ◌-◌, IsKept, IsOpOfStep, seen_in, told_at, Cells, Does, answer_of, came_to, cell, cells_in, left_by, listed, registers_of, stamped, taken_after, ActorMachine, Instruction, Instructions, Machine, Work, Copy, Next, One, Two}
use Rattle.std.proofs.lemmas.Bool.{lt-ltb}
use Rattle.sig_lists.proofs.Places.{some_at}
use Rattle.sig_lists.proofs.SetItems.{get_set_other, get_set_same}
use Rattle.sig_machine.proofs.Actors.{IsOnMachine, same_instructions, step_done, step_faults, step_is, step_told}
use Rattle.sig_machine.proofs.Insides.{outside}
use Rattle.sig_machine.proofs.LeftValues.{or_other}
use Rattle.sig_machine.proofs.Lists.{map_at, same_Some, same_by_place}
use Rattle.sig_machine.proofs.MachinesWithCells.{AreAsMany, HasCells, has_these, with_cells}
use Rattle.sig_machine.proofs.Told.{truths_count}
use Rattle.sig_machine.proofs.ToldRows.{told_count}

-- ---- the cells behind a row

module _ (instructions : List Instruction) (flows : List (List ℤ)) (instant from : ℕ) where
  stamps_count : (n : ℕ) (s t : Cells) → Does instructions flows instant from n s t → length t.stamps ≡ length s.stamps
  stamps_count zero s t is = ap (λ (u : Cells). length u.stamps) is
  stamps_count (suc n) s t (middle, so_far, (last, at, done)) =
      ap (λ (u : Cells). length u.stamps) done.leaves ∙ length-set middle.stamps last.target instant ∙ stamps_count n s middle so_far

  -- a cell that was written has the stamp of the instant
  pub stamped_in_row : (n : ℕ) (s t : Cells) → Does instructions flows instant from n s t → (number : ℕ) (instruction : Instruction) → from ≤ number → number < from + n
      → slice_get instructions number ≡ Some instruction → instruction.target < length s.stamps → slice_get t.stamps instruction.target ≡ Some instant
  stamped_in_row zero s t is number instruction later before there within = absurd (omega (arith, later, before))
  stamped_in_row (suc n) s t (middle, so_far, (last, at, done)) number instruction later before there within =
      let count = stamps_count n s middle so_far in
      ap (λ (u : Cells). slice_get u.stamps instruction.target) done.leaves
      ∙ elim (eqb_tells instruction.target last.target) [
        | inl same ↦
            ap (slice_get (set middle.stamps last.target instant)) same.1
            ∙ get_set_same middle.stamps last.target instant (let e = same.1 in omega (arith, e, within, count))
        | inr other ↦
            get_set_other middle.stamps last.target instruction.target instant other.1
            ∙ stamped_in_row n s middle so_far number instruction later
            (elim (eqb_tells number (from + n)) [
              | inl end ↦ absurd (other.1 (ap (λ (i : Instruction). i.target) (same_Some instruction last (sym there ∙ ap (slice_get instructions) end.1 ∙ at))))
              | inr earlier ↦ let e = earlier.1 in omega (arith, before, e)
            ])
            there within
      ]

  -- a cell that none writes is as it was
  pub others_in_row : (n : ℕ) (s t : Cells) → Does instructions flows instant from n s t → (x : ℕ)
      → ((number : ℕ) (instruction : Instruction) → from ≤ number → number < from + n → slice_get instructions number ≡ Some instruction → instruction.target ≡ x → ⊥)
      → (cell t.values x ≡ cell s.values x) × (slice_get t.stamps x ≡ slice_get s.stamps x)
  others_in_row zero s t is x none = (ap (λ (u : Cells). cell u.values x) is, ap (λ (u : Cells). slice_get u.stamps x) is)
  others_in_row (suc n) s t (middle, so_far, (last, at, done)) x none =
      let apart : x ≡ last.target → ⊥ = λ e. none (from + n) last (omega arith) (omega arith) at (sym e) in
      let before = others_in_row n s middle so_far x (λ number instruction later less. none number instruction later (omega (arith, less))) in (
        ap (λ (u : Cells). cell u.values x) done.leaves ∙ or_other middle.values last.target x done.value (pos 0) apart ∙ before.0,
        ap (λ (u : Cells). slice_get u.stamps x) done.leaves ∙ get_set_other middle.stamps last.target x instant apart ∙ before.1,
      )

after_count : (work : Work) (taken : List ℕ) → length (taken_after work taken) ≡ length taken
after_count (Next input) taken = length-set taken input (slice_index_or taken input 0 + 1)
after_count (Copy source) taken = refl
after_count (One function a) taken = refl
after_count (Two function a b) taken = refl

-- the register of a cell with the stamp of the instant
written : (m : Machine) (x : ℕ) → x < m.signals → slice_get m.stamps.items x ≡ Some m.instant → registers_of m x ≡ Some (cell m.cells.items x)
written m x below stamp =
    ap (λ b. if b then stamped m.instant (slice_get m.stamps.items x) (cell m.cells.items x) else None) (lt-ltb x m.signals below)
    ∙ ap (λ o. stamped m.instant o (cell m.cells.items x)) stamp
    ∙ ap (λ b. if b then Some (cell m.cells.items x) else None) (eq-eqb m.instant m.instant refl)

-- registers are told by the number of signals, the instant, the stamp and the cell
same_register : (m n : Machine) (x : ℕ) → m.signals ≡ n.signals → m.instant ≡ n.instant → slice_get m.stamps.items x ≡ slice_get n.stamps.items x
    → cell m.cells.items x ≡ cell n.cells.items x → registers_of m x ≡ registers_of n x
same_register m n x signals instant stamp value =
    ap (λ k. if nat_lt x k then stamped m.instant (slice_get m.stamps.items x) (cell m.cells.items x) else None) signals
    ∙ ap (λ k. if nat_lt x n.signals then stamped k (slice_get m.stamps.items x) (cell m.cells.items x) else None) instant
    ∙ ap (λ o. if nat_lt x n.signals then stamped n.instant o (cell m.cells.items x) else None) stamp
    ∙ ap (λ v. if nat_lt x n.signals then stamped n.instant (slice_get n.stamps.items x) v else None) value

module _ (plan : PlanView) (k : ℕ) (flows : List (List ℤ)) (old : ActorMachine) (is : HasActor plan k flows old) (from : ℕ) where
  abbrev conditions : List SigId
  conditions = plan.clocks.conditions

  abbrev first : Cells
  first = cells_in old.machine

  abbrev Done : ℕ → Cells → Cells → Type 0
  Done n s t = Does (listed old.instructions) flows old.machine.instant from n s t

  -- ---- the machines on the way

  -- behind so many steps a machine of the actor has these cells
  record IsAt (n : ℕ) (s : Cells) : Type 0 where
    now : ActorMachine
    has : HasCells old.machine.signals old.machine.instant s now.machine
    is_now : HasActor plan k flows now
    followed : AreFollowed plan k flows from n old now
    rest : IsOnMachine old now

  at_first : IsAt 0 first
  at_first = record { now = old; has = record { signals = refl; instant = refl; cells = refl; stamps = refl; taken = refl }; is_now = is; followed = refl; rest = refl }

  module _ (n : ℕ) (s : Cells) (at : IsAt n s) (op : Op) (does : IsOpOfStep plan k (from + n) op) (instruction : Instruction) (there : slice_get (listed old.instructions) (from + n) ≡ Some instruction) where
    abbrev m : ActorMachine
    m = at.now

    there_now : slice_get (listed m.instructions) (from + n) ≡ Some instruction
    there_now = ap (λ (all : Instructions). slice_get (listed all) (from + n)) (same_instructions old m at.rest) ∙ there

    module _ (value : ℤ) (gives : Ok value ≡ answer_of flows s.values s.taken instruction.work) where
      gave : Ok value ≡ answered (came_to flows m.machine instruction.work)
      gave =
          gives
          ∙ ap (λ (xs : List ℤ). answer_of flows xs s.taken instruction.work) (sym at.has.cells)
          ∙ ap (λ (xs : List ℕ). answer_of flows m.machine.cells.items xs instruction.work) (sym at.has.taken)

      abbrev t : Cells
      t = left_by instruction value old.machine.instant s

      -- whatever machine has the cells behind it
      module _ (new : ActorMachine) (has_new : HasCells old.machine.signals old.machine.instant t new.machine) (rest : IsOnMachine m new) where
        kept : IsKept instruction value m.machine new.machine
        kept = record {
          signals = has_new.signals ∙ sym at.has.signals;
          instant = has_new.instant ∙ sym at.has.instant;
          cells = has_new.cells ∙ ap (λ (xs : List ℤ). set xs instruction.target value) (sym at.has.cells);
          stamps = has_new.stamps ∙ ap (λ (xs : List ℕ). set xs instruction.target old.machine.instant) (sym at.has.stamps)
              ∙ ap (λ (i : ℕ). set m.machine.stamps.items instruction.target i) (sym at.has.instant);
          taken = has_new.taken ∙ ap (taken_after instruction.work) (sym at.has.taken);
        }

        tells_now : told_at (slice_get m.variables.items instruction.target) (is_one value) m.truths.items ≡ truths_of conditions (seen_in new)
        tells_now = step_told plan k flows m at.is_now (from + n) op does instruction there_now value gave new kept rest

        module _ (told : new.truths.items ≡ truths_of conditions (seen_in new)) where
          new_is : HasActor plan k flows new
          new_is = step_is plan k flows m at.is_now (from + n) op does instruction there_now value gave new kept rest told

          new_followed : AreFollowed plan k flows from (suc n) old new
          new_followed = (
            m,
            at.followed,
            record {
              machine = outside plan k flows new new_is;
              done = λ other other_does. step_done plan k flows m at.is_now (from + n) other other_does instruction there_now value gave new kept rest;
            },
          )

      many : AreAsMany m.machine t
      many = record {
        values = length-set s.values instruction.target value ∙ ap length (sym at.has.cells);
        stamps = length-set s.stamps instruction.target old.machine.instant ∙ ap length (sym at.has.stamps);
        taken = after_count instruction.work s.taken ∙ ap length (sym at.has.taken);
      }

      abbrev truths : List Bool
      truths = told_at (slice_get m.variables.items instruction.target) (is_one value) m.truths.items

      abbrev next : ActorMachine
      next = record m { machine = with_cells m.machine t; truths = with_items m.truths truths }

      has_next : HasCells old.machine.signals old.machine.instant t next.machine
      has_next =
          let has = has_these m.machine t many in
          record { signals = at.has.signals; instant = at.has.instant; cells = has.cells; stamps = has.stamps; taken = has.taken }

      told_next : next.truths.items ≡ truths_of conditions (seen_in next)
      told_next =
          with_items_is m.truths truths (told_count (slice_get m.variables.items instruction.target) (is_one value) m.truths.items ∙ sym m.truths.ok.0)
          ∙ tells_now next has_next refl

      at_next : IsAt (suc n) t
      at_next = record {
        now = next;
        has = has_next;
        is_now = new_is next has_next refl told_next;
        followed = new_followed next has_next refl told_next;
        rest = ap (λ (a : ActorMachine). let b : ActorMachine = record a { machine = next.machine; truths = next.truths } in b) at.rest;
      }

  at_each : (n : ℕ) (s : Cells) → DoOperations plan k from n → Done n first s → IsAt n s
  at_each zero s operations is_first = subst (λ (u : Cells). IsAt 0 u) (sym is_first) at_first
  at_each (suc n) s operations (middle, so_far, (instruction, there, done)) =
      let (op, does) = operations n (omega arith) in
      subst (λ (u : Cells). IsAt (suc n) u) (sym done.leaves)
      (at_next n middle (at_each n middle (λ j less. operations j (omega (arith, less))) so_far) op does instruction there done.value done.gives)

  -- ---- behind the row

  module _ (new : ActorMachine) (signals : new.machine.signals ≡ old.machine.signals) (instant : new.machine.instant ≡ old.machine.instant) where
    -- the truths are those of the conditions, once those are told that the row writes
    pub row_told : (n : ℕ) → Done n first (cells_in new.machine)
        → AreToldBetween (listed old.instructions) old.variables.items new.machine.cells.items from (from + n) old.truths.items new.truths.items
        → new.truths.items ≡ truths_of conditions (seen_in new)
    row_told n done told =
        same_by_place new.truths.items (truths_of conditions (seen_in new))
        (told.count ∙ ap length is.told ∙ truths_count conditions (seen_in old) ∙ sym (truths_count conditions (seen_in new))) each where
          each : (variable : ℕ) (holds : Bool) → slice_get new.truths.items variable ≡ Some holds → slice_get (truths_of conditions (seen_in new)) variable ≡ Some holds
          each variable holds at_new = by (told.each variable holds at_new) where
            within : variable < length conditions
            within =
                let lt = get_within new.truths.items variable holds at_new in
                let same = told.count ∙ ap length is.told ∙ truths_count conditions (seen_in old) in
                omega (arith, lt, same)

            c : SigId
            c = (some_at conditions variable within).0

            at_c : slice_get conditions variable ≡ Some c
            at_c = (some_at conditions variable within).1

            at_table : slice_get old.variables.items c.0 ≡ Some (Some variable)
            at_table = is.table.all variable c at_c

            below : c.0 < length plan.kernel.signals
            below = let lt = get_within old.variables.items c.0 (Some variable) at_table in let all = is.table.count in omega (arith, lt, all)

            now : slice_get (truths_of conditions (seen_in new)) variable ≡ Some (is_true (seen_in new c.0))
            now = map_at (λ (condition : SigId). is_true (seen_in new condition.0)) conditions variable c at_c

            by : TellsBetween (listed old.instructions) old.variables.items new.machine.cells.items from (from + n) variable holds
                ⊎ ((slice_get old.truths.items variable ≡ Some holds) × TellNoneBetween (listed old.instructions) old.variables.items from (from + n) variable)
                → slice_get (truths_of conditions (seen_in new)) variable ≡ Some holds
            by (inl one) =
                let (named, named_at, number) = is.table.is one.instruction.target variable one.tells in
                let here : one.instruction.target ≡ c.0 = sym number ∙ ap (λ (condition : SigId). condition.0) (same_Some named c (sym named_at ∙ at_c)) in
                let stamp = stamped_in_row (listed old.instructions) flows old.machine.instant from n first (cells_in new.machine) done one.place one.instruction one.later one.before one.is
                (let s = is.machine.stamps in let r = is.room in omega (arith, here, below, s, r)) in
                let there = written new.machine c.0 (let a = is.machine.signals in omega (arith, signals, a, below)) (ap (slice_get new.machine.stamps.items) (sym here) ∙ stamp ∙ ap (λ (i : ℕ). Some i) (sym instant)) in
                now ∙ ap (λ o. Some (is_true o)) there ∙ ap (λ (x : ℕ). Some (is_one (cell new.machine.cells.items x))) (sym here) ∙ ap (λ b. Some b) (sym one.value)
            by (inr (was, none)) =
                let same = others_in_row (listed old.instructions) flows old.machine.instant from n first (cells_in new.machine) done c.0
                (λ place instruction later before there same. none place instruction later before there (ap (slice_get old.variables.items) same ∙ at_table)) in
                let before = map_at (λ (condition : SigId). is_true (seen_in old condition.0)) conditions variable c at_c in
                now
                ∙ ap (λ o. Some (is_true o)) (same_register new.machine old.machine c.0 signals instant same.1 same.0)
                ∙ sym before ∙ ap (λ (ts : List Bool). slice_get ts variable) (sym is.told) ∙ was

    pub row_followed : (n : ℕ) → DoOperations plan k from n → Done n first (cells_in new.machine) → IsOnMachine old new → new.truths.items ≡ truths_of conditions (seen_in new) → 0 < n
        → AreFollowed plan k flows from n old new × HasActor plan k flows new
    row_followed zero operations done rest told some = absurd (omega (arith, some))
    row_followed (suc n) operations (middle, so_far, (instruction, there, done)) rest told some =
        let (op, does) = operations n (omega arith) in
        let at = at_each n middle (λ j less. operations j (omega (arith, less))) so_far in
        let has : HasCells old.machine.signals old.machine.instant (left_by instruction done.value old.machine.instant middle) new.machine = record {
          signals = signals;
          instant = instant;
          cells = ap (λ (u : Cells). u.values) done.leaves;
          stamps = ap (λ (u : Cells). u.stamps) done.leaves;
          taken = ap (λ (u : Cells). u.taken) done.leaves;
        } in
        let on : IsOnMachine at.now new = rest ∙ sym (ap (λ (a : ActorMachine). let b : ActorMachine = record a { machine = new.machine; truths = new.truths } in b) at.rest) in (
          new_followed n middle at op does instruction there done.value done.gives new has on told,
          new_is n middle at op does instruction there done.value done.gives new has on told,
        )

-- ---- a row that was told

module _ (plan : PlanView) (k : ℕ) (flows : List (List ℤ)) (old : ActorMachine) (is : HasActor plan k flows old) (from reached : ℕ) (mid : ActorMachine) (on : IsOnCells old mid)
    (goes : GoesTo (listed old.instructions) flows old.machine.instant from reached (cells_in old.machine) (cells_in mid.machine)) where
  abbrev mid_is : ActorMachine
  mid_is = record old { machine = mid.machine }

  abbrev Told : ActorMachine → List Bool → Type 0
  Told a truths = AreToldBetween (listed a.instructions) a.variables.items a.machine.cells.items from reached a.truths.items truths

  pub row_behind : (most : ℕ) → DoOperations plan k from most → reached ≤ from + most → from < reached → (new : ActorMachine) → new ≡ record mid { truths = new.truths } → Told mid new.truths.items
      → AreFollowed plan k flows from (reached - from) old new × HasActor plan k flows new
  row_behind most operations within some new stays told =
      let same : new.machine ≡ mid.machine = ap (λ (a : ActorMachine). a.machine) stays in
      let rest : IsOnMachine old new =
      stays ∙ ap (λ (a : ActorMachine). let b : ActorMachine = record a { truths = new.truths } in b) on.machine
      ∙ ap (λ (m : Machine). let b : ActorMachine = record old { machine = m; truths = new.truths } in b) (sym same) in
      let signals = ap (λ (m : Machine). m.signals) same ∙ on.signals in
      let instant = ap (λ (m : Machine). m.instant) same ∙ on.instant in
      let ends = goes.ends in
      let count : goes.count ≡ reached - from = omega (arith, ends) in
      let done : Does (listed old.instructions) flows old.machine.instant from goes.count (cells_in old.machine) (cells_in new.machine) =
      subst (λ (m : Machine). Does (listed old.instructions) flows old.machine.instant from goes.count (cells_in old.machine) (cells_in m)) (sym same) goes.does in
      let told_mid : Told mid_is new.truths.items = subst (λ (a : ActorMachine). Told a new.truths.items) on.machine told in
      let told_here : AreToldBetween (listed old.instructions) old.variables.items new.machine.cells.items from (from + goes.count) old.truths.items new.truths.items =
      subst (λ (n : ℕ). AreToldBetween (listed old.instructions) old.variables.items new.machine.cells.items from n old.truths.items new.truths.items) (sym ends)
      (subst (λ (m : Machine). AreToldBetween (listed old.instructions) old.variables.items m.cells.items from reached old.truths.items new.truths.items) (sym same) told_mid) in
      let truths = row_told plan k flows old is from new signals instant goes.count done told_here in
      let (followed, new_is) =
      row_followed plan k flows old is from new signals instant goes.count (λ n less. operations n (omega (arith, less, ends, within))) done rest truths (omega (arith, ends, some)) in
      (subst (λ (n : ℕ). AreFollowed plan k flows from n old new) count followed, new_is)

  -- a machine on which the row was told, where one step at least was done, or nothing else was done
  abbrev pub IsBehind : ActorMachine → Type 0
  IsBehind new =
      ((t : ActorMachine) × (new ≡ t) × (from < reached) × (t ≡ record mid { truths = t.truths }) × Told mid t.truths.items)
      ⊎ ((new ≡ mid) × (reached ≤ from))

  pub record IsRowDone (new : ActorMachine) : Type 0 where
    pub followed : AreFollowed plan k flows from (reached - from) old new
    pub is_new : HasActor plan k flows new
    pub cells : cells_in new.machine ≡ cells_in mid.machine
    pub same : listed new.instructions ≡ listed old.instructions

  pub row_done : (most : ℕ) → DoOperations plan k from most → from ≤ reached → reached ≤ from + most → (reached ≡ from → mid ≡ old) → (new : ActorMachine) → IsBehind new → IsRowDone new
  row_done most operations later within none new (inl (t, is_t, some, stays, told)) =
      let (followed, is_new) = row_behind most operations within some t stays told in
      subst IsRowDone (sym is_t) (record {
        followed = followed;
        is_new = is_new;
        cells = ap (λ (a : ActorMachine). cells_in a.machine) stays;
        same = ap (λ (a : ActorMachine). listed a.instructions) stays ∙ ap (λ (a : ActorMachine). listed a.instructions) on.machine;
      })
  row_done most operations later within none new (inr (is_mid, few)) =
      let same : mid ≡ old = none (omega (arith, later, few)) in
      let count : 0 ≡ reached - from = omega (arith, few) in
      subst IsRowDone (sym is_mid) (record {
        followed = subst (λ (n : ℕ). AreFollowed plan k flows from n old mid) count same;
        is_new = subst (HasActor plan k flows) (sym same) is;
        cells = refl;
        same = ap (λ (a : ActorMachine). listed a.instructions) same;
      })

  -- the step at which a row stops has a fault
  pub row_stops : (new : ActorMachine) → IsRowDone new → Stops (listed old.instructions) flows reached (cells_in mid.machine) → (op : Op) → IsOpOfStep plan k reached op → HasFault plan.kernel flows op new
  row_stops new done (cause, (instruction, at, fails)) op does =
      step_faults plan k flows new done.is_new reached op does instruction (ap (λ (xs : List Instruction). slice_get xs reached) done.same ∙ at) cause
      (fails ∙ ap (λ (s : Cells). answer_of flows s.values s.taken instruction.work) (sym done.cells))
