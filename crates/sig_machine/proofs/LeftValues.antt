-- What the value of an instruction leaves is what its operation leaves.
use Rattle.sig_machine.proofs.Common.{AbsentAreZero, eqb_tells, if◌then◌else◌, Bool, true, false, inl, inr, ◌≡◌, ◌<◌, ◌≤◌, ◌+◌, ◌==◌, ◌∙◌, ℕ, zero, suc, ℤ, pos, List, [], ◌∷◌, length, set, nat_lt, None, Option, Some, IfSome, is_some, refl, sym, ap, slice_get, slice_index_or, ltb-true, ltb-false, eqb-true, eq-eqb, length-set, arith, SigId, Kernel, PlanView, Op, OpKind, Read, Compute, Left, Right, DelayRead, Store, Actor, with_at, with_signal, operated, remembers, taken_by, input_of, IsTarget, Lowers, IsMachineFor, actor_at, cell, memories_at, memories_of, registers_of, stamped, taken_of, IsKept, input_taken, taken_after, Instruction, Work, Next, Copy, One, Two, Lowered, Machine, Own, is_own}

-- ---- lists with another item

get_same : {A : Type 0} (xs : List A) (p : ℕ) (v : A) → p < length xs → slice_get (set xs p v) p ≡ Some v
get_same [] p v less = absurd (omega (arith, less))
get_same (x ∷ xs) zero v less = refl
get_same (x ∷ xs) (suc p) v less = get_same xs p v (omega (arith, less))

get_other : {A : Type 0} (xs : List A) (p n : ℕ) (v : A) → (n ≡ p → ⊥) → slice_get (set xs p v) n ≡ slice_get xs n
get_other [] p n v apart = refl
get_other (x ∷ xs) zero zero v apart = absurd (apart refl)
get_other (x ∷ xs) zero (suc n) v apart = refl
get_other (x ∷ xs) (suc p) zero v apart = refl
get_other (x ∷ xs) (suc p) (suc n) v apart = get_other xs p n v (λ e. apart (ap suc e))

pub or_same : {A : Type 0} (xs : List A) (p : ℕ) (v d : A) → p < length xs → slice_index_or (set xs p v) p d ≡ v
or_same [] p v d less = absurd (omega (arith, less))
or_same (x ∷ xs) zero v d less = refl
or_same (x ∷ xs) (suc p) v d less = or_same xs p v d (omega (arith, less))

pub or_other : {A : Type 0} (xs : List A) (p n : ℕ) (v d : A) → (n ≡ p → ⊥) → slice_index_or (set xs p v) n d ≡ slice_index_or xs n d
or_other [] p n v d apart = refl
or_other (x ∷ xs) zero zero v d apart = absurd (apart refl)
or_other (x ∷ xs) zero (suc n) v d apart = refl
or_other (x ∷ xs) (suc p) zero v d apart = refl
or_other (x ∷ xs) (suc p) (suc n) v d apart = or_other xs p n v d (λ e. apart (ap suc e))

-- by whether two numbers are one
by_equal : (P : Bool → Type 0) (a b : ℕ) → (a ≡ b → P true) → ((a ≡ b → ⊥) → P false) → P (a == b)
by_equal P a b same other = at (a == b) refl where
  at : (x : Bool) → (a == b) ≡ x → P x
  at true e = same (eqb-true a b e)
  at false e = other (λ is. let clash : true ≡ false = sym (eq-eqb a b is) ∙ e in cc)

by_below : (P : Bool → Type 0) (a b : ℕ) → (a < b → P true) → (b ≤ a → P false) → P (nat_lt a b)
by_below P a b less most = at (nat_lt a b) refl where
  at : (x : Bool) → nat_lt a b ≡ x → P x
  at true e = less (ltb-true a b e)
  at false e = most (ltb-false a b e)

-- ---- registers

stamped_value : (instant : ℕ) (o : Option ℕ) (v : ℤ) → is_some (stamped instant o v) ≡ true → stamped instant o v ≡ Some v
stamped_value instant None v some = absurd (let clash : false ≡ true = some in cc)
stamped_value instant (Some stamp) v some = by (stamp == instant) refl where
  by : (b : Bool) → (stamp == instant) ≡ b → stamped instant (Some stamp) v ≡ Some v
  by true e = rw e refl
  by false e = absurd (let clash : false ≡ true = rw e at some in cc)

-- a register that is there has the value of its cell
pub register_value : (m : Machine) (signal : ℕ) → is_some (registers_of m signal) ≡ true → registers_of m signal ≡ Some (cell m.cells.items signal)
register_value m signal some = by (nat_lt signal m.signals) refl where
  by : (b : Bool) → nat_lt signal m.signals ≡ b → registers_of m signal ≡ Some (cell m.cells.items signal)
  by true e = rw e (stamped_value m.instant (slice_get m.stamps.items signal) (cell m.cells.items signal) (rw e at some))
  by false e = absurd (let clash : false ≡ true = rw e at some in cc)

-- there is room for signals and delays
pub room_of : (plan : PlanView) (lowered : Lowered) → Lowers plan lowered → length plan.kernel.signals + length plan.kernel.signals ≤ length lowered.cells.items
room_of plan lowered lowers = let d = lowers.cells in let s = lowers.signals in omega (arith, d, s)

module _ (kernel : Kernel) (constants : List ℤ) (room : length kernel.signals + length kernel.signals ≤ length constants) (flows : List (List ℤ))
    (old : Machine) (is : IsMachineFor (length kernel.signals) constants flows old)
    (op : Op) (instruction : Instruction) (target : IsTarget kernel op instruction.target) (v : ℤ) (new : Machine) (kept : IsKept instruction v old new) where
  abbrev n : ℕ
  n = length kernel.signals

  abbrev at : ℕ
  at = instruction.target

  at_below : at < n + n
  at_below = by target where
    by : IsTarget kernel op at → at < n + n
    by (inl (x, writes, none, below, same)) = omega (arith, below, same)
    by (inr (y, writes, some, below, same)) = omega (arith, below, same)

  pub target_within : at < length old.cells.items
  target_within = let a = at_below in let b = is.cells in omega (arith, a, b, room)

  pub target_stamped : at < length old.stamps.items
  target_stamped = let a = target_within in let b = is.cells in let d = is.stamps in omega (arith, a, b, d)

  -- a register of new stamps and cells
  register_at : (signal : ℕ) → registers_of new signal ≡ (if nat_lt signal n then stamped old.instant (slice_get (set old.stamps.items at old.instant) signal) (cell (set old.cells.items at v) signal) else None)
  register_at signal =
      ap (λ k. if nat_lt signal k then stamped new.instant (slice_get new.stamps.items signal) (cell new.cells.items signal) else None) (kept.signals ∙ is.signals)
      ∙ ap (λ k. if nat_lt signal n then stamped k (slice_get new.stamps.items signal) (cell new.cells.items signal) else None) kept.instant
      ∙ ap (λ (xs : List ℕ). if nat_lt signal n then stamped old.instant (slice_get xs signal) (cell new.cells.items signal) else None) kept.stamps
      ∙ ap (λ (xs : List ℤ). if nat_lt signal n then stamped old.instant (slice_get (set old.stamps.items at old.instant) signal) (cell xs signal) else None) kept.cells

  before_at : (signal : ℕ) → registers_of old signal ≡ (if nat_lt signal n then stamped old.instant (slice_get old.stamps.items signal) (cell old.cells.items signal) else None)
  before_at signal = ap (λ k. if nat_lt signal k then stamped old.instant (slice_get old.stamps.items signal) (cell old.cells.items signal) else None) is.signals

  pub other_register : (signal : ℕ) → (signal < n → signal ≡ at → ⊥) → registers_of new signal ≡ registers_of old signal
  other_register signal apart =
      register_at signal
      ∙ by_below (λ b. (if b then stamped old.instant (slice_get (set old.stamps.items at old.instant) signal) (cell (set old.cells.items at v) signal) else None)
      ≡ (if b then stamped old.instant (slice_get old.stamps.items signal) (cell old.cells.items signal) else None)) signal n
      (λ less.
      ap (λ o. stamped old.instant o (cell (set old.cells.items at v) signal)) (get_other old.stamps.items at signal old.instant (apart less))
      ∙ ap (stamped old.instant (slice_get old.stamps.items signal)) (or_other old.cells.items at signal v (pos 0) (apart less)))
      (λ most. refl)
      ∙ sym (before_at signal)

  itself : (k : ℕ) (w : ℤ) → stamped k (Some k) w ≡ Some w
  itself k w = ap (λ b. if b then Some w else None) (eq-eqb k k refl)

  pub own_register : (signal : ℕ) → signal < n → signal ≡ at → registers_of new signal ≡ Some v
  own_register signal less same =
      register_at signal
      ∙ by_below (λ b. (if b then stamped old.instant (slice_get (set old.stamps.items at old.instant) signal) (cell (set old.cells.items at v) signal) else None) ≡ Some v) signal n
      (λ below.
      ap (λ o. stamped old.instant o (cell (set old.cells.items at v) signal)) (ap (slice_get (set old.stamps.items at old.instant)) same ∙ get_same old.stamps.items at old.instant target_stamped)
      ∙ itself old.instant (cell (set old.cells.items at v) signal)
      ∙ ap (λ w. Some w) (ap (cell (set old.cells.items at v)) same ∙ or_same old.cells.items at v (pos 0) target_within))
      (λ most. absurd (omega (arith, less, most)))

  registers : registers_of new ≡ with_signal op.writes (Some v) (registers_of old)
  registers = by target where
    by : IsTarget kernel op at → registers_of new ≡ with_signal op.writes (Some v) (registers_of old)
    by (inl (x, writes, none, below, same)) =
        let each : (signal : ℕ) → registers_of new signal ≡ with_at x.0 (Some v) (registers_of old) signal = λ signal. by_equal (λ b. registers_of new signal ≡ (if b then Some v else registers_of old signal)) signal x.0
        (λ e. own_register signal (omega (arith, e, below)) (e ∙ sym same)) (λ apart. other_register signal (λ less e. apart (e ∙ same))) in
        (λ j signal. each signal j) ∙ ap (λ o. with_signal o (Some v) (registers_of old)) (sym writes)
    by (inr (y, writes, some, below, same)) =
        let each : (signal : ℕ) → registers_of new signal ≡ registers_of old signal = λ signal. other_register signal (λ less e. omega (arith, less, e, same)) in
        (λ j signal. each signal j) ∙ ap (λ o. with_signal o (Some v) (registers_of old)) (sym writes)

  memory_at : (signal : ℕ) → memories_of new signal ≡ (if nat_lt signal n then cell (set old.cells.items at v) (n + signal) else pos 0)
  memory_at signal = ap (λ k. memories_at k new.cells.items signal) (kept.signals ∙ is.signals) ∙ ap (λ (xs : List ℤ). memories_at n xs signal) kept.cells

  memory_before : (signal : ℕ) → memories_of old signal ≡ (if nat_lt signal n then cell old.cells.items (n + signal) else pos 0)
  memory_before signal = ap (λ k. memories_at k old.cells.items signal) is.signals

  other_memory : (signal : ℕ) → (signal < n → n + signal ≡ at → ⊥) → memories_of new signal ≡ memories_of old signal
  other_memory signal apart =
      memory_at signal
      ∙ by_below (λ b. (if b then cell (set old.cells.items at v) (n + signal) else pos 0) ≡ (if b then cell old.cells.items (n + signal) else pos 0)) signal n
      (λ less. or_other old.cells.items at (n + signal) v (pos 0) (apart less)) (λ most. refl)
      ∙ sym (memory_before signal)

  own_memory : (signal : ℕ) → signal < n → n + signal ≡ at → memories_of new signal ≡ v
  own_memory signal less same =
      memory_at signal
      ∙ by_below (λ b. (if b then cell (set old.cells.items at v) (n + signal) else pos 0) ≡ v) signal n
      (λ below. ap (cell (set old.cells.items at v)) same ∙ or_same old.cells.items at v (pos 0) target_within) (λ most. absurd (omega (arith, less, most)))

  memories : memories_of new ≡ with_signal (remembers kernel op.kind) v (memories_of old)
  memories = by target where
    by : IsTarget kernel op at → memories_of new ≡ with_signal (remembers kernel op.kind) v (memories_of old)
    by (inl (x, writes, none, below, same)) =
        let each : (signal : ℕ) → memories_of new signal ≡ memories_of old signal = λ signal. other_memory signal (λ less e. omega (arith, below, e, same)) in
        (λ j signal. each signal j) ∙ ap (λ o. with_signal o v (memories_of old)) (sym none)
    by (inr (y, writes, some, below, same)) =
        let each : (signal : ℕ) → memories_of new signal ≡ with_at y.0 v (memories_of old) signal = λ signal. by_equal (λ b. memories_of new signal ≡ (if b then v else memories_of old signal)) signal y.0
        (λ e. own_memory signal (omega (arith, e, below)) (ap (λ (k : ℕ). n + k) e ∙ sym same)) (λ apart. other_memory signal (λ less e. apart (omega (arith, e, same)))) in
        (λ j signal. each signal j) ∙ ap (λ o. with_signal o v (memories_of old)) (sym some)

  -- ---- what is taken

  abbrev taken_option : Option SigId → (ℕ → ℕ) → ℕ → ℕ
  taken_option None taken = taken
  taken_option (Some x) taken = with_at x.0 (taken x.0 + 1) taken

  by_kind : (kind : OpKind) (taken : ℕ → ℕ) → taken_by kind taken ≡ taken_option (input_of kind) taken
  by_kind (Read x) taken = refl
  by_kind (Store e) taken = refl
  by_kind Compute taken = refl
  by_kind Left taken = refl
  by_kind Right taken = refl
  by_kind DelayRead taken = refl

  by_work : (work : Work) → IfSome (input_taken work) (λ x. x.0 < length old.taken.items) → (λ input. slice_index_or (taken_after work old.taken.items) input 0) ≡ taken_option (input_taken work) (taken_of old)
  by_work (Next input) within = λ j other. each other j where
    each : (other : ℕ) → slice_index_or (set old.taken.items input (slice_index_or old.taken.items input 0 + 1)) other 0 ≡ with_at input (taken_of old input + 1) (taken_of old) other
    each other = by_equal (λ b. slice_index_or (set old.taken.items input (slice_index_or old.taken.items input 0 + 1)) other 0 ≡ (if b then taken_of old input + 1 else taken_of old other)) other input
        (λ e. ap (λ k. slice_index_or (set old.taken.items input (slice_index_or old.taken.items input 0 + 1)) k 0) e ∙ or_same old.taken.items input (slice_index_or old.taken.items input 0 + 1) 0 within)
        (λ apart. or_other old.taken.items input other (slice_index_or old.taken.items input 0 + 1) 0 apart)
  by_work (Copy source) within = refl
  by_work (One function a) within = refl
  by_work (Two function a b) within = refl

  module _ (takes : input_taken instruction.work ≡ input_of op.kind) (within : IfSome (input_taken instruction.work) (λ x. x.0 < length old.taken.items)) where
    taken : taken_of new ≡ taken_by op.kind (taken_of old)
    taken =
        ap (λ (xs : List ℕ). λ (input : ℕ). slice_index_or xs input 0) kept.taken
        ∙ by_work instruction.work within
        ∙ ap (λ o. taken_option o (taken_of old)) takes
        ∙ sym (by_kind op.kind (taken_of old))

    -- the actor behind the operation
    pub behind : (step : ℕ) → actor_at new step ≡ operated kernel op v (actor_at old step)
    behind step = λ j. let a : Actor = record {
      instant = kept.instant j;
      step = step;
      registers = registers j;
      memories = memories j;
      taken = taken j;
      ended = false;
    } in a

  -- ---- it stays a machine of the plan

  taken_length : (work : Work) → length (taken_after work old.taken.items) ≡ length old.taken.items
  taken_length (Next input) = length-set old.taken.items input (slice_index_or old.taken.items input 0 + 1)
  taken_length (Copy source) = refl
  taken_length (One function a) = refl
  taken_length (Two function a b) = refl

  past : (number stamp : ℕ) → slice_get (set old.stamps.items at old.instant) number ≡ Some stamp → stamp ≤ old.instant
  past number stamp there = by_equal (λ b. stamp ≤ old.instant) number at
      (λ e. let same : Some old.instant ≡ Some stamp = sym (ap (slice_get (set old.stamps.items at old.instant)) e ∙ get_same old.stamps.items at old.instant target_stamped) ∙ there in
      let one : old.instant ≡ stamp = cc in omega (arith, one))
      (λ apart. is.past number stamp (sym (get_other old.stamps.items at number old.instant apart) ∙ there))

  pub machine_behind : IsMachineFor (length kernel.signals) constants flows new
  machine_behind = record {
    signals = kept.signals ∙ is.signals;
    cells = ap length kept.cells ∙ length-set old.cells.items at v ∙ is.cells;
    stamps = ap length kept.stamps ∙ length-set old.stamps.items at old.instant ∙ is.stamps;
    constants = λ number behind within.
        let a = at_below in let same = kept.signals ∙ is.signals in
        ap (λ xs. cell xs number) kept.cells ∙ or_other old.cells.items at number v (pos 0) (λ e. omega (arith, a, e, behind, same))
        ∙ is.constants number (let k = kept.signals in omega (arith, behind, k)) within;
    inputs = ap length kept.taken ∙ taken_length instruction.work ∙ is.inputs;
    past = λ number stamp there.
        let before = past number stamp (ap (λ (xs : List ℕ). slice_get xs number) (sym kept.stamps) ∙ there) in
        let k = kept.instant in omega (arith, before, k);
  }

  -- no other signal is written than those that an actor writes
  pub others_behind : (own : Own) → (at < n → is_own own at ≡ true) → ((signal : ℕ) → is_own own signal ≡ false → registers_of old signal ≡ None)
      → (signal : ℕ) → is_own own signal ≡ false → registers_of new signal ≡ None
  others_behind own owned were signal none =
      other_register signal (λ less same.
      let yes = owned (omega (arith, less, same)) in
      let clash : true ≡ false = sym yes ∙ ap (is_own own) (sym same) ∙ none in cc)
      ∙ were signal none

  -- the cells of absent signals hold 0 still
  pub absent_behind : AbsentAreZero old → AbsentAreZero new
  absent_behind cleared signal below none = elim (eqb_tells signal at) [
    | inl same ↦
        absurd (let some = own_register signal (let a = kept.signals in let b = is.signals in omega (arith, below, a, b)) same.1 in
        let clash : None ≡ Some v = sym none ∙ some in cc)
    | inr other ↦
        ap (λ (xs : List ℤ). cell xs signal) kept.cells
        ∙ or_other old.cells.items at signal v (pos 0) other.1
        ∙ cleared signal (let a = kept.signals in omega (arith, below, a)) (sym (other_register signal (λ less. other.1)) ∙ none)
  ]
