-- An instant of the instructions of an image is one of its operations.
use Rattle.sig_exec.proofs.Common.{same_Some, ◌≡◌, ◌≤◌, ◌+◌, ◌-◌, ◌++◌, inl, inr, ℕ, zero, suc, ℤ, Bool, true, false, List, length, take, drop, take-append_seam, Some, Result, Ok, refl, sym, ap, subst, ◌∙◌, arith, slice_get, slice_get_within, some_at, length-map, take_all, IsSoundImage, guarded_in, guards_of, Guarded, ImageView, IsImage, Ends, EndsIn, Handles, HandlesAll, State, holds, ImageOp, HandlesEach, HandlesFirst, IsAmid, Lowers, AreCellsOf, Cells, CellsEndAt, cells_of, HandlesAt, HandlesCells, KeepsCells, bound_of, Ref, Scope, Stands, answer_of, guards_in, holds_at, instructions_in, left_by, scope_in, state_on, cause_of, Cause, Fault, Instruction, ImageInstructions}
use Rattle.sig_exec.proofs.Amid.{amid_first, behind_passed}
use Rattle.sig_exec.proofs.CellsLeft.{registers_length}
use Rattle.sig_exec.proofs.GuardWalks.{Stays, stays}
use Rattle.sig_exec.proofs.InOrder.{first_ends, then_one}
use Rattle.sig_exec.proofs.InstructionDone.{amid_more, cells_more, done, ended, stays_more}
use Rattle.sig_exec.proofs.InstructionWorks.{flows_length, has_cells, memories_length, target_inside}
use Rattle.sig_exec.proofs.Places.{guarded_at, operation_at}
use Rattle.sig_exec.proofs.SameGuards.{same_guard}

module _ (image : ImageView) (right : IsImage image) (sound : IsSoundImage image) (lowered : ImageInstructions) (lowers : Lowers image lowered) (flows : List (List ℤ)) (count : length flows ≡ image.inputs)
    (instant : ℕ) where
  abbrev scope : Scope
  scope = scope_in lowered.functions.store.nodes lowered.code

  abbrev guards : List Ref
  guards = guards_in lowered.code

  abbrev instructions : List Instruction
  instructions = instructions_in lowered.code

  abbrev state : Cells → State
  state s = state_on image flows instant s

  abbrev Goes : ℕ → Cells → Cells → Type 0
  Goes n s t = HandlesCells scope guards instructions flows instant n s t

  abbrev GoesAt : ℕ → Cells → Cells → Type 0
  GoesAt n s t = HandlesAt scope guards instructions flows instant n s t

  -- cells before an operation of an instant
  pub record StandBefore (n : ℕ) (s : Cells) : Type 0 where
    pub cells : AreCellsOf image lowered flows instant s
    pub amid : IsAmid image n (state s)

  start : (s : Cells) → AreCellsOf image lowered flows instant s → StandBefore 0 s
  start s is = record {
    cells = is;
    amid = amid_first image right sound (state s) (registers_length image instant s (has_cells image lowered lowers flows instant s is)) (memories_length image lowered lowers flows instant s is)
        (flows_length image lowered lowers flows instant s is ∙ count);
  }

  -- ---- one instruction

  operation : (place : ℕ) (guard : Ref) → slice_get guards place ≡ Some guard → (op : ImageOp) × (slice_get image.ops place ≡ Some op)
  operation place guard at = let below = slice_get_within guards place guard at in let c = lowers.guards.count in some_at image.ops place (omega (arith, below, c))

  -- what a handled instruction makes of the cells
  record Steps (n : ℕ) (op : ImageOp) (s t : Cells) : Type 0 where
    before : StandBefore (n + 1) t
    handles : Handles (guards_of image) (guarded_in image.nodes op) (state s) (state t)
    kept : Stays (guards_of image) n (state s) (state t)

  module _ (place : ℕ) (s : Cells) (stand : StandBefore place s) where
    holds_is : (guard : Ref) → slice_get guards place ≡ Some guard → (op : ImageOp) → slice_get image.ops place ≡ Some op → (b : Bool) → holds_at scope instant guard s ≡ b
        → holds (guards_of image) (guarded_in image.nodes op) (state s) ≡ b
    holds_is guard at op there b e = sym (same_guard image right lowered lowers flows instant s stand.cells place guard at op there) ∙ e

    steps_done : (op : ImageOp) → slice_get image.ops place ≡ Some op → holds (guards_of image) (guarded_in image.nodes op) (state s) ≡ true → (instruction : Instruction)
        → slice_get instructions place ≡ Some instruction → (v : ℤ) → Ok v ≡ answer_of flows s.values s.taken instruction.work → Steps place op s (left_by instruction v instant s)
    steps_done op there on instruction at v gives = record {
      before = record {
        cells = cells_more image right sound lowered lowers flows instant s stand.cells place stand.amid instruction at op there on v;
        amid = amid_more image right sound lowered lowers flows instant s stand.cells place stand.amid instruction at op there on v;
      };
      handles = inl (on, done image right sound lowered lowers flows instant s stand.cells place stand.amid instruction at op there on v gives);
      kept = stays_more image right sound lowered lowers flows instant s stand.cells place stand.amid instruction at op there on v;
    }

    steps_passed : (op : ImageOp) → slice_get image.ops place ≡ Some op → holds (guards_of image) (guarded_in image.nodes op) (state s) ≡ false → Steps place op s s
    steps_passed op there off = record {
      before = record {
        cells = stand.cells;
        amid = behind_passed image right sound place (guarded_in image.nodes op) (guarded_at image right place op there) (state s) stand.amid (λ on. let e : true ≡ false = sym on ∙ off in cc);
      };
      handles = inr (off, refl);
      kept = λ x w. refl;
    }

    steps : (t : Cells) → (goes : GoesAt place s t) → (op : ImageOp) → slice_get image.ops place ≡ Some op → Steps place op s t
    steps t goes op there = elim goes.does [
      | inl (on, (instruction, at, is)) ↦
          subst (Steps place op s) (sym is.leaves) (steps_done op there (holds_is goes.guard goes.is op there true on) instruction at is.value is.gives)
      | inr (off, same) ↦ subst (Steps place op s) (sym same) (steps_passed op there (holds_is goes.guard goes.is op there false off))
    ]

  -- ---- the first instructions

  module _ (s : Cells) (is : AreCellsOf image lowered flows instant s) where
    add_one : (n : ℕ) → n + 1 ≡ suc n
    add_one n = omega arith

    pub stands_before : (n : ℕ) (t : Cells) → Goes n s t → StandBefore n t
    stands_before zero t same = subst (StandBefore 0) (sym same) (start s is)
    stands_before (suc n) t (middle, goes, one) =
        let (op, there) = operation n one.guard one.is in
        subst (λ (k : ℕ). StandBefore k t) (add_one n) (steps n middle (stands_before n middle goes) t one op there).before

    handles_first : (n : ℕ) (t : Cells) → Goes n s t → HandlesFirst image n (state s) (state t)
    handles_first zero t same = ap state same
    handles_first (suc n) t (middle, goes, one) =
        let (op, there) = operation n one.guard one.is in
        then_one (guards_of image) (guards_of image).ops n (guarded_in image.nodes op) (state s) (state middle) (state t) (guarded_at image right n op there) (handles_first n middle goes)
        (steps n middle (stands_before n middle goes) t one op there).handles

    pub handles_each : (t : Cells) → Goes (length instructions) s t → HandlesEach image (state s) (state t)
    handles_each t goes =
        let c = lowers.instructions.count in
        let m = length-map image.ops (guarded_in image.nodes) in
        subst (λ (ops : List Guarded). HandlesAll (guards_of image) ops (state s) (state t)) (take_all (length instructions) (guards_of image).ops (omega (arith, c, m))) (handles_first (length instructions) t goes)

    -- an instruction that has no value ends the run
    pub ends_in : (t : Cells) (fault : Fault) → CellsEndAt scope guards instructions flows instant s t fault → (op : ImageOp) → slice_get image.ops fault.place ≡ Some op
        → EndsIn (guards_of image) (guards_of image).ops (state s) (cause_of op.at fault.cause)
    ends_in t fault ends op there =
        let stand = stands_before fault.place t ends.handles in
        let on = holds_is fault.place t stand ends.guard ends.is op there true ends.holds in
        let (instruction, at, fails) = ends.fails in
        first_ends image right fault.place op there (state s) (state t) (handles_first fault.place t ends.handles) on (cause_of op.at fault.cause)
        (λ other here. subst (λ (o : ImageOp). Ends o.kind o.at (state t) (cause_of op.at fault.cause)) (same_Some op other (sym there ∙ here))
        (ended image right sound lowered lowers flows instant t stand.cells fault.place stand.amid instruction at op there on fault.cause fails))

    -- ---- what a guard tells stands

    one_value : (v w : ℤ) (r : Result ℤ Cause) → Ok v ≡ r → Ok w ≡ r → v ≡ w
    one_value v w r a b = let e : ◌≡◌ {A = Result ℤ Cause} (Ok v) (Ok w) = a ∙ sym b in cc

    one_step : (n : ℕ) (m t u : Cells) → GoesAt n m t → GoesAt n m u → t ≡ u
    one_step n m t u a b =
        let same : a.guard ≡ b.guard = same_Some a.guard b.guard (sym a.is ∙ b.is) in
        elim a.does [
          | inl (on, (instruction, at, is)) ↦ elim b.does [
            | inl (also, (other, there, too)) ↦
                let one : instruction ≡ other = same_Some instruction other (sym at ∙ there) in
                let value : is.value ≡ too.value = one_value is.value too.value (answer_of flows m.values m.taken instruction.work) is.gives
                (too.gives ∙ ap (λ (i : Instruction). answer_of flows m.values m.taken i.work) (sym one)) in
                is.leaves ∙ ap (λ (i : Instruction). left_by i is.value instant m) one ∙ ap (λ (v : ℤ). left_by other v instant m) value ∙ sym too.leaves
            | inr (off, passed) ↦ absurd (let e : true ≡ false = sym on ∙ ap (λ (g : Ref). holds_at scope instant g m) same ∙ off in cc)
          ]
          | inr (off, passed) ↦ elim b.does [
            | inl (on, did) ↦ absurd (let e : true ≡ false = sym on ∙ ap (λ (g : Ref). holds_at scope instant g m) (sym same) ∙ off in cc)
            | inr (also, too) ↦ passed ∙ sym too
          ]
        ]

    one_end : (n : ℕ) (t u : Cells) → Goes n s t → Goes n s u → t ≡ u
    one_end zero t u a b = a ∙ sym b
    one_end (suc n) t u (m, goes, last) (k, went, other) = one_step n m t u last (subst (λ (x : Cells). GoesAt n x u) (sym (one_end n m k goes went)) other)

    stands_on : (place : ℕ) (guard : Ref) → slice_get guards place ≡ Some guard → (t : Cells) → Goes place s t → (more : ℕ) (u : Cells) → Goes (place + more) s u
        → holds_at scope instant guard u ≡ holds_at scope instant guard t
    stands_on place guard at t goes zero u went =
        ap (holds_at scope instant guard) (one_end place u t (subst (λ (k : ℕ). Goes k s u) (let e : place + 0 ≡ place = omega arith in e) went) goes)
    stands_on place guard at t goes (suc more) u went =
        let (m, before, last) = subst (λ (k : ℕ). Goes k s u) (let e : place + suc more ≡ suc (place + more) = omega arith in e) went in
        let (op, there) = operation place guard at in
        let (next, here) = operation (place + more) last.guard last.is in
        let stand = stands_before (place + more) m before in
        let step = steps (place + more) m stand u last next here in
        let same = stays (guards_of image) sound (place + more) (state m) (state u) step.kept place (guarded_in image.nodes op) (omega arith) (guarded_at image right place op there) in
        same_guard image right lowered lowers flows instant u step.before.cells place guard at op there ∙ sym same
        ∙ sym (same_guard image right lowered lowers flows instant m stand.cells place guard at op there) ∙ stands_on place guard at t goes more m before

    pub stands : Stands scope guards instructions flows instant s
    stands place later guard t u at few within goes went =
        stands_on place guard at t goes (later - place) u (subst (λ (k : ℕ). Goes k s u) (let e : later ≡ place + (later - place) = omega (arith, few) in e) went)

-- ---- whatever was done

module _ (image : ImageView) (right : IsImage image) (lowered : ImageInstructions) (lowers : Lowers image lowered) (flows : List (List ℤ)) (instant : ℕ) (s t : Cells)
    (is : AreCellsOf image lowered flows instant s) (keeps : KeepsCells (instructions_in lowered.code) instant s t) where
  -- no instruction writes into a constant
  behind_targets : (number : ℕ) → bound_of image ≤ number → (place : ℕ) (instruction : Instruction) → slice_get (instructions_in lowered.code) place ≡ Some instruction → instruction.target ≡ number → ⊥
  behind_targets number behind place instruction at e =
      let below = slice_get_within (instructions_in lowered.code) place instruction at in
      let c = lowers.instructions.count in
      let (op, there) = some_at image.ops place (omega (arith, below, c)) in
      let inside = target_inside image lowered lowers flows instant s is right op (operation_at image right place op there).kind instruction (lowers.instructions.each place instruction op at there) in
      omega (arith, inside, e, behind)

  pub cells_stay : AreCellsOf image lowered flows instant t
  cells_stay = record {
    cells = keeps.values ∙ is.cells;
    stamps = keeps.stamps ∙ is.stamps;
    constants = λ number behind within. keeps.others number (behind_targets number behind) ∙ is.constants number behind within;
    inputs = keeps.taken ∙ is.inputs;
    past = λ number stamp there. elim (keeps.written number stamp there) [
      | inl before ↦ is.past number stamp before
      | inr now ↦ omega (arith, now)
    ];
  }

-- ---- by what a call was given, and what it left

-- a vector with other elements, as many as before
filled : {A : Type 0} (n : ℕ) (old new : List A) → n ≡ length old → length new ≡ length old → take n (new ++ drop (length new) old) ≡ new
filled n old new e f = ap (λ (k : ℕ). take k (new ++ drop (length new) old)) (e ∙ sym f) ∙ take-append_seam new (drop (length new) old)

pub refilled : (i j k : ℕ) (s t : Cells) → i ≡ length s.values → j ≡ length s.stamps → k ≡ length s.taken → length t.values ≡ length s.values → length t.stamps ≡ length s.stamps
    → length t.taken ≡ length s.taken
    → cells_of (take i (t.values ++ drop (length t.values) s.values)) (take j (t.stamps ++ drop (length t.stamps) s.stamps)) (take k (t.taken ++ drop (length t.taken) s.taken)) ≡ t
refilled i j k s t a b d values stamps taken =
    λ l. cells_of (filled i s.values t.values a values l) (filled j s.stamps t.stamps b stamps l) (filled k s.taken t.taken d taken l)

module _ (image : ImageView) (right : IsImage image) (sound : IsSoundImage image) (lowered : ImageInstructions) (lowers : Lowers image lowered) (flows : List (List ℤ)) (count : length flows ≡ image.inputs)
    (instant : ℕ) (s : Cells) (is : AreCellsOf image lowered flows instant s) (given : Cells) (same : given ≡ s) where
  abbrev Standing : Type 0
  Standing = Stands (scope_in lowered.functions.store.nodes lowered.code) (guards_in lowered.code) (instructions_in lowered.code) flows instant given

  standing : Standing
  standing =
      subst (Stands (scope_in lowered.functions.store.nodes lowered.code) (guards_in lowered.code) (instructions_in lowered.code) flows instant) (sym same)
      (stands image right sound lowered lowers flows count instant s is)

  pub instant_done : (t next : Cells) → next ≡ t
      → (Standing → HandlesCells (scope_in lowered.functions.store.nodes lowered.code) (guards_in lowered.code) (instructions_in lowered.code) flows instant (length (instructions_in lowered.code)) given t)
      → HandlesEach image (state_on image flows instant s) (state_on image flows instant next)
  instant_done t next e goes =
      subst (λ (u : Cells). HandlesEach image (state_on image flows instant s) (state_on image flows instant u)) (sym e)
      (handles_each image right sound lowered lowers flows count instant s is t
      (subst (λ (u : Cells). HandlesCells (scope_in lowered.functions.store.nodes lowered.code) (guards_in lowered.code) (instructions_in lowered.code) flows instant (length (instructions_in lowered.code)) u t)
      same (goes standing)))

  pub fault_ends : (t : Cells) (fault : Fault)
      → (Standing → CellsEndAt (scope_in lowered.functions.store.nodes lowered.code) (guards_in lowered.code) (instructions_in lowered.code) flows instant given t fault)
      → (op : ImageOp) → slice_get image.ops fault.place ≡ Some op → EndsIn (guards_of image) (guards_of image).ops (state_on image flows instant s) (cause_of op.at fault.cause)
  fault_ends t fault ends op there =
      ends_in image right sound lowered lowers flows count instant s is t fault
      (subst (λ (u : Cells). CellsEndAt (scope_in lowered.functions.store.nodes lowered.code) (guards_in lowered.code) (instructions_in lowered.code) flows instant u t fault) same (ends standing)) op there

  pub instant_stays : (t next : Cells) → next ≡ t → KeepsCells (instructions_in lowered.code) instant given t → AreCellsOf image lowered flows instant next
  instant_stays t next e keeps =
      subst (AreCellsOf image lowered flows instant) (sym e)
      (cells_stay image right lowered lowers flows instant s t is (subst (λ (u : Cells). KeepsCells (instructions_in lowered.code) instant u t) same keeps))
