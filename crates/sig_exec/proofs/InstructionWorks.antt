-- An instruction comes to what its operation comes to, and leaves what that leaves.
use Rattle.sig_exec.proofs.Common.{◌≡◌, ◌<◌, ◌≤◌, ◌+◌, ◌++◌, ℕ, zero, suc, ℤ, pos, List, [], ◌∷◌, length, set, drop, replicate, Some, Ok, refl, sym, ap, subst, ◌∙◌, arith, length-set, length-append, get_or-set_other, slice_get, slice_index_or, Contains, get_or-take, get_or-drop, length-take-le, length-drop, length-map, length-replicate, Instant, seen_at, SigId, function_of, FunOp, Operand, Const, Sig, Writes, ImageView, IsImage, MayDo, scope_of, State, ImageMemory, ImageOp, ImageOpKind, IsCellOf, IsConstant, IsFor, IsFunctionWork, IsWorkOf, Lowers, bound_of, cell, inits_of, target_of, Cells, AreCellsOf, HaveSignals, ReadsWithin, answer_of, left_by, left_of, next_of, answered, registers_on, state_on, taken_after, computed, no_equation, Instruction, Work, Next, Copy, ImageInstructions}
use Rattle.sig_file.specs.declared.images.ImageOpKind.TheVariants as does
use Rattle.sig_exec.proofs.CellsLeft.{cell_of_seen, flows_read, flows_same, left_at, left_length, memory_memories, memory_registers, signal_memories, signal_registers}
use Rattle.sig_exec.proofs.OperationOutcomes.{HasPlaces, HasReads, next_in, operand_in, operated, outcome, value_in}
use Rattle.sig_exec.proofs.Places.{stored_within, target_within, writes_within}

next_drop : (x : SigId) (flow : List ℤ) (t : ℕ) → answered (next_of x (slice_get flow t)) ≡ next_in x (drop t flow)
next_drop x [] zero = refl
next_drop x [] (suc t) = refl
next_drop x (v ∷ flow) zero = refl
next_drop x (v ∷ flow) (suc t) = next_drop x flow t

module _ (image : ImageView) (lowered : ImageInstructions) (lowers : Lowers image lowered) (flows : List (List ℤ)) (instant : ℕ) (m : Cells) (is : AreCellsOf image lowered flows instant m) where
  pub room : bound_of image ≤ length lowered.cells.items
  room =
      let (more, all) = lowers.opening in
      let first = ap (λ (l : List ℤ). length l) all in
      let second = length-append (replicate (length image.signals) (pos 0) ++ inits_of image) more in
      let third = length-append (replicate (length image.signals) (pos 0)) (inits_of image) in
      let fourth = length-replicate (length image.signals) (pos 0) in
      let fifth = length-map image.memories (λ (memory : ImageMemory). memory.init) in
      omega (arith, first, second, third, fourth, fifth)

  pub has_cells : HaveSignals image m
  has_cells = let r = room in let a = is.cells in let b = is.stamps in record { cells = omega (arith, r, a); stamps = omega (arith, r, b) }

  -- there are as many memories and flows as the image and the flows have
  pub memories_length : length (state_on image flows instant m).memories ≡ length image.memories
  memories_length =
      let r = room in let a = is.cells in let d = length-drop (length image.signals) m.values in
      length-take-le (length image.memories) (drop (length image.signals) m.values) (omega (arith, r, a, d))

  pub flows_length : length (state_on image flows instant m).flows ≡ length flows
  flows_length = left_length m.taken flows is.inputs

  constant_there : (value : ℤ) (n : ℕ) → IsConstant (bound_of image) lowered.cells.items value n → cell m.values n ≡ value
  constant_there value n (behind, within, holds) = is.constants n behind within ∙ holds

  seen_cell : (x : SigId) → ((v : ℤ) × (seen_at (registers_on image instant m) x.0 ≡ Some v)) → (x.0 < length image.signals) × (cell m.values x.0 ≡ value_in (seen_at (registers_on image instant m) x.0))
  seen_cell x there = cell_of_seen image instant m has_cells x.0 there

  operand_cell : (operand : Operand) (n : ℕ) → IsCellOf (bound_of image) lowered.cells.items operand n → ((x : SigId) → operand ≡ Sig x → (v : ℤ) × (seen_at (registers_on image instant m) x.0 ≡ Some v))
      → (n < length m.values) × (cell m.values n ≡ operand_in (registers_on image instant m) operand)
  operand_cell (Sig x) n e there =
      let (below, value) = seen_cell x (there x refl) in
      let r = room in let a = is.cells in
      (omega (arith, e, below, r, a), ap (cell m.values) e ∙ value)
  operand_cell (Const value) n (behind, within, holds) there =
      let a = is.cells in (omega (arith, within, a), constant_there value n (behind, within, holds))

  memory_cell : (memory : ℕ) → memory < length image.memories → cell m.values (length image.signals + memory) ≡ slice_index_or (state_on image flows instant m).memories memory (pos 0)
  memory_cell memory below =
      sym (get_or-take (length image.memories) (drop (length image.signals) m.values) memory (pos 0) below ∙ get_or-drop (length image.signals) m.values memory (pos 0))

  -- what an instruction reads is there, and it comes to the outcome
  pub record Fits (kind : ImageOpKind) (work : Work) : Type 0 where
    pub reads : ReadsWithin (length m.taken) (length m.values) work
    pub value : answer_of flows m.values m.taken work ≡ outcome kind (state_on image flows instant m)

  function_fits : (y : SigId) (op : FunOp) (operands : List Operand) (work : Work) → IsFunctionWork (bound_of image) lowered.cells.items op operands work
      → ((x : SigId) → Contains operands (Sig x) → (v : ℤ) × (seen_at (registers_on image instant m) x.0 ≡ Some v)) → Fits (does.Fun y op operands) work
  function_fits y op [] work none there = absurd none
  function_fits y op (a ∷ []) work (i, first, e) there =
      let (within, value) = operand_cell a i first (λ x same. there x (0, omega arith, same)) in
      subst (Fits (does.Fun y op (a ∷ []))) (sym e) (record { reads = within; value = ap (λ (w : ℤ). answered (computed no_equation (function_of op) (w ∷ []))) value })
  function_fits y op (a ∷ b ∷ []) work (i, j, first, second, e) there =
      let (within, value) = operand_cell a i first (λ x same. there x (0, omega arith, same)) in
      let (inside, other) = operand_cell b j second (λ x same. there x (1, omega arith, same)) in
      subst (Fits (does.Fun y op (a ∷ b ∷ []))) (sym e)
      (record {
        reads = (within, inside);
        value = ap (λ (w : ℤ). answered (computed no_equation (function_of op) (w ∷ cell m.values j ∷ []))) value
            ∙ ap (λ (w : ℤ). answered (computed no_equation (function_of op) (operand_in (registers_on image instant m) a ∷ w ∷ []))) other;
      })
  function_fits y op (a ∷ b ∷ c ∷ operands) work none there = absurd none

  copy_fits : (kind : ImageOpKind) (source : ℕ) (work : Work) → work ≡ Copy source → source < length m.values → Ok (cell m.values source) ≡ outcome kind (state_on image flows instant m) → Fits kind work
  copy_fits kind source work e within value = subst (Fits kind) (sym e) (record { reads = within; value = value })

  pub fits : (kind : ImageOpKind) (work : Work) → IsWorkOf image lowered.cells.items kind work → HasPlaces kind (state_on image flows instant m) → HasReads kind (state_on image flows instant m) → Fits kind work
  fits (does.Read x) work e places reads =
      let count = flows_length in let inputs = is.inputs in
      let below : x.0 < length flows = omega (arith, places, count) in
      subst (Fits (does.Read x)) (sym e)
      (record {
        reads = omega (arith, below, inputs);
        value = next_drop x (slice_index_or flows x.0 []) (slice_index_or m.taken x.0 0) ∙ ap (next_in x) (sym (left_at m.taken flows x.0 inputs below));
      })
  fits (does.Fun y op operands) work e places reads = function_fits y op operands work e reads
  fits (does.Copy y x) work e places reads =
      let (below, value) = seen_cell x (reads x refl) in let r = room in let a = is.cells in
      copy_fits (does.Copy y x) x.0 work e (omega (arith, below, r, a)) (ap (λ (w : ℤ). Ok w) value)
  fits (does.Const y value) work (n, (behind, within, holds), e) places reads =
      let a = is.cells in
      copy_fits (does.Const y value) n work e (omega (arith, within, a)) (ap (λ (w : ℤ). Ok w) (constant_there value n (behind, within, holds)))
  fits (does.DelayRead y memory) work e places reads =
      let count = memories_length in let r = room in let a = is.cells in
      let below : memory < length image.memories = omega (arith, places, count) in
      copy_fits (does.DelayRead y memory) (length image.signals + memory) work e (omega (arith, below, r, a)) (ap (λ (w : ℤ). Ok w) (memory_cell memory below))
  fits (does.Store memory x) work e places reads =
      let (below, value) = seen_cell x (reads x refl) in let r = room in let a = is.cells in
      copy_fits (does.Store memory x) x.0 work e (omega (arith, below, r, a)) (ap (λ (w : ℤ). Ok w) value)

  -- ---- what it leaves

  module _ (right : IsImage image) (op : ImageOp) (may : MayDo (scope_of image) op.kind) (instruction : Instruction) (for : IsFor image lowered.cells.items op instruction) where
    pub target_inside : instruction.target < bound_of image
    target_inside = let t = for.target in let w = target_within image right op.kind may in omega (arith, t, w)

    pub target_cell : instruction.target < length m.values
    target_cell = let t = target_inside in let r = room in let a = is.cells in omega (arith, t, r, a)

    pub target_stamp : instruction.target < length m.stamps
    target_stamp = let t = target_inside in let r = room in let a = is.stamps in omega (arith, t, r, a)

    module _ (v : ℤ) where
      abbrev new : Cells
      new = left_by instruction v instant m

      abbrev S : ℕ
      S = length image.signals

      state_is : (r : Instant) (l : List ℤ) (f : List (List ℤ)) → registers_on image instant new ≡ r → (state_on image flows instant new).memories ≡ l → left_of new.taken flows ≡ f
          → state_on image flows instant new ≡ record { registers = r; memories = l; flows = f }
      state_is r l f a b d = λ j. let t : State = record { registers = a j; memories = b j; flows = d j } in t

      signal_kept : (x : ℕ) → instruction.target ≡ x → x < S → taken_after instruction.work m.taken ≡ m.taken
          → state_on image flows instant new ≡ record (state_on image flows instant m) { registers = set (registers_on image instant m) x (Some v) }
      signal_kept x e below same =
          state_is (set (registers_on image instant m) x (Some v)) (state_on image flows instant m).memories (left_of m.taken flows)
          (signal_registers image flows instruction v instant m target_stamp target_cell x e below)
          (signal_memories image flows instruction v instant m target_stamp target_cell x e below)
          (flows_same image flows instruction v instant m same)

      not_next : (work : Work) (source : ℕ) → work ≡ Copy source → taken_after work m.taken ≡ m.taken
      not_next work source e = ap (λ (w : Work). taken_after w m.taken) e

      function_not_next : (f : FunOp) (operands : List Operand) (work : Work) → IsFunctionWork (bound_of image) lowered.cells.items f operands work → taken_after work m.taken ≡ m.taken
      function_not_next f [] work none = absurd none
      function_not_next f (a ∷ []) work (i, first, e) = ap (λ (w : Work). taken_after w m.taken) e
      function_not_next f (a ∷ b ∷ []) work (i, j, first, second, e) = ap (λ (w : Work). taken_after w m.taken) e
      function_not_next f (a ∷ b ∷ c ∷ operands) work none = absurd none

      pub state_kept : state_on image flows instant new ≡ operated op.kind v (state_on image flows instant m)
      state_kept = by op.kind for.work for.target (writes_within image right op.kind may) (stored_within image right op.kind may) where
        by : (k : ImageOpKind) → IsWorkOf image lowered.cells.items k instruction.work → instruction.target ≡ target_of image k → ((x : SigId) → Writes k x → x.0 < S)
            → ((memory : ℕ) (x : SigId) → k ≡ does.Store memory x → memory < length image.memories) → state_on image flows instant new ≡ operated k v (state_on image flows instant m)
        by (does.Read x) w t within stored =
            state_is _ _ _
            (signal_registers image flows instruction v instant m target_stamp target_cell x.0 t (within x refl))
            (signal_memories image flows instruction v instant m target_stamp target_cell x.0 t (within x refl))
            (flows_read image flows instruction v instant m x.0 w)
        by (does.Fun y f operands) w t within stored = signal_kept y.0 t (within y refl) (function_not_next f operands instruction.work w)
        by (does.Copy y x) w t within stored = signal_kept y.0 t (within y refl) (not_next instruction.work x.0 w)
        by (does.Const y value) (n, constant, w) t within stored = signal_kept y.0 t (within y refl) (not_next instruction.work n w)
        by (does.DelayRead y memory) w t within stored = signal_kept y.0 t (within y refl) (not_next instruction.work (S + memory) w)
        by (does.Store memory x) w t within stored =
            state_is _ _ _
            (memory_registers image flows instruction v instant m target_stamp target_cell memory t)
            (memory_memories image flows instruction v instant m target_stamp target_cell memory t (stored memory x refl))
            (flows_same image flows instruction v instant m (not_next instruction.work x.0 w))

      taken_length : (work : Work) → length (taken_after work m.taken) ≡ length m.taken
      taken_length (Next x) = length-set m.taken x (slice_index_or m.taken x 0 + 1)
      taken_length other = refl

      past_set : (stamps : List ℕ) (x instant number stamp : ℕ) → ((k s : ℕ) → slice_get stamps k ≡ Some s → s ≤ instant) → slice_get (set stamps x instant) number ≡ Some stamp → stamp ≤ instant
      past_set [] x instant number stamp before e = before number stamp e
      past_set (s ∷ stamps) zero instant zero stamp before e = let f : instant ≡ stamp = cc in omega (arith, f)
      past_set (s ∷ stamps) zero instant (suc number) stamp before e = before (suc number) stamp e
      past_set (s ∷ stamps) (suc x) instant zero stamp before e = before zero stamp e
      past_set (s ∷ stamps) (suc x) instant (suc number) stamp before e = past_set stamps x instant number stamp (λ k. before (suc k)) e

      pub cells_kept : AreCellsOf image lowered flows instant new
      cells_kept = record {
        cells = length-set m.values instruction.target v ∙ is.cells;
        stamps = length-set m.stamps instruction.target instant ∙ is.stamps;
        constants = λ number behind within.
            let t = target_inside in
            get_or-set_other m.values instruction.target number v (pos 0) (λ e. omega (arith, e, behind, t))
            ∙ is.constants number behind within;
        inputs = taken_length instruction.work ∙ is.inputs;
        past = λ number stamp there. past_set m.stamps instruction.target instant number stamp is.past there;
      }
