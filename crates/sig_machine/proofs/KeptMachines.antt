-- A machine of a plan stays one, whatever its code does.
use Rattle.sig_machine.proofs.Common.{cells_in, ◌≡◌, ◌<◌, ◌+◌, ◌∙◌, inl, inr, ℕ, ℤ, List, length, Some, sym, ap, arith, slice_get, get_within, Cells, Instruction, IsAccepted, IsMachineOf, Keeps, Lowered, Lowers, Machine, PlanView, cell, instructions_in}
use Rattle.sig_machine.proofs.MachinesWithCells.{HasCells, has_these, with_cells}
use Rattle.sig_machine.proofs.PlacesOfOrder.{stands_somewhere}

module _ (plan : PlanView) (accepted : IsAccepted plan) (flows : List (List ℤ)) (lowered : Lowered) (lowers : Lowers plan lowered) (old : Machine) (own : IsMachineOf plan lowered flows old)
    (s : Cells) (keeps : Keeps (instructions_in lowered.code) old.instant (cells_in old) s) where
  abbrev count : ℕ
  count = length plan.kernel.signals

  -- the cell of a constant is no target
  target_below : (place : ℕ) (instruction : Instruction) → slice_get (instructions_in lowered.code) place ≡ Some instruction → instruction.target < count + count
  target_below place instruction there =
      let lt = get_within (instructions_in lowered.code) place instruction there in
      let all = lowers.instructions.count in
      let (op, stands) = stands_somewhere plan accepted place (omega (arith, lt, all)) in
      elim (lowers.instructions.each place instruction there op stands).target [
        | inl (x, writes, none, below, same) ↦ omega (arith, below, same)
        | inr (y, writes, some, below, same) ↦ omega (arith, below, same)
      ]

  pub has_kept : HasCells count old.instant s (with_cells old s)
  has_kept =
      let has = has_these old s (record { values = keeps.values; stamps = keeps.stamps; taken = keeps.taken }) in
      record { signals = own.signals; instant = has.instant; cells = has.cells; stamps = has.stamps; taken = has.taken }

  pub machine_kept : IsMachineOf plan lowered flows (with_cells old s)
  machine_kept = record {
    signals = own.signals;
    cells = ap length has_kept.cells ∙ keeps.values ∙ own.cells;
    stamps = ap length has_kept.stamps ∙ keeps.stamps ∙ own.stamps;
    constants = λ number behind within.
        ap (λ (xs : List ℤ). cell xs number) has_kept.cells
        ∙ keeps.others number (λ place instruction there same.
        let below = target_below place instruction there in let n = own.signals in omega (arith, below, same, behind, n))
        ∙ own.constants number behind within;
    inputs = ap length has_kept.taken ∙ keeps.taken ∙ own.inputs;
    past = λ number stamp there. elim (keeps.written number stamp (sym (ap (λ (xs : List ℕ). slice_get xs number) has_kept.stamps) ∙ there)) [
      | inl before ↦ own.past number stamp before
      | inr now ↦ omega (arith, now)
    ];
  }
