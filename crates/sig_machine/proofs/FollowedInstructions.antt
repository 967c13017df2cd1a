-- Instructions that take no value of an input.
use Rattle.sig_machine.proofs.Common.{◌≡◌, ◌∙◌, ℕ, ℤ, List, None, Some, refl, sym, IsKept, IsPut, input_id, input_taken, taken_after, Instruction, Work, Next, Copy, One, Two, Machine}

pub taken_stays : (work : Work) (taken : List ℕ) → input_taken work ≡ None → taken_after work taken ≡ taken
taken_stays (Next input) taken stays = absurd (let some : Some (input_id input) ≡ None = stays in cc)
taken_stays (Copy source) taken stays = refl
taken_stays (One function a) taken stays = refl
taken_stays (Two function a b) taken stays = refl

-- a value that was put into the cell of such an instruction is kept
pub kept_by : (instruction : Instruction) (value : ℤ) (old new : Machine) → IsPut instruction.target value old new → input_taken instruction.work ≡ None → IsKept instruction value old new
kept_by instruction value old new put stays = record {
  signals = put.signals;
  instant = put.instant;
  cells = put.cells;
  stamps = put.stamps;
  taken = put.taken ∙ sym (taken_stays instruction.work old.taken.items stays);
}
