-- An instruction whose guard holds does what its operation does.
use Rattle.sig_exec.proofs.Common.{◌≡◌, ◌+◌, ℕ, ℤ, List, Some, Result, Ok, Err, sym, subst, ◌∙◌, slice_get, IsSoundImage, guarded_in, guards_of, ImageView, IsImage, MayDo, scope_of, Does, Ends, State, ImageOp, IsAmid, IsFor, Lowers, AreCellsOf, Cells, answer_of, instructions_in, left_by, state_on, cause_of, Cause, Instruction, ImageInstructions}
use Rattle.sig_exec.proofs.Amid.{IsOn, behind_done, reads_there, stays_done}
use Rattle.sig_exec.proofs.GuardWalks.{Stays}
use Rattle.sig_exec.proofs.OperationOutcomes.{Comes, HasPlaces, HasReads, comes, operated}
use Rattle.sig_exec.proofs.Places.{guarded_at, has_places, operation_at}
use Rattle.sig_exec.proofs.InstructionWorks.{Fits, cells_kept, fits, state_kept}

module _ (image : ImageView) (right : IsImage image) (sound : IsSoundImage image) (lowered : ImageInstructions) (lowers : Lowers image lowered) (flows : List (List ℤ)) (instant : ℕ) (m : Cells)
    (is : AreCellsOf image lowered flows instant m) (place : ℕ) (amid : IsAmid image place (state_on image flows instant m)) (instruction : Instruction)
    (at : slice_get (instructions_in lowered.code) place ≡ Some instruction) (op : ImageOp) (there : slice_get image.ops place ≡ Some op)
    (on : IsOn image right sound (guarded_in image.nodes op) (state_on image flows instant m)) where
  abbrev s : State
  s = state_on image flows instant m

  for : IsFor image lowered.cells.items op instruction
  for = lowers.instructions.each place instruction op at there

  may : MayDo (scope_of image) op.kind
  may = (operation_at image right place op there).kind

  reads : HasReads op.kind s
  reads = reads_there image right sound place (guarded_in image.nodes op) (guarded_at image right place op there) s amid on

  places : HasPlaces op.kind s
  places = has_places image right op.kind may place s amid

  fit : Fits image lowered lowers flows instant m is op.kind instruction.work
  fit = fits image lowered lowers flows instant m is op.kind instruction.work for.work places reads

  came : (r : Result ℤ Cause) → r ≡ answer_of flows m.values m.taken instruction.work → Comes op.kind op.at s r
  came r e = subst (Comes op.kind op.at s) (sym (e ∙ fit.value)) (comes op.kind op.at s places reads)

  pub ended : (cause : Cause) → Err cause ≡ answer_of flows m.values m.taken instruction.work → Ends op.kind op.at s (cause_of op.at cause)
  ended cause e = came (Err cause) e

  module _ (v : ℤ) where
    abbrev new : Cells
    new = left_by instruction v instant m

    state : state_on image flows instant new ≡ operated op.kind v s
    state = state_kept image lowered lowers flows instant m is right op may instruction for v

    pub done : Ok v ≡ answer_of flows m.values m.taken instruction.work → Does op.kind s (state_on image flows instant new)
    done e = subst (λ (t : State). Does op.kind s t) (sym state) (came (Ok v) e)

    pub amid_more : IsAmid image (place + 1) (state_on image flows instant new)
    amid_more =
        subst (λ (t : State). IsAmid image (place + 1) t) (sym state)
        (behind_done image right sound place (guarded_in image.nodes op) (guarded_at image right place op there) s amid on v)

    -- what was written before stays
    pub stays_more : Stays (guards_of image) place s (state_on image flows instant new)
    stays_more =
        subst (λ (t : State). Stays (guards_of image) place s t) (sym state)
        (stays_done image right sound place (guarded_in image.nodes op) (guarded_at image right place op there) s amid on v)

    pub cells_more : AreCellsOf image lowered flows instant new
    cells_more = cells_kept image lowered lowers flows instant m is right op may instruction for v
