-- The guards of instructions tell what those of their operations do.
use Rattle.sig_exec.proofs.Common.{◌≡◌, ◌<◌, ℕ, suc, ℤ, Bool, true, false, List, [], ◌∷◌, length, Option, None, Some, refl, sym, ap, ◌∙◌, arith, if◌then◌else◌, lt-ltb, nat_lt, slice_get, slice_get-get_or, test, Seen, SigId, seen_at, guarded_in, guards_of, holds, is_true, proposal_of, ImageView, IsImage, ImageOp, Ref, AreCellsOf, Cells, Scope, HaveSignals, ImageInstructions, Lowers, cell, guards_in, holds_at, registers_in, registers_on, scope_in, stamped, state_on, truths_of}
use Rattle.sig_model.specs.Actors.{is_true as is_true_of}
use Rattle.sig_exec.proofs.CellsLeft.{registers_at}
use Rattle.sig_exec.proofs.InstructionWorks.{has_cells}
use Rattle.sig_exec.proofs.Places.{condition_within}

same_truth : (seen : Seen) → is_true_of seen ≡ is_true seen
same_truth None = refl
same_truth (Some v) = refl

below_is : (n x : ℕ) (seen : Seen) → x < n → (if nat_lt x n then seen else None) ≡ seen
below_is n x seen below = by (nat_lt x n) refl where
  by : (b : Bool) → nat_lt x n ≡ b → (if b then seen else None) ≡ seen
  by true e = refl
  by false e = absurd (let yes : nat_lt x n ≡ true = lt-ltb x n below in let f : true ≡ false = sym yes ∙ e in cc)

module _ (image : ImageView) (instant : ℕ) (s : Cells) (has : HaveSignals image s) where
  register_same : (x : ℕ) → x < length image.signals → registers_in (length image.signals) instant s x ≡ seen_at (registers_on image instant s) x
  register_same x below =
      let few = has.stamps in
      below_is (length image.signals) x (stamped instant (slice_get s.stamps x) (cell s.values x)) below
      ∙ ap (λ (o : Option ℕ). stamped instant o (cell s.values x)) (slice_get-get_or s.stamps x 0 (omega (arith, below, few)))
      ∙ sym (registers_at image instant s has x below)

  truths_same : (conditions : List SigId) → ((v : ℕ) (c : SigId) → slice_get conditions v ≡ Some c → c.0 < length image.signals)
      → truths_of conditions (registers_in (length image.signals) instant s) ≡ proposal_of conditions (registers_on image instant s)
  truths_same [] below = refl
  truths_same (c ∷ conditions) below =
      ap (λ (b : Bool). b ∷ truths_of conditions (registers_in (length image.signals) instant s))
      (same_truth (registers_in (length image.signals) instant s c.0) ∙ ap is_true (register_same c.0 (below 0 c refl)))
      ∙ ap (λ (l : List Bool). is_true (seen_at (registers_on image instant s) c.0) ∷ l) (truths_same conditions (λ v d at. below (suc v) d at))

module _ (image : ImageView) (right : IsImage image) (lowered : ImageInstructions) (lowers : Lowers image lowered) (flows : List (List ℤ)) (instant : ℕ) (s : Cells)
    (are : AreCellsOf image lowered flows instant s) (place : ℕ) (guard : Ref) (at : slice_get (guards_in lowered.code) place ≡ Some guard) (op : ImageOp)
    (there : slice_get image.ops place ≡ Some op) where
  pub same_guard : holds_at (scope_in lowered.functions.store.nodes lowered.code) instant guard s ≡ holds (guards_of image) (guarded_in image.nodes op) (state_on image flows instant s)
  same_guard =
      ap (λ (scope : Scope). holds_at scope instant guard s) lowers.asks
      ∙ ap (λ (truths : List Bool). test lowered.functions.store.nodes guard truths)
      (truths_same image instant s (has_cells image lowered lowers flows instant s are) image.conditions (λ v c is. condition_within image right v c is))
      ∙ (lowers.functions.each op.guard guard (lowers.guards.each place guard op at there)).function (proposal_of image.conditions (registers_on image instant s))
