-- A sound image has a run.
use Rattle.sig_exec.proofs.Common.{◌≡◌, ◌+◌, ◌++◌, ◌⊎◌, inl, inr, ℕ, zero, suc, ℤ, Bool, true, false, List, [], ◌∷◌, length, Some, Result, Ok, Err, refl, sym, ap, subst, ◌∙◌, append_assoc, length-append, slice_get, flat_map, length-map, Trace, Guarded, Guards, IsSoundImage, guards_of, ImageView, IsImage, EndsIn, Handles, HandlesAll, IsImageRun, Runs, State, cleared, holds, instant_lines, opening, ImageMemory, ImageCause, Limit, ImageEnd, IsAmid, cause_of, Cause}
use Rattle.sig_exec.proofs.Amid.{amid_cleared, behind_done, behind_passed, reads_there}
use Rattle.sig_exec.proofs.OperationOutcomes.{Comes, comes, operated, outcome}
use Rattle.sig_exec.proofs.Places.{has_places, may_do}

-- what stands behind a front
at_front : {A : Type 0} (front : List A) (x : A) (rest : List A) → slice_get (front ++ x ∷ rest) (length front) ≡ Some x
at_front [] x rest = refl
at_front (y ∷ front) x rest = at_front front x rest

module _ (image : ImageView) (right : IsImage image) (sound : IsSoundImage image) where
  abbrev guards : Guards
  guards = guards_of image

  -- a state with as many memories and flows as the image has
  pub record IsFitting (s : State) : Type 0 where
    pub memories : length s.memories ≡ length image.memories
    pub flows : length s.flows ≡ image.inputs

  fitting : (n : ℕ) (s : State) → IsAmid image n s → IsFitting s
  fitting n s amid = record { memories = amid.memories; flows = amid.flows }

  -- operations lead to a state that fits, or end the run
  abbrev GoesOn : List Guarded → State → Type 0
  GoesOn rest s = ((t : State) × IsFitting t × HandlesAll guards rest s t) ⊎ ((cause : ImageCause) × EndsIn guards rest s cause)

  -- behind one operation
  one_more : (op : Guarded) (rest : List Guarded) (s middle : State) → Handles guards op s middle → GoesOn rest middle → GoesOn (op ∷ rest) s
  one_more op rest s middle handles (inl (t, fits, all)) = inl (t, fits, (middle, handles, all))
  one_more op rest s middle handles (inr (cause, ends)) = inr (cause, inr (middle, handles, ends))

  operation_goes : (op : Guarded) (rest : List Guarded) (n : ℕ) → slice_get guards.ops n ≡ Some op → (s : State) → IsAmid image n s → ((middle : State) → IsAmid image (n + 1) middle → GoesOn rest middle)
      → GoesOn (op ∷ rest) s
  operation_goes op rest n is s amid next = by (holds guards op s) refl where
    done : holds guards op s ≡ true → (r : Result ℤ Cause) → Comes op.kind op.at s r → GoesOn (op ∷ rest) s
    done on (Ok v) did = one_more op rest s (operated op.kind v s) (inl (on, did)) (next (operated op.kind v s) (behind_done image right sound n op is s amid on v))
    done on (Err fault) ends = inr (cause_of op.at fault, inl (on, ends))

    by : (b : Bool) → holds guards op s ≡ b → GoesOn (op ∷ rest) s
    by true on =
        done on (outcome op.kind s)
        (comes op.kind op.at s (has_places image right op.kind (may_do image right n op is) n s amid) (reads_there image right sound n op is s amid on))
    by false off =
        one_more op rest s s (inr (off, refl)) (next s (behind_passed image right sound n op is s amid (λ on. let e : true ≡ false = sym on ∙ off in cc)))

  goes_on : (rest front : List Guarded) → guards.ops ≡ front ++ rest → (s : State) → IsAmid image (length front) s → GoesOn rest s
  goes_on [] front all s amid = inl (s, fitting (length front) s amid, refl)
  goes_on (op ∷ rest) front all s amid =
      operation_goes op rest (length front) (ap (λ (l : List Guarded). slice_get l (length front)) all ∙ at_front front op rest) s amid
      (λ middle later. goes_on rest (front ++ op ∷ []) (all ∙ sym (append_assoc front (op ∷ []) rest)) middle (subst (λ (k : ℕ). IsAmid image k middle) (sym (length-append front (op ∷ []))) later))

  -- from a state at most so many instants run
  abbrev RunsOn : ℕ → State → Type 0
  RunsOn left s = (committed : Trace) × (cause : ImageCause) × Runs guards left s committed cause

  instant_runs : (left : ℕ) (s : State) → ((t : State) → IsFitting t → RunsOn left t) → GoesOn guards.ops (cleared guards s) → RunsOn (suc left) s
  instant_runs left s next (inl (t, fit, all)) = let (more, cause, runs) = next t fit in (t.registers ∷ more, cause, inr (t, more, refl, all, runs))
  instant_runs left s next (inr (cause, ends)) = ([], cause, inl (refl, ends))

  pub runs_on : (left : ℕ) (s : State) → IsFitting s → (committed : Trace) × (cause : ImageCause) × Runs guards left s committed cause
  runs_on zero s fits = ([], Limit, (refl, refl))
  runs_on (suc left) s fits = instant_runs left s (λ t fit. runs_on left t fit) (goes_on guards.ops [] refl (cleared guards s) (amid_cleared image right sound s fits.memories fits.flows))

  pub fits_first : (flows : List (List ℤ)) → length flows ≡ image.inputs → IsFitting (opening guards flows)
  fits_first flows count = record { memories = length-map image.memories (λ (memory : ImageMemory). memory.init); flows = count }

  pub some_run : (flows : List (List ℤ)) (limit : ℕ) → length flows ≡ image.inputs → (text : List ℕ) × (end : ImageEnd) × IsImageRun image flows limit text end
  some_run flows limit count =
      let (committed, cause, runs) = runs_on limit (opening guards flows) (fits_first flows count) in
      (flat_map (instant_lines image) committed, record { instants = length committed; cause = cause }, record { committed = committed; runs = runs; instants = refl; lines = refl })
