-- An instant, operation by operation.
use Rattle.sig_exec.proofs.Common.{same_Some, ◌≡◌, ◌+◌, inl, inr, ℕ, ℤ, Bool, true, List, length, None, Some, refl, sym, ap, subst, ◌∙◌, arith, slice_get, cases_lt, length-replicate, seen_at, SigId, value_at, Guarded, IsSoundImage, IsWrittenBefore, Writes, guards_of, ImageView, IsImage, State, cleared, proposal_of, IsAmid}
use Rattle.sig_exec.proofs.OperationOutcomes.{AreAlike, HasReads, operated, operated_alike, others_stay, written_there}
use Rattle.sig_exec.proofs.Places.{may_do, writes_within}
use Rattle.sig_exec.proofs.GuardWalks.{Stays, stays}

module _ (image : ImageView) (right : IsImage image) (sound : IsSoundImage image) where
  abbrev truths : State → List Bool
  truths s = proposal_of image.conditions s.registers

  -- the guard of an operation is true in a state
  abbrev pub IsOn : Guarded → State → Type 0
  IsOn op s = value_at op.guard (truths s) ≡ true

  module _ (n : ℕ) (op : Guarded) (is : slice_get (guards_of image).ops n ≡ Some op) (s : State) (amid : IsAmid image n s) where
    behind : (t : State) → AreAlike s t → Stays (guards_of image) n s t → ((x : SigId) → IsOn op s → Writes op.kind x → (v : ℤ) × (seen_at t.registers x.0 ≡ Some v)) → IsAmid image (n + 1) t
    behind t alike keeps own = record {
      registers = alike.registers ∙ amid.registers;
      memories = alike.memories ∙ amid.memories;
      flows = alike.flows ∙ amid.flows;
      written = λ x w. by x w;
    } where
      by : (x : SigId) → IsWrittenBefore (guards_of image).ops (n + 1) (truths t) x → (v : ℤ) × (seen_at t.registers x.0 ≡ Some v)
      by x w = let b = w.before in elim (cases_lt w.earlier n) [
        | inl before ↦
            let on = stays (guards_of image) sound n s t keeps w.earlier w.op (omega (arith, before)) w.is ∙ w.holds in
            let earlier : IsWrittenBefore (guards_of image).ops n (truths s) x = record { earlier = w.earlier; before = before; op = w.op; is = w.is; holds = on; writes = w.writes } in
            let (v, seen) = amid.written x earlier in
            (v, keeps x earlier ∙ seen)
        | inr late ↦
            let here : w.earlier ≡ n = omega (arith, late, b) in
            let same : w.op ≡ op = same_Some w.op op (sym w.is ∙ ap (slice_get (guards_of image).ops) here ∙ is) in
            let on = stays (guards_of image) sound n s t keeps n op (omega arith) is ∙ subst (λ (o : Guarded). value_at o.guard (truths t) ≡ true) same w.holds in
            own x on (subst (λ (o : Guarded). Writes o.kind x) same w.writes)
      ]

    written_same : (x y : SigId) → y.0 ≡ x.0 → IsWrittenBefore (guards_of image).ops n (truths s) x → IsWrittenBefore (guards_of image).ops n (truths s) y
    written_same x y same w = subst (λ (k : ℕ). IsWrittenBefore (guards_of image).ops n (truths s) (record { 0 = k })) (sym same) w

    -- an operation that is done writes nothing that was written before
    pub stays_done : IsOn op s → (v : ℤ) → Stays (guards_of image) n s (operated op.kind v s)
    stays_done on v = λ x w. others_stay op.kind v s x.0 (λ y writes same. (sound n op is).writes (truths s) y on writes (written_same x y same w))

    -- behind an operation that was done
    pub behind_done : IsOn op s → (v : ℤ) → IsAmid image (n + 1) (operated op.kind v s)
    behind_done on v =
        behind (operated op.kind v s) (operated_alike op.kind v s) (stays_done on v)
        (λ x on_too writes. (v, written_there op.kind v s x writes (let r = amid.registers in let b = writes_within image right op.kind (may_do image right n op is) x writes in omega (arith, r, b))))

    -- behind one that was passed over
    pub behind_passed : (IsOn op s → ⊥) → IsAmid image (n + 1) s
    behind_passed off = behind s (record { registers = refl; memories = refl; flows = refl }) (λ x w. refl) (λ x on writes. absurd (off on))

    -- an operation that is done has what it reads
    pub reads_there : IsOn op s → HasReads op.kind s
    reads_there on x reads = amid.written x ((sound n op is).reads (truths s) x on reads)

  -- at the start
  pub amid_first : (s : State) → length s.registers ≡ length image.signals → length s.memories ≡ length image.memories → length s.flows ≡ image.inputs → IsAmid image 0 s
  amid_first s registers memories flows = record {
    registers = registers;
    memories = memories;
    flows = flows;
    written = λ x w. absurd (let b = w.before in omega (arith, b));
  }

  pub amid_cleared : (s : State) → length s.memories ≡ length image.memories → length s.flows ≡ image.inputs → IsAmid image 0 (cleared (guards_of image) s)
  amid_cleared s memories flows = amid_first (cleared (guards_of image) s) (length-replicate (length image.signals) None) memories flows
