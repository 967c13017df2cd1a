-- The guards of earlier operations keep their truth, since the conditions that their walks asked were written before, and what
-- was written stays.
use Rattle.sig_exec.proofs.Common.{◌≡◌, ◌≤◌, inl, inr, ℕ, zero, suc, Bool, true, false, List, [], ◌∷◌, Option, None, Some, refl, sym, ap, ◌∙◌, arith, slice_get, Instant, seen_at, SigId, Diagram, Constant, Choice, truth_of, value_at, Asks, Guarded, Guards, IsSound, IsWrittenBefore, State, is_true, proposal_of}

choice_is : (u : ℕ) (low high : Diagram) (truths : List Bool) (x : Bool) → truth_of truths u ≡ x → value_at (Choice u low high) truths ≡ (elim x [ true ↦ value_at high truths | false ↦ value_at low truths ])
unfolding value_at
choice_is u low high truths true e = rw e refl
choice_is u low high truths false e = rw e refl

-- truths that agree on what a walk by the first asks for give one value
alike : (d : Diagram) (truths others : List Bool) → ((v : ℕ) → Asks d truths v → truth_of truths v ≡ truth_of others v) → value_at d truths ≡ value_at d others
unfolding value_at
alike (Constant b) truths others agree = refl
alike (Choice u low high) truths others agree =
    by (truth_of truths u) refl
    (λ e. alike high truths others (λ v asks. agree v (inr (inl (e, asks)))))
    (λ e. alike low truths others (λ v asks. agree v (inr (inr (e, asks)))))
  where
    by : (x : Bool) → truth_of truths u ≡ x → (truth_of truths u ≡ true → value_at high truths ≡ value_at high others) → (truth_of truths u ≡ false → value_at low truths ≡ value_at low others)
        → value_at (Choice u low high) truths ≡ value_at (Choice u low high) others
    by true e in_high in_low =
        choice_is u low high truths true e ∙ (in_high e ∙ sym (choice_is u low high others true (sym (agree u (inl refl)) ∙ e)))
    by false e in_high in_low =
        choice_is u low high truths false e ∙ (in_low e ∙ sym (choice_is u low high others false (sym (agree u (inl refl)) ∙ e)))

-- the truth of a condition, where there is one
abbrev truth_where : Instant → Option SigId → Bool
truth_where registers None = false
truth_where registers (Some x) = is_true (seen_at registers x.0)

truth_in : (conditions : List SigId) (registers : Instant) (v : ℕ) → truth_of (proposal_of conditions registers) v ≡ truth_where registers (slice_get conditions v)
truth_in [] registers v = refl
truth_in (c ∷ conditions) registers zero = refl
truth_in (c ∷ conditions) registers (suc v) = truth_in conditions registers v

-- what the operations before one wrote is the same in two states
abbrev pub Stays : Guards → ℕ → State → State → Type 0
Stays guards n s t = (x : SigId) → IsWrittenBefore guards.ops n (proposal_of guards.conditions s.registers) x → seen_at t.registers x.0 ≡ seen_at s.registers x.0

pub written_later : (ops : List Guarded) (m n : ℕ) (proposal : List Bool) (x : SigId) → m ≤ n → IsWrittenBefore ops m proposal x → IsWrittenBefore ops n proposal x
written_later ops m n proposal x few w = let b = w.before in record { earlier = w.earlier; before = omega (arith, b, few); op = w.op; is = w.is; holds = w.holds; writes = w.writes }

-- then the guards of these operations and of that one have the same truth in both
pub stays : (guards : Guards) → IsSound guards → (n : ℕ) (s t : State) → Stays guards n s t → (m : ℕ) (op : Guarded) → m ≤ n → slice_get guards.ops m ≡ Some op
    → value_at op.guard (proposal_of guards.conditions s.registers) ≡ value_at op.guard (proposal_of guards.conditions t.registers)
stays guards sound n s t same m op few is =
    alike op.guard (proposal_of guards.conditions s.registers) (proposal_of guards.conditions t.registers)
    (λ v asks. truth_in guards.conditions s.registers v ∙ at v asks (slice_get guards.conditions v) refl ∙ sym (truth_in guards.conditions t.registers v))
  where
    at : (v : ℕ) → Asks op.guard (proposal_of guards.conditions s.registers) v → (o : Option SigId) → slice_get guards.conditions v ≡ o → truth_where s.registers (slice_get guards.conditions v) ≡ truth_where t.registers (slice_get guards.conditions v)
    at v asks None is_none = rw is_none refl
    at v asks (Some x) there =
        let w = (sound m op is).asks (proposal_of guards.conditions s.registers) v x asks there in
        let e = same x (written_later guards.ops m n (proposal_of guards.conditions s.registers) x few w) in
        rw there (ap is_true (sym e))
