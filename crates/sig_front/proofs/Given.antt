-- Where what is said and what is refused are one thing each, and never both, an answer is the one.
use Rattle.sig_front.proofs.Common.{◌≡◌, ◌⊎◌, ⊎_elim, inl, inr, Result, Ok, Err, IfOk, IfErr, IsErrAnd, MatchResult, FrontAnswer, OutOfMemory}

module _ {V M : Type 0} (view : V → M) (Says : M → Type 0) (Refuses : FrontAnswer → Type 0) where
  pub given : ((a b : M) → Says a → Says b → a ≡ b) → ((a : M) (answer : FrontAnswer) → Says a → Refuses answer → ⊥)
      → (result : Result V FrontAnswer) → IfOk result (λ v. Says (view v)) → IfErr result (λ answer. (answer ≡ OutOfMemory) ⊎ Refuses answer)
      → (what : M) → Says what → MatchResult result (λ v. view v ≡ what) (λ answer. answer ≡ OutOfMemory)
  given one apart (Ok v) says fault what is = one (view v) what says is
  given one apart (Err answer) says fault what is = ⊎_elim (λ memory. memory) (λ refused. absurd (apart what answer is refused)) fault

  pub refused : ((a b : FrontAnswer) → Refuses a → Refuses b → a ≡ b) → ((a : M) (answer : FrontAnswer) → Says a → Refuses answer → ⊥)
      → (result : Result V FrontAnswer) → IfOk result (λ v. Says (view v)) → IfErr result (λ answer. (answer ≡ OutOfMemory) ⊎ Refuses answer)
      → (fault : FrontAnswer) → Refuses fault → IsErrAnd result (λ answer. (answer ≡ OutOfMemory) ⊎ (answer ≡ fault))
  refused one apart (Ok v) says begins fault is = apart (view v) fault says is
  refused one apart (Err answer) says begins fault is = ⊎_elim (λ memory. inl memory) (λ also. inr (one answer fault also is)) begins
