-- Any bytes are those of an accepted program or of a refused one; so whatever its file holds, and whether it is there, a
-- program has a plan, or comes to an outcome.
use Rattle.sig_program.proofs.Common.{◌≤◌, ◌⊎◌, ℕ, Bool, List, length, inl, inr, refl, arith, cases_lt, PROGRAM_BYTES, Contents, Kernel, FrontAnswer, IsKernelText, IsNoKernelText, front_line, IsValid, Holds, Outcome, long_program, AreRefused, AtPlan, HasOwnKernel, IsAcceptedAs, IsAcceptedProgram, IsRefusedProgram}
use Rattle.sig_outcome.proofs.FoundFiles.{some_at_program}

-- ---- verdicts

abbrev pub HasVerdict : Bool → List ℕ → Type 0
HasVerdict pace bytes = IsAcceptedProgram pace bytes ⊎ ((line : List ℕ) × IsRefusedProgram pace bytes line)

module _ (texts : (text : List ℕ) → ((kernel : Kernel) × IsKernelText text kernel) ⊎ ((answer : FrontAnswer) × IsNoKernelText text answer))
    (valid : (text : List ℕ) (kernel : Kernel) → length text ≤ PROGRAM_BYTES → IsKernelText text kernel → IsValid kernel)
    (kernels : (pace : Bool) (bytes : List ℕ) (own : Kernel) → length bytes ≤ PROGRAM_BYTES → HasOwnKernel bytes own → HasVerdict pace bytes) where
  of_text : (pace : Bool) (bytes : List ℕ) → length bytes ≤ PROGRAM_BYTES → ((kernel : Kernel) × IsKernelText bytes kernel) ⊎ ((answer : FrontAnswer) × IsNoKernelText bytes answer) → HasVerdict pace bytes
  of_text pace bytes short (inl is) = kernels pace bytes is.0 short (record { text = is.1; valid = valid bytes is.0 short is.1 })
  of_text pace bytes short (inr none) = inr (front_line none.0, inr (short, inl (record { answer = none.0; none = none.1; says = refl })))

  pub program_verdict : (pace : Bool) (bytes : List ℕ) → HasVerdict pace bytes
  program_verdict pace bytes = elim (cases_lt PROGRAM_BYTES (length bytes)) [
    | inl long ↦ inr (long_program, inl (long, refl))
    | inr short ↦ of_text pace bytes short (texts bytes)
  ]

-- ---- outcomes

module _ (verdicts : (pace : Bool) (bytes : List ℕ) → HasVerdict pace bytes) (pace : Bool) where
  of_short : (bytes : List ℕ) → length bytes ≤ PROGRAM_BYTES → HasVerdict pace bytes → ((kernel : Kernel) × IsAcceptedAs pace bytes kernel) ⊎ ((line : List ℕ) × AreRefused pace bytes line)
  of_short bytes short (inl is) = inl (is.kernel, is.is)
  of_short bytes short (inr (line, inl long)) = absurd (omega (arith, long.0, short))
  of_short bytes short (inr (line, inr refused)) = inr (line, refused.1)

  pub some_at_plan : (held : Contents) (program : List ℕ) (Next : Kernel → Outcome → Type 0)
      → ((kernel : Kernel) → Holds (held program) PROGRAM_BYTES (λ bytes. IsAcceptedAs pace bytes kernel) → (o : Outcome) × Next kernel o) → (o : Outcome) × AtPlan pace held program Next o
  some_at_plan held program Next next = some_at_program (IsAcceptedAs pace) (AreRefused pace) (λ bytes short. of_short bytes short (verdicts pace bytes)) held program Next next
