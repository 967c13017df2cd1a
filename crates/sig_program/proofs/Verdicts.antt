-- With the flag for paces and without it, no program is both accepted and refused, and a refused one has one line.
use Rattle.sig_program.proofs.Common.{◌≡◌, ◌≤◌, ◌⊎◌, ◌∙◌, ℕ, Bool, true, false, List, length, inl, inr, refl, sym, ap, subst, arith, PROGRAM_BYTES, IsFaultOf, told_as, fault_line, front_line, kernel_once, kernel_or_refusal, no_kernel_once, Kernel, IsPaced, one_pacing, IsAcceptedKernel, IsRefusedFor, KernelFault, AreRefused, Becomes, HasKernel, HasOwnKernel, IsAcceptedAs, IsAcceptedProgram, IsRefusedKernel, IsRefusedPace, IsRefusedProgram, IsRefusedText, IsUnpaced}
use Rattle.sig_plan.proofs.FaultOnce as faults
use Rattle.sig_program.proofs.Pacings.{IsPacedOrTold, paced_or_unpaced, unpaced_once}

-- ---- the kernel of a program

pub own_once : (bytes : List ℕ) (a b : Kernel) → HasOwnKernel bytes a → HasOwnKernel bytes b → a ≡ b
own_once bytes a b one other = kernel_once bytes a b one.text other.text

becomes_once : (pace : Bool) (own a b : Kernel) → Becomes pace own a → Becomes pace own b → a ≡ b
becomes_once true own a b one other = one_pacing own a b one other
becomes_once false own a b one other = one ∙ sym other

has_once : (pace : Bool) (bytes : List ℕ) (a b : Kernel) → HasKernel pace bytes a → HasKernel pace bytes b → a ≡ b
has_once pace bytes a b one other =
    becomes_once pace other.own a b (subst (λ (own : Kernel). Becomes pace own a) (own_once bytes one.own other.own one.has other.has) one.becomes) other.becomes

pub accepted_once : (pace : Bool) (bytes : List ℕ) (a b : Kernel) → IsAcceptedAs pace bytes a → IsAcceptedAs pace bytes b → a ≡ b
accepted_once pace bytes a b one other = has_once pace bytes a b one.has other.has

-- ---- refusals

text_or_own : (bytes line : List ℕ) (own : Kernel) → IsRefusedText bytes line → HasOwnKernel bytes own → ⊥
text_or_own bytes line own text has = kernel_or_refusal bytes own text.answer has.text text.none

text_or_pace : (pace : Bool) (bytes l m : List ℕ) → IsRefusedText bytes l → IsRefusedPace pace bytes m → ⊥
text_or_pace true bytes l m text refused = text_or_own bytes l refused.own text refused.has
text_or_pace false bytes l m text refused = refused

pace_or_kernel : (pace : Bool) (bytes line : List ℕ) (kernel : Kernel) → IsRefusedPace pace bytes line → HasKernel pace bytes kernel → ⊥
pace_or_kernel true bytes line kernel refused has =
    paced_or_unpaced refused.own kernel line (subst (λ (own : Kernel). IsPaced own kernel) (own_once bytes has.own refused.own has.has refused.has) has.becomes) refused.why
pace_or_kernel false bytes line kernel refused has = refused

same_pace : (pace : Bool) (bytes l m : List ℕ) → IsRefusedPace pace bytes l → IsRefusedPace pace bytes m → l ≡ m
same_pace true bytes l m one other =
    unpaced_once other.own l m (subst (λ (own : Kernel). IsUnpaced own l) (own_once bytes one.own other.own one.has other.has) one.why) other.why
same_pace false bytes l m one other = absurd one

same_fault : (pace : Bool) (bytes l m : List ℕ) → IsRefusedKernel pace bytes l → IsRefusedKernel pace bytes m → l ≡ m
same_fault pace bytes l m one other =
    let same : other.kernel ≡ one.kernel = has_once pace bytes other.kernel one.kernel other.has one.has in
    let told : IsFaultOf one.kernel other.fault = subst (λ (k : Kernel). IsFaultOf k other.fault) same other.told in
    let same_fault = faults.fault_once one.kernel one.has.valid one.told.0 told.0 one.told.1 told.1 in
    let views = one.told.2 ∙ ap (told_as one.kernel) same_fault ∙ sym told.2 in
    one.says ∙ ap fault_line views ∙ sym other.says

pub refused_once : (pace : Bool) (bytes l m : List ℕ) → AreRefused pace bytes l → AreRefused pace bytes m → l ≡ m
refused_once pace bytes l m (inl a) (inl b) = a.says ∙ ap front_line (no_kernel_once bytes a.answer b.answer a.none b.none) ∙ sym b.says
refused_once pace bytes l m (inl a) (inr (inl b)) = absurd (text_or_pace pace bytes l m a b)
refused_once pace bytes l m (inl a) (inr (inr b)) = absurd (text_or_own bytes l b.has.own a b.has.has)
refused_once pace bytes l m (inr (inl a)) (inl b) = absurd (text_or_pace pace bytes m l b a)
refused_once pace bytes l m (inr (inr a)) (inl b) = absurd (text_or_own bytes m a.has.own b a.has.has)
refused_once pace bytes l m (inr (inl a)) (inr (inl b)) = same_pace pace bytes l m a b
refused_once pace bytes l m (inr (inl a)) (inr (inr b)) = absurd (pace_or_kernel pace bytes l b.kernel a b.has)
refused_once pace bytes l m (inr (inr a)) (inr (inl b)) = absurd (pace_or_kernel pace bytes m a.kernel b a.has)
refused_once pace bytes l m (inr (inr a)) (inr (inr b)) = same_fault pace bytes l m a b

pub accepted_or_refused : (pace : Bool) (bytes : List ℕ) (kernel : Kernel) (line : List ℕ) → IsAcceptedAs pace bytes kernel → AreRefused pace bytes line → ⊥
accepted_or_refused pace bytes kernel line is (inl text) = text_or_own bytes line is.has.own text is.has.has
accepted_or_refused pace bytes kernel line is (inr (inl refused)) = pace_or_kernel pace bytes line kernel refused is.has
accepted_or_refused pace bytes kernel line is (inr (inr refused)) =
    let same : refused.kernel ≡ kernel = has_once pace bytes refused.kernel kernel refused.has is.has in
    let told : IsFaultOf kernel refused.fault = subst (λ (k : Kernel). IsFaultOf k refused.fault) same refused.told in
    faults.accepted_or_refused kernel is.has.valid told.0 is.accepted told.1

pub program_apart : (pace : Bool) (bytes line : List ℕ) → IsAcceptedProgram pace bytes → IsRefusedProgram pace bytes line → ⊥
program_apart pace bytes line is (inl long) = omega (arith, long.0, is.short)
program_apart pace bytes line is (inr refused) = accepted_or_refused pace bytes is.kernel line is.is refused.1

pub program_once : (pace : Bool) (bytes line other : List ℕ) → IsRefusedProgram pace bytes line → IsRefusedProgram pace bytes other → line ≡ other
program_once pace bytes line other (inl a) (inl b) = a.1 ∙ sym b.1
program_once pace bytes line other (inl a) (inr b) = absurd (omega (arith, a.0, b.0))
program_once pace bytes line other (inr a) (inl b) = absurd (omega (arith, a.0, b.0))
program_once pace bytes line other (inr a) (inr b) = refused_once pace bytes line other a.1 b.1

-- ---- each kernel of a text has a verdict

module _ (decided : (kernel : Kernel) → IsAcceptedKernel kernel ⊎ ((fault : KernelFault) × IsRefusedFor kernel fault)) (bytes : List ℕ) (short : length bytes ≤ PROGRAM_BYTES) where
  -- a kernel is accepted, or refused for a rule
  verdict_on : (pace : Bool) (kernel : Kernel) → HasKernel pace bytes kernel → IsAcceptedProgram pace bytes ⊎ ((line : List ℕ) × IsRefusedProgram pace bytes line)
  verdict_on pace kernel has = elim (decided kernel) [
    | inl accepted ↦ inl (record { short = short; kernel = kernel; is = record { has = has; accepted = accepted } })
    | inr refused ↦
        let told : IsFaultOf kernel (told_as kernel refused.0) = (refused.0, refused.1, refl) in
        let is : IsRefusedKernel pace bytes (fault_line (told_as kernel refused.0)) = record { kernel = kernel; has = has; fault = told_as kernel refused.0; told = told; says = refl } in
        inr (fault_line (told_as kernel refused.0), inr (short, inr (inr is)))
  ]

  module _ (own : Kernel) (has : HasOwnKernel bytes own) where
    -- and it gets paces, or is refused where it gets none
    with_paces : IsPacedOrTold own → IsAcceptedProgram true bytes ⊎ ((line : List ℕ) × IsRefusedProgram true bytes line)
    with_paces (inl paced) = verdict_on true paced.0 (record { own = own; has = has; becomes = paced.1; valid = paced.2 })
    with_paces (inr told) =
        let is : IsRefusedPace true bytes told.0 = record { own = own; has = has; why = told.1 } in
        inr (told.0, inr (short, inr (inl is)))

    pub with_verdict : IsPacedOrTold own → (pace : Bool) → IsAcceptedProgram pace bytes ⊎ ((line : List ℕ) × IsRefusedProgram pace bytes line)
    with_verdict paced true = with_paces paced
    with_verdict paced false = verdict_on false own (record { own = own; has = has; becomes = refl; valid = has.valid })
