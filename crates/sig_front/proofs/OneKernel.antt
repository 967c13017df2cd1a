-- A text has one kernel that is kept or one refusal, at most, and not both.
use Rattle.sig_front.proofs.Common.{◌≡◌, ◌⊎◌, ◌<◌, ◌≤◌, ◌∙◌, ℕ, List, length, sym, ap, subst, arith, ⊎_elim, inl, inr, FlatBody, Kernel, kernel_of, IsNoFlatText, IsTooLarge, HasLargeKernel, IsKernelText, IsNoKernelText, FrontAnswer, Lex, Parse, «Type» as TypeRefused, TooManySignals, OutOfMemory}
use Rattle.sig_front.proofs.OneFlat.{flat_once, flat_or_refusal, no_flat_once}

pub kernel_once : (text : List ℕ) (a b : Kernel) → IsKernelText text a → IsKernelText text b → a ≡ b
kernel_once text a b one two = one.made ∙ (ap kernel_of (flat_once text one.flat two.flat one.says two.says) ∙ sym two.made)

-- a kernel that is kept is not too large
kept_or_large : (text : List ℕ) (kernel : Kernel) (limit : ℕ) → IsKernelText text kernel → HasLargeKernel text limit → ⊥
kept_or_large text kernel limit kept large =
    let same : large.flat ≡ kept.flat = flat_once text large.flat kept.flat large.says kept.says in
    let many : 512 < length (kernel_of kept.flat).signals = subst (λ (f : FlatBody). 512 < length (kernel_of f).signals) same large.many in
    let few : length (kernel_of kept.flat).signals ≤ 512 = subst (λ (k : Kernel). length k.signals ≤ 512) kept.made kept.few in
    absurd (omega (arith, many, few))

pub kernel_or_refusal : (text : List ℕ) (kernel : Kernel) (answer : FrontAnswer) → IsKernelText text kernel → IsNoKernelText text answer → ⊥
kernel_or_refusal text kernel (Lex fault) kept none = flat_or_refusal text kept.flat (Lex fault) kept.says none
kernel_or_refusal text kernel (Parse refusal) kept none = flat_or_refusal text kept.flat (Parse refusal) kept.says none
kernel_or_refusal text kernel (TypeRefused answer) kept none = flat_or_refusal text kept.flat (TypeRefused answer) kept.says none
kernel_or_refusal text kernel (TooManySignals limit) kept none =
    ⊎_elim (λ large. flat_or_refusal text kept.flat (TooManySignals limit) kept.says large) (λ large. kept_or_large text kernel limit kept large) none
kernel_or_refusal text kernel OutOfMemory kept none = none

-- one refusal
same_limit : (m n : ℕ) → m ≡ 512 → n ≡ 512 → (let a : FrontAnswer = TooManySignals m in let b : FrontAnswer = TooManySignals n in a ≡ b)
same_limit m n first second = ap (λ l. let answer : FrontAnswer = TooManySignals l in answer) (first ∙ sym second)

limit_said : (text : List ℕ) (limit : ℕ) → IsTooLarge text limit ⊎ HasLargeKernel text limit → limit ≡ 512
limit_said text limit (inl large) = large.said
limit_said text limit (inr large) = large.said

-- what is refused before is refused for its size where the flat body is too large, and not for its kernel's
before_size : (text : List ℕ) (answer : FrontAnswer) (limit : ℕ) → IsNoFlatText text answer → IsTooLarge text limit ⊎ HasLargeKernel text limit
    → (let large : FrontAnswer = TooManySignals limit in answer ≡ large)
before_size text answer limit none (inl large) = no_flat_once text answer (TooManySignals limit) none large
before_size text answer limit none (inr large) = absurd (flat_or_refusal text large.flat answer large.says none)

pub no_kernel_once : (text : List ℕ) (a b : FrontAnswer) → IsNoKernelText text a → IsNoKernelText text b → a ≡ b
no_kernel_once text (Lex a) (Lex b) x y = no_flat_once text (Lex a) (Lex b) x y
no_kernel_once text (Lex a) (Parse b) x y = no_flat_once text (Lex a) (Parse b) x y
no_kernel_once text (Lex a) (TypeRefused b) x y = no_flat_once text (Lex a) (TypeRefused b) x y
no_kernel_once text (Lex a) (TooManySignals m) x y = before_size text (Lex a) m x y
no_kernel_once text (Lex a) OutOfMemory x y = absurd y
no_kernel_once text (Parse a) (Lex b) x y = no_flat_once text (Parse a) (Lex b) x y
no_kernel_once text (Parse a) (Parse b) x y = no_flat_once text (Parse a) (Parse b) x y
no_kernel_once text (Parse a) (TypeRefused b) x y = no_flat_once text (Parse a) (TypeRefused b) x y
no_kernel_once text (Parse a) (TooManySignals m) x y = before_size text (Parse a) m x y
no_kernel_once text (Parse a) OutOfMemory x y = absurd y
no_kernel_once text (TypeRefused a) (Lex b) x y = no_flat_once text (TypeRefused a) (Lex b) x y
no_kernel_once text (TypeRefused a) (Parse b) x y = no_flat_once text (TypeRefused a) (Parse b) x y
no_kernel_once text (TypeRefused a) (TypeRefused b) x y = no_flat_once text (TypeRefused a) (TypeRefused b) x y
no_kernel_once text (TypeRefused a) (TooManySignals m) x y = before_size text (TypeRefused a) m x y
no_kernel_once text (TypeRefused a) OutOfMemory x y = absurd y
no_kernel_once text (TooManySignals n) (Lex b) x y = sym (before_size text (Lex b) n y x)
no_kernel_once text (TooManySignals n) (Parse b) x y = sym (before_size text (Parse b) n y x)
no_kernel_once text (TooManySignals n) (TypeRefused b) x y = sym (before_size text (TypeRefused b) n y x)
no_kernel_once text (TooManySignals n) (TooManySignals m) x y = same_limit n m (limit_said text n x) (limit_said text m y)
no_kernel_once text (TooManySignals n) OutOfMemory x y = absurd y
no_kernel_once text OutOfMemory b x y = absurd x
