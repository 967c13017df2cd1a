-- The names of the signals of a program that gets no paces.
use Rattle.sig_program.proofs.Common.{◌≡◌, ◌≤◌, ℕ, Bool, false, List, length, subst, sym, Kernel, PROGRAM_BYTES, IsKernelText, HasKernel, HasSignalNames}

pub own_names : ((text : List ℕ) (kernel : Kernel) → length text ≤ PROGRAM_BYTES → IsKernelText text kernel → HasSignalNames kernel)
    → (bytes : List ℕ) → length bytes ≤ PROGRAM_BYTES → (pace : Bool) → pace ≡ false → (kernel : Kernel) → HasKernel pace bytes kernel → HasSignalNames kernel
own_names names bytes short pace unpaced kernel has =
    let own = subst (λ (p : Bool). HasKernel p bytes kernel) unpaced has in
    names bytes kernel short (subst (IsKernelText bytes) (sym own.becomes) own.has.text)
