-- The statuses of commands that are refused before a plan is made.
use Rattle.sig_program.proofs.Common.{ℕ, List, inl, inr, refl, status_of, Refusal, Missing, ReadFault, LongProgram, Program, Budget, TooManyItems, LongFile, Data, LongImage, OutOfMemory, IsAboutPlan, IsCompileStatus}

pub compile_number : (program : List ℕ) (r : Refusal) → IsAboutPlan program r → IsCompileStatus (status_of r)
compile_number program (Missing n) about = inr (inr (inr (inl refl)))
compile_number program (ReadFault n) about = inr (inr (inr (inl refl)))
compile_number program LongProgram about = inr (inr (inl refl))
compile_number program (Program line) about = inr (inr (inl refl))
compile_number program (Budget nodes) about = inr (inr (inr (inr (inr refl))))
compile_number program TooManyItems about = absurd about
compile_number program (LongFile n) about = absurd about
compile_number program (Data line) about = absurd about
compile_number program LongImage about = absurd about
compile_number program OutOfMemory about = inr (inr (inr (inr (inl refl))))
