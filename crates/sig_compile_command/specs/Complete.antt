-- When nothing but want of memory or of nodes keeps a program from being compiled, and nothing but want of memory from being
-- printed.
use Rattle.sig_compile_command.specs.Prelude.{ℕ, Bool, List, PROGRAM_BYTES, Contents, Kernel, IsText, ProcessModel, Holds}
use Rattle.sig_program.specs.Acceptance.{IsAcceptedAs}

-- the file holds an accepted program
pub record CanCompile (pace : Bool) (held : Contents) (program : List ℕ) : Type 0 where
  pub kernel : Kernel
  pub accepted : Holds (held program) PROGRAM_BYTES (λ bytes. IsAcceptedAs pace bytes kernel)

-- the file holds the text of a program
pub record CanPrint (held : Contents) (program : List ℕ) : Type 0 where
  pub tree : List ProcessModel
  pub text : Holds (held program) PROGRAM_BYTES (λ bytes. IsText bytes tree)
