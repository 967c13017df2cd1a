-- What the commands `check`, `tree` and `code` come to over told contents.
use Rattle.std.specs.Prelude.{◌≡◌}
use Rattle.sig_compile_command.specs.Prelude.{ℕ, Bool, List, codes, IsCodeText, IsTreeText, Kernel, Contents, name_where_there, Outcome, WritesDue, Task, AtPlan, HoldsBeyondBound, IsAboutPlan, IsAcceptedAs, IsCompileStatus}
use Rattle.sig_compile_command.specs.declared.product.Product.{Product}
use Rattle.sig_compile_command.specs.declared.product.Product.TheVariants.{Code, Tree, Verdict}

-- the text that is due of the verdict on a program that is accepted
abbrev pub IsVerdictText : Kernel → List ℕ → Type 0
IsVerdictText kernel text = text ≡ codes "accepted\n"

-- The text that is due of a product. An accepted kernel has exactly one of each (the law `good_programs_compile`): the clocks and
-- the plan of which the texts speak are there, and all of them give one text.
abbrev pub IsDueOf : Product → Kernel → List ℕ → Type 0
IsDueOf Verdict kernel text = IsVerdictText kernel text
IsDueOf Tree kernel text = IsTreeText kernel text
IsDueOf Code kernel text = IsCodeText kernel text

-- the compiling of a program over told contents comes to this, where such a text is due of its kernel
abbrev pub CompileComesTo : (Kernel → List ℕ → Type 0) → Bool → Contents → List ℕ → Outcome → Type 0
CompileComesTo IsText pace held program o = AtPlan pace held program (λ kernel. WritesDue (IsText kernel) program) o

abbrev pub compiling : Product → Bool → List ℕ → Task
compiling product pace program = record {
  comes = λ held o. CompileComesTo (IsDueOf product) pace held program o;
  statuses = λ status. IsCompileStatus status;
  about = λ r. IsAboutPlan program r;
  begun = λ held at. at ≡ name_where_there held program;
  beyond = λ held. HoldsBeyondBound pace (held program);
}

-- a text is that of a product of the program that some bytes are
pub record IsProductText (product : Product) (pace : Bool) (bytes text : List ℕ) : Type 0 where
  pub kernel : Kernel
  pub is : IsAcceptedAs pace bytes kernel
  pub due : IsDueOf product kernel text
