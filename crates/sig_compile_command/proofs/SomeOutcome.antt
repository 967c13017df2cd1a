-- Whatever its file holds, and whether it is there, a program comes to an outcome.
use Rattle.sig_compile_command.proofs.Common.{◌≡◌, ◌⊎◌, ℕ, Bool, List, inl, inr, refl, Contents, canonical_text, IsText, ProcessModel, FrontAnswer, IsNoText, front_line, Outcome, WritesDue, done, HasVerdict, some_at_plan, CompileComesTo, IsDueOf, PrintComesTo, RefusesText, Product}
use Rattle.sig_outcome.proofs.FoundFiles.{some_at_program}
use Rattle.sig_compile_command.proofs.Products.{some_product}

module _ (verdicts : (pace : Bool) (bytes : List ℕ) → HasVerdict pace bytes) (pace : Bool) where
  pub any_due : (held : Contents) (program : List ℕ) (product : Product) → (o : Outcome) × CompileComesTo (IsDueOf product) pace held program o
  any_due held program product = some_at_plan verdicts pace held program (λ kernel. WritesDue (IsDueOf product kernel) program) (λ kernel accepted.
      let text = some_product kernel accepted.good.has.valid accepted.good.accepted product in
      (done text.0 program, record { text = text.0; due = text.1; is = refl }))

module _ (texts : (text : List ℕ) → ((tree : List ProcessModel) × IsText text tree) ⊎ ((answer : FrontAnswer) × IsNoText text answer)) where
  of_tree : (bytes : List ℕ) → ((tree : List ProcessModel) × IsText bytes tree) ⊎ ((answer : FrontAnswer) × IsNoText bytes answer) → ((tree : List ProcessModel) × IsText bytes tree) ⊎ ((line : List ℕ) × RefusesText bytes line)
  of_tree bytes (inl is) = inl is
  of_tree bytes (inr none) = inr (front_line none.0, record { answer = none.0; none = none.1; says = refl })

  pub any_print : (held : Contents) (program : List ℕ) → (o : Outcome) × PrintComesTo held program o
  any_print held program = some_at_program IsText RefusesText (λ bytes short. of_tree bytes (texts bytes)) held program (λ tree o. o ≡ done (canonical_text tree) program) (λ tree is. (done (canonical_text tree) program, refl))
