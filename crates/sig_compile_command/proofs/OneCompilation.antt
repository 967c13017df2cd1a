-- The compiling and the printing of a program over told contents come to one outcome at most.
use Rattle.sig_compile_command.proofs.Common.{◌≡◌, ◌∙◌, ℕ, Bool, List, inl, inr, refl, sym, ap, Contents, IsText, ProcessModel, canonical_text, front_line, tree_once, refusal_once, tree_or_refusal, HasClocks, code_text_once, tree_text_once, Kernel, OneAtMost, WritesDue, done, status_of, Refusal, Missing, ReadFault, LongProgram, Program, Budget, TooManyItems, LongFile, Data, LongImage, one_at_program, AreRefused, IsAcceptedAs, CompileComesTo, IsDueOf, IsAboutText, IsFrontLine, IsPrintStatus, PrintComesTo, RefusesText, Product, Code, Tree, Verdict, OutOfMemory}
use Rattle.sig_program.proofs.Verdicts.{accepted_once, accepted_or_refused, refused_once}

-- ---- the products of a program

one_due : (IsText : List ℕ → Type 0) (file : List ℕ) → ((a b : List ℕ) → IsText a → IsText b → a ≡ b) → OneAtMost (WritesDue IsText file)
one_due IsText file one o p x y = x.is ∙ ap (λ t. done t file) (one x.text y.text x.due y.due) ∙ sym y.is

one_product : (product : Product) (kernel : Kernel) (a b : List ℕ) → HasClocks kernel → IsDueOf product kernel a → IsDueOf product kernel b → a ≡ b
one_product Verdict kernel a b has x y = x ∙ sym y
one_product Tree kernel a b has x y = tree_text_once kernel a b has x y
one_product Code kernel a b has x y = code_text_once kernel a b x y

pub one_compile_outcome : (product : Product) (pace : Bool) (program : List ℕ) (held : Contents) → OneAtMost (CompileComesTo (IsDueOf product) pace held program)
one_compile_outcome product pace program held =
    one_at_program (IsAcceptedAs pace) (AreRefused pace) (accepted_once pace) (refused_once pace) (accepted_or_refused pace) held program
    (λ kernel. WritesDue (IsDueOf product kernel) program)
    (λ kernel bytes is. one_due (IsDueOf product kernel) program (λ a b. one_product product kernel a b is.accepted.has.clocks))

-- ---- the canonical text

pub no_text_line : (bytes l m : List ℕ) → RefusesText bytes l → RefusesText bytes m → l ≡ m
no_text_line bytes l m x y = x.says ∙ ap front_line (refusal_once bytes x.answer y.answer x.none y.none) ∙ sym y.says

pub text_apart : (bytes : List ℕ) (tree : List ProcessModel) (l : List ℕ) → IsText bytes tree → RefusesText bytes l → ⊥
text_apart bytes tree l says refuses = tree_or_refusal bytes tree refuses.answer says refuses.none

pub one_print_outcome : (program : List ℕ) (held : Contents) → OneAtMost (PrintComesTo held program)
one_print_outcome program held =
    one_at_program IsText RefusesText tree_once no_text_line text_apart held program
    (λ tree o. o ≡ done (canonical_text tree) program) (λ tree bytes is. λ o p x y. x ∙ sym y)

pub print_number : (program : List ℕ) (r : Refusal) → IsAboutText program r → IsPrintStatus (status_of r)
print_number program (Missing n) about = inr (inr (inr (inl refl)))
print_number program (ReadFault n) about = inr (inr (inr (inl refl)))
print_number program LongProgram about = inr (inr (inl refl))
print_number program (Program line) about = inr (inr (inl refl))
print_number program (Budget nodes) about = absurd about
print_number program TooManyItems about = absurd about
print_number program (LongFile n) about = absurd about
print_number program (Data line) about = absurd about
print_number program LongImage about = absurd about
print_number program OutOfMemory about = inr (inr (inr (inr refl)))

pub front_text_line : (bytes line : List ℕ) → RefusesText bytes line → IsFrontLine line
front_text_line bytes line text = (text.answer, text.says)
