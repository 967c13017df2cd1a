-- A program that is accepted is compiled, and one whose text has a tree is printed.
use Rattle.sig_compile_command.proofs.Common.{◌≡◌, ℕ, Bool, List, refl, ap, Contents, Kernel, canonical_text, IsText, ProcessModel, tree_once, Good, Outcome, WritesDue, done, behind_program, AreRefused, IsAcceptedAs, CompileComesTo, IsDueOf, Product, CanCompile, CanPrint, PrintComesTo, RefusesText}
use Rattle.sig_compile_command.proofs.OneCompilation.{no_text_line, text_apart}
use Rattle.sig_compile_command.proofs.Products.{some_product}
use Rattle.sig_program.proofs.Verdicts.{accepted_once, accepted_or_refused, refused_once}

module _ (held : Contents) (program : List ℕ) where
  module _ (pace : Bool) (can : CanCompile pace held program) where
    pub only_text : (IsDue : Kernel → List ℕ → Type 0) (o : Outcome) → CompileComesTo IsDue pace held program o → WritesDue (IsDue can.kernel) program o
    only_text IsDue o x =
        behind_program (IsAcceptedAs pace) (AreRefused pace) (accepted_once pace) (refused_once pace) (accepted_or_refused pace) held program can.kernel (λ kernel. WritesDue (IsDue kernel) program) o can.accepted x

    pub done_status : (IsDue : Kernel → List ℕ → Type 0) (o : Outcome) → CompileComesTo IsDue pace held program o → o.status ≡ 0
    done_status IsDue o x = ap (λ (q : Outcome). q.status) (only_text IsDue o x).is

    some_text : (IsDue : Kernel → List ℕ → Type 0) (text : List ℕ) → IsDue can.kernel text → CompileComesTo IsDue pace held program (done text program)
    some_text IsDue text due = (Good can.kernel, can.accepted, record { text = text; due = due; is = refl })

    pub some_due : (product : Product) → (o : Outcome) × CompileComesTo (IsDueOf product) pace held program o
    some_due product =
        let text = some_product can.kernel can.accepted.good.has.valid can.accepted.good.accepted product in
        (done text.0 program, some_text (IsDueOf product) text.0 text.1)

  module _ (can : CanPrint held program) where
    pub only_print : (o : Outcome) → PrintComesTo held program o → o ≡ done (canonical_text can.tree) program
    only_print o x =
        behind_program IsText RefusesText tree_once no_text_line text_apart held program can.tree (λ (tree : List ProcessModel) (q : Outcome). q ≡ done (canonical_text tree) program) o can.text x

    pub some_print : PrintComesTo held program (done (canonical_text can.tree) program)
    some_print = (Good can.tree, can.text, refl)
