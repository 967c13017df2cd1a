-- Instructions stay right where cells of constants are added.
use Rattle.sig_machine.proofs.Common.{◌≡◌, ◌≤◌, ◌++◌, ◌∙◌, inl, inr, ℕ, ℤ, List, [], ◌∷◌, length, Some, sym, subst, slice_get, arith, length-append, Kernel, PlanView, Op, StandsAt, one_at, IsFor, HaveConstants, Grows, ReadsWithin, Instruction, Work, Next, Copy, One, Two}
use Rattle.sig_lists.proofs.Joined.{get_pushed}
use Rattle.sig_machine.proofs.Openings.{cell_front}

pub reads_more : (inputs few many : ℕ) (work : Work) → few ≤ many → ReadsWithin inputs few work → ReadsWithin inputs many work
reads_more inputs few many (Next input) more within = within
reads_more inputs few many (Copy source) more within = omega (arith, more, within)
reads_more inputs few many (One function a) more within = omega (arith, more, within)
reads_more inputs few many (Two function a b) more within = (omega (arith, more, within.0), omega (arith, more, within.1))

constants_fewer : (signals : ℕ) (cells more own : List ℤ) → HaveConstants signals (cells ++ more) own → HaveConstants signals cells own
constants_fewer signals cells more own have number behind within =
    let longer = length-append cells more in
    have number behind (omega (arith, within, longer)) ∙ cell_front cells more number within

pub for_grows : (kernel : Kernel) (cells more : List ℤ) (op : Op) (instruction : Instruction) → IsFor kernel cells op instruction → IsFor kernel (cells ++ more) op instruction
for_grows kernel cells more op instruction is =
    let longer = length-append cells more in
    record {
      target = is.target;
      work = record {
        reads = reads_more kernel.inputs (length cells) (length (cells ++ more)) instruction.work (omega (arith, longer)) is.work.reads;
        takes = is.work.takes;
        value = λ flows m same constants has step. is.work.value flows m same (constants_fewer m.signals cells more m.cells.items constants) has step;
      };
    }

-- the instructions of the first places
abbrev pub AreForFirst : PlanView → Kernel → List ℤ → List Instruction → Type 0
AreForFirst plan kernel cells instructions = (place : ℕ) (instruction : Instruction) → slice_get instructions place ≡ Some instruction → (op : Op) → StandsAt plan place op → IsFor kernel cells op instruction

pub one_more : (plan : PlanView) (kernel : Kernel) (old new : List ℤ) (instructions : List Instruction) (instruction : Instruction) (op : Op) → AreForFirst plan kernel old instructions → Grows old new
    → StandsAt plan (length instructions) op → IsFor kernel new op instruction → AreForFirst plan kernel new (instructions ++ instruction ∷ [])
one_more plan kernel old new instructions instruction op are (more, grown) stands is = λ place other at that there. elim (get_pushed instructions instruction place other at) [
  | inl before ↦ subst (λ (cells : List ℤ). IsFor kernel cells that other) (sym grown) (for_grows kernel old more that other (are place other before that there))
  | inr last ↦
      subst (λ (i : Instruction). IsFor kernel new that i) last.1
      (subst (λ (o : Op). IsFor kernel new o instruction) (one_at plan place op that (subst (λ n. StandsAt plan n op) (sym last.0) stands) there) is)
]
