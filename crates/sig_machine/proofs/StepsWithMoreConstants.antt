-- Instructions of steps stay right where cells of constants are added.
use Rattle.sig_machine.proofs.Common.{◌≡◌, ◌<◌, ◌≤◌, ◌+◌, ◌++◌, ◌∷◌, ◌∙◌, [], inl, inr, arith, length-append, ℕ, ℤ, List, length, AreInstructionsWithin, IsTarget, IsWithin, ReadsWithin, Work, Next, Copy, One, Two, None, Some, sym, ap, subst, slice_get, Do, OpId, Op, Kernel, Step, StepKind, PlanView, AreForSteps, DoesOp, Grows, IsFor, IsForKind, Instruction}
use Rattle.sig_machine.proofs.MoreConstants.{for_grows, reads_more}
use Rattle.sig_lists.proofs.Joined.{get_pushed}
use Rattle.sig_machine.proofs.Lists.{same_Some}

pub one_more_step : (plan : PlanView) (steps : List Step) (old new : List ℤ) (instructions : List Instruction) (step : Step) (instruction : Instruction)
    → AreForSteps plan steps old instructions → Grows old new → slice_get steps (length instructions) ≡ Some step → IsForKind plan step.kind new instruction
    → AreForSteps plan steps new (instructions ++ instruction ∷ [])
one_more_step plan steps old new instructions step instruction are (more, grown) here is = λ number that other at there. elim (get_pushed instructions instruction number other there) [
  | inl before ↦ λ op does. subst (λ (cells : List ℤ). IsFor plan.kernel cells op other) (sym grown) (for_grows plan.kernel old more op other (are number that other at before op does))
  | inr last ↦
      let one : step ≡ that = same_Some step that (sym (ap (slice_get steps) last.0 ∙ here) ∙ at) in
      subst (λ (i : Instruction). IsForKind plan that.kind new i) last.1 (subst (λ (s : Step). IsForKind plan s.kind new instruction) one is)
]

-- a kind does one operation at most
same_op : (plan : PlanView) (kind : StepKind) (o : OpId) (op other : Op) → kind ≡ Do o → slice_get plan.ops o.0 ≡ Some op → DoesOp plan kind other → op ≡ other
same_op plan kind o op other is there does =
    let e : Do o ≡ Do does.number = sym is ∙ does.does in
    let same : o ≡ does.number = cc in
    same_Some op other (sym there ∙ ap (λ (n : OpId). slice_get plan.ops n.0) same ∙ does.is)

-- the instruction of that operation
pub for_kind : (plan : PlanView) (kernel : Kernel) (kind : StepKind) (o : OpId) (op : Op) (cells : List ℤ) → kernel ≡ plan.kernel → kind ≡ Do o → slice_get plan.ops o.0 ≡ Some op
    → (instruction : Instruction) → IsFor kernel cells op instruction → IsForKind plan kind cells instruction
for_kind plan kernel kind o op cells same is there instruction for_op = λ other does.
    subst (λ (k : Kernel). IsFor k cells other instruction) same (subst (λ (p : Op). IsFor kernel cells p instruction) (same_op plan kind o op other is there does) for_op)

-- a kind that does none
pub no_kind : (plan : PlanView) (kind : StepKind) (o : OpId) (cells : List ℤ) (instruction : Instruction) → kind ≡ Do o → slice_get plan.ops o.0 ≡ None → IsForKind plan kind cells instruction
no_kind plan kind o cells instruction is none other does =
    let e : Do o ≡ Do does.number = sym is ∙ does.does in
    let same : o ≡ does.number = cc in
    absurd (let f : None ≡ Some other = sym none ∙ ap (λ (n : OpId). slice_get plan.ops n.0) same ∙ does.is in cc)

-- ---- within the cells

target_below : (kernel : Kernel) (op : Op) (target : ℕ) → IsTarget kernel op target → target < length kernel.signals + length kernel.signals
target_below kernel op target (inl (x, writes, none, below, same)) = omega (arith, below, same)
target_below kernel op target (inr (y, writes, some, below, same)) = omega (arith, below, same)

-- the instruction of an operation is within
pub for_within : (kernel : Kernel) (cells : List ℤ) (op : Op) (instruction : Instruction) → IsFor kernel cells op instruction → length kernel.signals + length kernel.signals ≤ length cells
    → IsWithin kernel.inputs (length cells) instruction
for_within kernel cells op instruction is room = record {
  reads = is.work.reads;
  target = let a = target_below kernel op instruction.target is.target in omega (arith, a, room);
}

more_inputs : (few many cells : ℕ) (work : Work) → few ≤ many → ReadsWithin few cells work → ReadsWithin many cells work
more_inputs few many cells (Next input) more within = omega (arith, more, within)
more_inputs few many cells (Copy source) more within = within
more_inputs few many cells (One function a) more within = within
more_inputs few many cells (Two function a b) more within = within

-- within fewer cells and inputs, they are within more
within_more : (inputs others few many : ℕ) (instruction : Instruction) → inputs ≤ others → few ≤ many → IsWithin inputs few instruction → IsWithin others many instruction
within_more inputs others few many instruction less fewer is = record {
  reads = more_inputs inputs others many instruction.work less (reads_more inputs few many instruction.work fewer is.reads);
  target = let t = is.target in omega (arith, t, fewer);
}

pub are_within_more : (inputs others cells : ℕ) (instructions : List Instruction) → inputs ≤ others → AreInstructionsWithin inputs cells instructions → AreInstructionsWithin others cells instructions
are_within_more inputs others cells instructions less are place instruction there = within_more inputs others cells cells instruction less (omega arith) (are place instruction there)

pub one_more_within : (inputs : ℕ) (old new : List ℤ) (instructions : List Instruction) (instruction : Instruction) → AreInstructionsWithin inputs (length old) instructions → Grows old new
    → IsWithin inputs (length new) instruction → AreInstructionsWithin inputs (length new) (instructions ++ instruction ∷ [])
one_more_within inputs old new instructions instruction are (more, grown) is = λ place other there. elim (get_pushed instructions instruction place other there) [
  | inl before ↦
      let longer = ap length grown ∙ length-append old more in
      within_more inputs inputs (length old) (length new) other (omega arith) (omega (arith, longer)) (are place other before)
  | inr last ↦ subst (λ (i : Instruction). IsWithin inputs (length new) i) last.1 is
]
