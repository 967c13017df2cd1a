-- What the passes give means that the kernel is accepted, and what they refuse that it is not.
use Rattle.sig_back.proofs.Common.{◌≡◌, ℕ, List, slice_index, sym, ap, ◌∙◌, subst, Option, Some, Result, Ok, Err, IfErr, IfOk, IsErrAnd, SigId, IsRefusal, IsToldUnlessWanting, IsWanting, Tells, said_of, told_as, BackAnswer, Refused, Budget, OutOfMemory, BackKind, IsClockFunction, HasClocks, AreClocks, ClocksView, guard_of, signal_id, IsSignal, Node, Ref, IsValid, Kernel, accepted_or_refused, fault_once, HasOperations, IsAcceptedKernel, IsRefusedFor, KernelFault, AreOperations, function_in, operations_in, presence_in, Op, some_at}

-- an answer that tells of a rule refuses the kernel that does not meet it
pub refuses : (kernel : Kernel) (fault : KernelFault) (kind : BackKind) (signals : List SigId) (answer : BackAnswer) → IsRefusedFor kernel fault
    → said_of kernel kind signals ≡ told_as kernel fault → Tells kernel kind signals answer → IsRefusal kernel answer
refuses kernel fault kind signals (Refused told) refused same is = (fault, refused, is ∙ same)
refuses kernel fault kind signals (Budget nodes) refused same is = absurd is
refuses kernel fault kind signals OutOfMemory refused same is = tt

-- the operations that were made are the kernel's
pub operations : (kernel : Kernel) (nodes : List Node) (clocks : ClocksView) (ops : List Op) → HasClocks kernel → AreClocks kernel nodes clocks
    → AreOperations kernel nodes clocks ops → HasOperations kernel clocks.conditions (operations_in nodes ops)
operations kernel nodes clocks ops has are made = record {
  clocks = has;
  order = are.conditions;
  presence = presence_in nodes clocks;
  functions = λ signal is. let there = some_at clocks.guard (slice_index clocks.class_of signal) (are.classes signal is) in of signal is there.0 there.1;
  are = made.are;
} where
  of : (signal : ℕ) → IsSignal kernel signal → (guard : Ref) → guard_of clocks signal ≡ Some guard
      → IsClockFunction kernel clocks.conditions signal (presence_in nodes clocks (signal_id signal))
  of signal is guard e = subst (λ (o : Option Ref). IsClockFunction kernel clocks.conditions signal (function_in nodes o)) (sym e) (are.functions signal _ is e)

-- an accepted kernel is not refused
pub given : {T : Type 0} (kernel : Kernel) (result : Result T BackAnswer) → IsValid kernel → IfErr result (IsRefusal kernel) → IsAcceptedKernel kernel → IfErr result IsWanting
given kernel (Ok plan) valid refused accepted = tt
given kernel (Err (Refused told)) valid refused accepted = accepted_or_refused kernel valid refused.0 accepted refused.1
given kernel (Err (Budget nodes)) valid refused accepted = tt
given kernel (Err OutOfMemory) valid refused accepted = tt

-- a refused kernel is refused for its fault
pub first : {T : Type 0} (kernel : Kernel) (result : Result T BackAnswer) → IsValid kernel → IfOk result (λ plan. IsAcceptedKernel kernel) → IfErr result (IsRefusal kernel)
    → (fault : KernelFault) → IsRefusedFor kernel fault → IsErrAnd result (IsToldUnlessWanting (told_as kernel fault))
first kernel (Ok plan) valid accepted refused fault is = absurd (accepted_or_refused kernel valid fault accepted is)
first kernel (Err (Refused told)) valid accepted refused fault is = refused.2 ∙ ap (told_as kernel) (fault_once kernel valid refused.0 fault refused.1 is)
first kernel (Err (Budget nodes)) valid accepted refused fault is = tt
first kernel (Err OutOfMemory) valid accepted refused fault is = tt
