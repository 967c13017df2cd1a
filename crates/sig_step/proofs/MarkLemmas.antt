-- What is known of guards while an actor writes registers and goes on.
use Rattle.sig_step.proofs.Common.{◌≡◌, ◌≤◌, ◌∙◌, ℕ, ℤ, List, slice_get, Option, None, Some, refl, sym, ap, subst, arith, SigId, test, Registers, code_of, slot_holds, truths_of, with_at, with_signal, FillsAt, IsInSlot, IsRunnable, PlanView, Slot, Step, AreMarks, AreMarksAt, ClusterState, Mark, instant_of, seen_in}
use Rattle.sig_step.proofs.TruthLemmas.{test_stays}

id_is : (a b : SigId) → a.0 ≡ b.0 → a ≡ b
id_is a b same = ap (λ n. let c : SigId = record { 0 = n } in c) same

-- a guard that was met keeps its value where the next step writes its signal
slot_stays : (plan : PlanView) (s : ClusterState) → IsRunnable plan → (x : SigId) (v : ℤ) → FillsAt plan s.actor s.step x
    → (k number : ℕ) (step : Step) → number ≤ s.step → slice_get (code_of plan s.actor).steps number ≡ Some step → step.slot ≡ k
    → (slot : Option Slot) → slice_get (code_of plan s.actor).slots k ≡ slot
    → slot_holds plan.store.nodes (truths_of plan.clocks.conditions (seen_in s.values)) slot
    ≡ slot_holds plan.store.nodes (truths_of plan.clocks.conditions (with_at x.0 (Some v) (seen_in s.values))) slot
slot_stays plan s runnable x v filled k number step before at in_slot None is = refl
slot_stays plan s runnable x v filled k number step before at in_slot (Some slot) is =
    let has : slice_get (code_of plan s.actor).slots step.slot ≡ Some slot = ap (slice_get (code_of plan s.actor).slots) in_slot ∙ is in
    let here : IsInSlot plan s.actor number slot = record { step = step; is = at; has = has } in
    test_stays plan.clocks.conditions (test plan.store.nodes slot.guard) x v (seen_in s.values)
    (λ j condition at_j same depends.
    let fills_it : FillsAt plan s.actor s.step condition = subst (FillsAt plan s.actor s.step) (sym (id_is condition x same)) filled in
    let earlier = runnable.earlier s.actor number s.step j slot condition here depends at_j fills_it in
    omega (arith, earlier, before))

-- marks stay right where the next step fills its signal, if there is one
pub marks_filled : (plan : PlanView) (s : ClusterState) → IsRunnable plan → AreMarks plan s → (target : Option SigId) (v : ℤ)
    → ((x : SigId) → target ≡ Some x → FillsAt plan s.actor s.step x)
    → AreMarksAt plan s.actor (instant_of s.values) s.step (with_signal target (Some v) (seen_in s.values)) s.marks.items
marks_filled plan s runnable marks None v filled = marks
marks_filled plan s runnable marks (Some x) v filled = record {
  count = marks.count;
  past = marks.past;
  known = λ k mark at now.
      let (value, (number, step, before, step_at, in_slot)) = marks.known k mark at now in (
        value ∙ slot_stays plan s runnable x v (filled x refl) k number step before step_at in_slot (slice_get (code_of plan s.actor).slots k) refl,
        (number, step, before, step_at, in_slot),
      );
  reached = marks.reached;
}

-- the marks of an actor, where all that they speak of is as it was
pub same_marks : (plan : PlanView) (a b i j m n : ℕ) (r q : Registers) (old new : List Mark) → a ≡ b → i ≡ j → m ≡ n → r ≡ q → old ≡ new
    → AreMarksAt plan a i m r old → AreMarksAt plan b j n q new
same_marks plan a b i j m n r q old new actor instant next registers marks are =
    subst (λ (x : List Mark). AreMarksAt plan b j n q x) marks
    (subst (λ (x : Registers). AreMarksAt plan b j n x old) registers
    (subst (λ (x : ℕ). AreMarksAt plan b j x r old) next
    (subst (λ (x : ℕ). AreMarksAt plan b x m r old) instant
    (subst (λ (x : ℕ). AreMarksAt plan x i m r old) actor are))))
