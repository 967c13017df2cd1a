-- What the making of a kernel's operations comes to.
use Rattle.sig_plan.proofs.Common.{◌≡◌, ◌*◌, ℕ, List, [], ◌++◌, length, map, sym, ap, ◌∙◌, subst, Result, Ok, Err, range_with_len, IsErrAnd, Signal, AreClocks, ClocksView, signal_id, Keeps, StoreView, Node, Equation, Kernel, Adds, AreOver, Extends, Spends, AreOperations, Operation, Presence, of_each, operations_in, operations_of, presence_in, read_of, stores_of, writes_of, IsRefusedFor, KeepsToShare, share_of, PlanAnswer, OutOfMemory, Op, in_range, at_contained}
use Rattle.sig_plan.proofs.Guards.{guards_held, guards_kept, presence_stays}

-- guards depend on the conditions alone
pub over_conditions : (kernel : Kernel) (nodes : List Node) (clocks : ClocksView) → AreClocks kernel nodes clocks → AreOver nodes (range_with_len 0 (length clocks.conditions)) clocks
over_conditions kernel nodes clocks are guard there v depends = in_range (length clocks.conditions) v (are.variables there.0 guard (at_contained clocks.guard guard there) v depends)

module _ {T : Type 0} (kernel : Kernel) (clocks : ClocksView) (s t : StoreView) (are : AreClocks kernel s.nodes clocks) where
  pub within_share : (result : Result T PlanAnswer) → Spends (2 * length kernel.equations) clocks s t result → KeepsToShare (share_of kernel clocks.conditions) s t result
  within_share result spends = spends.share (range_with_len 0 (length clocks.conditions)) (over_conditions kernel s.nodes clocks are)

  pub share_without_memory : (result : Result T PlanAnswer) → Spends {T = Unit {0}} (2 * length kernel.equations) clocks s t (Ok tt) → IsErrAnd result (λ answer. answer ≡ OutOfMemory) → KeepsToShare (share_of kernel clocks.conditions) s t result
  share_without_memory (Ok x) spends is = absurd is
  share_without_memory (Err answer) spends is = record {
    added = (spends.share (range_with_len 0 (length clocks.conditions)) (over_conditions kernel s.nodes clocks are)).added;
    refused = subst (IsRefusedFor s t (share_of kernel clocks.conditions)) (sym is) tt;
  }

  pub share_made : (x : T) → Spends {T = Unit {0}} (2 * length kernel.equations) clocks s t (Ok tt) → KeepsToShare (share_of kernel clocks.conditions) s t (let result : Result T PlanAnswer = Ok x in result)
  share_made x spends = record {
    added = (spends.share (range_with_len 0 (length clocks.conditions)) (over_conditions kernel s.nodes clocks are)).added;
    refused = tt;
  }

abbrev reads : List Signal → ℕ → Presence → List Operation
reads signals inputs presence = map (λ number. read_of signals presence (signal_id number)) (range_with_len 0 inputs)

abbrev writes : List Signal → List Equation → Presence → List Operation
writes signals equations presence = of_each (writes_of signals presence) 0 equations

abbrev stores : List Signal → List Equation → Presence → List Operation
stores signals equations presence = of_each (stores_of signals presence) 0 equations

joined : (kernel : Kernel) (s t : List Node) (clocks : ClocksView) (a b d e : List Op) → presence_in t clocks ≡ presence_in s clocks → a ≡ []
    → operations_in s b ≡ operations_in s a ++ reads kernel.signals kernel.inputs (presence_in s clocks)
    → operations_in t d ≡ operations_in s b ++ writes kernel.signals kernel.equations (presence_in s clocks)
    → operations_in t e ≡ operations_in t d ++ stores kernel.signals kernel.equations (presence_in t clocks)
    → operations_in t e ≡ operations_of kernel (presence_in t clocks)
joined kernel s t clocks a b d e same empty first second third =
    let begin : operations_in s b ≡ reads kernel.signals kernel.inputs (presence_in s clocks) = first ∙ ap (λ (ops : List Op). operations_in s ops ++ reads kernel.signals kernel.inputs (presence_in s clocks)) empty in
    third ∙ ap (λ xs. xs ++ stores kernel.signals kernel.equations (presence_in t clocks)) (second ∙ ap (λ xs. xs ++ writes kernel.signals kernel.equations (presence_in s clocks)) begin)
    ∙ ap (λ (p : Presence). (reads kernel.signals kernel.inputs p ++ writes kernel.signals kernel.equations p) ++ stores kernel.signals kernel.equations (presence_in t clocks)) (sym same)

pub operations_made : (kernel : Kernel) (s t : StoreView) (clocks : ClocksView) (signals : List Signal) (equations : List Equation) (a b d e : List Op) → Keeps s t → AreClocks kernel s.nodes clocks
    → signals ≡ kernel.signals → equations ≡ kernel.equations → a ≡ []
    → Adds clocks (reads signals kernel.inputs) a b → Extends s.nodes t.nodes clocks (writes signals equations) b d → Adds clocks (stores signals equations) d e
    → AreOperations kernel t.nodes clocks e
operations_made kernel s t clocks signals equations a b d e kept are is_signals is_equations empty first second third =
    let held = guards_held kernel s.nodes clocks are in
    let same = presence_stays s t kept clocks held in
    record {
      held = third.held t.nodes (guards_kept s t kept clocks held) second.held;
      are = joined kernel s.nodes t.nodes clocks a b d e same empty
          (first.are s.nodes ∙ ap (λ (xs : List Signal). operations_in s.nodes a ++ reads xs kernel.inputs (presence_in s.nodes clocks)) is_signals)
          (second.are ∙ (λ j. operations_in s.nodes b ++ writes (is_signals j) (is_equations j) (presence_in s.nodes clocks)))
          (third.are t.nodes ∙ (λ j. operations_in t.nodes d ++ stores (is_signals j) (is_equations j) (presence_in t.nodes clocks)));
    }
