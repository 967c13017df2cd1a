-- The guards and the instructions of a plan are those of a code.
use Rattle.sig_machine.proofs.Common.{◌≡◌, ◌<◌, ◌≤◌, ◌+◌, ◌++◌, ◌∙◌, inl, inr, ℕ, ℤ, List, [], ◌∷◌, length, Some, sym, ap, subst, arith, slice_get, get_within, AreConditionsBelow, AreFor, AreGuards, AreGuardsOf, AreInstructionsWithin, Depends, Holds, Instruction, IsAccepted, Node, Op, PlanView, Ref, SigId, StandsAt, condition_signal, guard_alone, guard_held, of_operation, one_at, scope_of, test}
use Rattle.sig_machine.proofs.PlacesOfOrder.{stands_somewhere}
use Rattle.sig_lists.proofs.Joined.{get_pushed}

-- guards are those of the first operations
abbrev pub AreFirstGuards : PlanView → List Ref → Type 0
AreFirstGuards plan guards = (place : ℕ) (guard : Ref) → slice_get guards place ≡ Some guard → (op : Op) → StandsAt plan place op → guard ≡ op.guard

pub one_more_guard : (plan : PlanView) (guards : List Ref) (op : Op) → AreFirstGuards plan guards → StandsAt plan (length guards) op → AreFirstGuards plan (guards ++ op.guard ∷ [])
one_more_guard plan guards op are stands = λ place guard at other there. elim (get_pushed guards op.guard place guard at) [
  | inl before ↦ are place guard before other there
  | inr last ↦ sym last.1 ∙ ap (λ (o : Op). o.guard) (one_at plan place op other (subst (λ n. StandsAt plan n op) (sym last.0) stands) there)
]

module _ (plan : PlanView) (accepted : IsAccepted plan) where
  pub conditions_below : AreConditionsBelow (length plan.kernel.signals) plan.clocks.conditions
  conditions_below v c at =
      let signal = condition_signal plan.kernel plan.clocks.conditions accepted.clocks.conditions v c at in
      get_within plan.kernel.signals c.0 signal.0 signal.1

  module _ (guards : List Ref) (are : AreGuardsOf plan guards) where
    module _ (place : ℕ) (guard : Ref) (at : slice_get guards place ≡ Some guard) where
      standing : (op : Op) × StandsAt plan place op
      standing = stands_somewhere plan accepted place (let lt = get_within guards place guard at in let n = are.count in omega (arith, lt, n))

      same : guard ≡ standing.0.guard
      same = are.each place guard at standing.0 standing.1

      held : Holds plan.store.nodes guard
      held = subst (λ (g : Ref). Holds plan.store.nodes g) (sym same) (guard_held plan accepted standing.0.guard (of_operation standing.1.number.0 standing.0 standing.1.is))

      told : (v : ℕ) → Depends (test plan.store.nodes guard) v → v < length plan.clocks.conditions
      told v depends = guard_alone plan accepted standing.0.guard (of_operation standing.1.number.0 standing.0 standing.1.is) v (subst (λ (g : Ref). Depends (test plan.store.nodes g) v) same depends)

    pub code_guards : AreGuards (scope_of plan.store.nodes plan.clocks.conditions (length plan.kernel.signals)) guards
    code_guards = record { held = held; told = told }

  pub code_instructions : (cells : List ℤ) (instructions : List Instruction) → AreFor plan cells instructions → length plan.kernel.signals + length plan.kernel.signals ≤ length cells
      → AreInstructionsWithin plan.kernel.inputs (length cells) instructions
  code_instructions cells instructions are room place instruction at =
      let (op, stands) = stands_somewhere plan accepted place (let lt = get_within instructions place instruction at in let n = are.count in omega (arith, lt, n)) in
      let for_op = are.each place instruction at op stands in
      record {
        reads = for_op.work.reads;
        target = elim for_op.target [
          | inl (x, writes, none, below, same) ↦ omega (arith, below, same, room)
          | inr (y, writes, some, below, same) ↦ omega (arith, below, same, room)
        ];
      }

-- the code of a plan as that of its scope
pub same_scope : (nodes others : List Node) (conditions given : List SigId) (signals count : ℕ) → nodes ≡ others → conditions ≡ given → signals ≡ count → scope_of nodes conditions signals ≡ scope_of others given count
same_scope nodes others conditions given signals count one two three =
    ap (λ (ns : List Node). scope_of ns conditions signals) one
    ∙ ap (λ (cs : List SigId). scope_of others cs signals) two
    ∙ ap (λ (n : ℕ). scope_of others given n) three
