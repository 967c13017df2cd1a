-- What the code of a plan makes of an instant, on the cells that its machine lends.
use Rattle.sig_machine.proofs.Common.{cells_in, ◌≡◌, ◌∙◌, ℕ, ℤ, List, length, sym, ap, subst, AreFlowsFor, Cause, Cells, EndsAt, EndsBy, EqId, Fault, GoesOn, Handles, IsAccepted, IsMachineOf, Keeps, Lowered, Lowers, Machine, Op, Option, PlanView, Scope, Stands, StandsAt, StoreView, cells_of, guards_in, instructions_in, named, scope_in}
use Rattle.sig_machine.proofs.HandledInstants.{all_handled, code_stands, ends_there}
use Rattle.sig_machine.proofs.KeptMachines.{has_kept, machine_kept}
use Rattle.sig_machine.proofs.MachinesWithCells.{with_cells}

pub lent_cells : (m : Machine) (values : List ℤ) (stamps taken : List ℕ) → values ≡ m.cells.items → stamps ≡ m.stamps.items → taken ≡ m.taken.items → cells_of values stamps taken ≡ cells_in m
lent_cells m values stamps taken one two three =
    ap (λ (xs : List ℤ). cells_of xs stamps taken) one
    ∙ ap (λ (xs : List ℕ). cells_of m.cells.items xs taken) two
    ∙ ap (λ (xs : List ℕ). cells_of m.cells.items m.stamps.items xs) three

module _ (plan : PlanView) (accepted : IsAccepted plan) (flows : List (List ℤ)) (fit : AreFlowsFor plan.kernel flows) (lowered : Lowered) (lowers : Lowers plan lowered)
    (old : Machine) (own : IsMachineOf plan lowered flows old) (store : StoreView) (stored : store ≡ plan.store) (lent : Cells) (is : lent ≡ cells_in old)
    (s : Cells) (keeps : Keeps (instructions_in lowered.code) old.instant lent s) where
  abbrev StandsIn : Scope → Cells → Type 0
  StandsIn scope t = Stands scope (guards_in lowered.code) (instructions_in lowered.code) flows old.instant t

  abbrev HandlesIn : Scope → Cells → Type 0
  HandlesIn scope t = Handles scope (guards_in lowered.code) (instructions_in lowered.code) flows old.instant (length (instructions_in lowered.code)) t s

  abbrev EndsIn : Scope → Cells → Fault → Type 0
  EndsIn scope t = EndsAt scope (guards_in lowered.code) (instructions_in lowered.code) flows old.instant t s

  -- what is so of the cells that are lent is so of the machine's
  own_keeps : Keeps (instructions_in lowered.code) old.instant (cells_in old) s
  own_keeps = subst (λ (t : Cells). Keeps (instructions_in lowered.code) old.instant t s) is keeps

  own_result : (P : Scope → Cells → Type 0) → (StandsIn (scope_in store.nodes lowered.code) lent → P (scope_in store.nodes lowered.code) lent)
      → StandsIn (scope_in plan.store.nodes lowered.code) (cells_in old) → P (scope_in plan.store.nodes lowered.code) (cells_in old)
  own_result P result =
      subst (λ (t : Cells). StandsIn (scope_in plan.store.nodes lowered.code) t → P (scope_in plan.store.nodes lowered.code) t) is
      (subst (λ (v : StoreView). StandsIn (scope_in v.nodes lowered.code) lent → P (scope_in v.nodes lowered.code) lent) stored result)

  pub machine_behind_code : IsMachineOf plan lowered flows (with_cells old s)
  machine_behind_code = machine_kept plan accepted flows lowered lowers old own s own_keeps

  pub goes_through : (StandsIn (scope_in store.nodes lowered.code) lent → HandlesIn (scope_in store.nodes lowered.code) lent) → GoesOn plan flows old 0 (with_cells old s) (length plan.order)
  goes_through result trace instant began =
      all_handled plan accepted flows fit lowered lowers old own trace instant began s
      (own_result HandlesIn result (code_stands plan accepted flows fit lowered lowers old own trace instant began))
      (with_cells old s) (has_kept plan accepted flows lowered lowers old own s own_keeps)

  pub ends_within : (fault : Fault) → (StandsIn (scope_in store.nodes lowered.code) lent → EndsIn (scope_in store.nodes lowered.code) lent fault)
      → (e : Option EqId) → ((op : Op) → StandsAt plan fault.place op → e ≡ op.eq) → (cause : Cause) → cause ≡ named e fault.cause → EndsBy plan flows old 0 cause
  ends_within fault result e named_by cause same = subst (λ (c : Cause). EndsBy plan flows old 0 c) (sym same) ends where
    ends : EndsBy plan flows old 0 (named e fault.cause)
    ends trace instant began =
        ends_there plan accepted flows fit lowered lowers old own trace instant began s fault
        (own_result (λ (scope : Scope) (t : Cells). EndsIn scope t fault) result (code_stands plan accepted flows fit lowered lowers old own trace instant began)) e named_by
