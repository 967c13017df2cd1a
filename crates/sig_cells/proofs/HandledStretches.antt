-- What is done and passed over where the truth of a guard is known, is handled.
use Rattle.std.proofs.Common.{◌≡◌, ◌<◌, ◌≤◌, ◌+◌, ◌-◌, ◌∙◌, inl, inr, ℕ, zero, suc, ℤ, Bool, true, false, List, length, Some, refl, sym, subst, arith, slice_get}
use Rattle.std.proofs.lemmas.List.{length-map}
use Rattle.sig_lists.proofs.Places.{get_map, some_at}
use Rattle.sig_cells.specs.Prelude.{Node, truths_of}
use Rattle.sig_cells.specs.Guards.{Scope}
use Rattle.sig_cells.specs.Instants.{EndsAt, FailsAt, Handles, Stands, holds_at}
use Rattle.sig_cells.specs.Rows.{Does, GoesTo}
use Rattle.sig_cells.specs.Instructions.{Cells, registers_in}
use Rattle.sig_cells.specs.inner.Ways.{AreDone, ArePassed, IsRun, guards_of}
use Rattle.sig_cells.specs.declared.instruction.Instruction.{Instruction}
use Rattle.sig_cells.specs.declared.react.Fault.{Fault}
use Rattle.sig_cells.specs.declared.stretches.Known.{Known}
use Rattle.sig_cells.specs.declared.stretches.Run.{Run}
use Rattle.std.proofs.lemmas.Bool.{false_from_ne_true}

-- where the guard of a run does not hold, the instructions up to the place where it is left are passed over
pub run_passed : (nodes : List Node) (runs : List Run) (place : ℕ) (run : Run) → IsRun nodes runs place run → ArePassed nodes runs (record { guard = run.guard; truth = false }) place run.skip
run_passed nodes runs place run is = λ other later before guard at truths off.
    false_from_ne_true _ (λ on. let clash : true ≡ false = sym (is.implied other later before guard at truths on) ∙ off in cc)

module _ (scope : Scope) (runs : List Run) (instructions : List Instruction) (flows : List (List ℤ)) (instant : ℕ) (start : Cells)
    (stands : Stands scope (guards_of runs) instructions flows instant start) where
  -- the instructions before a place are handled
  abbrev HandledTo : ℕ → Cells → Type 0
  HandledTo place s = Handles scope (guards_of runs) instructions flows instant place start s

  count : length (guards_of runs) ≡ length runs
  count = length-map runs (λ (run : Run). run.guard)

  -- the guard of a run has a truth where an instant has come to it
  module _ (place : ℕ) (run : Run) (there : slice_get runs place ≡ Some run) (s : Cells) (handled : HandledTo place s) (truth : Bool) (is : holds_at scope instant run.guard s ≡ truth) where
    abbrev known : Known
    known = record { guard = run.guard; truth = truth }

    -- and has it at each later place
    pub stays : (later : ℕ) (u : Cells) → place ≤ later → later ≤ length runs → HandledTo later u → holds_at scope instant run.guard u ≡ truth
    stays later u after within on =
        stands place later run.guard s u (get_map (λ (r : Run). r.guard) runs place run there) after (let all = count in omega (arith, all, within)) handled on ∙ is

    -- so what it tells to be done is handled where it is done
    does_on : (from n : ℕ) (t u : Cells) → place ≤ from → from + n ≤ length runs → AreDone scope.nodes runs known from (from + n) → HandledTo from t
        → Does instructions flows instant from n t u → HandledTo (from + n) u
    does_on from zero t u after within done on does =
        subst (λ (m : ℕ). HandledTo m u) (omega arith) (subst (λ (x : Cells). HandledTo from x) (sym does) on)
    does_on from (suc n) t u after within done on does =
        let here : HandledTo (from + n) does.0 =
        does_on from n t does.0 after (omega (arith, within)) (λ other later earlier. done other later (omega (arith, earlier))) on does.1 in
        let (guard, at) = some_at (guards_of runs) (from + n) (let all = count in omega (arith, all, within)) in
        let holds = done (from + n) (omega arith) (omega arith) guard at (truths_of scope.conditions (registers_in scope.signals instant does.0)) (stays (from + n) does.0 (omega (arith, after)) (omega (arith, within)) here) in
        let next : suc (from + n) ≡ from + suc n = omega arith in
        subst (λ (m : ℕ). HandledTo m u) next (does.0, here, record { guard = guard; is = at; does = inl (holds, does.2) })

    -- and what it tells to be passed over is handled where nothing changes
    passes_on : (from n : ℕ) (t : Cells) → place ≤ from → from + n ≤ length runs → ArePassed scope.nodes runs known from (from + n) → HandledTo from t → HandledTo (from + n) t
    passes_on from zero t after within passed on = subst (λ (m : ℕ). HandledTo m t) (omega arith) on
    passes_on from (suc n) t after within passed on =
        let here : HandledTo (from + n) t = passes_on from n t after (omega (arith, within)) (λ other later earlier. passed other later (omega (arith, earlier))) on in
        let (guard, at) = some_at (guards_of runs) (from + n) (let all = count in omega (arith, all, within)) in
        let off = passed (from + n) (omega arith) (omega arith) guard at (truths_of scope.conditions (registers_in scope.signals instant t)) (stays (from + n) t (omega (arith, after)) (omega (arith, within)) here) in
        let next : suc (from + n) ≡ from + suc n = omega arith in
        subst (λ (m : ℕ). HandledTo m t) next (t, here, record { guard = guard; is = at; does = inr (off, refl) })

    pub goes_on : (from to : ℕ) (t u : Cells) → place ≤ from → to ≤ length runs → AreDone scope.nodes runs known from to → HandledTo from t
        → GoesTo instructions flows instant from to t u → HandledTo to u
    goes_on from to t u after within done on goes =
        let ends = goes.ends in
        subst (λ (m : ℕ). HandledTo m u) ends
        (does_on from goes.count t u after (omega (arith, ends, within)) (λ other later earlier. done other later (omega (arith, earlier, ends))) on goes.does)

    pub passed_on : (from to : ℕ) (t : Cells) → place ≤ from → from ≤ to → to ≤ length runs → ArePassed scope.nodes runs known from to → HandledTo from t → HandledTo to t
    passed_on from to t after forth within passed on =
        let ends : from + (to - from) ≡ to = omega (arith, forth) in
        subst (λ (m : ℕ). HandledTo m t) ends
        (passes_on from (to - from) t after (omega (arith, ends, within)) (λ other later earlier. passed other later (omega (arith, earlier, ends))) on)

    -- where one of them has no value, the instant ends
    pub ends_in : (from to : ℕ) (t u : Cells) (fault : Fault) → place ≤ from → to ≤ length runs → AreDone scope.nodes runs known from to → HandledTo from t
        → fault.place < to → GoesTo instructions flows instant from fault.place t u → FailsAt instructions flows fault.place u fault.cause
        → EndsAt scope (guards_of runs) instructions flows instant start u fault
    ends_in from to t u fault after within done on before goes fails =
        let ends = goes.ends in
        let here : HandledTo fault.place u =
        goes_on from fault.place t u after (omega (arith, before, within)) (λ other later earlier. done other later (omega (arith, earlier, before))) on goes in
        let (guard, at) = some_at (guards_of runs) fault.place (let all = count in omega (arith, all, within, before)) in
        record {
          handles = here;
          guard = guard;
          is = at;
          holds = done fault.place (omega (arith, ends)) before guard at (truths_of scope.conditions (registers_in scope.signals instant u)) (stays fault.place u (omega (arith, after, ends)) (omega (arith, within, before)) here);
          fails = fails;
        }
