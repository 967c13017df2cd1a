-- How an instant goes on behind a run.
use Rattle.std.proofs.Common.{◌≡◌, ◌<◌, ◌≤◌, ◌∙◌, ℕ, ℤ, Bool, true, false, not, nat_lt, List, length, None, Option, Some, IfSome, refl, sym, ap, subst, arith, slice_get, ltb-true, unwrap_or}
use Rattle.sig_lists.proofs.Places.{some_at}
use Rattle.sig_cells.specs.Prelude.{Holds, Node, Ref, Registers}
use Rattle.sig_cells.specs.Codes.{AreInstructions, IsCode, StandsIn, guards_in, instructions_in, scope_in}
use Rattle.sig_cells.specs.Guards.{AsksAmong, Scope, holds_by}
use Rattle.sig_cells.specs.Instants.{EndsAt, FailsAt, Handles, Keeps, holds_at}
use Rattle.sig_cells.specs.Rows.{GoesTo}
use Rattle.sig_cells.specs.Instructions.{Cells, registers_in}
use Rattle.sig_cells.specs.inner.Tests.{AsksWithin, Tells, is_end, told_by, truth_by}
use Rattle.sig_cells.specs.inner.Ways.{AreWaysOf, IsRun, IsStretch}
use Rattle.sig_cells.specs.declared.code.GuardedCode.{GuardedCode}
use Rattle.sig_cells.specs.declared.react.Fault.{Fault}
use Rattle.sig_cells.specs.declared.stretches.Known.{Known}
use Rattle.sig_cells.specs.declared.stretches.Run.{Run}
use Rattle.sig_cells.specs.declared.stretches.Stretch.{Stretch}
use Rattle.sig_cells.specs.declared.stretches.Ways.{Ways}
use Rattle.sig_cells.specs.declared.test.Test.{Test}
use Rattle.sig_cells.proofs.DoneInARow.{keeps_further}
use Rattle.sig_cells.proofs.HandledStretches.{ends_in, goes_on, passed_on, run_passed, stays}

pub before_end : (place count : ℕ) (ended : Bool) → ended ≡ not (nat_lt place count) → ended ≡ false → place < count
before_end place count ended is not_yet = by (nat_lt place count) refl where
  by : (b : Bool) → nat_lt place count ≡ b → place < count
  by true e = ltb-true place count e
  by false e = absurd (let clash : true ≡ false = ap not (sym e) ∙ sym is ∙ not_yet in cc)

-- what a test tells, a walk behind it tells too
told_value : (scope : Scope) (t : Test) (guard : Ref) (registers : Registers) → Tells scope t guard registers → truth_by scope.nodes scope.conditions t guard registers ≡ holds_by scope guard registers
told_value scope t guard registers tells = by (told_by t registers) tells where
  by : (told : Option Bool) → IfSome told (λ holds. holds ≡ holds_by scope guard registers) → unwrap_or told (holds_by scope guard registers) ≡ holds_by scope guard registers
  by None is = refl
  by (Some holds) is = is

-- An instant stands before the run of a place, or at the end: those before it are handled, and the test tells the guard.
pub record IsBeforeRun (nodes : List Node) (code : GuardedCode) (flows : List (List ℤ)) (instant : ℕ) (start s : Cells) (next : Stretch) : Type 0 where
  pub instructions : AreInstructions (length s.taken) (length s.values) code.instructions
  pub stamps : length s.stamps ≡ length s.values
  pub room : code.signals ≤ length s.values
  pub keeps : Keeps (instructions_in code) instant start s
  pub within : next.place ≤ length code.runs.items
  pub end : is_end next.test ≡ not (nat_lt next.place (length code.runs.items))
  pub asks : (run : Run) → slice_get code.runs.items next.place ≡ Some run → AsksWithin code.signals next.test
  pub handled : StandsIn nodes code flows instant start → Handles (scope_in nodes code) (guards_in code) (instructions_in code) flows instant next.place start s
  pub tells : StandsIn nodes code flows instant start → (run : Run) → slice_get code.runs.items next.place ≡ Some run
      → Tells (scope_in nodes code) next.test run.guard (registers_in code.signals instant s)

-- An instant stands before the run of a place whose ways were read.
pub record AtWays : Type 0 where
  pub nodes : List Node
  pub code : GuardedCode
  pub flows : List (List ℤ)
  pub instant : ℕ
  pub start : Cells
  pub s : Cells
  pub next : Stretch
  pub ways : Ways
  pub is : IsCode nodes (length start.taken) (length start.values) code
  pub at : IsBeforeRun nodes code flows instant start s next
  pub more : is_end next.test ≡ false
  pub ways_at : slice_get code.ways.items next.place ≡ Some ways

module _ (w : AtWays) where
  open w use {nodes, code, flows, instant, start, s, next, ways, is, at, more, ways_at}

  abbrev scope : Scope
  scope = scope_in nodes code

  abbrev runs : List Run
  runs = code.runs.items

  abbrev StandsThere : Type 0
  StandsThere = StandsIn nodes code flows instant start

  abbrev HandledTo : ℕ → Cells → Type 0
  HandledTo place u = Handles scope (guards_in code) (instructions_in code) flows instant place start u

  pub place_within : next.place < length runs
  place_within = before_end next.place (length runs) (is_end next.test) at.end more

  the_run : (run : Run) × (slice_get runs next.place ≡ Some run)
  the_run = some_at runs next.place place_within

  abbrev run : Run
  run = the_run.0

  is_run : IsRun nodes runs next.place run
  is_run = is.runs next.place run the_run.1

  are_ways : AreWaysOf scope runs next.place run ways
  are_ways = is.ways.each next.place run ways the_run.1 ways_at

  pub guard_held : Holds nodes ways.guard
  guard_held = subst (λ (g : Ref). Holds nodes g) (sym are_ways.guard) is_run.held

  pub guard_told : AsksAmong nodes code.conditions.items ways.guard
  guard_told = subst (λ (g : Ref). AsksAmong nodes code.conditions.items g) (sym are_ways.guard) (is.told next.place run the_run.1)

  pub test_asks : AsksWithin code.signals next.test
  test_asks = at.asks run the_run.1

  pub forth_on : ways.on.from ≤ ways.on.to
  forth_on = are_ways.on.forth

  pub within_on : ways.on.to ≤ length (instructions_in code)
  within_on = let a = are_ways.on.beyond in let b = are_ways.on.within in let all = is.count in omega (arith, a, b, all)

  pub further_on : next.place < ways.on.place
  further_on = let a = are_ways.on.beyond in let b = are_ways.on_to in let d = is_run.later in omega (arith, a, b, d)

  pub place_on : ways.on.place ≤ length runs
  place_on = are_ways.on.within

  pub forth_off : ways.off.from ≤ ways.off.to
  forth_off = are_ways.off.forth

  pub within_off : ways.off.to ≤ length (instructions_in code)
  within_off = let a = are_ways.off.beyond in let b = are_ways.off.within in let all = is.count in omega (arith, a, b, all)

  after_off : next.place < ways.off.from
  after_off = let a = are_ways.off_from in let b = is_run.leaves in let d = is_run.later in omega (arith, a, b, d)

  pub further_off : next.place < ways.off.place
  further_off = let a = are_ways.off.beyond in let b = are_ways.off.forth in let d = after_off in omega (arith, a, b, d)

  pub place_off : ways.off.place ≤ length runs
  place_off = are_ways.off.within

  -- the guard has a value
  module _ (value : Bool) (told : value ≡ truth_by nodes code.conditions.items next.test ways.guard (registers_in code.signals instant s)) where
    abbrev known : Known
    known = record { guard = run.guard; truth = value }

    known_value : StandsThere → holds_at scope instant run.guard s ≡ value
    known_value stands =
        sym (told_value scope next.test run.guard (registers_in code.signals instant s) (at.tells stands run the_run.1))
        ∙ sym (ap (λ (g : Ref). truth_by nodes code.conditions.items next.test g (registers_in code.signals instant s)) are_ways.guard)
        ∙ sym told

    -- so a stretch that it tells is done
    module _ (stretch : Stretch) (is_stretch : IsStretch scope runs known stretch) (after : next.place ≤ stretch.from) (begins : StandsThere → HandledTo stretch.from s) where
      to_within : stretch.to ≤ length runs
      to_within = let a = is_stretch.beyond in let b = is_stretch.within in omega (arith, a, b)

      after_to : next.place ≤ stretch.to
      after_to = let forth = is_stretch.forth in omega (arith, after, forth)

      stretch_fails : (u : Cells) (fault : Fault) → fault.place < stretch.to → GoesTo (instructions_in code) flows instant stretch.from fault.place s u
          → FailsAt (instructions_in code) flows fault.place u fault.cause → StandsThere → EndsAt scope (guards_in code) (instructions_in code) flows instant start u fault
      stretch_fails u fault before goes fails stands =
          ends_in scope runs (instructions_in code) flows instant start stands next.place run the_run.1 s (at.handled stands) value (known_value stands) stretch.from stretch.to s u fault
          after to_within is_stretch.done (begins stands) before goes fails

      module _ (u : Cells) (goes : GoesTo (instructions_in code) flows instant stretch.from stretch.to s u) (keeps : Keeps (instructions_in code) instant s u) where
        reaches : StandsThere → HandledTo stretch.to u
        reaches stands =
            goes_on scope runs (instructions_in code) flows instant start stands next.place run the_run.1 s (at.handled stands) value (known_value stands) stretch.from stretch.to s u
            after to_within is_stretch.done (begins stands) goes

        stretch_done : IsBeforeRun nodes code flows instant start u stretch
        stretch_done = record {
          instructions = subst (λ (n : ℕ). AreInstructions n (length u.values) code.instructions) (sym keeps.taken)
              (subst (λ (n : ℕ). AreInstructions (length s.taken) n code.instructions) (sym keeps.values) at.instructions);
          stamps = keeps.stamps ∙ at.stamps ∙ sym keeps.values;
          room = (let room = at.room in let same = keeps.values in omega (arith, room, same));
          keeps = keeps_further (instructions_in code) instant start s u at.keeps keeps;
          within = is_stretch.within;
          end = is_stretch.end;
          asks = λ r there. (is_stretch.told r there).asks;
          handled = λ stands.
              passed_on scope runs (instructions_in code) flows instant start stands next.place run the_run.1 s (at.handled stands) value (known_value stands) stretch.to stretch.place u
              after_to is_stretch.beyond is_stretch.within is_stretch.over (reaches stands);
          tells = λ stands r there.
              (is_stretch.told r there).tells (registers_in code.signals instant u)
              (stays scope runs (instructions_in code) flows instant start stands next.place run the_run.1 s (at.handled stands) value (known_value stands) stretch.to u after_to to_within (reaches stands));
        }

  -- where it holds, the stretch that begins there is done
  begins_on : StandsThere → HandledTo ways.on.from s
  begins_on stands = subst (λ (n : ℕ). HandledTo n s) (sym are_ways.on_from) (at.handled stands)

  module _ (told : true ≡ truth_by nodes code.conditions.items next.test ways.guard (registers_in code.signals instant s)) where
    after_on : next.place ≤ ways.on.from
    after_on = let same = are_ways.on_from in omega (arith, same)

    pub next_on : (u : Cells) → GoesTo (instructions_in code) flows instant ways.on.from ways.on.to s u → Keeps (instructions_in code) instant s u → IsBeforeRun nodes code flows instant start u ways.on
    next_on = stretch_done true told ways.on are_ways.on after_on begins_on

    pub fails_on : (u : Cells) (fault : Fault) → fault.place < ways.on.to → GoesTo (instructions_in code) flows instant ways.on.from fault.place s u
        → FailsAt (instructions_in code) flows fault.place u fault.cause → StandsThere → EndsAt scope (guards_in code) (instructions_in code) flows instant start u fault
    fails_on = stretch_fails true told ways.on are_ways.on after_on begins_on

  -- where it does not, the run is left, and what is passed over behind it
  module _ (told : false ≡ truth_by nodes code.conditions.items next.test ways.guard (registers_in code.signals instant s)) where
    begins_off : StandsThere → HandledTo ways.off.from s
    begins_off stands =
        let later = is_run.later in
        let leaves = is_run.leaves in
        let a = are_ways.off.forth in
        let b = are_ways.off.beyond in
        let d = are_ways.off.within in
        passed_on scope runs (instructions_in code) flows instant start stands next.place run the_run.1 s (at.handled stands) false (known_value false told stands) run.skip ways.off.from s
        (omega (arith, later, leaves)) are_ways.off_from (omega (arith, a, b, d)) are_ways.off_passed
        (passed_on scope runs (instructions_in code) flows instant start stands next.place run the_run.1 s (at.handled stands) false (known_value false told stands) next.place run.skip s
        (omega arith) (omega (arith, later, leaves)) is_run.within (run_passed nodes runs next.place run is_run) (at.handled stands))

    after_off_too : next.place ≤ ways.off.from
    after_off_too = let a = after_off in omega (arith, a)

    pub next_off : (u : Cells) → GoesTo (instructions_in code) flows instant ways.off.from ways.off.to s u → Keeps (instructions_in code) instant s u → IsBeforeRun nodes code flows instant start u ways.off
    next_off = stretch_done false told ways.off are_ways.off after_off_too begins_off

    pub fails_off : (u : Cells) (fault : Fault) → fault.place < ways.off.to → GoesTo (instructions_in code) flows instant ways.off.from fault.place s u
        → FailsAt (instructions_in code) flows fault.place u fault.cause → StandsThere → EndsAt scope (guards_in code) (instructions_in code) flows instant start u fault
    fails_off = stretch_fails false told ways.off are_ways.off after_off_too begins_off
