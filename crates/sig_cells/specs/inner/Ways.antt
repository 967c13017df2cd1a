-- Where an instant goes on behind a run.
use Rattle.std.specs.Prelude.{◌≡◌, ◌<◌, ◌≤◌}
use Rattle.sig_cells.specs.Prelude.{ℕ, List, length, map, slice_get, Some, true, false, not, nat_lt, Holds, Implies, Node, Ref, Registers, SigId}
use Rattle.sig_cells.specs.Guards.{AsksAmong, Scope}
use Rattle.sig_cells.specs.inner.Implied.{IsTold}
use Rattle.sig_cells.specs.inner.Tests.{AsksWithin, IsTest, Tells, is_end}
use Rattle.sig_cells.specs.declared.stretches.Known.{Known}
use Rattle.sig_cells.specs.declared.stretches.Stretch.{Stretch}
use Rattle.sig_cells.specs.declared.stretches.Run.{Run}
use Rattle.sig_cells.specs.declared.stretches.Ways.{Ways}

-- the guards of the instructions at whose places runs begin
abbrev pub guards_of : List Run → List Ref
guards_of runs = map (λ run. run.guard) runs

-- Behind a place, up to the end of its run, all instructions have one guard; and up to where it is left they are done only where
-- that guard holds.
pub record IsRun (nodes : List Node) (runs : List Run) (place : ℕ) (run : Run) : Type 0 where
  pub held : Holds nodes run.guard
  pub later : place < run.end
  pub leaves : run.end ≤ run.skip
  pub within : run.skip ≤ length runs
  pub same : (other : ℕ) → place ≤ other → other < run.end → (guard : Ref) → slice_get (guards_of runs) other ≡ Some guard → guard ≡ run.guard
  pub implied : (other : ℕ) → place ≤ other → other < run.skip → (guard : Ref) → slice_get (guards_of runs) other ≡ Some guard → Implies nodes guard run.guard

-- a run that is left at this place
abbrev pub IsLeft : List Node → List Run → ℕ → Run → ℕ → Type 0
IsLeft nodes runs place run skip = IsRun nodes runs place (record run { skip = skip })

-- a run begins at each place
abbrev pub AreRuns : List Node → List Run → Type 0
AreRuns nodes runs = (place : ℕ) (run : Run) → slice_get runs place ≡ Some run → IsRun nodes runs place run

-- their guards ask conditions alone
abbrev pub AskAmong : List Node → List SigId → List Run → Type 0
AskAmong nodes conditions runs = (place : ℕ) (run : Run) → slice_get runs place ≡ Some run → AsksAmong nodes conditions run.guard

-- guards are functions of the nodes
abbrev pub AreHeld : List Node → List Ref → Type 0
AreHeld nodes guards = (place : ℕ) (guard : Ref) → slice_get guards place ≡ Some guard → Holds nodes guard

-- wherever a guard has its truth, no instruction from one place up to another is done
abbrev pub ArePassed : List Node → List Run → Known → ℕ → ℕ → Type 0
ArePassed nodes runs known from to =
    (other : ℕ) → from ≤ other → other < to → (guard : Ref) → slice_get (guards_of runs) other ≡ Some guard → IsTold nodes known (record { guard = guard; truth = false })

-- wherever a guard has its truth, all instructions from one place up to another are done
abbrev pub AreDone : List Node → List Run → Known → ℕ → ℕ → Type 0
AreDone nodes runs known from to =
    (other : ℕ) → from ≤ other → other < to → (guard : Ref) → slice_get (guards_of runs) other ≡ Some guard → IsTold nodes known (record { guard = guard; truth = true })

-- Wherever a guard has its truth, all instructions of a stretch are done, and behind it an instant goes on at a place: all between
-- are passed over, and a test tells the guard of the run there, or it is the end.
pub record IsStretch (scope : Scope) (runs : List Run) (known : Known) (stretch : Stretch) : Type 0 where
  pub forth : stretch.from ≤ stretch.to
  pub done : AreDone scope.nodes runs known stretch.from stretch.to
  pub beyond : stretch.to ≤ stretch.place
  pub over : ArePassed scope.nodes runs known stretch.to stretch.place
  pub within : stretch.place ≤ length runs
  pub told : (run : Run) → slice_get runs stretch.place ≡ Some run → IsTest scope known run.guard stretch.test
  pub end : is_end stretch.test ≡ not (nat_lt stretch.place (length runs))

-- the guard of the run of a place, the stretch that begins with it where it holds, and the one behind what is passed over where it does not
pub record AreWaysOf (scope : Scope) (runs : List Run) (place : ℕ) (own : Run) (ways : Ways) : Type 0 where
  pub guard : ways.guard ≡ own.guard
  pub on : IsStretch scope runs (record { guard = own.guard; truth = true }) ways.on
  pub on_from : ways.on.from ≡ place
  pub on_to : own.end ≤ ways.on.to
  pub off : IsStretch scope runs (record { guard = own.guard; truth = false }) ways.off
  pub off_from : own.skip ≤ ways.off.from
  pub off_passed : ArePassed scope.nodes runs (record { guard = own.guard; truth = false }) own.skip ways.off.from

-- each of these is of the run of its place
pub record AreWays (scope : Scope) (runs : List Run) (ways : List Ways) : Type 0 where
  pub count : length ways ≡ length runs
  pub each : (place : ℕ) (run : Run) (w : Ways) → slice_get runs place ≡ Some run → slice_get ways place ≡ Some w → AreWaysOf scope runs place run w

-- Whatever was written, an instant begins at the first place, where a test tells the guard of the run, or it is the end.
pub record IsFirst (scope : Scope) (runs : List Run) (next : Stretch) : Type 0 where
  pub place : next.place ≡ 0
  pub end : is_end next.test ≡ not (nat_lt next.place (length runs))
  pub asks : (run : Run) → slice_get runs 0 ≡ Some run → AsksWithin scope.signals next.test
  pub tells : (run : Run) → slice_get runs 0 ≡ Some run → (registers : Registers) → Tells scope next.test run.guard registers
