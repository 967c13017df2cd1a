-- How the guards of runs are told.
use Rattle.std.specs.Prelude.{◌≡◌, ◌<◌, ◌&&◌, if◌then◌else◌}
use Rattle.sig_cells.specs.Prelude.{ℕ, Bool, List, [], Node, SigId, truths_of, Option, None, Some, IfSome, IsSomeAnd, unwrap_or, true, false, not, ⊤, Holds, Ref, Registers, is_true, test}
use Rattle.sig_cells.specs.Guards.{AsksAmong, Scope, holds_by}
use Rattle.sig_cells.specs.Instructions.{cells_of, registers_in}
use Rattle.sig_cells.specs.declared.guard.View.{View}
use Rattle.sig_cells.specs.declared.stretches.Known.{Known}
use Rattle.sig_cells.specs.declared.test.Literal.{Literal}
use Rattle.sig_cells.specs.declared.test.Test.{Test}
use Rattle.sig_cells.specs.declared.test.Three.{Three}
use Rattle.sig_cells.specs.declared.tests.Joined.{Joined}

abbrev pub literal_holds : Literal → Registers → Bool
literal_holds literal registers = if literal.positive then is_true (registers literal.signal.0) else not (is_true (registers literal.signal.0))

abbrev pub both_hold : Literal → Literal → Registers → Bool
both_hold a b registers = literal_holds a registers && literal_holds b registers

-- a guard of three literals
abbrev pub three_holds : Three → Registers → Bool
three_holds three registers =
    if literal_holds three.first registers then (if three.both then both_hold three.second three.third registers else not (both_hold three.second three.third registers))
    else three.otherwise

-- there is no run any more
abbrev pub is_end : Test → Bool
is_end Test.End = true
is_end other = false

-- what a test tells by registers, unless it is a walk
abbrev pub told_by : Test → Registers → Option Bool
told_by Test.Always registers = Some true
told_by (Test.Is x) registers = Some (is_true (registers x.0))
told_by (Test.IsNot x) registers = Some (not (is_true (registers x.0)))
told_by (Test.Both a b) registers = Some (both_hold a b registers)
told_by (Test.NotBoth a b) registers = Some (not (both_hold a b registers))
told_by (Test.Three three) registers = Some (three_holds three registers)
told_by Test.Walk registers = None
told_by Test.End registers = None

-- the signals that a test asks are among so many
abbrev pub AsksWithin : ℕ → Test → Type 0
AsksWithin count (Test.Is x) = x.0 < count
AsksWithin count (Test.IsNot x) = x.0 < count
AsksWithin count (Test.Both a b) = (a.signal.0 < count) × (b.signal.0 < count)
AsksWithin count (Test.NotBoth a b) = (a.signal.0 < count) × (b.signal.0 < count)
AsksWithin count (Test.Three three) = (three.first.signal.0 < count) × (three.second.signal.0 < count) × (three.third.signal.0 < count)
AsksWithin count other = ⊤

-- a test that is no walk tells the value of a guard by registers
abbrev pub Tells : Scope → Test → Ref → Registers → Type 0
Tells scope t guard registers = IfSome (told_by t registers) (λ holds. holds ≡ holds_by scope guard registers)

-- the value of a guard by registers, as a test or else a walk tells it
abbrev pub truth_by : List Node → List SigId → Test → Ref → Registers → Bool
truth_by nodes conditions t guard registers = unwrap_or (told_by t registers) (test nodes guard (truths_of conditions registers))

-- what each signal is in the instant, by the cells and stamps that are viewed
abbrev pub registers_seen : View → Registers
registers_seen view = registers_in view.signals view.instant (cells_of view.cells.now view.stamps.now [])

-- whatever was written, where one guard has its truth a test tells another one
pub record IsTest (scope : Scope) (known : Known) (guard : Ref) (t : Test) : Type 0 where
  pub asks : AsksWithin scope.signals t
  pub tells : (registers : Registers) → holds_by scope known.guard registers ≡ known.truth → Tells scope t guard registers

-- Whatever was written, a guard has the value of what is left of it where the literal of a signal holds, and one truth elsewhere.
pub record IsJoined (scope : Scope) (guard : Ref) (joined : Joined) : Type 0 where
  pub asks : joined.literal.signal.0 < scope.signals
  pub held : Holds scope.nodes joined.rest
  pub told : AsksAmong scope.nodes scope.conditions joined.rest
  pub value : (registers : Registers) → holds_by scope guard registers ≡ (if literal_holds joined.literal registers then holds_by scope joined.rest registers else joined.otherwise)

-- a test tells what one of the rest tells where the literal holds, and the truth elsewhere
pub record IsTestWith (joined : Joined) (rest t : Test) : Type 0 where
  pub asks : (count : ℕ) → joined.literal.signal.0 < count → AsksWithin count rest → AsksWithin count t
  pub tells : (registers : Registers) → IfSome (told_by t registers)
      (λ holds. IsSomeAnd (told_by rest registers) (λ own. holds ≡ (if literal_holds joined.literal registers then own else joined.otherwise)))
