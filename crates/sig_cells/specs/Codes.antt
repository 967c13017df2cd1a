-- Instructions under guards, in the form in which an instant goes over them.
use Rattle.std.specs.Prelude.{◌≡◌, ◌≤◌}
use Rattle.sig_cells.specs.Prelude.{ℕ, ℤ, List, length, slice_get, Some, Holds, Node, Ref}
use Rattle.sig_cells.specs.Guards.{AreBelow, AsksAmong, Scope, scope_of}
use Rattle.sig_cells.specs.Instants.{EndsAt, Handles, Stands}
use Rattle.sig_cells.specs.Instructions.{Cells}
use Rattle.sig_cells.specs.declared.react.Fault.{Fault}
pub use Rattle.sig_cells.specs.Rows.{AreInstructions, AreWithin, IsWithin, listed}
use Rattle.sig_cells.specs.inner.Ways.{AreRuns, AskAmong, AreWays, IsFirst, guards_of}
use Rattle.sig_cells.specs.declared.code.GuardedCode.{GuardedCode}
use Rattle.sig_cells.specs.declared.instruction.Instruction.{Instruction}

-- the instructions, in their order
abbrev pub instructions_in : GuardedCode → List Instruction
instructions_in code = listed code.instructions

-- their guards
abbrev pub guards_in : GuardedCode → List Ref
guards_in code = guards_of code.runs.items

-- Guards are functions of the nodes, and ask conditions alone.
pub record AreGuards (scope : Scope) (guards : List Ref) : Type 0 where
  pub held : (place : ℕ) (guard : Ref) → slice_get guards place ≡ Some guard → Holds scope.nodes guard
  pub told : (place : ℕ) (guard : Ref) → slice_get guards place ≡ Some guard → AsksAmong scope.nodes scope.conditions guard

-- what the guards are told by, over nodes
abbrev pub scope_in : List Node → GuardedCode → Scope
scope_in nodes code = scope_of nodes code.conditions.items code.signals

-- A code over so many inputs and cells, whose guards are functions of nodes.
pub record IsCode (nodes : List Node) (inputs cells : ℕ) (code : GuardedCode) : Type 0 where
  pub room : code.signals ≤ cells
  pub instructions : AreInstructions inputs cells code.instructions
  pub below : AreBelow code.signals code.conditions.items
  pub count : length code.runs.items ≡ length (instructions_in code)
  pub runs : AreRuns nodes code.runs.items
  pub told : AskAmong nodes code.conditions.items code.runs.items
  pub first : IsFirst (scope_in nodes code) code.runs.items code.first
  pub ways : AreWays (scope_in nodes code) code.runs.items code.ways.items

-- ---- an instant of a code

-- what its guards tell stands
abbrev pub StandsIn : List Node → GuardedCode → List (List ℤ) → ℕ → Cells → Type 0
StandsIn nodes code = Stands (scope_in nodes code) (guards_in code) (instructions_in code)

-- all its instructions are handled
abbrev pub HandlesAll : List Node → GuardedCode → List (List ℤ) → ℕ → Cells → Cells → Type 0
HandlesAll nodes code flows instant = Handles (scope_in nodes code) (guards_in code) (instructions_in code) flows instant (length (instructions_in code))

-- it ends at one that has no value
abbrev pub EndsIn : List Node → GuardedCode → List (List ℤ) → ℕ → Cells → Cells → Fault → Type 0
EndsIn nodes code = EndsAt (scope_in nodes code) (guards_in code) (instructions_in code)
