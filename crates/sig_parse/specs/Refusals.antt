-- Why a part of the parser refuses a token, in the terms of the grammar.
use Rattle.std.specs.Prelude.{◌≡◌, ◌≢◌, ◌++◌, ◌∷◌}
use Rattle.sig_parse.specs.Prelude.{List, [], Terminal, Leaf, Limits, both_limits, nesting_limit, no_limits, StopsBefore}
use Rattle.sig_parse.specs.declared.refusal.Refusal.{Refusal}
use Rattle.sig_parse.specs.declared.refusal.Refusal.TheVariants.{Syntax, Nesting, Operators, OutOfMemory}
use Rattle.sig_parse.specs.State.{State}

-- The token is wrong, as nothing of the grammar begins with the tokens up to it, or it stands too deep,
-- or it is one operator too many.
pub data Cause : Type 0 where
  Wrong : Cause
  TooDeep : Cause
  TooMany : Cause

-- it is no want of memory
abbrev pub IsOfText : Refusal → Type 0
IsOfText why = why ≢ OutOfMemory

-- the cause of a refusal
abbrev pub cause_of : Refusal → Cause
cause_of Syntax = Wrong
cause_of Nesting = TooDeep
cause_of Operators = TooMany
cause_of OutOfMemory = Wrong

-- the limits within which nothing begins with the tokens up to it
abbrev pub refused_within : Cause → Limits
refused_within Wrong = no_limits
refused_within TooDeep = nesting_limit
refused_within TooMany = both_limits

-- some leaves of the language begin with these
abbrev pub Reaches : (Limits → List Leaf → Type 0) → Limits → List Leaf → Type 0
Reaches Is limits leaves = (done : List Leaf) × Is limits (leaves ++ done)

-- the same with the next leaf, which is there
abbrev pub ReachesNext : (Limits → List Leaf → Type 0) → Limits → (passed after : List Leaf) → Type 0
ReachesNext Is limits passed [] = ⊥
ReachesNext Is limits passed (l ∷ after) = Reaches Is limits (passed ++ l ∷ [])

-- what a limit refuses is in the language without that limit
abbrev pub IsAllowed : (Limits → List Leaf → Type 0) → Cause → (passed after : List Leaf) → Type 0
IsAllowed Is Wrong passed after = Unit {0}
IsAllowed Is TooDeep passed after = ReachesNext Is no_limits passed after
IsAllowed Is TooMany passed after = ReachesNext Is nesting_limit passed after

-- the leaves begin with those that were passed and with the refused one, or end where it is missing
abbrev pub Agrees : (passed after leaves : List Leaf) → Type 0
Agrees passed [] leaves = leaves ≡ passed
Agrees passed (l ∷ after) leaves = (more : List Leaf) × (leaves ≡ passed ++ l ∷ more)

-- A part that reads a language refuses the first of the leaves after those that it passed: these begin
-- something of the language, and no leaves that go on with the refused one begin with something of it
-- before what does not continue it.
pub record Refuses (Is : Limits → List Leaf → Type 0) (Continues : Terminal → Type 0) (cause : Cause) (before after : List Leaf) : Type 0 where
  pub passed : List Leaf
  pub split : before ≡ passed ++ after
  pub viable : Reaches Is both_limits passed
  pub allowed : IsAllowed Is cause passed after
  pub excluded : (leaves front back : List Leaf) → Agrees passed after leaves → leaves ≡ front ++ back
      → Is (refused_within cause) front → StopsBefore Continues back → ⊥

-- the same of where the parser stands, for a refusal that is no want of memory
abbrev pub RefusedBy : (Limits → List Leaf → Type 0) → (Terminal → Type 0) → (before after : State) → Refusal → Type 0
RefusedBy Is Continues before after why = IsOfText why → Refuses Is Continues (cause_of why) before.leaves after.leaves
