-- Which token of a text is refused, and why.
use Rattle.std.specs.Prelude.{◌≡◌, ◌≢◌, ◌++◌, ◌⊎◌, ◌∷◌}
use Rattle.sig_parse.specs.Prelude.{List, [], NESTING, OPERATORS, Span, ProcessModel, Leaf, Limits, both_limits, nesting_limit, no_limits, IsProgram, Begins}
use Rattle.sig_parse.specs.declared.parse_answer.ParseAnswer.{ParseAnswer}
use Rattle.sig_parse.specs.declared.parse_answer.ParseAnswer.TheVariants.{Syntax, Nesting, OutOfMemory}
use Rattle.sig_parse.specs.Refusals.{Cause, Wrong, TooDeep, TooMany, refused_within}
use Rattle.sig_parse.specs.Refused.{place_of}

-- some program within these limits begins with the leaves up to the next one, or is the leaves where there
-- is none
abbrev pub GoesOn : Limits → (passed after : List Leaf) → Type 0
GoesOn limits passed [] = (processes : List ProcessModel) × IsProgram limits processes passed
GoesOn limits passed (l ∷ after) = Begins limits (passed ++ l ∷ [])

-- What a limit refuses goes on without it: without any, where the token stands too deep, and within the
-- nesting, where it is one operator too many.
abbrev pub GoesOnOtherwise : Cause → (passed after : List Leaf) → Type 0
GoesOnOtherwise Wrong passed after = Unit {0}
GoesOnOtherwise TooDeep passed after = (after ≢ []) × GoesOn no_limits passed after
GoesOnOtherwise TooMany passed after = (after ≢ []) × GoesOn nesting_limit passed after

-- The token at this place is the first with which no program goes on: programs within both limits begin
-- with the tokens before it, and none with it, within the limits that the cause says.
pub record IsRefused (leaves : List Leaf) (end : Span) (cause : Cause) (at : Span) : Type 0 where
  pub passed : List Leaf
  pub after : List Leaf
  pub split : leaves ≡ passed ++ after
  pub place : at ≡ place_of after end
  pub begins : Begins both_limits passed
  pub otherwise : GoesOnOtherwise cause passed after
  pub stops : GoesOn (refused_within cause) passed after → ⊥

-- the answer for a cause, at a place
abbrev pub answer_for : Cause → Span → ParseAnswer
answer_for Wrong at = Syntax at
answer_for TooDeep at = Nesting NESTING at
answer_for TooMany at = Nesting OPERATORS at

-- the answer is that for the token that is refused
abbrev pub IsFirstRefusal : List Leaf → Span → ParseAnswer → Type 0
IsFirstRefusal leaves end answer = (cause : Cause) × (at : Span) × (answer ≡ answer_for cause at) × IsRefused leaves end cause at

-- or it is want of memory
abbrev pub IsAnswerOf : List Leaf → Span → ParseAnswer → Type 0
IsAnswerOf leaves end answer = (answer ≡ OutOfMemory) ⊎ IsFirstRefusal leaves end answer
