-- The flat body of a text, and what a text is refused for that has none that is kept.
use Rattle.std.specs.Prelude.{◌≡◌, ◌<◌, ◌≤◌}
use Rattle.sig_front.specs.Prelude.{ℕ, List, length, SIGNALS, Offence, Unknown as UnknownName, DeclaredTwice as TwiceDeclared, InputDefined as GivenDefined, DefinedTwice as TwiceDefined, Undefined as NotDefined, Clash as KindsClash, BareConstant as ConstantAlone, BadCall as CallDiffers, Recursive as CallsItself, BadPragma as PragmaIsBad, NoInit as InitIsMissing, IsFlatBody, FlatBody, IsText, ProcessModel, IsWellFormed, IsFirstOffence, TypeAnswer, TypeMemory, CallAnswer, TooManySignals as TooMany, OutOfMemory as CallMemory, FlatAnswer, TooManyMade, FlatMemory}
use Rattle.sig_type.specs.declared.answer.TypeAnswer.TheVariants.{Unknown, DeclaredTwice, InputDefined, DefinedTwice, Undefined, Clash, BareConstant, BadCall, Recursive, BadPragma, NoInit}
use Rattle.sig_front.specs.Texts.{IsNoText}
use Rattle.sig_front.specs.declared.answer.FrontAnswer.{FrontAnswer}
use Rattle.sig_front.specs.declared.answer.FrontAnswer.TheVariants.{Lex, Parse, «Type» as TypeRefused, TooManySignals, OutOfMemory}

-- what the passes' answers are here
abbrev pub of_type : TypeAnswer → FrontAnswer
of_type TypeMemory = OutOfMemory
of_type (Unknown name) = TypeRefused (Unknown name)
of_type (DeclaredTwice name) = TypeRefused (DeclaredTwice name)
of_type (InputDefined name) = TypeRefused (InputDefined name)
of_type (DefinedTwice name) = TypeRefused (DefinedTwice name)
of_type (Undefined name) = TypeRefused (Undefined name)
of_type (Clash at) = TypeRefused (Clash at)
of_type (BareConstant at) = TypeRefused (BareConstant at)
of_type (BadCall name) = TypeRefused (BadCall name)
of_type (Recursive name) = TypeRefused (Recursive name)
of_type (BadPragma at) = TypeRefused (BadPragma at)
of_type (NoInit at) = TypeRefused (NoInit at)

abbrev pub of_call : CallAnswer → FrontAnswer
of_call (TooMany limit) = TooManySignals limit
of_call CallMemory = OutOfMemory

abbrev pub of_flat : FlatAnswer → FrontAnswer
of_flat (TooManyMade limit) = TooManySignals limit
of_flat FlatMemory = OutOfMemory

-- the answer that names an offence
abbrev pub answer_for : Offence → TypeAnswer
answer_for (UnknownName name) = Unknown name
answer_for (TwiceDeclared name) = DeclaredTwice name
answer_for (GivenDefined name) = InputDefined name
answer_for (TwiceDefined name) = DefinedTwice name
answer_for (NotDefined name) = Undefined name
answer_for (KindsClash at) = Clash at
answer_for (ConstantAlone at) = BareConstant at
answer_for (CallDiffers name) = BadCall name
answer_for (CallsItself name) = Recursive name
answer_for (PragmaIsBad at) = BadPragma at
answer_for (InitIsMissing at) = NoInit at

-- the text is that of a well-formed program of this tree
pub record IsGood (text : List ℕ) (tree : List ProcessModel) : Type 0 where
  pub reads : IsText text tree
  pub formed : IsWellFormed tree

-- the text is that of a well-formed program with this flat body, within the limit of signals
pub record IsFlatText (text : List ℕ) (flat : FlatBody) : Type 0 where
  pub tree : List ProcessModel
  pub good : IsGood text tree
  pub expands : IsFlatBody tree flat
  pub few : length flat.signals ≤ SIGNALS

-- the text is that of a program which breaks a rule, of which this is the first
pub record Offends (text : List ℕ) (answer : TypeAnswer) : Type 0 where
  pub tree : List ProcessModel
  pub reads : IsText text tree
  pub offence : Offence
  pub first : IsFirstOffence tree offence
  pub named : answer ≡ answer_for offence

-- the text is that of a well-formed program whose flat body has more signals than the limit
pub record IsTooLarge (text : List ℕ) (limit : ℕ) : Type 0 where
  pub tree : List ProcessModel
  pub good : IsGood text tree
  pub flat : FlatBody
  pub expands : IsFlatBody tree flat
  pub many : SIGNALS < length flat.signals
  pub said : limit ≡ SIGNALS

-- The text has no flat body that is kept: it is no text of a program, or that of one that breaks a rule, or
-- that of one with too many signals.
abbrev pub IsNoFlatText : List ℕ → FrontAnswer → Type 0
IsNoFlatText text (Lex fault) = IsNoText text (Lex fault)
IsNoFlatText text (Parse refusal) = IsNoText text (Parse refusal)
IsNoFlatText text (TypeRefused answer) = Offends text answer
IsNoFlatText text (TooManySignals limit) = IsTooLarge text limit
IsNoFlatText text OutOfMemory = ⊥
