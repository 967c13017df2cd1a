-- What a text is refused for, before anything is asked of its tree.
use Rattle.sig_front.specs.Prelude.{ℕ, List, LexAnswer, BadByte, OpenComment, LongNumber, LexMemory, Token, AreTokens, IsFirstFault, ParseAnswer, Syntax, Nesting, ParseMemory, IsFirstRefusal, end_of, leaves_of}
use Rattle.sig_front.specs.declared.answer.FrontAnswer.{FrontAnswer}
use Rattle.sig_front.specs.declared.answer.FrontAnswer.TheVariants.{Lex, Parse, OutOfMemory}

-- what the passes' answers are here
abbrev pub of_lex : LexAnswer → FrontAnswer
of_lex (BadByte at) = Lex (BadByte at)
of_lex (OpenComment at) = Lex (OpenComment at)
of_lex (LongNumber at) = Lex (LongNumber at)
of_lex LexMemory = OutOfMemory

abbrev pub of_parse : ParseAnswer → FrontAnswer
of_parse (Syntax at) = Parse (Syntax at)
of_parse (Nesting limit at) = Parse (Nesting limit at)
of_parse ParseMemory = OutOfMemory

-- The text is no program: it has no tokens, for its first fault, or its tokens have no tree within both
-- limits, for the first token that is refused.
abbrev pub IsNoText : List ℕ → FrontAnswer → Type 0
IsNoText text (Lex fault) = IsFirstFault text fault
IsNoText text (Parse refusal) = (tokens : List Token) × AreTokens text tokens × IsFirstRefusal (leaves_of text tokens) (end_of tokens) refusal
IsNoText text _ = ⊥
