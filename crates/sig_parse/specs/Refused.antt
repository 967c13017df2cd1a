-- What a refusal of a text says.
use Rattle.std.specs.Prelude.{◌≡◌, ◌++◌, ◌-◌, ◌∷◌}
use Rattle.sig_parse.specs.Prelude.{List, [], length, slice_get, option_map, unwrap_or, NESTING, OPERATORS, Span, Token, Leaf, both_limits, Begins}
use Rattle.sig_parse.specs.declared.refusal.Refusal.{Refusal}
use Rattle.sig_parse.specs.declared.refusal.Refusal.TheVariants.{Syntax as RefusalSyntax, Nesting as RefusalNesting, Operators, OutOfMemory as RefusalOutOfMemory}
use Rattle.sig_parse.specs.declared.parse_answer.ParseAnswer.{ParseAnswer}
use Rattle.sig_parse.specs.declared.parse_answer.ParseAnswer.TheVariants.{Syntax, Nesting, OutOfMemory}

-- the place of the last token
abbrev pub end_of : List Token → Span
end_of tokens = unwrap_or (option_map (λ t. t.at) (slice_get tokens (length tokens - 1))) (record { line = 1; col = 1 })

-- the place of the first of these leaves, or where there is none, of the end
abbrev pub place_of : List Leaf → Span → Span
place_of [] end = end
place_of (l ∷ leaves) end = l.at

-- The place is that of the token behind leaves with which some program begins that keeps both limits.
pub record StandsBehind (leaves : List Leaf) (end at : Span) : Type 0 where
  pub passed : List Leaf
  pub after : List Leaf
  pub split : leaves ≡ passed ++ after
  pub place : at ≡ place_of after end
  pub begins : Begins both_limits passed

abbrev pub IsRefusal : List Leaf → Span → ParseAnswer → Type 0
IsRefusal leaves end (Syntax at) = StandsBehind leaves end at
IsRefusal leaves end (Nesting limit at) = StandsBehind leaves end at
IsRefusal leaves end OutOfMemory = Unit {0}

-- the answer for a refusal of the token at a place
abbrev pub answer_of : Refusal → Span → ParseAnswer
answer_of RefusalSyntax at = Syntax at
answer_of RefusalNesting at = Nesting NESTING at
answer_of Operators at = Nesting OPERATORS at
answer_of RefusalOutOfMemory at = OutOfMemory
