use Rattle.sig_lex.proofs.{ℕ, List, [], length, Some, inl, refl, subst, append-nil, IsLexeme, piece_there, front_spells, spells_front}
use Rattle.sig_lex.proofs.laws.spelling.Goals as goal

pub returns-clause-alone : goal.returns-clause-alone
returns-clause-alone c = λ kind bytes spells. subst (λ (l : List ℕ). IsLexeme kind l (length bytes)) (append-nil bytes) (spells_front kind bytes [] spells (inl refl))

pub returns-clause-before_blank : goal.returns-clause-before_blank
returns-clause-before_blank c = spells_front

pub returns-clause-front : goal.returns-clause-front
returns-clause-front c = λ kind bytes n lexeme. front_spells kind bytes n (piece_there (Some kind) n bytes lexeme) lexeme
