use Rattle.sig_lex.proofs.{piece_is}
use Rattle.sig_lex.proofs.piece.name.Goals as goal

pub returns-then-is_word-clause-piece : goal.returns-then-is_word-clause-piece
returns-then-is_word-clause-piece c = piece_is _ _ _ _ _ c.token.ensures.kind c.token.ensures.size (record { letter = c.requires; whole = c.name_run-size.ensures.run }, c.is_word.ensures.0 c.if-is_word.true)
