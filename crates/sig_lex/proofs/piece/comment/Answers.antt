use Rattle.sig_lex.proofs.{List, ℕ, None, Some, inr, refl, subst, take_rest, IsFirstByte, is_byte, closed_comment, open_comment}
use Rattle.sig_lex.proofs.piece.comment.Goals as goal

pub returns-in-Some-clause-piece : goal.returns-in-Some-clause-piece
returns-in-Some-clause-piece c =
    let found = subst (λ (rest : List ℕ). IsFirstByte (is_byte 37) rest (Some c.in-Some.inside)) (take_rest c.args.bytes.now 1) c.in-Some.ensures in
    inr (closed_comment c.args.bytes.now c.requires.opened c.in-Some.inside found)

pub returns-in-None-clause-fault : goal.returns-in-None-clause-fault
returns-in-None-clause-fault c =
    let nowhere = subst (λ (rest : List ℕ). IsFirstByte (is_byte 37) rest None) (take_rest c.args.bytes.now 1) c.in-None.ensures in
    (refl, open_comment c.args.bytes.now c.requires.opened nowhere)
