use Rattle.sig_lex.proofs.{Option, drop, subst, TokenKind, IsPiece, after_token}
use Rattle.sig_lex.proofs.scan.passed.Goals as goal

pub returns-in-Some : goal.returns-in-Some
returns-in-Some c =
    let lexeme = subst (λ (kind : Option TokenKind). IsPiece kind (drop c.args.start c.args.bytes.now) c.args.piece.size) c.in-Some.is c.requires.piece in
    after_token c.args.bytes.now c.args.start c.in-Some.field-0 c.args.piece.size c.args.at c.requires.within lexeme c.requires.here
