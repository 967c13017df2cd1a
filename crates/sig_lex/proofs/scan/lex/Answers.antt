use Rattle.sig_lex.proofs.{given, refused}
use Rattle.sig_lex.proofs.scan.lex.Goals as goal

pub returns-clause-given : goal.returns-clause-given
returns-clause-given c = given (λ v. v.items) c.args.bytes.now c.scanned.result c.scanned.ensures.tokens c.scanned.ensures.fault

pub returns-clause-refused : goal.returns-clause-refused
returns-clause-refused c = refused (λ v. v.items) c.args.bytes.now c.scanned.result c.scanned.ensures.tokens c.scanned.ensures.fault
