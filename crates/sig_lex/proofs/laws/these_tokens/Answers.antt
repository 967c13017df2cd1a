use Rattle.sig_lex.proofs.{some_token, token_slices, token_last, token_spelled}
use Rattle.sig_lex.proofs.laws.these_tokens.Goals as goal

pub returns-clause-some : goal.returns-clause-some
returns-clause-some c = some_token c.args.bytes.now c.args.tokens.now c.requires

pub returns-clause-slices : goal.returns-clause-slices
returns-clause-slices c = token_slices c.args.bytes.now c.args.tokens.now c.requires

pub returns-clause-last : goal.returns-clause-last
returns-clause-last c = token_last c.args.bytes.now c.args.tokens.now c.requires

pub returns-clause-spelled : goal.returns-clause-spelled
returns-clause-spelled c = token_spelled c.args.bytes.now c.args.tokens.now c.requires
