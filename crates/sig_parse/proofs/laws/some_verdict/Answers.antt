use Rattle.sig_parse.proofs.{tree_or_first_refusal}
use Rattle.sig_parse.proofs.laws.some_verdict.Goals as goal

-- src/laws.rt:15:1
pub returns : goal.returns
returns c = tree_or_first_refusal
