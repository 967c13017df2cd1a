use Rattle.sig_file.proofs.{append_assoc, rules}
use Rattle.sig_file.proofs.write.put_counts.Goals as goal

pub returns : goal.returns
returns c = search (rules, append_assoc)
