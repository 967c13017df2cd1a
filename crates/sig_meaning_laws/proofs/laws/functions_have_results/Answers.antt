use Rattle.sig_meaning_laws.proofs.{determined, given}
use Rattle.sig_meaning_laws.proofs.laws.functions_have_results.Goals as goal

pub returns : goal.returns
returns c = record { given = given; one = determined }
