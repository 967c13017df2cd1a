use Rattle.sig_front.proofs.{flat_once, no_flat_once, flat_or_refusal}
use Rattle.sig_front.proofs.laws.one_flat_text.Goals as goal

pub returns-clause-flat : goal.returns-clause-flat
returns-clause-flat c = flat_once

pub returns-clause-refusal : goal.returns-clause-refusal
returns-clause-refusal c = no_flat_once

pub returns-clause-apart : goal.returns-clause-apart
returns-clause-apart c = flat_or_refusal
