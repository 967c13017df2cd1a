use Rattle.sig_schedule_laws.proofs.{committed_begins, committed_text}
use Rattle.sig_schedule_laws.proofs.laws_ends.committed_texts_begin_the_reference.Goals as goal

pub returns-clause-text : goal.returns-clause-text
returns-clause-text c = committed_text

pub returns-clause-begins : goal.returns-clause-begins
returns-clause-begins c = committed_begins
