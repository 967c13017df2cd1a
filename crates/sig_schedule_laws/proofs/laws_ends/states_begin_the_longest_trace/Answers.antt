use Rattle.sig_schedule_laws.proofs.{after_begins, reactions_begin, text_begins, word_not_before}
use Rattle.sig_schedule_laws.proofs.laws_ends.states_begin_the_longest_trace.Goals as goal

pub returns-clause-reactions : goal.returns-clause-reactions
returns-clause-reactions c = reactions_begin

pub returns-clause-text : goal.returns-clause-text
returns-clause-text c = text_begins

pub returns-clause-word : goal.returns-clause-word
returns-clause-word c = word_not_before

pub returns-clause-interleaving : goal.returns-clause-interleaving
returns-clause-interleaving c = after_begins
