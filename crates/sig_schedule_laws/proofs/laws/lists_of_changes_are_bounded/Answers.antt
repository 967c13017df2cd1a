use Rattle.sig_schedule_laws.proofs.{all_within, bounded_behind, bounded_events, changes_go_on}
use Rattle.sig_schedule_laws.proofs.laws.lists_of_changes_are_bounded.Goals as goal

pub returns-clause-lists : goal.returns-clause-lists
returns-clause-lists c = bounded_events

pub returns-clause-behind : goal.returns-clause-behind
returns-clause-behind c = bounded_behind

pub returns-clause-changes : goal.returns-clause-changes
returns-clause-changes c = changes_go_on

pub returns-clause-within : goal.returns-clause-within
returns-clause-within c = all_within
