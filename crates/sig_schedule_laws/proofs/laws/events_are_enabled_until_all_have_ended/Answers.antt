use Rattle.sig_schedule_laws.proofs.{after_enabled, some_enabled}
use Rattle.sig_schedule_laws.proofs.laws.events_are_enabled_until_all_have_ended.Goals as goal

pub returns-clause-state : goal.returns-clause-state
returns-clause-state c = some_enabled

pub returns-clause-interleaving : goal.returns-clause-interleaving
returns-clause-interleaving c = after_enabled
