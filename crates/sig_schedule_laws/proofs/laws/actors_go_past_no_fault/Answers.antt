use Rattle.sig_schedule_laws.proofs.{after_sound, stepped_sound}
use Rattle.sig_schedule_laws.proofs.laws.actors_go_past_no_fault.Goals as goal

pub returns-clause-event : goal.returns-clause-event
returns-clause-event c = stepped_sound

pub returns-clause-interleaving : goal.returns-clause-interleaving
returns-clause-interleaving c = after_sound
