use Rattle.sig_play_command.proofs.{◌∙◌, ℕ, ap, slice_get, before_none, before_there, instants_before}
use Rattle.sig_play_command.proofs.rest.committed_in.Goals as goal

pub returns-in-Some : goal.returns-in-Some
returns-in-Some c = λ m shows.
    c.saturating_sub.ensures
    ∙ before_there (slice_get m.actors c.collector_of.result) c.in-Some.collector (c.in-Some.ensures m shows)
    ∙ ap (λ (k : ℕ). instants_before (slice_get m.actors k)) c.collector_of.ensures

pub returns-in-None : goal.returns-in-None
returns-in-None c = λ m shows.
    before_none (slice_get m.actors c.collector_of.result) (c.in-None.ensures m shows)
    ∙ ap (λ (k : ℕ). instants_before (slice_get m.actors k)) c.collector_of.ensures
