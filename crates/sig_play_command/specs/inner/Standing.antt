-- A play that stands at its opening, or behind events.
use Rattle.std.specs.Prelude.{◌≡◌, ◌-◌}
use Rattle.sig_play_command.specs.Prelude.{ℕ, length, slice_get, Option, None, Some, Actor, Core as ModelCore, IsCore, IsReady, PlanView}
use Rattle.sig_play_command.specs.declared.play.Play.{Play}

-- The core of a play is one of its plan over its flows and up to its limit, and the run of these is ready to begin.
pub record IsPlay (play : Play) : Type 0 where
  pub core : IsCore play.core
  pub plan : play.core.plan.now ≡ play.plan.now
  pub flows : play.core.inputs.now ≡ play.inputs.now
  pub limit : play.core.limit ≡ play.limit
  pub ready : IsReady play.plan.now play.inputs.now play.ready

-- how many instants are before that of an actor
abbrev pub instants_before : Option Actor → ℕ
instants_before None = 0
instants_before (Some actor) = actor.instant - 1

-- how many instants a state has committed: those before that of the collector, which is the last actor
abbrev pub committed_in : PlanView → ModelCore → ℕ
committed_in plan m = instants_before (slice_get m.actors (length plan.codes - 1))
