-- Turns within an instant that ask no link and meet no guard, one after another.
use Rattle.std.specs.Prelude.{◌≡◌, ◌+◌}
use Rattle.sig_step.specs.Prelude.{ℕ, zero, suc, ℤ, Bool, List, slice_get, Some, turn, PlanView, instant_of}
use Rattle.sig_step.specs.Acting.{Acts}
use Rattle.sig_step.specs.LinkEnds.{Nothing}
use Rattle.sig_step.specs.Moving.{IsSameActor}
use Rattle.sig_step.specs.States.{IsStateOf, actor_of}
use Rattle.sig_step.specs.declared.answer.Acted.TheVariants.{Done}
use Rattle.sig_step.specs.declared.state.ClusterState.{ClusterState}
use Rattle.sig_step.specs.declared.state.Mark.{Mark}

-- it is known in this instant whether the guard of a slot holds
abbrev pub IsKnown : ℕ → Bool → ClusterState → Type 0
IsKnown slot holds s = (mark : Mark) × (slice_get s.marks.items slot ≡ Some mark) × (mark.instant ≡ instant_of s.values) × (mark.holds ≡ holds)

-- An actor did its turn within an instant, asked no link and met no guard.
pub record Passes (plan : PlanView) (flows : List (List ℤ)) (old new : ClusterState) : Type 0 where
  pub state : IsStateOf plan flows new
  pub actor : IsSameActor old new
  pub acts : Acts plan.kernel (turn plan flows old.limit old.actor (actor_of old)) Done old new Nothing
  pub ended : new.ended ≡ old.ended
  pub instant : instant_of new.values ≡ instant_of old.values
  pub step : new.step ≡ old.step + 1

-- so many such turns, one after another
abbrev pub PassesSo : PlanView → List (List ℤ) → ℕ → ClusterState → ClusterState → Type 0
PassesSo plan flows zero old new = new ≡ old
PassesSo plan flows (suc n) old new = (mid : ClusterState) × PassesSo plan flows n old mid × Passes plan flows mid new

-- Some such turns, one after another.
pub record PassesOver (plan : PlanView) (flows : List (List ℤ)) (old new : ClusterState) : Type 0 where
  pub count : ℕ
  pub turns : PassesSo plan flows count old new
  pub state : IsStateOf plan flows new
  pub actor : IsSameActor old new
  pub ended : new.ended ≡ old.ended
  pub instant : instant_of new.values ≡ instant_of old.values
