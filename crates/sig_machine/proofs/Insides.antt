-- What is so of the machine of an actor.
use Rattle.sig_machine.proofs.Common.{◌≡◌, ℕ, ℤ, List, PlanView, truths_of, HasActor, IsMachineOfActor, seen_in, truths_in, ActorMachine}

module _ (plan : PlanView) (k : ℕ) (flows : List (List ℤ)) (a : ActorMachine) where
  pub inside : IsMachineOfActor plan k flows a → HasActor plan k flows a
  unfolding IsMachineOfActor
  inside is = is

  pub outside : HasActor plan k flows a → IsMachineOfActor plan k flows a
  unfolding IsMachineOfActor
  outside is = is

  pub told_truths : IsMachineOfActor plan k flows a → truths_in a ≡ truths_of plan.clocks.conditions (seen_in a)
  unfolding IsMachineOfActor
  told_truths is = is.told
