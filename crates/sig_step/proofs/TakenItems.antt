-- Items that an actor takes.
use Rattle.sig_step.proofs.Common.{◌≡◌, ◌∙◌, inl, ℕ, ℤ, length, Option, Some, refl, ap, SigId, Actor, code_of, moved_on, with_signal, Takes, received, PlanView, TakesTurn, Asks, Past, Popped, Queues, MovesOn, actor_of, Done, ClusterState, actor_in, seen_in, ActorMachine}

-- the turn of an actor that took an item into the register of a signal, where there is one
pub takes_item : {E : Type 0} (past : E → Option Past) (queues : E → Option Queues) (plan : PlanView) (s new : ClusterState) (v : ActorMachine) (link : ℕ) (signal : Option SigId) (item : ℤ) (before after : E)
    → ((step : ℕ) → actor_in v step ≡ record (actor_in s.values step) { registers = with_signal signal (Some item) (seen_in s.values) })
    → MovesOn plan (record s { values = v }) new → Asks past queues (Popped link item) before after
    → TakesTurn past queues plan.kernel (Takes link (λ (i : ℤ). moved_on (length (code_of plan s.actor).steps) (received signal i (actor_of s)))) Done s new before after
takes_item past queues plan s new v link signal item before after written moves asks = record {
  asked = Popped link item;
  acts = inl (
    item,
    record {
      answers = refl;
      is = moves.actor ∙ ap (λ (a : Actor). moved_on (length (code_of plan s.actor).steps) (record a { ended = s.ended })) (written s.step);
      asks = refl;
    },
  );
  asks = asks;
}
