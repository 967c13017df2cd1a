-- A run to its end, as it was served actor by actor.
use Rattle.sig_interleaving.proofs.Common.{◌≡◌, ◌≤◌, ℕ, List, length, sym, subst, arith, Trace, Place, Option, IsCore, IsReached, IsSameRun, Shows, HasEnded, IsEndOf, after_of, instants_of, RestBelow, Core, IsEnd, ModelCore, Given, cause_of, IsAccepted, Ended, Joins, TookPrefix, TookPrefix-then}
use Rattle.sig_interleaving.proofs.ReachedEnd.{all_ended, end_is}
use Rattle.sig_interleaving.proofs.EventsToTheEnd.{Join}

-- takings, and then a prefix of more
pub join_part : {S : Type 0} (took : S → List ℕ → S → Type 0) → Joins took → Join took (TookPrefix took)
join_part took joins first middle last bytes more one two = TookPrefix-then took joins first middle last bytes more one two

pub accepted_on : (old new : Core) → IsSameRun old new → IsAccepted old.plan.now → IsAccepted new.plan.now
accepted_on old new same accepted = subst (λ (given : Given). IsAccepted given.plan) (sym same) accepted

-- where all actors rest, all have ended
pub all_rest : (c : Core) → IsCore c → IsAccepted c.plan.now → IsReached c → (k : ℕ) → RestBelow k c → length c.states.items ≤ k → HasEnded c
all_rest c is accepted (events, shows) k rest all = all_ended c is accepted events shows (λ i lt. rest i (omega (arith, lt, all)) (after_of c events) shows)

-- the end of one core is that of each other one of its run
pub end_of_run : (old new : Core) → IsSameRun old new → IsCore new → IsAccepted new.plan.now → IsReached new → HasEnded new → (answer : Ended) → answer.instants ≡ instants_of new
    → ((m : ModelCore) → Shows m new → answer.cause ≡ cause_of new.plan.now new.inputs.now m m.word) → IsEndOf old answer
end_of_run old new same is accepted (events, shows) ended answer instants cause =
    subst (λ (given : Given). (trace : Trace) (place : Option Place) (end : Ended) → IsEnd given.plan given.flows given.limit trace place end → answer ≡ end) same
    (end_is new is accepted events shows ended answer instants (cause (after_of new events) shows))
