-- What calls do, by the turn of their actor.
use Rattle.sig_step.proofs.Common.{◌≡◌, ◌<◌, ◌+◌, ◌∙◌, ℕ, suc, ℤ, Bool, true, false, List, length, nat_lt, get_or, slice_get, if◌then◌else◌, Option, None, Some, refl, sym, ap, arith, slice_get-get_or, unwrap_or, Kernel, Actor, code_of, no_code, no_registers, Turn, reaction_in, turn_by, CodeView, PlanView, Commit, commit_last, Acts, TakesTurn, Asks, BothTell, Nothing, Past, PastGoesOn, Queues, QueuesGoOn, IsReady, MovesOn, actor_of, Finds, NamesNoLink, Acted, CommitDone, Empty, Full, ClusterState, instant_of}

-- ends that were asked nothing
past_stays : (told : Option Past) → BothTell (PastGoesOn Nothing) told told
past_stays None = tt
past_stays (Some past) = λ link. refl

queues_stay : (told : Option Queues) → BothTell (QueuesGoOn Nothing) told told
queues_stay None = tt
queues_stay (Some queues) = λ link. refl

module _ {E : Type 0} (past : E → Option Past) (queues : E → Option Queues) where
  pub asks_nothing : (ends : E) → Asks past queues Nothing ends ends
  asks_nothing ends = record { tells_past = past_stays (past ends); tells_queues = queues_stay (queues ends) }

  -- a turn in which the ends are asked nothing
  pub turn_alone : (kernel : Kernel) (t : Turn) (acted : Acted) (old new : ClusterState) (ends : E) → Acts kernel t acted old new Nothing
      → TakesTurn past queues kernel t acted old new ends ends
  turn_alone kernel t acted old new ends acts = record { asked = Nothing; acts = acts; asks = asks_nothing ends }

-- an answer that names no link finds none
pub finds_none : {E : Type 0} (found_full found_empty : ℕ → E → E → Type 0) (acted : Acted) → NamesNoLink acted → (ends : E) → Finds found_full found_empty acted ends ends
finds_none found_full found_empty (Full j) names ends = absurd names
finds_none found_full found_empty (Empty j) names ends = absurd names
finds_none found_full found_empty other names ends = tt

-- the code of an actor is there
pub coded : (plan : PlanView) (k : ℕ) → k < length plan.codes → slice_get plan.codes k ≡ Some (code_of plan k)
coded plan k below =
    let there : slice_get plan.codes k ≡ Some (get_or plan.codes k no_code) = slice_get-get_or plan.codes k no_code below in
    there ∙ ap Some (sym (ap (λ (o : Option CodeView). unwrap_or o no_code) there))

-- behind the commit, the next instant begins
at_first : (count : ℕ) (s new : ClusterState) (b : Bool) → suc s.step ≡ count → nat_lt (s.step + 1) count ≡ b
    → actor_of new ≡ (if b then record (actor_of s) { step = s.step + 1 } else record (actor_of s) { instant = instant_of s.values + 1; step = 0; registers = no_registers })
    → new.step ≡ 0
at_first count s new true last test is = absurd (grind (arith, test, last))
at_first count s new false last test is = ap (λ (a : Actor). a.step) is

pub commits : (plan : PlanView) (flows : List (List ℤ)) (s new : ClusterState) → IsReady plan flows s Commit → MovesOn plan s new
    → Acts plan.kernel (turn_by plan flows (code_of plan s.actor) (actor_of s) Commit) CommitDone s new Nothing
commits plan flows s new ready moves =
    let last : suc s.step ≡ length (code_of plan s.actor).steps =
    commit_last plan ready.plan_runs.accepted s.actor (code_of plan s.actor) (coded plan s.actor ready.may.state.actor) s.step ready.step ready.at ready.does in
    let first : new.step ≡ 0 = at_first (length (code_of plan s.actor).steps) s new (nat_lt (s.step + 1) (length (code_of plan s.actor).steps)) last refl moves.actor in
    (record { answers = refl; is = moves.actor; asks = refl }, ap (reaction_in plan.kernel) (moves.last first))
