-- What one actor of a share has done.
use Rattle.std.specs.Prelude.{◌≡◌, ◌<◌, ◌≤◌, ◌+◌, ◌==◌, ◌∷◌, ◌++◌, if◌then◌else◌}
use Rattle.sig_work.specs.Prelude.{ℕ, ℤ, Bool, true, false, List, [], length, Option, None, Some, no_place, packed, Place, Actor, Given, Reaction, IsOwn, Own, PlanView, IsStateOf, actor_of, last_reaction, place_of, Acted, Commit, Failed as ActFailed, AtLimit as ActAtLimit, Stopped}
use Rattle.sig_work.specs.Ends.{AreSameEnds, HasEnds, sent_of, taken_of}
use Rattle.sig_work.specs.declared.member.Ending.{Ending}
use Rattle.sig_work.specs.declared.member.Ending.TheVariants.{Failed, Looked, AtLimit, Faulted}
use Rattle.sig_work.specs.declared.member.Member.{Member}

-- where an actor failed, if it did
abbrev pub failure_in : Option Ending → Option Place
failure_in None = None
failure_in (Some (Failed place)) = Some place
failure_in (Some Looked) = None
failure_in (Some AtLimit) = None
failure_in (Some Faulted) = None

-- the word of such a place
abbrev pub word_of : Option Place → ℕ
word_of None = no_place
word_of (Some place) = packed place

-- an actor as its own steps left it, before a look or a fault of the sink ended it
abbrev pub before_stop : Option Ending → Actor → Actor
before_stop None actor = actor
before_stop (Some (Failed place)) actor = actor
before_stop (Some AtLimit) actor = actor
before_stop (Some Looked) actor = record actor { ended = false }
before_stop (Some Faulted) actor = record actor { ended = false }

-- a member by itself, where these are the reactions that it committed
abbrev pub own_of : Member → List Reaction → Own
own_of m committed = record {
  actor = before_stop m.ending (actor_of m.state);
  sent = sent_of m.ends;
  taken = taken_of m.ends;
  committed = committed;
  failed = failure_in m.ending;
}

-- a running actor has no ending, and an ended one has one
abbrev pub EndsWith : Option Ending → Bool → Type 0
EndsWith None ended = ended ≡ false
EndsWith (Some ending) ended = ended ≡ true

-- what is told of the word by a seat that has seen this: an actor that a look ended is behind it
abbrev pub IsBehindSeen : ℕ → Option Ending → Place → Type 0
IsBehindSeen seen None place = Unit {0}
IsBehindSeen seen (Some (Failed p)) place = p ≡ place
IsBehindSeen seen (Some AtLimit) place = Unit {0}
IsBehindSeen seen (Some Looked) place = seen < packed place
IsBehindSeen seen (Some Faulted) place = Unit {0}

-- A member is the actor k of a run.
pub record IsMember (given : Given) (k : ℕ) (m : Member) : Type 0 where
  pub numbered : m.number ≡ k
  pub there : k < length given.plan.codes
  pub state : IsStateOf given.plan given.flows m.state
  pub actor : m.state.actor ≡ k
  pub limit : m.state.limit ≡ given.limit
  pub ends : HasEnds given.plan given.capacity k m.ends
  pub ending : EndsWith m.ending m.state.ended

-- And it is what its own steps leave.
pub record HasDone (given : Given) (committed : List Reaction) (m : Member) : Type 0 where
  pub member : IsMember given m.number m
  pub own : IsOwn given m.number (own_of m committed)

-- the member is the collector, which has the last code
abbrev pub is_collector : Given → Member → Bool
is_collector given m = m.number + 1 == length given.plan.codes

-- the collector committed these reactions, and another actor none
abbrev pub commits_of : Given → List Reaction → Member → List Reaction
commits_of given committed m = if is_collector given m then committed else []

-- both are one actor with the ends of the same links
pub record IsSameMember (old new : Member) : Type 0 where
  pub number : new.number ≡ old.number
  pub ends : AreSameEnds old.ends new.ends

-- ---- steps of a member

-- a run of this plan over these flows
abbrev pub run_of : PlanView → List (List ℤ) → ℕ → ℕ → Given
run_of plan flows capacity limit = record { plan = plan; flows = flows; capacity = capacity; limit = limit }

-- a member is one of some run of a plan over flows
abbrev pub IsOfSomeRun : PlanView → List (List ℤ) → Member → Type 0
IsOfSomeRun plan flows m = (capacity : ℕ) × (limit : ℕ) × (committed : List Reaction) × HasDone (run_of plan flows capacity limit) committed m

-- what a call of the member's step left, once an ending is noted
abbrev pub HasActedAs : Given → List Reaction → Acted → Member → Type 0
HasActedAs given committed Commit m = HasDone given (committed ++ last_reaction given.plan.kernel m.state ∷ []) m × (is_collector given m ≡ true)
HasActedAs given committed (ActFailed place) m =
    HasDone given committed (record m { ending = Some (Failed place) }) × (place ≡ place_of m.state) × (place.instant ≤ given.limit)
HasActedAs given committed ActAtLimit m = HasDone given committed (record m { ending = Some AtLimit })
HasActedAs given committed Stopped m = HasDone given committed m × (m.state.ended ≡ true)
HasActedAs given committed other m = HasDone given committed m
