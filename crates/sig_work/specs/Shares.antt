-- What the shares of a run hold.
use Rattle.std.specs.Prelude.{◌≡◌, ◌≢◌, ◌⊎◌, ◌∷◌, ◌++◌}
use Rattle.sig_work.specs.Prelude.{ℕ, ℤ, true, List, [], length, min, slice_get, Some, no_place, IsSameSeat, IsSeatOf, recorded, seen, Halt, Given, reactions_text, Reaction, PlanView, place_of}
use Rattle.sig_work.specs.Members.{HasDone, IsBehindSeen, IsSameMember, commits_of, failure_in, is_collector, run_of, word_of}
use Rattle.sig_work.specs.declared.member.Ending.TheVariants.{Faulted}
use Rattle.sig_work.specs.declared.member.Member.{Member}
use Rattle.sig_work.specs.declared.share.Share.{Share}

-- the least word of the places at which members failed, or none
abbrev pub least_failed : List Member → ℕ
least_failed [] = no_place
least_failed (m ∷ ms) = min (word_of (failure_in m.ending)) (least_failed ms)

-- a seat has recorded where its members failed, and members that a look ended are behind a word that it has seen
pub record HasSeat (word : Halt) (share : Share) : Type 0 where
  pub seat : IsSeatOf word share.seat
  pub recorded : recorded share.seat ≡ least_failed share.members.items
  pub behind : (number : ℕ) (m : Member) → slice_get share.members.items number ≡ Some m → IsBehindSeen (seen share.seat) m.ending (place_of m.state)

-- the members of a share are what their own steps leave, where the collector committed these reactions
abbrev pub HaveDone : Given → List Reaction → Share → Type 0
HaveDone given committed share = (number : ℕ) (m : Member) → slice_get share.members.items number ≡ Some m → HasDone given (commits_of given committed m) m

-- A share amid its service.
pub record IsServing (given : Given) (word : Halt) (committed : List Reaction) (share : Share) : Type 0 where
  pub done : HaveDone given committed share
  pub seat : HasSeat word share

-- so are all of several
abbrev pub AreServing : Given → Halt → List Reaction → List Share → Type 0
AreServing given word committed shares = (number : ℕ) (share : Share) → slice_get shares number ≡ Some share → IsServing given word committed share

-- every member of a share has ended
abbrev pub AllEnded : Share → Type 0
AllEnded share = (number : ℕ) (m : Member) → slice_get share.members.items number ≡ Some m → m.state.ended ≡ true

abbrev pub HaveEnded : List Share → Type 0
HaveEnded shares = (number : ℕ) (share : Share) → slice_get shares number ≡ Some share → AllEnded share

-- the collector is a member of a share
abbrev pub HasCollector : Given → Share → Type 0
HasCollector given share = (number : ℕ) × (m : Member) × (slice_get share.members.items number ≡ Some m) × (is_collector given m ≡ true)

abbrev pub HaveCollector : Given → List Share → Type 0
HaveCollector given shares = (number : ℕ) × (share : Share) × (slice_get shares number ≡ Some share) × HasCollector given share

-- both shares have the same actors with the ends of the same links, and seats of one word with as many parts
pub record IsSameShare (old new : Share) : Type 0 where
  pub count : length new.members.items ≡ length old.members.items
  pub members : (number : ℕ) (before : Member) → slice_get old.members.items number ≡ Some before
      → (after : Member) × (slice_get new.members.items number ≡ Some after) × IsSameMember before after
  pub seats : IsSameSeat old.seat new.seat

pub record AreSameShares (old new : List Share) : Type 0 where
  pub count : length new ≡ length old
  pub each : (number : ℕ) (before : Share) → slice_get old number ≡ Some before → (after : Share) × (slice_get new number ≡ Some after) × IsSameShare before after

-- at most one member of a share is the collector
abbrev pub HasOneCollector : Given → Share → Type 0
HasOneCollector given share = (number other : ℕ) (m n : Member) → slice_get share.members.items number ≡ Some m → slice_get share.members.items other ≡ Some n
    → is_collector given m ≡ true → is_collector given n ≡ true → number ≡ other

-- and of several shares one at most has it
pub record HaveOneCollector (given : Given) (shares : List Share) : Type 0 where
  pub within : (number : ℕ) (share : Share) → slice_get shares number ≡ Some share → HasOneCollector given share
  pub across : (number other : ℕ) (a b : Share) → slice_get shares number ≡ Some a → slice_get shares other ≡ Some b
      → HasCollector given a → HasCollector given b → number ≡ other

-- Shares of one run: they are amid their service, and at most one of their members is the collector.
pub record AreOfRun (given : Given) (word : Halt) (committed : List Reaction) (shares : List Share) : Type 0 where
  pub serving : AreServing given word committed shares
  pub one : HaveOneCollector given shares

-- Reactions were committed behind others, by the collector where it is among the shares, and a sink took their text.
pub record Commits {S : Type 0} (took : S → List ℕ → S → Type 0) (given : Given) (shares : List Share) (before after : S) (old new : List Reaction) : Type 0 where
  pub more : List Reaction
  pub joined : new ≡ old ++ more
  pub mine : (more ≡ []) ⊎ HaveCollector given shares
  pub text : took before (reactions_text given.plan.kernel more) after

-- ---- what is promised of a service

-- shares are those of some run of a plan over flows, amid their service
abbrev pub AreOfSomeRun : PlanView → List (List ℤ) → Halt → List Share → Type 0
AreOfSomeRun plan flows word shares = (capacity : ℕ) × (limit : ℕ) × (committed : List Reaction) × AreOfRun (run_of plan flows capacity limit) word committed shares

-- no actor was ended by a fault of the sink
abbrev pub NoneFaulted : List Share → Type 0
NoneFaulted shares = (at : ℕ) (share : Share) → slice_get shares at ≡ Some share
    → (number : ℕ) (m : Member) → slice_get share.members.items number ≡ Some m → m.ending ≢ Some Faulted

-- Shares were served to their end: each actor is what its own steps leave, and the sink took the text of what the collector
-- committed.
pub record WereServed {S : Type 0} (took : S → List ℕ → S → Type 0) (given : Given) (word : Halt) (old new : List Share) (before after : S) (committed : List Reaction) : Type 0 where
  pub behind : List Reaction
  pub serving : AreServing given word behind new
  pub unfaulted : NoneFaulted old → NoneFaulted new
  pub commits : Commits took given new before after committed behind

-- Shares were served up to a fault of the sink: so is each actor, but for what ended it, the sink took as much, and each seat has
-- recorded the place (0, 0).
pub record WereStopped {S : Type 0} (took : S → List ℕ → S → Type 0) (given : Given) (word : Halt) (new : List Share) (before after : S) (committed : List Reaction) : Type 0 where
  pub behind : List Reaction
  pub done : (at : ℕ) (share : Share) → slice_get new at ≡ Some share → HaveDone given behind share
  pub seats : (at : ℕ) (share : Share) → slice_get new at ≡ Some share → IsSeatOf word share.seat × (recorded share.seat ≡ 0)
  pub commits : Commits took given new before after committed behind
