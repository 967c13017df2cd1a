-- What the turns and rounds of a service do.
use Rattle.std.specs.Prelude.{◌≡◌, ◌≤◌, ◌<◌, ◌⊎◌, ◌++◌}
use Rattle.sig_work.specs.Prelude.{ℕ, ℤ, true, List, [], length, min, slice_get, Some, packed, IsSameSeat, IsSeatOf, recorded, seen, Halt, HaltSeat, Kernel, Given, reactions_text, Reaction, PlanView, place_of}
use Rattle.sig_work.specs.Members.{HasDone, IsBehindSeen, IsSameMember, failure_in, is_collector, run_of, word_of}
use Rattle.sig_work.specs.Shares.{AllEnded, AreOfRun, HasCollector, HasOneCollector, HaveCollector, IsServing}
use Rattle.sig_work.specs.declared.member.Ending.TheVariants.{Faulted}
use Rattle.sig_work.specs.declared.member.Member.{Member}
use Rattle.sig_work.specs.declared.share.Share.{Share}

-- ---- what stays

-- A member stays the same actor and stays ended, and no fault of the sink ends it.
pub record KeepsMember (old new : Member) : Type 0 where
  pub same : IsSameMember old new
  pub ended : old.state.ended ≡ true → new.state.ended ≡ true
  pub unfaulted : new.ending ≡ Some Faulted → old.ending ≡ Some Faulted

-- a seat stays the same, and the word that it has seen does not rise
pub record KeepsSeat (old new : HaltSeat) : Type 0 where
  pub same : IsSameSeat old new
  pub seen : seen new ≤ seen old

-- so do all members of a share, and of several
pub record KeepsShare (old new : Share) : Type 0 where
  pub count : length new.members.items ≡ length old.members.items
  pub members : (number : ℕ) (before : Member) → slice_get old.members.items number ≡ Some before
      → (after : Member) × (slice_get new.members.items number ≡ Some after) × KeepsMember before after
  pub seats : IsSameSeat old.seat new.seat

pub record KeepsShares (old new : List Share) : Type 0 where
  pub count : length new ≡ length old
  pub each : (number : ℕ) (before : Share) → slice_get old number ≡ Some before → (after : Share) × (slice_get new number ≡ Some after) × KeepsShare before after

-- ---- what has ended

-- the member of this number has ended
abbrev pub HasEndedAt : Share → ℕ → Type 0
HasEndedAt share number = (m : Member) → slice_get share.members.items number ≡ Some m → m.state.ended ≡ true

-- all members of the share of this number have
abbrev pub HaveEndedAt : List Share → ℕ → Type 0
HaveEndedAt shares number = (share : Share) → slice_get shares number ≡ Some share → AllEnded share

-- ---- what is done

-- A member amid its service, with the seat of its share, where the least word of the other members' failures is this.
pub record IsServed (given : Given) (word : Halt) (others : ℕ) (committed : List Reaction) (m : Member) (by : HaltSeat) : Type 0 where
  pub done : HasDone given committed m
  pub seat : IsSeatOf word by
  pub least : recorded by ≡ min others (word_of (failure_in m.ending))
  pub behind : IsBehindSeen (seen by) m.ending (place_of m.state)

-- A share of one run.
pub record IsOfRun (given : Given) (word : Halt) (committed : List Reaction) (share : Share) : Type 0 where
  pub serving : IsServing given word committed share
  pub one : HasOneCollector given share

-- Reactions were committed behind others, and a sink took their text: what is served is so with all of them, and where they are
-- not none, it has the collector.
pub record GoesOn {S : Type 0} (took : S → List ℕ → S → Type 0) (kernel : Kernel) (Serving : List Reaction → Type 0) (Collects : Type 0) (committed : List Reaction) (before after : S) : Type 0 where
  pub more : List Reaction
  pub serving : Serving (committed ++ more)
  pub mine : (more ≡ []) ⊎ Collects
  pub text : took before (reactions_text kernel more) after

-- A call served a member, whichever run it is of: it is amid its service before, and afterwards.
abbrev pub ServesMember : {S : Type 0} → (S → List ℕ → S → Type 0) → PlanView → List (List ℤ) → Halt → Member → HaltSeat → Member → HaltSeat → S → S → Type 0
ServesMember took plan flows word old by new now_by before after = (capacity limit others : ℕ) (committed : List Reaction)
    → IsServed (run_of plan flows capacity limit) word others committed old by
    → GoesOn took plan.kernel (λ all. IsServed (run_of plan flows capacity limit) word others all new now_by)
    (is_collector (run_of plan flows capacity limit) new ≡ true) committed before after

-- so for a share
abbrev pub ServesShare : {S : Type 0} → (S → List ℕ → S → Type 0) → PlanView → List (List ℤ) → Halt → Share → Share → S → S → Type 0
ServesShare took plan flows word old new before after = (capacity limit : ℕ) (committed : List Reaction)
    → IsOfRun (run_of plan flows capacity limit) word committed old
    → GoesOn took plan.kernel (λ all. IsOfRun (run_of plan flows capacity limit) word all new)
    (HasCollector (run_of plan flows capacity limit) new) committed before after

-- and for several
abbrev pub ServesShares : {S : Type 0} → (S → List ℕ → S → Type 0) → PlanView → List (List ℤ) → Halt → List Share → List Share → S → S → Type 0
ServesShares took plan flows word old new before after = (capacity limit : ℕ) (committed : List Reaction)
    → AreOfRun (run_of plan flows capacity limit) word committed old
    → GoesOn took plan.kernel (λ all. AreOfRun (run_of plan flows capacity limit) word all new)
    (HaveCollector (run_of plan flows capacity limit) new) committed before after

-- there is such a run
abbrev pub IsServedInSome : PlanView → List (List ℤ) → Halt → Member → HaltSeat → Type 0
IsServedInSome plan flows word m by =
    (capacity : ℕ) × (limit : ℕ) × (others : ℕ) × (committed : List Reaction) × IsServed (run_of plan flows capacity limit) word others committed m by

abbrev pub IsShareOfSome : PlanView → List (List ℤ) → Halt → Share → Type 0
IsShareOfSome plan flows word share =
    (capacity : ℕ) × (limit : ℕ) × (committed : List Reaction) × IsOfRun (run_of plan flows capacity limit) word committed share

-- ---- what a stop does

-- the next place of a member, and of each of several, is behind the place (0, 0)
abbrev pub IsPastZero : Member → Type 0
IsPastZero m = 0 < packed (place_of m.state)

abbrev pub ArePastZero : List Member → Type 0
ArePastZero members = (number : ℕ) (m : Member) → slice_get members number ≡ Some m → IsPastZero m

-- A member has stopped, if it had not ended, and is still what its own steps left.
pub record HasStopped (old new : Member) : Type 0 where
  pub same : IsSameMember old new
  pub ended : new.state.ended ≡ true
  pub done : (given : Given) (committed : List Reaction) → HasDone given committed old → HasDone given committed new

-- all members of a share have, and its seat has recorded the place (0, 0)
pub record ShareStopped (old new : Share) : Type 0 where
  pub count : length new.members.items ≡ length old.members.items
  pub members : (number : ℕ) (before : Member) → slice_get old.members.items number ≡ Some before
      → (after : Member) × (slice_get new.members.items number ≡ Some after) × HasStopped before after
  pub seats : IsSameSeat old.seat new.seat
  pub recorded : recorded new.seat ≡ 0

-- so have several
pub record SharesStopped (old new : List Share) : Type 0 where
  pub count : length new ≡ length old
  pub each : (number : ℕ) (before : Share) → slice_get old number ≡ Some before → (after : Share) × (slice_get new number ≡ Some after) × ShareStopped before after

-- the first elements of a list, so many of them, were changed as a relation says, and the others stay
pub record ChangedBelow {A : Type 0} (R : A → A → Type 0) (count : ℕ) (old new : List A) : Type 0 where
  pub length_stays : length new ≡ length old
  pub below : (number : ℕ) (before : A) → number < count → slice_get old number ≡ Some before → (after : A) × (slice_get new number ≡ Some after) × R before after
  pub above : (number : ℕ) → count ≤ number → slice_get new number ≡ slice_get old number
