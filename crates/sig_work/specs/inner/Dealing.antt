-- The dealing of actors to shares, step by step.
use Rattle.std.specs.Prelude.{◌≡◌, ◌≢◌, ◌<◌, ◌≤◌, ◌+◌, ◌-◌, ◌%◌, ◌==◌, ◌||◌, ◌⊎◌, ◌∷◌, ◌++◌, if◌then◌else◌}
use Rattle.sig_work.specs.Prelude.{ℕ, ℤ, List, [], length, slice_get, sum_by, vec_capacity, None, Some, no_place, IsSeatOf, parts, recorded, Halt, OfOneLink, put_capacity, Inlet, Outlet, opening_actor, PlanView, LinkInfo, IsStateOf, actor_of}
use Rattle.sig_work.specs.inner.Among.{times}
use Rattle.sig_work.specs.Ends.{HasNoEnds, sent_of, taken_of}
use Rattle.sig_work.specs.inner.Settling.{But, Each, IsLeftMember}
use Rattle.sig_work.specs.declared.member.Member.{Member}
use Rattle.sig_work.specs.declared.share.Share.{Share}

-- ---- members

-- the actor k at the opening, its ends aside
pub record IsOpened (plan : PlanView) (flows : List (List ℤ)) (limit k : ℕ) (m : Member) : Type 0 where
  pub number : m.number ≡ k
  pub state : IsStateOf plan flows m.state
  pub opening : actor_of m.state ≡ opening_actor plan.kernel
  pub actor : m.state.actor ≡ k
  pub limit_is : m.state.limit ≡ limit
  pub running : m.ending ≡ None

-- the first actors of a plan, without links
pub record AreOpened (plan : PlanView) (flows : List (List ℤ)) (limit count : ℕ) (members : List Member) : Type 0 where
  pub count_is : length members ≡ count
  pub each : (k : ℕ) (m : Member) → slice_get members k ≡ Some m → IsOpened plan flows limit k m
  pub ends : (k : ℕ) (m : Member) → slice_get members k ≡ Some m → HasNoEnds (length plan.links) m.ends

-- ---- their links

-- a member got an end, and the others stayed
pub record HasGivenPut (old new : List Member) (writer link : ℕ) (put : Inlet) : Type 0 where
  pub count : length new ≡ length old
  pub others : (k : ℕ) → k ≢ writer → slice_get new k ≡ slice_get old k
  pub here : (before : Member) → slice_get old writer ≡ Some before
      → (after : Member) × (slice_get new writer ≡ Some after) × IsLeftMember (But link) Each before after × (slice_get after.ends.puts.items link ≡ Some (Some put))

pub record HasGivenTake (old new : List Member) (reader link : ℕ) (take : Outlet) : Type 0 where
  pub count : length new ≡ length old
  pub others : (k : ℕ) → k ≢ reader → slice_get new k ≡ slice_get old k
  pub here : (before : Member) → slice_get old reader ≡ Some before
      → (after : Member) × (slice_get new reader ≡ Some after) × IsLeftMember Each (But link) before after × (slice_get after.ends.takes.items link ≡ Some (Some take))

-- the writer and the reader of a link have its ends
pub record IsJoinedLink (capacity : ℕ) (members : List Member) (link : ℕ) (info : LinkInfo) : Type 0 where
  pub writer : Member
  pub reader : Member
  pub put : Inlet
  pub take : Outlet
  pub writes : slice_get members info.writer ≡ Some writer
  pub reads : slice_get members info.reader ≡ Some reader
  pub has_put : slice_get writer.ends.puts.items link ≡ Some (Some put)
  pub has_take : slice_get reader.ends.takes.items link ≡ Some (Some take)
  pub one : OfOneLink put take
  pub capacity_is : put_capacity put ≡ capacity

-- a member is as it was, but for its ends, of which none has an item
pub record IsSameBare (links : ℕ) (old new : Member) : Type 0 where
  pub number : new.number ≡ old.number
  pub state : new.state ≡ old.state
  pub ending : new.ending ≡ old.ending
  pub puts : length new.ends.puts.items ≡ links
  pub takes : length new.ends.takes.items ≡ links
  pub sent_none : (link : ℕ) → sent_of new.ends link ≡ []
  pub taken_none : (link : ℕ) → taken_of new.ends link ≡ []

-- the first links are joined
pub record AreJoined (links : List LinkInfo) (capacity bound : ℕ) (old new : List Member) : Type 0 where
  pub count : length new ≡ length old
  pub each : (k : ℕ) (before : Member) → slice_get old k ≡ Some before → (after : Member) × (slice_get new k ≡ Some after) × IsSameBare (length links) before after
  pub joined : (link : ℕ) (info : LinkInfo) → link < bound → slice_get links link ≡ Some info → IsJoinedLink capacity new link info

-- ---- shares

-- so many shares with a seat each and room for so many members, of which there is none
pub record AreSeated (word : Halt) (count room : ℕ) (shares : List Share) : Type 0 where
  pub count_is : length shares ≡ count
  pub none : (at : ℕ) (share : Share) → slice_get shares at ≡ Some share → share.members.items ≡ []
  pub room_is : (at : ℕ) (share : Share) → slice_get shares at ≡ Some share → room ≤ vec_capacity share.members
  pub seat : (at : ℕ) (share : Share) → slice_get shares at ≡ Some share → IsSeatOf word share.seat × (recorded share.seat ≡ no_place)
  pub parts_are : sum_by (λ share. parts share.seat) shares ≡ count

-- the number of the share of the member k, of so many that are served and one more
abbrev pub share_for : ℕ → ℕ → ℕ → ℕ
share_for served last k = if (k == last) || (served == 0) then served else k % served

-- each share has room for so many members more
abbrev pub HaveRoom : ℕ → List Share → Type 0
HaveRoom more shares = (at : ℕ) (share : Share) → slice_get shares at ≡ Some share → length share.members.items + more ≤ vec_capacity share.members

-- members stand by their numbers
abbrev pub AreNumbered : List Member → Type 0
AreNumbered members = (k : ℕ) (m : Member) → slice_get members k ≡ Some m → m.number ≡ k

-- a share got a member, and the others stayed
pub record HasGiven (old new : List Share) (at : ℕ) (member : Member) : Type 0 where
  pub count : length new ≡ length old
  pub others : (other : ℕ) → other ≢ at → slice_get new other ≡ slice_get old other
  pub here : (before : Share) → slice_get old at ≡ Some before
      → (after : Share) × (slice_get new at ≡ Some after) × (after.seat ≡ before.seat) × (after.members.items ≡ before.members.items ++ member ∷ [])
      × (vec_capacity after.members ≡ vec_capacity before.members)

-- seats stay
pub record HaveSameSeats (old new : List Share) : Type 0 where
  pub count : length new ≡ length old
  pub each : (at : ℕ) (before : Share) → slice_get old at ≡ Some before → (after : Share) × (slice_get new at ≡ Some after) × (after.seat ≡ before.seat)

-- Members from a number on were handed out to shares: each is counted once more, and stands in its share.
pub record AreHandedFrom (bound : ℕ) (members : List Member) (old new : List Share) : Type 0 where
  pub seats : HaveSameSeats old new
  pub once : (k : ℕ) → bound ≤ k → k < length members → times k new ≡ times k old + 1
  pub others : (k : ℕ) → (k < bound) ⊎ (length members ≤ k) → times k new ≡ times k old
  pub placed : (at number : ℕ) (share : Share) (m : Member) → slice_get new at ≡ Some share → slice_get share.members.items number ≡ Some m
      → ((before : Share) × (slice_get old at ≡ Some before) × (slice_get before.members.items number ≡ Some m))
      ⊎ ((slice_get members m.number ≡ Some m) × (at ≡ share_for (length old - 1) (length members - 1) m.number))

abbrev pub AreHanded : List Member → List Share → List Share → Type 0
AreHanded members old new = AreHandedFrom 0 members old new
