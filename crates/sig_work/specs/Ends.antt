-- What the link ends of an actor know of the links.
use Rattle.std.specs.Prelude.{◌≡◌, ◌<◌}
use Rattle.sig_work.specs.Prelude.{ℕ, ℤ, Bool, true, false, List, [], length, slice_get, Option, None, Some, filter, range_with_len, put_capacity, put_link, sent, take_link, taken, FoundEmpty, FoundFull, Inlet, Outlet, PlanView, LinkInfo, Items, Past}
use Rattle.std.proofs.Common.{refl}
use Rattle.sig_work.specs.declared.ends.LinkEnds.{LinkEnds}

-- what an end knows, where there is one
abbrev pub sent_by : Option (Option Inlet) → List ℤ
sent_by None = []
sent_by (Some None) = []
sent_by (Some (Some put)) = sent put

abbrev pub taken_by : Option (Option Outlet) → List ℤ
taken_by None = []
taken_by (Some None) = []
taken_by (Some (Some take)) = taken take

abbrev pub has_end : {A : Type 0} → Option (Option A) → Bool
has_end None = false
has_end (Some None) = false
has_end (Some (Some end)) = true

-- the numbers of the links of which an end is there
abbrev pub ends_in : {A : Type 0} → List (Option A) → List ℕ
ends_in ends = filter (λ link. has_end (slice_get ends link)) (range_with_len 0 (length ends))

-- by the numbers of links
abbrev pub sent_of : LinkEnds → Items
sent_of ends link = sent_by (slice_get ends.puts.items link)

abbrev pub taken_of : LinkEnds → Items
taken_of ends link = taken_by (slice_get ends.takes.items link)

abbrev pub past_of : LinkEnds → Past
past_of ends link = record { sent = sent_of ends link; taken = taken_of ends link }

-- the links to which it can push, and those from which it can pop
abbrev pub puts_of : LinkEnds → List ℕ
puts_of ends = ends_in ends.puts.items

abbrev pub takes_of : LinkEnds → List ℕ
takes_of ends = ends_in ends.takes.items

-- The end of a link was there, and found it full, or empty, at a step of the call that led from the one ends to the other.
pub record HasFoundFull (link : ℕ) (old new : LinkEnds) : Type 0 where
  pub before : Inlet
  pub after : Inlet
  pub was : slice_get old.puts.items link ≡ Some (Some before)
  pub is : slice_get new.puts.items link ≡ Some (Some after)
  pub found : FoundFull before after

pub record HasFoundEmpty (link : ℕ) (old new : LinkEnds) : Type 0 where
  pub before : Outlet
  pub after : Outlet
  pub was : slice_get old.takes.items link ≡ Some (Some before)
  pub is : slice_get new.takes.items link ≡ Some (Some after)
  pub found : FoundEmpty before after

-- room for so many links, of which none has an end here
pub record HasNoEnds (links : ℕ) (ends : LinkEnds) : Type 0 where
  pub puts : length ends.puts.items ≡ links
  pub takes : length ends.takes.items ≡ links
  pub no_put : (link : ℕ) → link < links → slice_get ends.puts.items link ≡ Some None
  pub no_take : (link : ℕ) → link < links → slice_get ends.takes.items link ≡ Some None

-- The actor k has the ends of the links that it writes and reads, each of this capacity.
pub record HasEnds (plan : PlanView) (capacity k : ℕ) (ends : LinkEnds) : Type 0 where
  pub puts : length ends.puts.items ≡ length plan.links
  pub takes : length ends.takes.items ≡ length plan.links
  pub writes : (link : ℕ) (info : LinkInfo) → slice_get plan.links link ≡ Some info → info.writer ≡ k
      → (put : Inlet) × (slice_get ends.puts.items link ≡ Some (Some put)) × (put_capacity put ≡ capacity)
  pub reads : (link : ℕ) (info : LinkInfo) → slice_get plan.links link ≡ Some info → info.reader ≡ k
      → (take : Outlet) × (slice_get ends.takes.items link ≡ Some (Some take))

-- the ends are of the same links
pub record AreSameEnds (old new : LinkEnds) : Type 0 where
  pub puts : length new.puts.items ≡ length old.puts.items
  pub takes : length new.takes.items ≡ length old.takes.items
  pub put : (link : ℕ) (before : Inlet) → slice_get old.puts.items link ≡ Some (Some before)
      → (after : Inlet) × (slice_get new.puts.items link ≡ Some (Some after)) × (put_link after ≡ put_link before) × (put_capacity after ≡ put_capacity before)
  pub take : (link : ℕ) (before : Outlet) → slice_get old.takes.items link ≡ Some (Some before)
      → (after : Outlet) × (slice_get new.takes.items link ≡ Some (Some after)) × (take_link after ≡ take_link before)

pub AreSameEnds-itself : (ends : LinkEnds) → AreSameEnds ends ends
AreSameEnds-itself ends = record {
  puts = refl;
  takes = refl;
  put = λ link before is. (before, is, refl, refl);
  take = λ link before is. (before, is, refl);
}

-- the end of a link that puts is here
abbrev pub HasPutAt : LinkEnds → ℕ → Type 0
HasPutAt ends link = (put : Inlet) × (slice_get ends.puts.items link ≡ Some (Some put))

-- The ends handed over what they held, or some of it: what was sent and taken is the same.
pub record HaveHandedOver (old new : LinkEnds) : Type 0 where
  pub same : AreSameEnds old new
  pub past : (link : ℕ) → past_of new link ≡ past_of old link
