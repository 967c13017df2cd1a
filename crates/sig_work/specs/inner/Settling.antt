-- The settling of links, whose ends the members of shares give up one after another.
use Rattle.std.specs.Prelude.{◌≡◌, ◌≢◌, ◌<◌, ◌≤◌}
use Rattle.sig_work.specs.Prelude.{ℕ, List, length, slice_get, None, Some, IsSettled, OfOneLink, Inlet, Outlet, LinkInfo}
use Rattle.sig_work.specs.inner.Among.{Is, IsAmong}
use Rattle.sig_work.specs.declared.ends.LinkEnds.{LinkEnds}
use Rattle.sig_work.specs.declared.member.Member.{Member}
use Rattle.sig_work.specs.declared.share.Share.{Share}

-- the ends of a link that its writer and its reader have are of one link
abbrev pub IsLinked : ℕ → LinkInfo → List Share → Type 0
IsLinked link info shares = Is shares info.writer (λ writer. Is shares info.reader (λ reader.
    (put : Inlet) (take : Outlet) → slice_get writer.ends.puts.items link ≡ Some (Some put) → slice_get reader.ends.takes.items link ≡ Some (Some take)
    → OfOneLink put take))

-- the ends of a link were settled
abbrev pub IsSettledLink : List Share → ℕ → LinkInfo → Type 0
IsSettledLink shares link info = Is shares info.writer (λ writer. Is shares info.reader (λ reader.
    (put : Inlet) (take : Outlet) → slice_get writer.ends.puts.items link ≡ Some (Some put) → slice_get reader.ends.takes.items link ≡ Some (Some take)
    → IsSettled put take))

-- so were those of the first links
abbrev pub AreSettledBelow : ℕ → List LinkInfo → List Share → Type 0
AreSettledBelow bound links shares = (link : ℕ) (info : LinkInfo) → link < bound → slice_get links link ≡ Some info → IsSettledLink shares link info

-- Ends stay, those that put of some links, and those that take of some.
pub record AreLeftEnds (Puts Takes : ℕ → Type 0) (old new : LinkEnds) : Type 0 where
  pub puts_count : length new.puts.items ≡ length old.puts.items
  pub takes_count : length new.takes.items ≡ length old.takes.items
  pub puts : (link : ℕ) → Puts link → slice_get new.puts.items link ≡ slice_get old.puts.items link
  pub takes : (link : ℕ) → Takes link → slice_get new.takes.items link ≡ slice_get old.takes.items link

-- so does all else of a member
pub record IsLeftMember (Puts Takes : ℕ → Type 0) (old new : Member) : Type 0 where
  pub number : new.number ≡ old.number
  pub state : new.state ≡ old.state
  pub ending : new.ending ≡ old.ending
  pub ends : AreLeftEnds Puts Takes old.ends new.ends

-- and of a share
pub record IsLeftShare (Puts Takes : ℕ → Type 0) (old new : Share) : Type 0 where
  pub seat : new.seat ≡ old.seat
  pub count : length new.members.items ≡ length old.members.items
  pub each : (number : ℕ) (before : Member) → slice_get old.members.items number ≡ Some before
      → (after : Member) × (slice_get new.members.items number ≡ Some after) × IsLeftMember Puts Takes before after

pub record AreLeft (Puts Takes : ℕ → Type 0) (old new : List Share) : Type 0 where
  pub count : length new ≡ length old
  pub each : (at : ℕ) (before : Share) → slice_get old at ≡ Some before
      → (after : Share) × (slice_get new at ≡ Some after) × IsLeftShare Puts Takes before after

-- all links, and all but one
abbrev pub Each : ℕ → Type 0
Each link = Unit {0}

abbrev pub But : ℕ → ℕ → Type 0
But link other = other ≢ link

-- the links from one on
abbrev pub From : ℕ → ℕ → Type 0
From link other = link ≤ other

-- each member has room for the ends of a link
abbrev pub HaveRoomFor : ℕ → List Share → Type 0
HaveRoomFor link shares = (at number : ℕ) (share : Share) (m : Member) → slice_get shares at ≡ Some share → slice_get share.members.items number ≡ Some m
    → (link < length m.ends.puts.items) × (link < length m.ends.takes.items)

-- the member k had this end of a link
pub record IsPutOf (shares : List Share) (k link : ℕ) (put : Inlet) : Type 0 where
  pub member : Member
  pub among : IsAmong shares k member
  pub is : slice_get member.ends.puts.items link ≡ Some (Some put)

pub record IsTakeOf (shares : List Share) (k link : ℕ) (take : Outlet) : Type 0 where
  pub member : Member
  pub among : IsAmong shares k member
  pub is : slice_get member.ends.takes.items link ≡ Some (Some take)

-- the member k, if there is one, had none
abbrev pub HasNoPut : List Share → ℕ → ℕ → Type 0
HasNoPut shares k link = Is shares k (λ m. slice_get m.ends.puts.items link ≡ Some None)

abbrev pub HasNoTake : List Share → ℕ → ℕ → Type 0
HasNoTake shares k link = Is shares k (λ m. slice_get m.ends.takes.items link ≡ Some None)
