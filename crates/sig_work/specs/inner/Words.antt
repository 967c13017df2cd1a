-- The failure word of all shares, and the cause that it names.
use Rattle.std.specs.Prelude.{◌≡◌, ◌<◌, ◌≤◌, ◌^◌, ◌+◌, ◌⊎◌}
use Rattle.sig_work.specs.Prelude.{ℕ, ℤ, List, sum_by, slice_get, Option, None, Some, no_place, packed, Place, IsSeatOf, parts, recorded, seen, Halt, HaltSeat, Core, cause_of, PlanView, Cause, actor_of, place_of}
use Rattle.sig_work.specs.inner.Among.{IsAmong}
use Rattle.sig_work.specs.Members.{failure_in, word_of}
use Rattle.sig_work.specs.declared.member.Member.{Member}
use Rattle.sig_work.specs.declared.share.Share.{Share}

-- a packed word is that of this place, or of none
abbrev pub IsWord : Option Place → ℕ → Type 0
IsWord None word = word ≡ no_place
IsWord (Some place) word = (packed place ≡ word) × (place.pos < 2 ^ 32) × (word < no_place)

-- A word is the least of the places at which some members failed, or that of no place; all their places have positions of 32 bits.
pub record IsLeastOf (Some_of : Member → Type 0) (word : ℕ) : Type 0 where
  pub within : word ≤ no_place
  pub positions : (m : Member) → Some_of m → (place_of m.state).pos < 2 ^ 32
  pub below : (m : Member) → Some_of m → word ≤ word_of (failure_in m.ending)
  pub met : (word ≡ no_place) ⊎ ((m : Member) × Some_of m × (word_of (failure_in m.ending) ≡ word))

-- a member is one of a share, of its first ones, or of the first shares
abbrev pub IsIn : Share → Member → Type 0
IsIn share m = (number : ℕ) × (slice_get share.members.items number ≡ Some m)

abbrev pub IsInFirst : ℕ → Share → Member → Type 0
IsInFirst bound share m = (number : ℕ) × (number < bound) × (slice_get share.members.items number ≡ Some m)

abbrev pub IsOfFirst : ℕ → List Share → Member → Type 0
IsOfFirst bound shares m = (at : ℕ) × (share : Share) × (at < bound) × (slice_get shares at ≡ Some share) × IsIn share m

-- so is it of all members of shares
abbrev pub IsLeastWord : List Share → ℕ → Type 0
IsLeastWord shares word = IsLeastOf (λ m. IsAmong shares m.number m) word

-- A word is the least that seats have recorded, and at most all that they have seen.
pub record IsClosed (shares : List Share) (word : ℕ) : Type 0 where
  pub met : (at : ℕ) × (share : Share) × (slice_get shares at ≡ Some share) × (recorded share.seat ≡ word)
  pub least : (at : ℕ) (share : Share) → slice_get shares at ≡ Some share → word ≤ recorded share.seat
  pub seen : (at : ℕ) (share : Share) → slice_get shares at ≡ Some share → word ≤ seen share.seat

-- a state has these actors, and no others
pub record HasActors (shares : List Share) (core : Core) : Type 0 where
  pub there : (k : ℕ) (m : Member) → IsAmong shares k m → slice_get core.actors k ≡ Some (actor_of m.state)
  pub none : (k : ℕ) → ((m : Member) → IsAmong shares k m → ⊥) → slice_get core.actors k ≡ None

-- a cause is what a word names, in each state that has these actors
abbrev pub NamesCause : PlanView → List (List ℤ) → List Share → ℕ → Cause → Type 0
NamesCause plan flows shares word cause = (core : Core) (place : Option Place) → HasActors shares core → IsWord place word → cause ≡ cause_of plan flows core place

-- all seats are of a word
abbrev pub AreSeatsOf : Halt → List Share → Type 0
AreSeatsOf word shares = (at : ℕ) (share : Share) → slice_get shares at ≡ Some share → IsSeatOf word share.seat

-- a seat was joined with those of these shares
pub record IsJoined (old new : HaltSeat) (shares : List Share) : Type 0 where
  pub parts_are : parts new ≡ parts old + sum_by (λ share. parts share.seat) shares
  pub met : (recorded new ≡ recorded old) ⊎ ((at : ℕ) × (share : Share) × (slice_get shares at ≡ Some share) × (recorded share.seat ≡ recorded new))
  pub least : (recorded new ≤ recorded old) × ((at : ℕ) (share : Share) → slice_get shares at ≡ Some share → recorded new ≤ recorded share.seat)
  pub seen_is : (seen new ≤ seen old) × ((at : ℕ) (share : Share) → slice_get shares at ≡ Some share → seen new ≤ seen share.seat)
