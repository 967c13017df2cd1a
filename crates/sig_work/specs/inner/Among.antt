-- Where the members of shares stand.
use Rattle.std.specs.Prelude.{◌≡◌, ◌≤◌, ◌==◌, ℕ, List, count_by, sum_by, slice_get, Some}
use Rattle.sig_work.specs.declared.finding.Spot.{Spot}
use Rattle.sig_work.specs.declared.member.Member.{Member}
use Rattle.sig_work.specs.declared.share.Share.{Share}

-- where a member stands among the shares
pub record IsAmong (shares : List Share) (k : ℕ) (m : Member) : Type 0 where
  pub at : ℕ
  pub number : ℕ
  pub share : Share
  pub there : slice_get shares at ≡ Some share
  pub is : slice_get share.members.items number ≡ Some m
  pub numbered : m.number ≡ k

-- how many members of a share have a number, and of several shares
abbrev pub times_in : ℕ → Share → ℕ
times_in k share = count_by (λ m. m.number == k) share.members.items

abbrev pub times : ℕ → List Share → ℕ
times k shares = sum_by (λ share. times_in k share) shares

-- no number stands more than once
abbrev pub AreSingle : List Share → Type 0
AreSingle shares = (k : ℕ) → times k shares ≤ 1

-- what the actor k of shares is
abbrev pub Is : List Share → ℕ → (Member → Type 0) → Type 0
Is shares k Fact = (m : Member) → IsAmong shares k m → Fact m

-- a member of this number stands at a spot
pub record StandsAt (shares : List Share) (k : ℕ) (spot : Spot) : Type 0 where
  pub member : Member
  pub share : Share
  pub there : slice_get shares spot.share ≡ Some share
  pub is : slice_get share.members.items spot.member ≡ Some member
  pub numbered : member.number ≡ k

-- no member has this number
abbrev pub HasNone : List Share → ℕ → Type 0
HasNone shares k = (m : Member) → IsAmong shares k m → ⊥

-- the same in one share
pub record StandsIn (share : Share) (k number : ℕ) : Type 0 where
  pub member : Member
  pub is : slice_get share.members.items number ≡ Some member
  pub numbered : member.number ≡ k

abbrev pub HasNoneIn : Share → ℕ → Type 0
HasNoneIn share k = (number : ℕ) (m : Member) → slice_get share.members.items number ≡ Some m → m.number ≡ k → ⊥
