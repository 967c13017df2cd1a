-- Two states that are reached over bounded links have a union, which is reached from both over these links.
use Rattle.sig_system_laws.proofs.Common.{◌≡◌, ◌≤◌, ◌++◌, ℕ, [], ◌∷◌, length, refl, ap, sym, subst, ◌∙◌, arith, slice_get, Instant, flow_of, prefix_length, AreAccepted, Begins, Given, IsEnabled, Output, State, committed, from_source, given_by, start, Capacity, HasRoom, IsReachedFromWithin, IsReachedWithin, IsStill}
use Rattle.sig_system_laws.specs.BoundedLinks as bounded
use Rattle.sig_system_laws.proofs.Bounds.{without_any, without_bounds}
use Rattle.sig_system_laws.proofs.Join.{IsUnion, from_start, more, union_once}
use Rattle.sig_system_laws.proofs.Prefixes.{flow_prefix}
use Rattle.sig_system_laws.proofs.Reached.{at_own, grows_on}

-- room stays as long as the others go on: they take more
keeps_room : (given : Given) (capacity : Capacity) (s u : State) (k : ℕ) (x : Instant) → Begins s u → u k ≡ s k → HasRoom given capacity s k x → HasRoom given capacity u k x
keeps_room given capacity s u k x begins same room output reader input link =
    let own : committed u k x k ≡ committed s k x k = at_own u k x ∙ ap (λ list. list ++ x ∷ []) same ∙ sym (at_own s k x) in
    let gives : length (from_source given (committed u k x) (Output k output)) ≡ length (from_source given (committed s k x) (Output k output)) =
    ap (λ trace. length (given_by (slice_get given.system.programs k) output trace)) own in
    let took : length (flow_of input (s reader)) ≤ length (flow_of input (u reader)) =
    prefix_length (flow_of input (s reader)) (flow_of input (u reader)) (flow_prefix input (s reader) (u reader) (begins reader)) in
    let had = room output reader input link in
    omega (arith, gives, took, had)

pub within_on : (given : Given) (capacity : Capacity) (r s t : State) → IsReachedFromWithin given capacity r s → IsReachedFromWithin given capacity s t → IsReachedFromWithin given capacity r t
within_on given capacity r s t reached bounded.stays = reached
within_on given capacity r s t reached (bounded.goes_on u k x before event room) = bounded.goes_on u k x (within_on given capacity r s u reached before) event room

-- no event leads on from a state in which the programs stand still
still_stays : (given : Given) (capacity : Capacity) (t u : State) → IsStill given capacity t → IsReachedFromWithin given capacity t u → u ≡ t
still_stays given capacity t u still bounded.stays = refl
still_stays given capacity t v still (bounded.goes_on u k x before event room) =
    let same : u ≡ t = still_stays given capacity t u still before in
    absurd (still k x (subst (λ z. IsEnabled given z k x) same event) (subst (λ z. HasRoom given capacity z k x) same room))

module _ (given : Given) (accepted : AreAccepted given.system) (capacity : Capacity) where
  joined_within : (s t : State) → IsReachedWithin given capacity s → IsReachedWithin given capacity t → (u : State) × IsReachedFromWithin given capacity t u × IsUnion s t u
  joined_within s t bounded.stays reached = (t, bounded.stays, from_start t)
  joined_within v t (bounded.goes_on s k x before event room) reached =
      let earlier = joined_within s t before reached in
      more given accepted (HasRoom given capacity) (keeps_room given capacity) t (IsReachedFromWithin given capacity t) (λ u k x path event room. bounded.goes_on u k x path event room)
      (λ u path. without_bounds given capacity u (within_on given capacity start t u reached path))
      s earlier.0 k x (without_bounds given capacity s before) event room earlier.1 earlier.2

  pub join_within : (s t : State) → IsReachedWithin given capacity s → IsReachedWithin given capacity t → (u : State) × IsReachedFromWithin given capacity s u × IsReachedFromWithin given capacity t u
  join_within s t a b =
      let one = joined_within s t a b in
      let other = joined_within t s b a in
      let same : one.0 ≡ other.0 = union_once s t one.0 other.0 one.2 other.2 in
      (one.0, subst (IsReachedFromWithin given capacity s) (sym same) other.1, one.1)

  module _ (s t : State) (reached : IsReachedWithin given capacity s) where
    pub all_begin_within : IsReachedWithin given capacity t → IsStill given capacity t → Begins s t
    all_begin_within reached' still =
        let u = join_within s t reached reached' in
        subst (Begins s) (still_stays given capacity t u.0 still u.2) (grows_on given s u.0 (without_any given capacity s u.0 u.1))

    pub one_still : IsStill given capacity s → IsReachedWithin given capacity t → IsStill given capacity t → s ≡ t
    one_still still reached' still' =
        let u = join_within s t reached reached' in
        sym (still_stays given capacity s u.0 still u.1) ∙ still_stays given capacity t u.0 still' u.2
