-- Two states that are reached have a union, which is reached from both.
use Rattle.sig_system_laws.proofs.Common.{◌≡◌, ◌≤◌, ◌++◌, ◌⊎◌, inl, inr, ℕ, [], ◌∷◌, length, length-append, refl, ap, sym, subst, ◌∙◌, arith, eqb_tells, if◌then◌else◌, Instant, IsPrefixOf, Trace, one_begins_the_other, prefix_length, prefix_of_prefix, same_by_prefixes, Bounded, IsReaction, remembered, ◌<◌, AreAccepted, Begins, Given, IsEnabled, IsReached, IsReachedFrom, State, TakesFrom, carried, committed, start}
use Rattle.sig_system_laws.specs.Systems as systems
use Rattle.sig_system_laws.proofs.Prefixes.{itself, none_between}
use Rattle.sig_system_laws.proofs.Reactions.{IsRun, one_of_two}
use Rattle.sig_system_laws.proofs.Reached.{at_each, at_own, fine, grown, grows_on, longer_run, reached_on, still_there}

-- what each program did in the union of two states is what it did in one of them, and each of both begins it
pub record IsUnion (s t u : State) : Type 0 where
  pub left : Begins s u
  pub right : Begins t u
  pub one : (k : ℕ) → (u k ≡ s k) ⊎ (u k ≡ t k)

within_union : (s t u v : State) → IsUnion s t u → Begins s v → Begins t v → (k : ℕ) → IsPrefixOf (u k) (v k)
within_union s t u v union left right k = elim (union.one k) [
  | inl e ↦ subst (λ list. IsPrefixOf list (v k)) (sym e) (left k)
  | inr e ↦ subst (λ list. IsPrefixOf list (v k)) (sym e) (right k)
]

pub union_once : (s t u v : State) → IsUnion s t u → IsUnion t s v → u ≡ v
union_once s t u v a b = λ i k. same_by_prefixes (u k) (v k) (within_union s t u v a b.right b.left k) (within_union t s v u b a.right a.left k) i

-- what holds of both longer traces, and of all others, holds of both states
at_both : (s u : State) (k : ℕ) (x : Instant) (P : ℕ → Trace → Trace → Type 0) → P k (s k ++ x ∷ []) (u k ++ x ∷ []) → ((j : ℕ) → P j (s j) (u j))
    → (j : ℕ) → P j (committed s k x j) (committed u k x j)
at_both s u k x P own others j = elim (eqb_tells j k) [
  | inl e ↦ subst (λ b. P j (if b then s j ++ x ∷ [] else s j) (if b then u j ++ x ∷ [] else u j)) (sym e.0) (subst (λ n. P n (s n ++ x ∷ []) (u n ++ x ∷ [])) (sym e.1) own)
  | inr e ↦ subst (λ b. P j (if b then s j ++ x ∷ [] else s j) (if b then u j ++ x ∷ [] else u j)) (sym e.0) (others j)
]

not_shorter : (s : Trace) (x : Instant) (u : Trace) → IsPrefixOf (s ++ x ∷ []) u → u ≡ s → ⊥
not_shorter s x u begins e =
    let le : length (s ++ x ∷ []) ≤ length u = prefix_length (s ++ x ∷ []) u begins in
    let same : length u ≡ length s = ap length e in
    omega (arith, le, same, length-append s (x ∷ []))

pub from_start : (t : State) → IsUnion start t t
from_start t = record { left = λ k. (t k, refl); right = λ k. itself (t k); one = λ k. inr refl }

-- What may bound the events, `Room`, stays as long as the others go on; `Path` are the states that are reached from t by such events.
module _ (given : Given) (accepted : AreAccepted given.system) (Room : State → ℕ → Instant → Type 0) (keeps : (s u : State) (k : ℕ) (x : Instant) → Begins s u → u k ≡ s k → Room s k x → Room u k x) (t : State) (Path : State → Type 0)
    (goes : (u : State) (k : ℕ) (x : Instant) → Path u → IsEnabled given u k x → Room u k x → Path (committed u k x)) (reaches : (u : State) → Path u → IsReached given u) where
  -- such a state that is the union of s and t
  abbrev pub Joined : State → Type 0
  Joined s = (u : State) × Path u × IsUnion s t u

  -- one more event
  pub more : (s u : State) (k : ℕ) (x : Instant) → IsReached given s → IsEnabled given s k x → Room s k x → Path u → IsUnion s t u → Joined (committed s k x)
  more s u k x reached_s event room from union =
      let kernel = event.kernel in
      let reached_u : IsReached given u = reaches u from in
      let own = fine given u reached_u k kernel event.program in
      let longer : IsRun kernel (s k ++ x ∷ []) = longer_run given s (fine given s reached_s) k x event in
      let there : TakesFrom kernel (carried given u k) (s k ++ x ∷ []) = still_there given s u union.left k kernel (s k ++ x ∷ []) event.there in
      let good = accepted k kernel event.program in
      elim (one_of_two kernel good.0 good.1 (carried given u k) (s k ++ x ∷ []) (u k) longer own.run there own.took) [
        | inl begins ↦ did begins
        | inr ends ↦ elim (none_between (s k) (u k) x (union.left k) ends) [
          | inl begins ↦ did begins
          | inr same ↦ does same there
        ]
      ] where
        did : IsPrefixOf (s k ++ x ∷ []) (u k) → Joined (committed s k x)
        did begins =
            let own : (u k ≡ s k ++ x ∷ []) ⊎ (u k ≡ t k) = elim (union.one k) [
              | inl e ↦ absurd (not_shorter (s k) x (u k) begins e)
              | inr e ↦ inr e
            ] in (
              u,
              from,
              record {
                left = at_each s k x (λ j trace. IsPrefixOf trace (u j)) begins union.left;
                right = union.right;
                one = at_each s k x (λ j trace. (u j ≡ trace) ⊎ (u j ≡ t j)) own union.one;
              },
            )

        does : u k ≡ s k → TakesFrom event.kernel (carried given u k) (s k ++ x ∷ []) → Joined (committed s k x)
        does same there =
            let now : u k ++ x ∷ [] ≡ s k ++ x ∷ [] = ap (λ list. list ++ x ∷ []) same in
            let v : State = committed u k x in
            let own : IsPrefixOf (s k ++ x ∷ []) (v k) = subst (λ list. IsPrefixOf list (v k)) (at_own u k x ∙ now) (itself (v k)) in (
              v,
              goes u k x from (record {
                kernel = event.kernel;
                program = event.program;
                within = subst (λ list. length list < given.limit k) (sym same) event.within;
                reacts = subst (λ list. IsReaction Bounded event.kernel (remembered list) x) (sym same) event.reacts;
                speaks = event.speaks;
                there = subst (TakesFrom event.kernel (carried given u k)) (sym now) there;
              }) (keeps s u k x union.left same room),
              record {
                left = at_each s k x (λ j trace. IsPrefixOf trace (v j)) own (λ j. prefix_of_prefix (s j) (u j) (v j) (union.left j) (grown u k x j));
                right = λ j. prefix_of_prefix (t j) (u j) (v j) (union.right j) (grown u k x j);
                one = at_both s u k x (λ j a b. (b ≡ a) ⊎ (b ≡ t j)) (inl now) union.one;
              },
            )

module _ (given : Given) (accepted : AreAccepted given.system) where
  joined : (s t : State) → IsReached given s → IsReached given t → (u : State) × IsReachedFrom given t u × IsUnion s t u
  joined s t systems.stays reached = (t, systems.stays, from_start t)
  joined v t (systems.goes_on s k x before event) reached =
      let earlier = joined s t before reached in
      more given accepted (λ s k x. Unit {0}) (λ s u k x begins same room. room) t (IsReachedFrom given t) (λ u k x path event room. systems.goes_on u k x path event) (λ u path. reached_on given start t u reached path)
      s earlier.0 k x before event tt earlier.1 earlier.2

  pub join : (s t : State) → IsReached given s → IsReached given t → (u : State) × IsReachedFrom given s u × IsReachedFrom given t u
  join s t a b =
      let one = joined s t a b in
      let other = joined t s b a in
      let same : one.0 ≡ other.0 = union_once s t one.0 other.0 one.2 other.2 in
      (one.0, subst (IsReachedFrom given s) (sym same) other.1, one.1)

  pub one_order : (s t : State) → IsReached given s → IsReached given t → (k : ℕ) → IsPrefixOf (s k) (t k) ⊎ IsPrefixOf (t k) (s k)
  one_order s t a b k =
      let u = join s t a b in
      one_begins_the_other (s k) (t k) (u.0 k) (grows_on given s u.0 u.1 k) (grows_on given t u.0 u.2 k)
