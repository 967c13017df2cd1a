-- Where lesser actors rest, an event of an actor that changes the state is the first.
use Rattle.sig_interleaving.proofs.Common.{◌≡◌, ◌≤◌, ◌++◌, inl, inr, ℕ, true, List, [], ◌∷◌, subst, fold, at_most_or, AllFirst, IsFirst, actor_in, Shows, TellsChange, given_of, RestBelow, SeesNothing, Core, ModelCore, Given, IsEnabled, stepped, AllChange, Event, Act, Look}

-- an event is the first in each state in which a core is
abbrev pub ComesFirst : Core → Event → Type 0
ComesFirst c event = (m : ModelCore) → Shows m c → IsFirst (given_of c) m event

module _ (c : Core) (k : ℕ) (rest : RestBelow k c) where
  none_lesser : (m : ModelCore) → Shows m c → (other : Event) → IsEnabled (given_of c) m other → k ≤ actor_in other
  none_lesser m shows (Act i) enabled = elim (at_most_or k i) [ inl le ↦ le | inr lt ↦ absurd (enabled (rest i lt m shows).1) ]
  none_lesser m shows (Look i) enabled = elim (at_most_or k i) [ inl le ↦ le | inr lt ↦ absurd (enabled (rest i lt m shows).0) ]

  pub act_first : SeesNothing k c → TellsChange c (Act k) true → ComesFirst c (Act k)
  act_first sees changes m shows = record {
    changes = changes m shows;
    least = none_lesser m shows;
    look = λ i same enabled.
        let e : Act k ≡ Act i = same in
        let one : k ≡ i = cc in
        enabled (subst (λ n. stepped (given_of c) m (Look n) ≡ m) one (sees m shows));
  }

  pub look_first : TellsChange c (Look k) true → ComesFirst c (Look k)
  look_first changes m shows = record {
    changes = changes m shows;
    least = none_lesser m shows;
    look = λ i same enabled. let e : Look k ≡ Act i = same in absurd cc;
  }

-- first events, and then first events
pub first_behind : (given : Given) (xs ys : List Event) (m : ModelCore) → AllFirst given m xs → AllFirst given (fold (stepped given) m xs) ys → AllFirst given m (xs ++ ys)
first_behind given [] ys m one two = two
first_behind given (x ∷ xs) ys m one two = (one.0, first_behind given xs ys (stepped given m x) one.1 two)

-- each of them changes the state
pub first_change : (given : Given) (events : List Event) (m : ModelCore) → AllFirst given m events → AllChange given m events
first_change given [] m all = tt
first_change given (event ∷ events) m all = (all.0.changes, first_change given events (stepped given m event) all.1)
