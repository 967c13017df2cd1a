-- Over bounded links, from each state some more events lead to one in which the programs stand still.
use Rattle.sig_system_laws.proofs.Common.{◌≡◌, ◌<◌, ◌≤◌, ◌+◌, ◌++◌, ◌⊎◌, inl, inr, ℕ, zero, suc, List, ℤ, [], ◌∷◌, length, refl, ap, sym, subst, ◌∙◌, arith, cases_eq, at_most_or, Option, None, Some, slice_get, slice_get_within, Instant, flow_of, remembered, Kernel, one_at_most, AreAccepted, Given, IsEnabled, IsReached, Outside, Output, Source, State, TakesFrom, carried, committed, from_source, Capacity, HasRoom, IsLink, IsReachedFromWithin, IsReachedWithin, IsStill, AreJoined}
use Rattle.sig_system_laws.specs.BoundedLinks as bounded
use Rattle.sig_system_laws.proofs.BoundedJoin.{within_on}
use Rattle.sig_system_laws.proofs.Bounds.{without_bounds}
use Rattle.sig_system_laws.proofs.ComesToAnEnd.{decided, left, left_fewer, some_below}
use Rattle.sig_system_laws.proofs.Reactions.{IsRun, next_instant, next_of}
use Rattle.sig_system_laws.proofs.Reached.{fine, longer_run, one_kernel}

-- each number below a bound, or not
all_below : (P : ℕ → Type 0) → ((k : ℕ) → P k ⊎ (P k → ⊥)) → (n : ℕ) → ((k : ℕ) → k < n → P k) ⊎ (((k : ℕ) → k < n → P k) → ⊥)
all_below P decide zero = inl (λ k lt. absurd (omega (arith, lt)))
all_below P decide (suc n) = by (all_below P decide n) (decide n) where
  by : ((k : ℕ) → k < n → P k) ⊎ (((k : ℕ) → k < n → P k) → ⊥) → P n ⊎ (P n → ⊥) → ((k : ℕ) → k < suc n → P k) ⊎ (((k : ℕ) → k < suc n → P k) → ⊥)
  by (inl all) (inl last) = inl (λ k lt. elim (cases_eq k n) [
    | inl same ↦ subst P (sym same) last
    | inr apart ↦ all k (omega (arith, lt, apart))
  ])
  by (inl all) (inr fails) = inr (λ each. fails (each n (omega arith)))
  by (inr fails) last = inr (λ each. fails (λ k lt. each k (omega (arith, lt))))

same_writer : (a b c d : ℕ) → Output a b ≡ Output c d → a ≡ c
same_writer a b c d e = cc

same_output : (a b c d : ℕ) → Output a b ≡ Output c d → b ≡ d
same_output a b c d e = cc

-- ---- whether there is room

module _ (given : Given) (capacity : Capacity) (s : State) (k : ℕ) (x : Instant) where
  abbrev RoomAt : ℕ → ℕ → Type 0
  RoomAt reader input = (output : ℕ) → IsLink given.system k output reader input
      → length (from_source given (committed s k x) (Output k output)) ≤ capacity reader input + length (flow_of input (s reader))

  module _ (reader : ℕ) (kernel : Kernel) (is : slice_get given.system.programs reader ≡ Some kernel) where
    at_source : (input : ℕ) → input < kernel.inputs → (source : Source) → given.system.source reader input ≡ source → RoomAt reader input ⊎ (RoomAt reader input → ⊥)
    at_source input below (Outside i) from = inl (λ output link. absurd (let e : Outside i ≡ Output k output = sym from ∙ link.source in cc))
    at_source input below (Output w o) from = elim (cases_eq w k) [
      | inr apart ↦ inl (λ output link. absurd (apart (same_writer w o k output (sym from ∙ link.source))))
      | inl same ↦ elim (at_most_or (length (from_source given (committed s k x) (Output k o))) (capacity reader input + length (flow_of input (s reader)))) [
        | inl le ↦ inl (λ output link. subst (λ n. length (from_source given (committed s k x) (Output k n)) ≤ capacity reader input + length (flow_of input (s reader))) (same_output w o k output (sym from ∙ link.source)) le)
        | inr gt ↦ inr (λ each. let le = each o (record { kernel = kernel; program = is; below = below; source = from ∙ ap (λ n. Output n o) same }) in omega (arith, le, gt))
      ]
    ]

    at_input : (input : ℕ) → RoomAt reader input ⊎ (RoomAt reader input → ⊥)
    at_input input = elim (at_most_or kernel.inputs input) [
      | inl ge ↦ inl (λ output link.
          let kernels : link.kernel ≡ kernel = one_kernel link.kernel kernel link.program is in
          let below : input < kernel.inputs = subst (λ (z : Kernel). input < z.inputs) kernels link.below in
          absurd (omega (arith, ge, below)))
      | inr lt ↦ at_source input lt (given.system.source reader input) refl
    ]

    of_reader : ((input : ℕ) → RoomAt reader input) ⊎ (((input : ℕ) → RoomAt reader input) → ⊥)
    of_reader = elim (all_below (RoomAt reader) at_input kernel.inputs) [
      | inl all ↦ inl (λ input output link.
          let kernels : link.kernel ≡ kernel = one_kernel link.kernel kernel link.program is in
          all input (subst (λ (z : Kernel). input < z.inputs) kernels link.below) output link)
      | inr fails ↦ inr (λ each. fails (λ input lt. each input))
    ]

  at_reader : (reader : ℕ) → ((input : ℕ) → RoomAt reader input) ⊎ (((input : ℕ) → RoomAt reader input) → ⊥)
  at_reader reader = by (slice_get given.system.programs reader) refl where
    by : (found : Option Kernel) → slice_get given.system.programs reader ≡ found → ((input : ℕ) → RoomAt reader input) ⊎ (((input : ℕ) → RoomAt reader input) → ⊥)
    by None none = inl (λ input output link. absurd (let e : Some link.kernel ≡ None = sym link.program ∙ none in cc))
    by (Some kernel) is = of_reader reader kernel is

  room_decided : HasRoom given capacity s k x ⊎ (HasRoom given capacity s k x → ⊥)
  room_decided = elim (all_below (λ reader. (input : ℕ) → RoomAt reader input) at_reader (length given.system.programs)) [
    | inl all ↦ inl (λ output reader input link. all reader (slice_get_within given.system.programs reader link.kernel link.program) input output link)
    | inr fails ↦ inr (λ room. fails (λ reader lt input output link. room output reader input link))
  ]

-- a program can go on by one instant only
enabled_once : (given : Given) → AreAccepted given.system → (s : State) → IsReached given s → (k : ℕ) (x y : Instant) → IsEnabled given s k x → IsEnabled given s k y → x ≡ y
enabled_once given accepted s reached k x y a b =
    let kernel : Kernel = a.kernel in
    let kernels : b.kernel ≡ kernel = one_kernel b.kernel kernel b.program a.program in
    let flows : ℕ → List ℤ = carried given s k in
    let run : IsRun kernel (s k ++ y ∷ []) = subst (λ (z : Kernel). IsRun z (s k ++ y ∷ [])) kernels (longer_run given s (fine given s reached) k y b) in
    let there : TakesFrom kernel flows (s k ++ y ∷ []) = subst (λ (z : Kernel). TakesFrom z flows (s k ++ y ∷ [])) kernels b.there in
    let good = accepted k kernel a.program in
    one_at_most kernel good.0 good.1 (remembered (s k)) (next_of flows (s k)) x y
    (next_instant kernel flows (s k) [] x (longer_run given s (fine given s reached) k x a) a.there) (next_instant kernel flows (s k) [] y run there)

-- ---- to a state in which the programs stand still

module _ (given : Given) (accepted : AreAccepted given.system) (joined : AreJoined given) (capacity : Capacity) where
  module _ (s : State) (within : IsReachedWithin given capacity s) where
    reached : IsReached given s
    reached = without_bounds given capacity s within

    abbrev GoesOnWithin : ℕ → Type 0
    GoesOnWithin k = (x : Instant) × IsEnabled given s k x × HasRoom given capacity s k x

    decided_within : (k : ℕ) → GoesOnWithin k ⊎ (GoesOnWithin k → ⊥)
    decided_within k = elim (decided given accepted joined s reached k) [
      | inl next ↦ elim (room_decided given capacity s k next.0) [
        | inl room ↦ inl (next.0, next.1, room)
        | inr none ↦ inr (λ other. none (subst (HasRoom given capacity s k) (enabled_once given accepted s reached k other.0 next.0 other.1 next.1) other.2))
      ]
      | inr none ↦ inr (λ other. none (other.0, other.1))
    ]

    still_or_event : IsStill given capacity s ⊎ ((k : ℕ) × GoesOnWithin k)
    still_or_event = elim (some_below GoesOnWithin decided_within (length given.system.programs)) [
      | inl found ↦ inr found
      | inr none ↦ inl (λ k x event room. none k (slice_get_within given.system.programs k event.kernel event.program) (x, event, room))
    ]

  abbrev Comes : State → Type 0
  Comes s = (t : State) × IsReachedFromWithin given capacity s t × IsStill given capacity t

  one_further : (s : State) → IsReachedWithin given capacity s
      → ((k : ℕ) (x : Instant) → IsEnabled given s k x → HasRoom given capacity s k x → left given (committed s k x) (length given.system.programs) + 1 ≡ left given s (length given.system.programs) → Comes (committed s k x)) → Comes s
  one_further s within later = by (still_or_event s within) where
    by : IsStill given capacity s ⊎ ((k : ℕ) × GoesOnWithin s within k) → Comes s
    by (inl still) = (s, bounded.stays, still)
    by (inr found) =
        let k : ℕ = found.0 in
        let x : Instant = found.1.0 in
        let event = found.1.1 in
        let room = found.1.2 in
        let fewer = left_fewer given s k x (length given.system.programs) (slice_get_within given.system.programs k event.kernel event.program) event.within in
        let rest = later k x event room fewer in
        (rest.0, within_on given capacity s (committed s k x) rest.0 (bounded.goes_on s k x bounded.stays event room) rest.1, rest.2)

  comes : (fuel : ℕ) (s : State) → IsReachedWithin given capacity s → left given s (length given.system.programs) ≤ fuel → Comes s
  comes zero s within few = one_further s within (λ k x event room fewer. absurd (omega (arith, few, fewer)))
  comes (suc fuel) s within few = one_further s within (λ k x event room fewer. comes fuel (committed s k x) (bounded.goes_on s k x within event room) (omega (arith, few, fewer)))

  pub comes_to_stand_still : (s : State) → IsReachedWithin given capacity s → Comes s
  comes_to_stand_still s within = comes (left given s (length given.system.programs)) s within (omega arith)
