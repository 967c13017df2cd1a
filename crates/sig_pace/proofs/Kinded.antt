-- Instants of the kinds of signals, by places and in parts.
use Rattle.sig_pace.proofs.Common.{◌≡◌, ◌++◌, ℕ, zero, suc, List, [], ◌∷◌, length, map, take, drop, refl, subst, arith, Some, None, slice_get, AreOfKinds, Instant, IsOfKind, Range, seen_at, Kind, Signal}

abbrev pub kinds_of : List Signal → List Kind
kinds_of signals = map (λ signal. signal.kind) signals

pub kinds_length : (range : Range) (signals : List Signal) (instant : Instant) → AreOfKinds range (kinds_of signals) instant → length instant ≡ length signals
kinds_length range [] [] kinds = refl
kinds_length range (signal ∷ signals) (seen ∷ instant) kinds = omega (arith, kinds_length range signals instant kinds.1)
kinds_length range _ _ kinds = absurd kinds

pub kind_there : (range : Range) (signals : List Signal) (instant : Instant) → AreOfKinds range (kinds_of signals) instant
    → (k : ℕ) (signal : Signal) → slice_get signals k ≡ Some signal → IsOfKind range signal.kind (seen_at instant k)
kind_there range [] instant kinds k found is = absurd (let e : None ≡ Some found = is in cc)
kind_there range (signal ∷ signals) [] kinds k found is = absurd kinds
kind_there range (signal ∷ signals) (seen ∷ instant) kinds zero found is = let e : signal ≡ found = cc in subst (λ (s : Signal). IsOfKind range s.kind seen) e kinds.0
kind_there range (signal ∷ signals) (seen ∷ instant) kinds (suc k) found is = kind_there range signals instant kinds.1 k found is

pub kinds_from_places : (range : Range) (signals : List Signal) (instant : Instant) → length instant ≡ length signals
    → ((k : ℕ) (signal : Signal) → slice_get signals k ≡ Some signal → IsOfKind range signal.kind (seen_at instant k)) → AreOfKinds range (kinds_of signals) instant
kinds_from_places range [] [] count each = tt
kinds_from_places range (signal ∷ signals) (seen ∷ instant) count each = (each 0 signal refl, kinds_from_places range signals instant (omega (arith, count)) (λ k found is. each (suc k) found is))
kinds_from_places range _ _ count each = absurd (omega (arith, count))

pub kinds_joined : (range : Range) (front back : List Signal) (a b : Instant) → AreOfKinds range (kinds_of front) a → AreOfKinds range (kinds_of back) b → AreOfKinds range (kinds_of (front ++ back)) (a ++ b)
kinds_joined range [] back [] b first second = second
kinds_joined range (signal ∷ front) back (seen ∷ a) b first second = (first.0, kinds_joined range front back a b first.1 second)
kinds_joined range _ back _ b first second = absurd first

pub kinds_taken : (range : Range) (n : ℕ) (signals : List Signal) (instant : Instant) → AreOfKinds range (kinds_of signals) instant → AreOfKinds range (kinds_of (take n signals)) (take n instant)
kinds_taken range zero signals instant kinds = tt
kinds_taken range (suc n) [] [] kinds = tt
kinds_taken range (suc n) (signal ∷ signals) (seen ∷ instant) kinds = (kinds.0, kinds_taken range n signals instant kinds.1)
kinds_taken range (suc n) _ _ kinds = absurd kinds

pub kinds_dropped : (range : Range) (n : ℕ) (signals : List Signal) (instant : Instant) → AreOfKinds range (kinds_of signals) instant → AreOfKinds range (kinds_of (drop n signals)) (drop n instant)
kinds_dropped range zero signals instant kinds = kinds
kinds_dropped range (suc n) [] [] kinds = tt
kinds_dropped range (suc n) (signal ∷ signals) (seen ∷ instant) kinds = kinds_dropped range n signals instant kinds.1
kinds_dropped range (suc n) _ _ kinds = absurd kinds
