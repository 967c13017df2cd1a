-- Instants that agree on the signals with the first numbers, and instants of the kinds of signals.
use Rattle.sig_flat.proofs.Common.{◌≡◌, ◌≤◌, ◌<◌, ◌++◌, ℕ, zero, suc, pos, List, [], ◌∷◌, None, Some, length, take, refl, sym, ap, subst, ◌∙◌, arith, inl, inr, FitsSigned, ℤ, w64, Kind, Integer, Boolean, Event, Signal, Seen, Instant, Bounded, IsValue, IsOfKind, AreOfKinds, seen_at, kinds_of, kind_numbered}

abbrev pub Agree : ℕ → Instant → Instant → Type 0
Agree count a b = (x : ℕ) → x < count → seen_at a x ≡ seen_at b x

pub agree_less : (m n : ℕ) (a b : Instant) → m ≤ n → Agree n a b → Agree m a b
agree_less m n a b less h x below = h x (omega arith)

pub agree_then : (n : ℕ) (a b c : Instant) → Agree n a b → Agree n b c → Agree n a c
agree_then n a b c h k x below = h x below ∙ k x below

pub agree_back : (n : ℕ) (a b : Instant) → Agree n a b → Agree n b a
agree_back n a b h x below = sym (h x below)

-- what is behind a list
pub seen_before : (now : Instant) (v : Seen) (x : ℕ) → x < length now → seen_at (now ++ v ∷ []) x ≡ seen_at now x
seen_before [] v x below = absurd (omega arith)
seen_before (s ∷ now) v zero below = refl
seen_before (s ∷ now) v (suc x) below = seen_before now v x (omega arith)

pub seen_last : (now : Instant) (v : Seen) → seen_at (now ++ v ∷ []) (length now) ≡ v
seen_last [] v = refl
seen_last (s ∷ now) v = seen_last now v

-- instants of the same length that agree are the same
pub same_instant : (a b : Instant) → length a ≡ length b → Agree (length a) a b → a ≡ b
same_instant [] [] e h = refl
same_instant (s ∷ a) (t ∷ b) e h =
    let first : s ≡ t = h zero (omega arith) in
    let rest : a ≡ b = same_instant a b (omega arith) (λ x below. h (suc x) (omega arith)) in
    cc
same_instant _ _ e h = absurd (omega arith)

pub take_agrees : (count : ℕ) (now : Instant) → Agree count now (take count now)
take_agrees zero now x below = absurd (omega arith)
take_agrees (suc count) (s ∷ now) (suc x) below = take_agrees count now x (omega arith)
take_agrees (suc count) _ _ below = refl

-- an instant that agrees with another one begins with it
pub begins_with : (a b : Instant) → length a ≤ length b → Agree (length a) a b → take (length a) b ≡ a
begins_with [] b few h = refl
begins_with (s ∷ a) [] few h = absurd (omega arith)
begins_with (s ∷ a) (t ∷ b) few h =
    let first : s ≡ t = h zero (omega arith) in
    let rest : take (length a) b ≡ a = begins_with a b (omega arith) (λ x below. h (suc x) (omega arith)) in
    cc

-- kinds
pub kinds_length : (signals : List Signal) (now : Instant) → AreOfKinds Bounded (kinds_of signals) now → length now ≡ length signals
kinds_length [] [] h = refl
kinds_length (s ∷ signals) (v ∷ now) h = ap suc (kinds_length signals now h.1)
kinds_length _ _ h = absurd h

pub kinds_more : (signals : List Signal) (now : Instant) (s : Signal) (v : Seen) → AreOfKinds Bounded (kinds_of signals) now → IsOfKind Bounded s.kind v
    → AreOfKinds Bounded (kinds_of (signals ++ s ∷ [])) (now ++ v ∷ [])
kinds_more [] [] s v h k = (k, tt)
kinds_more (q ∷ signals) (w ∷ now) s v h k = (h.0, kinds_more signals now s v h.1 k)
kinds_more _ _ s v h k = absurd h

pub kinds_begin : (signals more : List Signal) (now : Instant) → AreOfKinds Bounded (kinds_of (signals ++ more)) now → AreOfKinds Bounded (kinds_of signals) (take (length signals) now)
kinds_begin [] more now h = tt
kinds_begin (s ∷ signals) more [] h = absurd h
kinds_begin (s ∷ signals) more (v ∷ now) h = (h.0, kinds_begin signals more now h.1)

-- what the signals with the first numbers are is of their kinds
abbrev pub Suits : List Signal → Instant → Type 0
Suits signals now = (x : ℕ) (kind : Kind) → kind_numbered signals x ≡ Some kind → IsOfKind Bounded kind (seen_at now x)

pub suits : (signals more : List Signal) (now : Instant) → AreOfKinds Bounded (kinds_of (signals ++ more)) now → Suits signals now
suits [] more now h x kind e = absurd cc
suits (s ∷ signals) more [] h x kind e = absurd h
suits (s ∷ signals) more (v ∷ now) h zero kind e = let same : s.kind ≡ kind = cc in subst (λ k. IsOfKind Bounded k v) same h.0
suits (s ∷ signals) more (v ∷ now) h (suc x) kind e = suits signals more now h.1 x kind e

-- what is of a kind is within 64 bits
abbrev pub Fitting : Instant → Type 0
Fitting now = (x : ℕ) → IsOfKind Bounded Integer (seen_at now x)

small_fits : (n : ℕ) → n < 2 → FitsSigned w64 (pos n)
small_fits n small = record { sfits = omega arith }

value_fits : (kind : Kind) (v : ℤ) → IsValue Bounded kind v → FitsSigned w64 v
value_fits Integer v h = h
value_fits Boolean v (inl h) = subst (λ (z : ℤ). FitsSigned w64 z) (sym h) (small_fits 0 (omega arith))
value_fits Boolean v (inr h) = subst (λ (z : ℤ). FitsSigned w64 z) (sym h) (small_fits 1 (omega arith))
value_fits Event v h = subst (λ (z : ℤ). FitsSigned w64 z) (sym h) (small_fits 1 (omega arith))

kind_fits : (kind : Kind) (s : Seen) → IsOfKind Bounded kind s → IsOfKind Bounded Integer s
kind_fits kind None h = h
kind_fits kind (Some v) h = value_fits kind v h

pub fitting : (signals : List Signal) (now : Instant) → AreOfKinds Bounded (kinds_of signals) now → Fitting now
fitting [] [] h x = tt
fitting (s ∷ signals) (v ∷ now) h zero = kind_fits s.kind v h.0
fitting (s ∷ signals) (v ∷ now) h (suc x) = fitting signals now h.1 x
fitting _ _ h x = absurd h
