-- Instants of signals of their kinds.
use Rattle.sig_judge.proofs.Common.{◌≡◌, ◌<◌, ◌+◌, ◌++◌, ℕ, zero, suc, List, [], ◌∷◌, length, map, take, get_or, refl, sym, ap, subst, arith, get_or-map, take_more, map-append, Kind, Signal, Seen as SeenAt, Instant, Bounded, IsOfKind, AreOfKinds, kinds_of, seen_of}
use Rattle.sig_judge.specs.declared.trace.Seen.{Seen}

pub kinds_length : (kinds : List Kind) (row : Instant) → AreOfKinds Bounded kinds row → length row ≡ length kinds
kinds_length [] [] h = refl
kinds_length [] (seen ∷ row) h = absurd h
kinds_length (kind ∷ kinds) [] h = absurd h
kinds_length (kind ∷ kinds) (seen ∷ row) h = ap suc (kinds_length kinds row h.1)

pub kinds_at : (kinds : List Kind) (row : Instant) → AreOfKinds Bounded kinds row → (i : ℕ) (k : Kind) (s : SeenAt) → i < length kinds → IsOfKind Bounded (get_or kinds i k) (get_or row i s)
kinds_at [] row h i k s lt = absurd (omega arith)
kinds_at (kind ∷ kinds) [] h i k s lt = absurd h
kinds_at (kind ∷ kinds) (seen ∷ row) h zero k s lt = h.0
kinds_at (kind ∷ kinds) (seen ∷ row) h (suc i) k s lt = kinds_at kinds row h.1 i k s (omega arith)

kinds_append : (kinds : List Kind) (row : Instant) (k : Kind) (s : SeenAt) → AreOfKinds Bounded kinds row → IsOfKind Bounded k s → AreOfKinds Bounded (kinds ++ k ∷ []) (row ++ s ∷ [])
kinds_append [] [] k s h is = (is, tt)
kinds_append [] (seen ∷ row) k s h is = absurd h
kinds_append (kind ∷ kinds) [] k s h is = absurd h
kinds_append (kind ∷ kinds) (seen ∷ row) k s h is = (h.0, kinds_append kinds row k s h.1 is)

-- one more signal
pub kinds_more : (signals : List Signal) (row : List Seen) (i : ℕ) (g : Signal) (s : Seen) → AreOfKinds Bounded (kinds_of (take i signals)) (map seen_of (take i row)) → i < length signals → i < length row
    → IsOfKind Bounded (get_or signals i g).kind (seen_of (get_or row i s)) → AreOfKinds Bounded (kinds_of (take (i + 1) signals)) (map seen_of (take (i + 1) row))
kinds_more signals row i g s h lt below is =
    subst (λ (gs : List Signal). AreOfKinds Bounded (kinds_of gs) (map seen_of (take (i + 1) row))) (sym (take_more signals i g lt))
    (subst (λ (ss : List Seen). AreOfKinds Bounded (kinds_of (take i signals ++ get_or signals i g ∷ [])) (map seen_of ss)) (sym (take_more row i s below))
    (subst (λ (ks : List Kind). AreOfKinds Bounded ks (map seen_of (take i row ++ get_or row i s ∷ []))) (sym (map-append (λ (signal : Signal). signal.kind) (take i signals) (get_or signals i g ∷ [])))
    (subst (λ (m : Instant). AreOfKinds Bounded (kinds_of (take i signals) ++ (get_or signals i g).kind ∷ []) m) (sym (map-append seen_of (take i row) (get_or row i s ∷ [])))
    (kinds_append (kinds_of (take i signals)) (map seen_of (take i row)) (get_or signals i g).kind (seen_of (get_or row i s)) h is))))

-- a signal of an instant
pub kind_of_signal : (signals : List Signal) (row : List Seen) (i : ℕ) (g : Signal) (s : Seen) → AreOfKinds Bounded (kinds_of signals) (map seen_of row) → i < length (kinds_of signals)
    → IsOfKind Bounded (get_or signals i g).kind (seen_of (get_or row i s))
kind_of_signal signals row i g s h lt =
    subst (λ (k : Kind). IsOfKind Bounded k (seen_of (get_or row i s))) (get_or-map (λ (signal : Signal). signal.kind) signals i g)
    (subst (λ (x : SeenAt). IsOfKind Bounded (get_or (kinds_of signals) i g.kind) x) (get_or-map seen_of row i s)
    (kinds_at (kinds_of signals) (map seen_of row) h i g.kind (seen_of s) lt))
