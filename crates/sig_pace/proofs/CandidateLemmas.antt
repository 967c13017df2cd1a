-- Lists of candidates, one after another.
use Rattle.sig_pace.proofs.Common.{◌≡◌, ◌<◌, ◌+◌, inl, inr, ℕ, List, [], ◌∷◌, ◌++◌, length, length-append, get_or, map, refl, sym, ap, ◌∙◌, subst, arith, Contains, zero, suc, Some, slice_get, Contains-get_or, IsSignal, IsRefOf, Keeps, StoreView, IsRefOf-kept, AreCandidates, IsAskedIn, reactions_in, AreIncreasing, AreByNumber, signals_of, Asked, Candidate, get_pushed, at_contained, length-map}
use Rattle.sig_pace.proofs.AskedLemmas.{candidate_is, presences_kept}

pub pushed_count : (xs : List Candidate) (x : Candidate) (ys : List Candidate) (k : ℕ) → ys ≡ xs ++ x ∷ [] → length xs ≡ k → length ys ≡ k + 1
pushed_count xs x ys k is count = let long = length-append xs (x ∷ []) in let e = ap length is in omega (arith, e, long, count)

-- the candidates of the first signals, with references of a store that grew
abbrev pub AreMade : StoreView → StoreView → Asked → List ℕ → List Candidate → Type 0
AreMade old new asked signals candidates = (k : ℕ) (c : Candidate) → slice_get candidates k ≡ Some c → (c.signal ≡ get_or signals k 0) × IsRefOf new.nodes (reactions_in old.nodes asked c.signal) c.reactions

pub one_more_made : (old mid new : StoreView) → Keeps mid new → (asked : Asked) (signals : List ℕ) (candidates : List Candidate) (c : Candidate) → AreMade old mid asked signals candidates
    → c.signal ≡ get_or signals (length candidates) 0 → IsRefOf new.nodes (reactions_in old.nodes asked c.signal) c.reactions → AreMade old new asked signals (candidates ++ c ∷ [])
one_more_made old mid new kept asked signals candidates c before here made k d at = elim (get_pushed candidates c k d at) [
  | inl older ↦ (let was = before k d older in (was.0, IsRefOf-kept mid new kept (reactions_in old.nodes asked d.signal) d.reactions was.1))
  | inr last ↦ subst (λ (z : Candidate). (z.signal ≡ get_or signals k 0) × IsRefOf new.nodes (reactions_in old.nodes asked z.signal) z.reactions) last.1
      (here ∙ ap (λ i. get_or signals i 0) (sym last.0), made)
]

-- the signals of all of them
pub signals_are : (signals : List ℕ) (candidates : List Candidate) → length candidates ≡ length signals → ((k : ℕ) (c : Candidate) → slice_get candidates k ≡ Some c → c.signal ≡ get_or signals k 0) → signals_of candidates ≡ signals
signals_are [] [] count each = refl
signals_are (s ∷ signals) (c ∷ candidates) count each =
    ap (λ x. x ∷ signals_of candidates) (each 0 c refl) ∙ ap (λ xs. s ∷ xs) (signals_are signals candidates (omega (arith, count)) (λ k d at. each (suc k) d at))
signals_are _ _ count each = absurd (omega (arith, count))

pub candidates_are : (old new : StoreView) → Keeps old new → (asked : Asked) → IsAskedIn old asked → (signals : List ℕ) → ((x : ℕ) → Contains signals x → IsSignal asked.kernel.now x) → (candidates : List Candidate)
    → length candidates ≡ length signals → AreMade old new asked signals candidates → AreCandidates new.nodes asked candidates
candidates_are old new kept asked is signals are candidates count made = record {
  presences = presences_kept old new kept asked is;
  each = λ c there.
      let own = made there.0 c (at_contained candidates c there) in
      let within : there.0 < length signals = (let lt = there.1 in omega (arith, lt, count)) in
      let lt = subst (IsSignal asked.kernel.now) (sym own.0) (are (get_or signals there.0 0) (Contains-get_or signals there.0 0 within)) in
      candidate_is old new kept asked is c.signal lt c.reactions own.1;
}

map_get : {X : Type 0} (f : X → ℕ) (xs : List X) (i d : ℕ) (e : X) → i < length xs → get_or (map f xs) i d ≡ f (get_or xs i e)
map_get f [] i d e lt = absurd (omega (arith, lt))
map_get f (x ∷ xs) zero d e lt = refl
map_get f (x ∷ xs) (suc i) d e lt = map_get f xs i d e (omega (arith, lt))

-- candidates stand by number where their signals do
pub by_number : (candidates : List Candidate) → AreIncreasing (signals_of candidates) → AreByNumber candidates
by_number candidates increasing i j d less within =
    let a = map_get (λ (c : Candidate). c.signal) candidates i 0 d (omega (arith, less, within)) in
    let b = map_get (λ (c : Candidate). c.signal) candidates j 0 d within in
    let lt = increasing i j 0 less (let long = length-map candidates (λ (c : Candidate). c.signal) in omega (arith, within, long)) in
    omega (arith, a, b, lt)
