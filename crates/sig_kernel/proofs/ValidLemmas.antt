-- Lemmas on valid kernels.
use Rattle.sig_kernel.proofs.Common.{◌≡◌, ℕ, ◌≤◌, ◌<◌, Bool, true, false, cond, List, [], ◌∷◌, length, map, refl, sym, ◌∙◌, ap, arith, bytes_eq, nat_lt, ◌↔◌, IsTrue, IsDistinct, AllByRecursion, list_any, count_by, le-ltb, lt-ltb, false≢true, IsDistinct-cons, IsDistinct-head, IsDistinct-tail, Signal, defines, DefinesEach, Kernel}

apart_more : (b : Bool) (name : List ℕ) (signal : Signal) (signals : List Signal) → bytes_eq name signal.name ≡ b → list_any (λ s. bytes_eq name s.name) (signal ∷ signals) ≡ false
    → (list_any (λ s. bytes_eq name s.name) signals ≡ false → AllByRecursion (λ y. bytes_eq name y ≡ false) (map (λ s. s.name) signals))
    → AllByRecursion (λ y. bytes_eq name y ≡ false) (map (λ s. s.name) (signal ∷ signals))
apart_more true name signal signals is none rest = absurd (false≢true (sym (rw is at none)))
apart_more false name signal signals is none rest = (is, rest (rw is at none))

-- no signal has a name
pub apart : (name : List ℕ) (signals : List Signal) → list_any (λ signal. bytes_eq name signal.name) signals ≡ false
    → AllByRecursion (λ y. bytes_eq name y ≡ false) (map (λ signal. signal.name) signals)
apart name [] none = tt
apart name (signal ∷ signals) none = apart_more (bytes_eq name signal.name) name signal signals refl none (apart name signals)

-- some signal has a name
pub not_apart : (name : List ℕ) (signals : List Signal) → list_any (λ signal. bytes_eq name signal.name) signals ≡ true
    → AllByRecursion (λ y. bytes_eq name y ≡ false) (map (λ signal. signal.name) signals) → ⊥
not_apart name [] some all = false≢true some
not_apart name (signal ∷ signals) some all = not_apart name signals (rw all.0 at some) all.1

-- whether the names of signals differ, where the first has none of the others' names
pub differ_more : (b : Bool) (name : List ℕ) (signals : List Signal) (first : Signal) (others : List Signal) → signals ≡ first ∷ others → name ≡ first.name
    → list_any (λ signal. bytes_eq name signal.name) others ≡ false
    → (IsTrue b ↔ IsDistinct bytes_eq (map (λ signal. signal.name) others)) → IsTrue b ↔ IsDistinct bytes_eq (map (λ signal. signal.name) signals)
differ_more b name signals first others is same none rest = rw (is, ← same) (
  (λ yes. IsDistinct-cons bytes_eq name (map (λ signal. signal.name) others) (apart name others none) (rest.0 yes)),
  (λ distinct. rest.1 (IsDistinct-tail bytes_eq name (map (λ signal. signal.name) others) distinct)),
)

-- the names of signals do not differ where the first has another one's name
pub same_named : (name : List ℕ) (signals : List Signal) (first : Signal) (others : List Signal) → signals ≡ first ∷ others → name ≡ first.name
    → list_any (λ signal. bytes_eq name signal.name) others ≡ true → IsDistinct bytes_eq (map (λ signal. signal.name) signals) → ⊥
same_named name signals first others is same some = rw (is, ← same) (λ distinct.
    not_apart name others some (IsDistinct-head bytes_eq name (map (λ signal. signal.name) others) distinct))

pub none_differ : (signals : List Signal) → length signals ≡ 0 → IsDistinct bytes_eq (map (λ signal. signal.name) signals)
unfolding IsDistinct
none_differ [] none = tt
none_differ (signal ∷ signals) none = absurd (omega (arith, none))

-- each signal is defined as often as it is to be
pub each_once : (kernel : Kernel) → kernel.inputs ≤ length kernel.signals
    → ((k : ℕ) → k < length kernel.signals → count_by (defines k) kernel.equations ≡ cond (nat_lt k kernel.inputs) 0 1) → DefinesEach kernel
each_once kernel le each = record {
  inputs = λ signal lt. each signal (omega arith) ∙ ap (λ b. cond b 0 1) (lt-ltb signal kernel.inputs lt);
  others = λ signal le' lt. each signal lt ∙ ap (λ b. cond b 0 1) (le-ltb signal kernel.inputs le');
}
