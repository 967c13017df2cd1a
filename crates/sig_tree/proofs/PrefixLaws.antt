-- What begins a trace of a process is one, and two longest traces are one.
use Rattle.sig_tree.proofs.Common.{◌≡◌, ◌≤◌, ◌++◌, ℕ, ℤ, List, [], ◌∷◌, length, sym, subst, arith, length-append, AllByRecursion, Instant, Trace, reduce, NoneSilent, IsPrefixOf, IsLongest, FlatEquation, FlatBody, HoldsAt, HoldThroughout, IsProcessTrace}
use Rattle.sig_tree.proofs.UpTo.{holds_up_to, same_in_front}

each_front : (P : Instant → Type 0) (t u : Trace) → AllByRecursion P (t ++ u) → AllByRecursion P t
each_front P [] u h = tt
each_front P (now ∷ t) u h = (h.0, each_front P t u h.1)

each_equation : (P Q : FlatEquation → Type 0) → ((q : FlatEquation) → P q → Q q) → (qs : List FlatEquation) → AllByRecursion P qs → AllByRecursion Q qs
each_equation P Q f [] h = tt
each_equation P Q f (q ∷ qs) h = (f q h.0, each_equation P Q f qs h.1)

holds_in_front : (t u : Trace) (qs : List FlatEquation) → HoldThroughout qs (t ++ u) → HoldThroughout qs t
holds_in_front t u qs h i lt =
    each_equation (HoldsAt (t ++ u) i) (HoldsAt t i) (λ q. holds_up_to (t ++ u) t q i (same_in_front t u i lt)) qs
    (h i (omega (arith, length-append t u)))

pub front_is_trace : (flat : FlatBody) (t u : Trace) → IsProcessTrace flat (t ++ u) → IsProcessTrace flat t
front_is_trace flat t u h = record { kinds = each_front _ t u h.kinds; holds = holds_in_front t u flat.equations h.holds }

-- a longest trace is a prefix of another
pub longest_within : (IsTrace : Trace → Type 0) → ((t : Trace) → NoneSilent t → reduce t ≡ t) → (flows : List (List ℤ)) (limit : ℕ) (t u : Trace)
    → IsLongest IsTrace flows limit t → IsLongest IsTrace flows limit u → IsPrefixOf t u
longest_within IsTrace same flows limit t u a b =
    subst (λ (s : Trace). IsPrefixOf s u) (same t a.speaks) (b.longest t a.is a.fits (subst (λ (s : Trace). length s ≤ limit) (sym (same t a.speaks)) a.within))
