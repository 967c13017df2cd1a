-- the references so far have numbers below the count, which no smaller number is above
use Rattle.sig_dd.proofs.{◌<◌, ◌≤◌, ℕ, get_or, All, Ref}
use Rattle.sig_dd.proofs.supports.count_of.Given as goal

abbrev pub invariant-loop-root : goal.invariant-loop-root
invariant-loop-root l = record {
  within : (i : ℕ) (d : Ref) → i < l.root-index → (get_or l.roots i d).number < l.count;
  least : (count : ℕ) → All (λ (r : Ref). r.number < count) l.roots → l.count ≤ count;
}
