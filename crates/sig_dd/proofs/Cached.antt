-- The cache keeps right results, whatever is asked of it and put into it.
use Rattle.sig_dd.proofs.Common.{◌≡◌, ℕ, Bool, true, List, ◌++◌, inl, inr, Option, None, Some, IfSome, Result, Ok, Err, OnOk, OnErr, sym, subst, eqb, ◌&&◌, eqb-true, lookup, LruCache, lru_cache, put_entries, Contains-lookup, Contains-put_entries, IsCache, question_of, HoldsAll, IsAnswer, Node, Ref, and_first, and_second}
use Rattle.sig_dd.specs.declared.cache.Choice.{Choice}
use Rattle.sig_dd.proofs.Canonical.{same_ref}
use Rattle.sig_dd.proofs.Kept.{HoldsAll-append, IsAnswer-append}

-- `==` of choices
abbrev pub choice_eq : Choice → Choice → Bool
choice_eq c d = eqb c.first.number d.first.number && (eqb c.second.number d.second.number && eqb c.third.number d.third.number)

choice_eq-same : (c d : Choice) → choice_eq c d ≡ true → c ≡ d
choice_eq-same c d e =
    let rest = and_second _ _ e in
    let a = same_ref c.first d.first (eqb-true _ _ (and_first _ _ e)) in
    let b = same_ref c.second d.second (eqb-true _ _ (and_first _ _ rest)) in
    let z = same_ref c.third d.third (eqb-true _ _ (and_second _ _ rest)) in
    λ j. record { first = a j; second = b j; third = z j }

pub IsCache-append : (old more : List Node) (entries : List (Choice × Ref)) → IsCache old entries → IsCache (old ++ more) entries
IsCache-append old more entries cache e among =
    let was = cache e among in
    (HoldsAll-append old more (question_of e.0) was.0, IsAnswer-append old more (question_of e.0) e.1 was.0 was.1)

module _ (nodes : List Node) (entries : List (Choice × Ref)) (cache : IsCache nodes entries) (c : Choice) where
  recalled : (r : Ref) → lookup (choice_eq c) entries ≡ Some r → IsAnswer nodes (question_of c) r
  recalled r e =
      let (k, among, same) = Contains-lookup (choice_eq c) entries r e in
      subst (λ d. IsAnswer nodes (question_of d) r) (sym (choice_eq-same c k same)) (cache (k, r) among).1

  -- what a look answers
  pub recalled_if : (o : Option Ref) → o ≡ lookup (choice_eq c) entries → IfSome o (IsAnswer nodes (question_of c))
  recalled_if None e = tt
  recalled_if (Some r) e = recalled r (sym e)

  pub IsCache-put : (cap : ℕ) (r : Ref) → HoldsAll nodes (question_of c) → IsAnswer nodes (question_of c) r → IsCache nodes (put_entries choice_eq (lru_cache entries cap) c r)
  IsCache-put cap r held answer e among = elim (Contains-put_entries choice_eq (lru_cache entries cap) c r e among) [
    | inl old ↦ cache e old
    | inr (value, inl key) ↦ here e (sym key) (sym value)
    | inr (value, inr (was, old, same)) ↦ here e (choice_eq-same c e.0 same) (sym value)
  ]
    where
      here : (e : Choice × Ref) → c ≡ e.0 → r ≡ e.1 → HoldsAll nodes (question_of e.0) × IsAnswer nodes (question_of e.0) e.1
      here e key value =
          subst (λ d. HoldsAll nodes (question_of d) × IsAnswer nodes (question_of d) e.1) key (held, subst (IsAnswer nodes (question_of c)) value answer)

-- the cache after a put, which may have had no memory
pub IsCache-after : {X Y : Type 0} (result : Result X Y) (nodes : List Node) (old new : LruCache Choice Ref) (c : Choice) (r : Ref) → IsCache nodes old.entries → HoldsAll nodes (question_of c) → IsAnswer nodes (question_of c) r
    → OnOk result (new ≡ lru_cache (put_entries choice_eq old c r) old.cap) → OnErr result (new ≡ old) → IsCache nodes new.entries
IsCache-after (Ok x) nodes old new c r cache held answer done refused = subst (λ (l : LruCache Choice Ref). IsCache nodes l.entries) (sym done) (IsCache-put nodes old.entries cache c old.cap r held answer)
IsCache-after (Err y) nodes old new c r cache held answer done refused = subst (λ (l : LruCache Choice Ref). IsCache nodes l.entries) (sym refused) cache
