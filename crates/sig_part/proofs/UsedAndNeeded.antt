-- What operations use and what their guards need.
use Rattle.sig_part.proofs.Common.{◌≡◌, ◌≢◌, ◌<◌, ◌+◌, ◌⊎◌, inl, inr, ◌↔◌, ℕ, List, [], ◌++◌, get_or, sym, ap, ◌∙◌, subst, arith, Contains, Some, slice_get, filter_map, cases_order, Contains-append_cases, Contains-append_left, Contains-append_right, SigId, Depends, test, Node, operation_in, Needs, Op, IsNeededWithin, IsUsedWithin, chosen, chosen_from}

-- the conditions that stand at the variables on which a guard depends
pub needs_are : (nodes : List Node) (conditions : List SigId) (op : Op) (variables : List ℕ) (needs : List SigId) → ((v : ℕ) → Contains variables v ↔ Depends (test nodes op.guard) v)
    → needs ≡ filter_map (slice_get conditions) variables → (x : SigId) → Contains needs x ↔ Needs conditions (operation_in nodes op) x
needs_are nodes conditions op variables needs exact is x = (
  (λ there.
      let from = chosen_from (slice_get conditions) variables x (subst (λ (xs : List SigId). Contains xs x) is there) in
      record { variable = from.0; is = from.2; depends = (exact from.0).0 from.1 }),
  (λ need. subst (λ (xs : List SigId). Contains xs x) (sym is) (chosen (slice_get conditions) variables need.variable x ((exact need.variable).1 need.depends) need.is)),
)

-- the operation of a number below n + 1 is one of the first n, or that of the number n
place : (ops : List Op) (n number : ℕ) (op other : Op) → slice_get ops n ≡ Some op → number < n + 1 → slice_get ops number ≡ Some other → (number < n) ⊎ ((number ≡ n) × (op ≡ other))
place ops n number op other is below get = at (cases_order number n) where
  at : ((number ≡ n) ⊎ ((number < n) ⊎ (n < number))) → (number < n) ⊎ ((number ≡ n) × (op ≡ other))
  at (inl e) = let same : Some op ≡ Some other = sym is ∙ ap (slice_get ops) (sym e) ∙ get in inr (e, cc)
  at (inr (inl less)) = inl less
  at (inr (inr more)) = absurd (omega (arith, more, below))

module _ (ops : List Op) (needs : List (List SigId)) (n : ℕ) (op : Op) (is : slice_get ops n ≡ Some op) where
  module _ (cluster : ℕ) where
    used_later : (x : SigId) → IsUsedWithin ops needs cluster n x → IsUsedWithin ops needs cluster (n + 1) x
    used_later x found = let below = found.below in record { number = found.number; below = omega (arith, below); op = found.op; is = found.is; own = found.own; used = found.used }

    used_here : (x : SigId) → op.actor ≡ cluster → Contains op.reads x ⊎ Contains (get_or needs n []) x → IsUsedWithin ops needs cluster (n + 1) x
    used_here x own used = record { number = n; below = omega arith; op = op; is = is; own = own; used = used }

    used_cases : (x : SigId) → IsUsedWithin ops needs cluster (n + 1) x → IsUsedWithin ops needs cluster n x ⊎ ((op.actor ≡ cluster) × (Contains op.reads x ⊎ Contains (get_or needs n []) x))
    used_cases x found = elim (place ops n found.number op found.op is found.below found.is) [
      | inl less ↦ inl (record { number = found.number; below = less; op = found.op; is = found.is; own = found.own; used = found.used })
      | inr here ↦ inr (
        ap (λ (o : Op). o.actor) here.1 ∙ found.own,
        subst (λ (o : Op). Contains o.reads x ⊎ Contains (get_or needs n []) x) (sym here.1) (subst (λ (k : ℕ). Contains found.op.reads x ⊎ Contains (get_or needs k []) x) here.0 found.used),
      )
    ]

    pub used_not : (used : List SigId) → op.actor ≢ cluster → ((x : SigId) → Contains used x ↔ IsUsedWithin ops needs cluster n x) → (x : SigId) → Contains used x ↔ IsUsedWithin ops needs cluster (n + 1) x
    used_not used other before x = (
      (λ there. used_later x ((before x).0 there)),
      (λ found. elim (used_cases x found) [ inl earlier ↦ (before x).1 earlier | inr here ↦ absurd (other here.0) ]),
    )

    pub used_more : (used reads more : List SigId) → op.actor ≡ cluster → reads ≡ op.reads → more ≡ get_or needs n [] → ((x : SigId) → Contains used x ↔ IsUsedWithin ops needs cluster n x)
        → (x : SigId) → Contains ((used ++ reads) ++ more) x ↔ IsUsedWithin ops needs cluster (n + 1) x
    used_more used reads more own is_reads is_more before x = (
      (λ there. elim (Contains-append_cases (used ++ reads) more x there) [
        | inl first ↦ elim (Contains-append_cases used reads x first) [
          | inl earlier ↦ used_later x ((before x).0 earlier)
          | inr read ↦ used_here x own (inl (subst (λ (xs : List SigId). Contains xs x) is_reads read))
        ]
        | inr needed ↦ used_here x own (inr (subst (λ (xs : List SigId). Contains xs x) is_more needed))
      ]),
      (λ found. elim (used_cases x found) [
        | inl earlier ↦ Contains-append_left (used ++ reads) more x (Contains-append_left used reads x ((before x).1 earlier))
        | inr here ↦ elim here.1 [
          | inl read ↦ Contains-append_left (used ++ reads) more x (Contains-append_right used reads x (subst (λ (xs : List SigId). Contains xs x) (sym is_reads) read))
          | inr needed ↦ Contains-append_right (used ++ reads) more x (subst (λ (xs : List SigId). Contains xs x) (sym is_more) needed)
        ]
      ]),
    )

  module _ (y : SigId) where
    needed_later : (x : SigId) → IsNeededWithin ops needs y n x → IsNeededWithin ops needs y (n + 1) x
    needed_later x found = let below = found.below in record { number = found.number; below = omega (arith, below); op = found.op; is = found.is; writes = found.writes; needed = found.needed }

    needed_cases : (x : SigId) → IsNeededWithin ops needs y (n + 1) x → IsNeededWithin ops needs y n x ⊎ ((op.writes ≡ Some y) × Contains (get_or needs n []) x)
    needed_cases x found = elim (place ops n found.number op found.op is found.below found.is) [
      | inl less ↦ inl (record { number = found.number; below = less; op = found.op; is = found.is; writes = found.writes; needed = found.needed })
      | inr here ↦ inr (ap (λ (o : Op). o.writes) here.1 ∙ found.writes, subst (λ (k : ℕ). Contains (get_or needs k []) x) here.0 found.needed)
    ]

    pub needed_not : (needed : List SigId) → (op.writes ≡ Some y → ⊥) → ((x : SigId) → Contains needed x ↔ IsNeededWithin ops needs y n x) → (x : SigId) → Contains needed x ↔ IsNeededWithin ops needs y (n + 1) x
    needed_not needed other before x = (
      (λ there. needed_later x ((before x).0 there)),
      (λ found. elim (needed_cases x found) [ inl earlier ↦ (before x).1 earlier | inr here ↦ absurd (other here.0) ]),
    )

    pub needed_more : (needed more : List SigId) → op.writes ≡ Some y → more ≡ get_or needs n [] → ((x : SigId) → Contains needed x ↔ IsNeededWithin ops needs y n x)
        → (x : SigId) → Contains (needed ++ more) x ↔ IsNeededWithin ops needs y (n + 1) x
    needed_more needed more writes is_more before x = (
      (λ there. elim (Contains-append_cases needed more x there) [
        | inl earlier ↦ needed_later x ((before x).0 earlier)
        | inr new ↦ record { number = n; below = omega arith; op = op; is = is; writes = writes; needed = subst (λ (xs : List SigId). Contains xs x) is_more new }
      ]),
      (λ found. elim (needed_cases x found) [
        | inl earlier ↦ Contains-append_left needed more x ((before x).1 earlier)
        | inr here ↦ Contains-append_right needed more x (subst (λ (xs : List SigId). Contains xs x) (sym is_more) here.1)
      ]),
    )
