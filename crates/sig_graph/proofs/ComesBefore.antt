-- Which operations come before which.
use Rattle.sig_graph.proofs.Common.{◌≡◌, ◌<◌, ◌+◌, ◌⊎◌, inl, inr, ◌↔◌, ℕ, Bool, true, false, List, [], ◌∷◌, ◌++◌, length, get_or, refl, sym, ap, ◌∙◌, subst, arith, Contains, IsTrue, eqb, eq-eqb, zero, suc, Some, slice_get, slice_index_or, take, ◌||◌, filter_map, list_any, cases_order, eqb-true, false≢true, get_or_append_left, get_or_push, length-take-le, Contains-append_left, Contains-push, Contains-push_cases, EqId, SigId, Depends, Overlap, test, Node, operation_in, ComesBefore, Keeps, Needs, Op, DelayRead, Store, IsBefore, added, keeps_memory, chosen, chosen_from, get_or_from_slice_get, slice_get_within, get_taken, taken_is}

signal_same : (a b : SigId) → eqb a.0 b.0 ≡ true → a ≡ b
signal_same a b is = let same : a.0 ≡ b.0 = eqb-true a.0 b.0 is in λ j. record { 0 = same j }

keeps_same : (e : EqId) → keeps_memory DelayRead (Some e) (Store e) ≡ true
keeps_same e = eq-eqb e.0 e.0 refl

pub keeps_to : (nodes : List Node) (p q : Op) → Keeps (operation_in nodes p) (operation_in nodes q) → keeps_memory p.kind p.eq q.kind ≡ true
keeps_to nodes p q keeps = (λ j. keeps_memory (keeps.read j) (keeps.of j) (keeps.store j)) ∙ keeps_same keeps.delay

-- a signal that a search of a list does not find
pub not_found : (xs : List SigId) (x : SigId) → list_any (λ y. eqb y.0 x.0) xs ≡ false → Contains xs x → ⊥
not_found [] x missing there = omega (arith, there.1)
not_found (y ∷ xs) x missing there = at there.0 there.1 there.2 (not_found xs x) where
  or_parts : (a b : Bool) → (a || b) ≡ false → (a ≡ false) × (b ≡ false)
  or_parts true b is = cc
  or_parts false b is = (refl, is)

  at : (k : ℕ) → k < length (y ∷ xs) → get_or (y ∷ xs) k x ≡ x → (list_any (λ y. eqb y.0 x.0) xs ≡ false → Contains xs x → ⊥) → ⊥
  at zero lt same rest = let here = (or_parts (eqb y.0 x.0) (list_any (λ y. eqb y.0 x.0) xs) missing).0 in false≢true (sym here ∙ eq-eqb y.0 x.0 (ap (λ (s : SigId). s.0) same))
  at (suc k) lt same rest = rest (or_parts (eqb y.0 x.0) (list_any (λ y. eqb y.0 x.0) xs) missing).1 (k, omega (arith, lt), same)

pub found : (xs : List SigId) (x : SigId) → list_any (λ y. eqb y.0 x.0) xs ≡ true → Contains xs x
found [] x is = cc
found (y ∷ xs) x is = at (eqb y.0 x.0) refl (found xs x) where
  or_rest : (a b : Bool) → a ≡ false → (a || b) ≡ true → b ≡ true
  or_rest true b out is = absurd (false≢true (sym out))
  or_rest false b out is = is

  at : (b : Bool) → eqb y.0 x.0 ≡ b → (list_any (λ y. eqb y.0 x.0) xs ≡ true → Contains xs x) → Contains (y ∷ xs) x
  at true here rest = (0, omega arith, signal_same y x here)
  at false here rest = let there = rest (or_rest (eqb y.0 x.0) (list_any (λ y. eqb y.0 x.0) xs) here is) in (suc there.0, omega (arith, there.1), there.2)

module _ (nodes : List Node) (conditions : List SigId) (p q : Op) (x : SigId) (writes : p.writes ≡ Some x) where
  -- neither of the first two reasons, and not the third
  pub not_before : (keeps_memory p.kind p.eq q.kind ≡ false) → (Needs conditions (operation_in nodes q) x → ⊥) → (Contains q.reads x → Overlap nodes p.guard q.guard → ⊥)
      → ComesBefore conditions (operation_in nodes p) (operation_in nodes q) → ⊥
  not_before no_memory no_need no_feed (inl feeds) =
      let same : feeds.signal ≡ x = (let e : Some feeds.signal ≡ Some x = sym feeds.writes ∙ writes in cc) in
      no_feed (subst (Contains q.reads) same feeds.reads) feeds.together
  not_before no_memory no_need no_feed (inr (inl decides)) =
      let same : decides.condition ≡ x = (let e : Some decides.condition ≡ Some x = sym decides.writes ∙ writes in cc) in
      no_need (subst (Needs conditions (operation_in nodes q)) same decides.needs)
  not_before no_memory no_need no_feed (inr (inr keeps)) = false≢true (sym no_memory ∙ keeps_to nodes p q keeps)

  pub feeds_before : Contains q.reads x → Overlap nodes p.guard q.guard → ComesBefore conditions (operation_in nodes p) (operation_in nodes q)
  feeds_before reads together = inl (record { signal = x; writes = writes; reads = reads; together = together })

-- the conditions that stand at the variables on which a guard depends
pub needs_are : (nodes : List Node) (conditions : List SigId) (q : Op) (variables : List ℕ) (needs : List SigId) → ((v : ℕ) → Contains variables v ↔ Depends (test nodes q.guard) v)
    → needs ≡ filter_map (slice_get conditions) variables → (x : SigId) → Contains needs x ↔ Needs conditions (operation_in nodes q) x
needs_are nodes conditions q variables needs exact is x = (
  (λ there.
      let from = chosen_from (slice_get conditions) variables x (subst (λ (xs : List SigId). Contains xs x) is there) in
      record { variable = from.0; is = from.2; depends = (exact from.0).0 from.1 }),
  (λ need. subst (λ (xs : List SigId). Contains xs x) (sym is) (chosen (slice_get conditions) variables need.variable x ((exact need.variable).1 need.depends) need.is)),
)

-- where neither of the other reasons holds, the guards overlap
pub before_overlaps : (nodes : List Node) (conditions : List SigId) (p q : Op) (x : SigId) → p.writes ≡ Some x → (keeps_memory p.kind p.eq q.kind ≡ false) → (Needs conditions (operation_in nodes q) x → ⊥)
    → ComesBefore conditions (operation_in nodes p) (operation_in nodes q) → Overlap nodes p.guard q.guard
before_overlaps nodes conditions p q x writes no_memory no_need (inl feeds) = feeds.together
before_overlaps nodes conditions p q x writes no_memory no_need (inr (inl decides)) =
    let same : decides.condition ≡ x = (let e : Some decides.condition ≡ Some x = sym decides.writes ∙ writes in cc) in
    absurd (no_need (subst (Needs conditions (operation_in nodes q)) same decides.needs))
before_overlaps nodes conditions p q x writes no_memory no_need (inr (inr keeps)) = absurd (false≢true (sym no_memory ∙ keeps_to nodes p q keeps))

module _ (conditions : List SigId) (nodes : List Node) (ops : List Op) (q op : Op) (n : ℕ) (lt : n < length ops) (is : op ≡ get_or ops n op) where
  -- one more operation was looked at
  pub before_more : (list new : List ℕ) (holds : Bool) → IsBefore conditions nodes (take n ops) q list → (IsTrue holds ↔ ComesBefore conditions (operation_in nodes op) (operation_in nodes q)) → new ≡ added list n holds
      → IsBefore conditions nodes (take (n + 1) ops) q new
  before_more list new holds before exact same = subst (IsBefore conditions nodes (take (n + 1) ops) q) (sym same) (at holds exact) where
    short : length (take n ops) ≡ n
    short = length-take-le n ops (omega (arith, lt))

    long : length (take (n + 1) ops) ≡ n + 1
    long = length-take-le (n + 1) ops (omega (arith, lt))

    below : (i : ℕ) → Contains list i → i < n
    below i there = omega (arith, before.within i there, short)

    own : (i : ℕ) (p : Op) → slice_get (take (n + 1) ops) i ≡ Some p → i ≡ n → p ≡ op
    own i p get e =
        let here : slice_get ops n ≡ Some p = subst (λ (k : ℕ). slice_get ops k ≡ Some p) e (taken_is ops (n + 1) i p get) in
        sym (get_or_from_slice_get ops n p op here) ∙ sym is

    earlier : (i : ℕ) (p : Op) → slice_get (take (n + 1) ops) i ≡ Some p → i < n → Contains list i ↔ ComesBefore conditions (operation_in nodes p) (operation_in nodes q)
    earlier i p get less = before.exact i p (get_taken n ops i p less (taken_is ops (n + 1) i p get))

    place : (i : ℕ) (p : Op) → slice_get (take (n + 1) ops) i ≡ Some p → (i ≡ n) ⊎ (i < n)
    place i p get = elim (cases_order i n) [ inl e ↦ inl e | inr (inl less) ↦ inr less | inr (inr more) ↦ absurd (omega (arith, more, long, slice_get_within (take (n + 1) ops) i p get)) ]

    with_none : (IsTrue false ↔ ComesBefore conditions (operation_in nodes op) (operation_in nodes q)) → (i : ℕ) (p : Op) → slice_get (take (n + 1) ops) i ≡ Some p → ((i ≡ n) ⊎ (i < n))
        → Contains list i ↔ ComesBefore conditions (operation_in nodes p) (operation_in nodes q)
    with_none tells i p get (inr less) = earlier i p get less
    with_none tells i p get (inl e) = (
      (λ there. absurd (omega (arith, below i there, e))),
      (λ comes. absurd (false≢true (tells.1 (subst (λ (o : Op). ComesBefore conditions (operation_in nodes o) (operation_in nodes q)) (own i p get e) comes)))),
    )

    with_one : (IsTrue true ↔ ComesBefore conditions (operation_in nodes op) (operation_in nodes q)) → (i : ℕ) (p : Op) → slice_get (take (n + 1) ops) i ≡ Some p → ((i ≡ n) ⊎ (i < n))
        → Contains (list ++ n ∷ []) i ↔ ComesBefore conditions (operation_in nodes p) (operation_in nodes q)
    with_one tells i p get (inr less) = (
      (λ there. (earlier i p get less).0 (elim (Contains-push_cases list n i there) [ inl old ↦ old | inr e ↦ absurd (omega (arith, e, less)) ])),
      (λ comes. Contains-append_left list (n ∷ []) i ((earlier i p get less).1 comes)),
    )
    with_one tells i p get (inl e) = (
      (λ there. subst (λ (o : Op). ComesBefore conditions (operation_in nodes o) (operation_in nodes q)) (sym (own i p get e)) (tells.0 refl)),
      (λ comes. subst (Contains (list ++ n ∷ [])) (sym e) (Contains-push list n)),
    )

    at : (holds : Bool) → (IsTrue holds ↔ ComesBefore conditions (operation_in nodes op) (operation_in nodes q)) → IsBefore conditions nodes (take (n + 1) ops) q (added list n holds)
    at false tells = record {
      within = λ i there. omega (arith, below i there, long);
      exact = λ i p get. with_none tells i p get (place i p get);
    }
    at true tells = record {
      within = λ i there. elim (Contains-push_cases list n i there) [ inl old ↦ omega (arith, below i old, long) | inr e ↦ omega (arith, e, long) ];
      exact = λ i p get. with_one tells i p get (place i p get);
    }

-- the predecessors of so many operations
abbrev pub AreBefore : List SigId → List Node → List Op → List (List ℕ) → ℕ → Type 0
AreBefore conditions nodes ops graph n = (j : ℕ) (op : Op) → j < n → slice_get ops j ≡ Some op → IsBefore conditions nodes ops op (slice_index_or graph j [])

pub graph_more : (conditions : List SigId) (nodes : List Node) (ops : List Op) (graph new : List (List ℕ)) (n : ℕ) (op : Op) (list : List ℕ) → length graph ≡ n → AreBefore conditions nodes ops graph n → n < length ops → op ≡ get_or ops n op
    → IsBefore conditions nodes ops op list → new ≡ graph ++ list ∷ [] → AreBefore conditions nodes ops new (n + 1)
graph_more conditions nodes ops graph new n op list count before lt is next same j other less get = subst (λ (g : List (List ℕ)). IsBefore conditions nodes ops other (get_or g j [])) (sym same) (at (cases_order j n)) where
  at : ((j ≡ n) ⊎ ((j < n) ⊎ (n < j))) → IsBefore conditions nodes ops other (get_or (graph ++ list ∷ []) j [])
  at (inl e) =
      let own : op ≡ other = is ∙ get_or_from_slice_get ops n other op (subst (λ (k : ℕ). slice_get ops k ≡ Some other) e get) in
      let last : get_or (graph ++ list ∷ []) j [] ≡ list = get_or_push graph list [] j (omega (arith, count, e)) in
      subst (IsBefore conditions nodes ops other) (sym last) (subst (λ (o : Op). IsBefore conditions nodes ops o list) own next)
  at (inr (inl below)) = subst (IsBefore conditions nodes ops other) (sym (get_or_append_left graph (list ∷ []) [] j (omega (arith, below, count)))) (before j other below get)
  at (inr (inr more)) = absurd (omega (arith, more, less))
