-- A walk over a graph of calls.
use Rattle.sig_recursion.proofs.Common.{◌≡◌, ◌≢◌, ◌++◌, ◌⊎◌, ℕ, List, [], ◌∷◌, refl, ap, sym, ◌∙◌, subst, inl, inr, Bool, true, false, not, cond, take, length, get_or, ◌+◌, ◌<◌, arith, Contains, count_by, Vec, All, cases_eq, set, length-set, length-append, get_or-set_same, get_or-set_other, get_or-map, length-map, Contains-append_left, Contains-get_or, Contains-push, Contains-push_cases, sum_by-set, callees_at, graph_in, IsGraph, Path, Here, There, IsVisited, IsPassed, IsCovered, Visits, IsWalk, contains_none, front_more}

visits_as : {v n : List Bool} {w m ps qs : List ℕ} → ps ≡ qs → Visits v w n m ps → Visits v w n m qs
visits_as {v} {n} {w} {m} {ps} {qs} e h = let P : List ℕ → Type 0 = λ l. Visits v w n m l in subst P e h

seen_push : (now : List Bool) (ps : List ℕ) (x : ℕ) → ((place : ℕ) → Contains ps place → IsVisited now place) → IsVisited now x → (place : ℕ) → Contains (ps ++ x ∷ []) place → IsVisited now place
seen_push now ps x h e place c = elim (Contains-push_cases ps x place c) [ inl k ↦ h place k | inr s ↦ (let P : ℕ → Type 0 = λ p. IsVisited now p in subst P s e) ]

-- a place that was visited before
pub visits_seen : (v n : List Bool) (w m places : List ℕ) (i x : ℕ) → x ≡ get_or places i x → i < length places → IsVisited n x → Visits v w n m (take i places) → Visits v w n m (take (i + 1) places)
visits_seen v n w m places i x is h e k = visits_as (sym (front_more places i x is h)) (record {
  kept = k.kept;
  seen = seen_push n (take i places) x k.seen e;
  fresh = k.fresh;
  waits = k.waits;
  from = λ place c. elim (k.from place c) [ inl o ↦ inl o | inr p ↦ inr (Contains-append_left (take i places) (x ∷ []) place p) ];
  size = k.size;
  left = k.left;
})

set_kept : (n : List Bool) (x place : ℕ) → x < length n → IsVisited n place → IsVisited (set n x true) place
set_kept n x place h e = elim (cases_eq place x) [
  | inl s ↦ (let P : ℕ → Type 0 = λ p. IsVisited (set n x true) p in subst P (sym s) (get_or-set_same n x true false h))
  | inr d ↦ get_or-set_other n x place true false d ∙ e
]

set_fresh : (n : List Bool) (x place : ℕ) → IsVisited (set n x true) place → IsVisited n place ⊎ (place ≡ x)
set_fresh n x place e = elim (cases_eq place x) [ inl s ↦ inr s | inr d ↦ inl (sym (get_or-set_other n x place true false d) ∙ e) ]

left_set : (n : List Bool) (x : ℕ) → x < length n → get_or n x false ≡ false → count_by not (set n x true) + 1 ≡ count_by not n
left_set n x h e =
    let s : count_by not (set n x true) + cond {A = ℕ} (not (get_or n x false)) 1 0 ≡ count_by not n + 0 = sum_by-set (λ b. cond (not b) 1 0) n x true false h in
    let one : cond {A = ℕ} (not (get_or n x false)) 1 0 ≡ 1 = ap (λ (b : Bool). cond {A = ℕ} (not b) 1 0) e in
    omega arith

-- a place that was not
pub visits_more : (v n : List Bool) (w m places : List ℕ) (i x : ℕ) → x ≡ get_or places i x → i < length places → x < length n → get_or n x false ≡ false
    → Visits v w n m (take i places) → Visits v w (set n x true) (m ++ x ∷ []) (take (i + 1) places)
visits_more v n w m places i x is h below e k = visits_as (sym (front_more places i x is h)) (record {
  kept = λ place o. set_kept n x place below (k.kept place o);
  seen = seen_push (set n x true) (take i places) x (λ place c. set_kept n x place below (k.seen place c)) (get_or-set_same n x true false below);
  fresh = λ place o. elim (set_fresh n x place o) [
    | inl b ↦ elim (k.fresh place b) [ inl y ↦ inl y | inr c ↦ inr (Contains-append_left m (x ∷ []) place c) ]
    | inr s ↦ inr (let P : ℕ → Type 0 = λ p. Contains (m ++ x ∷ []) p in subst P (sym s) (Contains-push m x))
  ];
  waits = λ place c. Contains-append_left m (x ∷ []) place (k.waits place c);
  from = λ place c. elim (Contains-push_cases m x place c) [
    | inl o ↦ elim (k.from place o) [ inl y ↦ inl y | inr p ↦ inr (Contains-append_left (take i places) (x ∷ []) place p) ]
    | inr s ↦ inr (let P : ℕ → Type 0 = λ p. Contains (take i places ++ x ∷ []) p in subst P s (Contains-push (take i places) x))
  ];
  size = length-set n x true ∙ k.size;
  left = let l : count_by not n + length m ≡ count_by not v + length w = k.left in
      let s = left_set n x below e in
      let t : length (m ++ x ∷ []) ≡ length m + 1 = length-append m (x ∷ []) in
      omega arith;
})

passed_kept : (graph : List (List ℕ)) (target : ℕ) (v n : List Bool) (place : ℕ) → ((p : ℕ) → IsVisited v p → IsVisited n p) → IsPassed graph target v place → IsPassed graph target n place
passed_kept graph target v n place kept p = record { apart = p.apart; called = λ next c. kept next (p.called next c) }

path_more : (graph : List (List ℕ)) (a b c : ℕ) → Path graph a b → Contains (callees_at graph b) c → Path graph a c
path_more graph a b c Here call = There call Here
path_more graph a b c (There first rest) call = There first (path_more graph _ b c rest call)

at_one : (x place : ℕ) → Contains (x ∷ []) place → x ≡ place
at_one x place c = elim (Contains-push_cases [] x place c) [ inl n ↦ absurd (contains_none place n) | inr s ↦ s ]

-- the beginning of a walk
pub walk_begins : (graph : List (List ℕ)) (start target : ℕ) (v n : List Bool) (m : List ℕ) → start < length graph → IsCovered graph target v [] → Visits v [] n m (start ∷ []) → IsWalk graph start target n m
walk_begins graph start target v n m h cov k =
    let from : (place : ℕ) → Contains m place → start ≡ place = λ place c. elim (k.from place c) [ inl o ↦ absurd (contains_none place o) | inr s ↦ at_one start place s ] in
    record {
      covered = record {
        covered = λ place o. elim (k.fresh place o) [
          | inl b ↦ elim (cov.covered place b) [ inl c ↦ absurd (contains_none place c) | inr p ↦ inr (passed_kept graph target v n place k.kept p) ]
          | inr c ↦ inl c
        ];
      };
      reached = λ place c. (let P : ℕ → Type 0 = λ p. Path graph start p in subst P (from place c) Here);
      within = λ place c. (let P : ℕ → Type 0 = λ p. p < length graph in subst P (from place c) h);
      begun = k.seen start (Contains-push [] start);
    }

-- one place of a walk is passed
pub walk_goes : (graph : List (List ℕ)) (start target next : ℕ) (v n : List Bool) (all w m callees : List ℕ) → IsGraph graph → all ≡ w ++ next ∷ [] → next ≢ target → callees ≡ callees_at graph next
    → IsWalk graph start target v all → Visits v w n m callees → IsWalk graph start target n m
walk_goes graph start target next v n all w m callees g e apart is walk k =
    let called : (p : ℕ) → Contains (callees_at graph next) p → Contains callees p = λ p c. (let P : List ℕ → Type 0 = λ l. Contains l p in subst P (sym is) c) in
    let calls : (p : ℕ) → Contains callees p → Contains (callees_at graph next) p = λ p c. (let P : List ℕ → Type 0 = λ l. Contains l p in subst P is c) in
    let last : Contains all next = (let P : List ℕ → Type 0 = λ l. Contains l next in subst P (sym e) (Contains-push w next)) in
    let early : (p : ℕ) → Contains w p → Contains all p = λ p c. (let P : List ℕ → Type 0 = λ l. Contains l p in subst P (sym e) (Contains-append_left w (next ∷ []) p c)) in
    let split : (p : ℕ) → Contains all p → Contains w p ⊎ (next ≡ p) = λ p c. Contains-push_cases w next p (let P : List ℕ → Type 0 = λ l. Contains l p in subst P e c) in
    let passed : IsPassed graph target n next = record { apart = apart; called = λ p c. k.seen p (called p c) } in
    record {
      covered = record {
        covered = λ place o. elim (k.fresh place o) [
          | inl b ↦ elim (walk.covered.covered place b) [
            | inl c ↦ elim (split place c) [ inl y ↦ inl (k.waits place y) | inr s ↦ inr (let P : ℕ → Type 0 = λ p. IsPassed graph target n p in subst P s passed) ]
            | inr p ↦ inr (passed_kept graph target v n place k.kept p)
          ]
          | inr c ↦ inl c
        ];
      };
      reached = λ place c. elim (k.from place c) [ inl o ↦ walk.reached place (early place o) | inr s ↦ path_more graph start next place (walk.reached next last) (calls place s) ];
      within = λ place c. elim (k.from place c) [ inl o ↦ walk.within place (early place o) | inr s ↦ g.within next place (calls place s) ];
      begun = k.kept start walk.begun;
    }

-- what is covered does not lead to the target
pub covered_misses : (graph : List (List ℕ)) (target place to : ℕ) (v : List Bool) → to ≡ target → IsCovered graph target v [] → IsVisited v place → Path graph place to → ⊥
covered_misses graph target place to v e cov o Here = elim (cov.covered place o) [ inl c ↦ contains_none place c | inr p ↦ p.apart e ]
covered_misses graph target place to v e cov o (There {from} {next} call rest) =
    elim (cov.covered place o) [ inl c ↦ contains_none place c | inr p ↦ covered_misses graph target _ to v e cov (p.called _ call) rest ]

-- the callees of the code
pub callees_are : (callees : List (Vec ℕ)) (i : ℕ) (x : Vec ℕ) → i < length callees → x ≡ get_or callees i x → x.items ≡ callees_at (graph_in callees) i
callees_are callees i x h is = ap (λ (v : Vec ℕ). v.items) is ∙ sym (get_or-map (λ (v : Vec ℕ). v.items) callees i x [] h)

-- what waits last is a place of the graph
pub waits_within : (callees : List (Vec ℕ)) (start target next : ℕ) (v : List Bool) (all w : List ℕ) → IsWalk (graph_in callees) start target v all → all ≡ w ++ next ∷ [] → next < length callees
waits_within callees start target next v all w walk e =
    let h : next < length (graph_in callees) = walk.within next (let P : List ℕ → Type 0 = λ l. Contains l next in subst P (sym e) (Contains-push w next)) in
    let same : length (graph_in callees) ≡ length callees = length-map callees (λ (c : Vec ℕ). c.items) in
    omega arith

-- the start of a walk is a place of the graph
pub start_within : (callees : List (Vec ℕ)) (start : ℕ) → start < length callees → start < length (graph_in callees)
start_within callees start h = let same : length (graph_in callees) ≡ length callees = length-map callees (λ (c : Vec ℕ). c.items) in omega arith

-- what is called is a place of the graph
pub callees_within : (callees : List (Vec ℕ)) (next n : ℕ) (places : List ℕ) → IsGraph (graph_in callees) → places ≡ callees_at (graph_in callees) next → n ≡ length callees → All (λ p. p < n) places
callees_within callees next n places g is e k d h =
    let c : Contains places (get_or places k d) = Contains-get_or places k d h in
    let in' : get_or places k d < length (graph_in callees) = g.within next (get_or places k d) (let P : List ℕ → Type 0 = λ l. Contains l (get_or places k d) in subst P is c) in
    let same : length (graph_in callees) ≡ length callees = length-map callees (λ (c : Vec ℕ). c.items) in
    omega arith

-- nothing waits
pub none_waits : (waiting : List ℕ) (n : ℕ) → n ≡ length waiting → n ≡ 0 → waiting ≡ []
none_waits [] n is e = refl
none_waits (x ∷ xs) n is e = absurd (omega arith)

-- at the end of a walk, what is visited is covered
pub walk_covers : (graph : List (List ℕ)) (start target : ℕ) (v : List Bool) (waiting : List ℕ) (n : ℕ) → n ≡ length waiting → n ≡ 0 → IsWalk graph start target v waiting → IsCovered graph target v []
walk_covers graph start target v waiting n is e walk = let P : List ℕ → Type 0 = λ w. IsCovered graph target v w in subst P (none_waits waiting n is e) walk.covered
