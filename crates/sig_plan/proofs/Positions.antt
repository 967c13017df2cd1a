-- Instructions stand by position.
use Rattle.sig_plan.proofs.Common.{◌≡◌, ◌<◌, ◌≤◌, ◌+◌, ◌*◌, ◌++◌, inl, inr, ℕ, Bool, true, false, List, [], ◌∷◌, length, map, refl, sym, ap, ◌∙◌, subst, arith, Contains, zero, suc, None, Option, Some, flat_map, slice_get, ◌==◌, if◌then◌else◌, enumerate_from, cases_order, Instruction, at_end, at_number, instructions_of, links_of, links_to, op_id, over_order, report_links, reports_of, under, unguarded, Operation, PartsView, Do, Send, Receive, Report, Collect, Commit, LinkInfo, at_contained, contains_at, contains_cons, contains_head, contains_later, contains_none, mapped_from, Contains-append_cases}

-- each stands at no later position than those behind it
Sorted : List Instruction → Type 0
Sorted [] = Unit {0}
Sorted (x ∷ xs) = ((y : Instruction) → Contains xs y → x.position ≤ y.position) × Sorted xs

-- the positions are between two numbers
abbrev Between : ℕ → ℕ → List Instruction → Type 0
Between low high xs = (x : Instruction) → Contains xs x → (low ≤ x.position) × (x.position ≤ high)

sorted_append : (xs ys : List Instruction) → Sorted xs → Sorted ys → ((a b : Instruction) → Contains xs a → Contains ys b → a.position ≤ b.position) → Sorted (xs ++ ys)
unfolding Sorted
sorted_append [] ys first second apart = second
sorted_append (x ∷ xs) ys first second apart = (
  λ y there. elim (Contains-append_cases xs ys y there) [ inl own ↦ first.0 y own | inr other ↦ apart x y (contains_head x xs) other ],
  sorted_append xs ys first.1 second (λ a b in_a in_b. apart a b (contains_later x a xs in_a) in_b),
)

sorted_level : {X : Type 0} (f : X → Instruction) (level : ℕ) → ((x : X) → (f x).position ≡ level) → (xs : List X) → Sorted (map f xs)
unfolding Sorted
sorted_level f level is [] = tt
sorted_level f level is (x ∷ xs) = (
  λ y there. let (z, among, same) = mapped_from f xs y there in let here = is x in let other : y.position ≡ level = ap (λ (i : Instruction). i.position) same ∙ is z in omega (arith, here, other),
  sorted_level f level is xs,
)

between_level : {X : Type 0} (f : X → Instruction) (level low high : ℕ) → ((x : X) → (f x).position ≡ level) → low ≤ level → level ≤ high → (xs : List X) → Between low high (map f xs)
between_level f level low high is above below xs y there =
    let (z, among, same) = mapped_from f xs y there in
    let other : y.position ≡ level = ap (λ (i : Instruction). i.position) same ∙ is z in
    (omega (arith, above, other), omega (arith, below, other))

between_cons : (low high : ℕ) (x : Instruction) (xs : List Instruction) → low ≤ x.position → x.position ≤ high → Between low high xs → Between low high (x ∷ xs)
between_cons low high x xs above below rest y there = elim (contains_cons x y xs there) [
  | inl same ↦ subst (λ (i : Instruction). (low ≤ i.position) × (i.position ≤ high)) (sym same) (above, below)
  | inr later ↦ rest y later
]

between_append : (low high : ℕ) (xs ys : List Instruction) → Between low high xs → Between low high ys → Between low high (xs ++ ys)
between_append low high xs ys first second y there = elim (Contains-append_cases xs ys y there) [ inl own ↦ first y own | inr other ↦ second y other ]

between_none : (low high : ℕ) → Between low high []
between_none low high y there = absurd (contains_none y there)

between_wider : (low high less more : ℕ) (xs : List Instruction) → less ≤ low → high ≤ more → Between low high xs → Between less more xs
between_wider low high less more xs le ge is y there = let both = is y there in let first = both.0 in let second = both.1 in (omega (arith, le, first), omega (arith, ge, second))

module _ (operations : List Operation) (links : List LinkInfo) (actor : ℕ) where
  abbrev Place : ℕ → ℕ → Operation → Bool → List Instruction
  Place j number p b = if b then under p (Do (op_id number)) (2 * j) ∷ map (λ link. under p (Send link) (2 * j + 1)) (links_of links p.writes)
      else map (λ link. under p (Receive link) (2 * j + 1)) (links_to links p.writes actor)

  place_sorted : (j number : ℕ) (p : Operation) (b : Bool) → Sorted (Place j number p b) × Between (2 * j) (2 * j + 1) (Place j number p b)
  unfolding Sorted
  place_sorted j number p true =
      let sends = between_level (λ link. under p (Send link) (2 * j + 1)) (2 * j + 1) (2 * j) (2 * j + 1) (λ link. refl) (omega arith) (omega arith) (links_of links p.writes) in (
        ((λ y there. (sends y there).0), sorted_level (λ link. under p (Send link) (2 * j + 1)) (2 * j + 1) (λ link. refl) (links_of links p.writes)),
        between_cons (2 * j) (2 * j + 1) (under p (Do (op_id number)) (2 * j)) (map (λ link. under p (Send link) (2 * j + 1)) (links_of links p.writes)) (omega arith) (omega arith) sends,
      )
  place_sorted j number p false = (
    sorted_level (λ link. under p (Receive link) (2 * j + 1)) (2 * j + 1) (λ link. refl) (links_to links p.writes actor),
    between_level (λ link. under p (Receive link) (2 * j + 1)) (2 * j + 1) (2 * j) (2 * j + 1) (λ link. refl) (omega arith) (omega arith) (links_to links p.writes actor),
  )

  number_sorted : (j number : ℕ) (o : Option Operation) → Sorted (at_number operations links actor j number o) × Between (2 * j) (2 * j + 1) (at_number operations links actor j number o)
  unfolding Sorted
  number_sorted j number None = (tt, between_none (2 * j) (2 * j + 1))
  number_sorted j number (Some p) = place_sorted j number p (p.cluster == actor)

  abbrev Over : ℕ → List ℕ → List Instruction
  Over n order = flat_map (λ place. at_number operations links actor place.0 place.1 (slice_get operations place.1)) (enumerate_from n order)

  over_sorted : (n : ℕ) (order : List ℕ) → Sorted (Over n order) × Between (2 * n) (2 * (n + length order)) (Over n order)
  unfolding Sorted
  over_sorted n [] = (tt, between_none (2 * n) (2 * (n + 0)))
  over_sorted n (number ∷ order) =
      let first = number_sorted n number (slice_get operations number) in
      let rest = over_sorted (n + 1) order in
      let head : List Instruction = at_number operations links actor n number (slice_get operations number) in (
        sorted_append head (Over (n + 1) order) first.0 rest.0 (λ a b in_a in_b. let below = (first.1 a in_a).1 in let above = (rest.1 b in_b).0 in omega (arith, below, above)),
        between_append (2 * n) (2 * (n + suc (length order))) head (Over (n + 1) order)
            (between_wider (2 * n) (2 * n + 1) (2 * n) (2 * (n + suc (length order))) head (omega arith) (omega arith) first.1)
            (between_wider (2 * (n + 1)) (2 * (n + 1 + length order)) (2 * n) (2 * (n + suc (length order))) (Over (n + 1) order) (omega arith) (omega arith) rest.1),
      )

  end_sorted : (clusters n : ℕ) (b : Bool)
      → Sorted (if b then map (λ link. unguarded (Collect link) (2 * n)) (report_links links) ++ unguarded Commit (2 * n + 1) ∷ [] else map (λ link. unguarded (Report link) (2 * n)) (reports_of links actor))
      × Between (2 * n) (2 * n + 1) (if b then map (λ link. unguarded (Collect link) (2 * n)) (report_links links) ++ unguarded Commit (2 * n + 1) ∷ [] else map (λ link. unguarded (Report link) (2 * n)) (reports_of links actor))
  unfolding Sorted
  end_sorted clusters n true =
      let collects = between_level (λ link. unguarded (Collect link) (2 * n)) (2 * n) (2 * n) (2 * n + 1) (λ link. refl) (omega arith) (omega arith) (report_links links) in
      let commit = between_cons (2 * n) (2 * n + 1) (unguarded Commit (2 * n + 1)) [] (omega arith) (omega arith) (between_none (2 * n) (2 * n + 1)) in (
        sorted_append (map (λ link. unguarded (Collect link) (2 * n)) (report_links links)) (unguarded Commit (2 * n + 1) ∷ [])
            (sorted_level (λ link. unguarded (Collect link) (2 * n)) (2 * n) (λ link. refl) (report_links links)) ((λ y there. absurd (contains_none y there)), tt)
            (λ a b in_a in_b. elim (contains_cons (unguarded Commit (2 * n + 1)) b [] in_b) [
              | inl same ↦ let below = (collects a in_a).1 in let at : b.position ≡ 2 * n + 1 = ap (λ (i : Instruction). i.position) same in omega (arith, below, at)
              | inr none ↦ absurd (contains_none b none)
            ]),
        between_append (2 * n) (2 * n + 1) (map (λ link. unguarded (Collect link) (2 * n)) (report_links links)) (unguarded Commit (2 * n + 1) ∷ []) collects commit,
      )
  end_sorted clusters n false = (
    sorted_level (λ link. unguarded (Report link) (2 * n)) (2 * n) (λ link. refl) (reports_of links actor),
    between_level (λ link. unguarded (Report link) (2 * n)) (2 * n) (2 * n) (2 * n + 1) (λ link. refl) (omega arith) (omega arith) (reports_of links actor),
  )

sorted_at : (xs : List Instruction) → Sorted xs → (i k : ℕ) (a b : Instruction) → i < k → slice_get xs i ≡ Some a → slice_get xs k ≡ Some b → a.position ≤ b.position
unfolding Sorted
sorted_at [] is i k a b lt at_i at_k = cc
sorted_at (x ∷ xs) is zero zero a b lt at_i at_k = absurd (omega (arith, lt))
sorted_at (x ∷ xs) is zero (suc k) a b lt at_i at_k = let same : x ≡ a = cc in subst (λ (y : Instruction). y.position ≤ b.position) same (is.0 b (contains_at xs k b at_k))
sorted_at (x ∷ xs) is (suc i) zero a b lt at_i at_k = absurd (omega (arith, lt))
sorted_at (x ∷ xs) is (suc i) (suc k) a b lt at_i at_k = sorted_at xs is.1 i k a b (omega (arith, lt)) at_i at_k

module _ (operations : List Operation) (order : List ℕ) (parts : PartsView) (actor : ℕ) (full : length order ≡ length operations) where
  all_sorted : Sorted (instructions_of operations order parts actor)
  all_sorted =
      let over = over_sorted operations parts.links actor 0 order in
      let end = end_sorted operations parts.links actor parts.clusters (length operations) (actor == parts.clusters) in
      sorted_append (over_order operations order parts.links actor) (at_end parts.links parts.clusters (length operations) actor) over.0 end.0
      (λ a b in_a in_b. let below = (over.1 a in_a).1 in let above = (end.1 b in_b).0 in omega (arith, below, above, full))

  -- instructions stand by position
  pub positions_rise : (i k : ℕ) (a b : Instruction) → i < k → slice_get (instructions_of operations order parts actor) i ≡ Some a → slice_get (instructions_of operations order parts actor) k ≡ Some b → a.position ≤ b.position
  positions_rise = sorted_at (instructions_of operations order parts actor) all_sorted

  -- so one of an earlier position stands before
  pub stands_before : (k : ℕ) (a b : Instruction) → Contains (instructions_of operations order parts actor) a → slice_get (instructions_of operations order parts actor) k ≡ Some b → a.position < b.position
      → (i : ℕ) × (i < k) × (slice_get (instructions_of operations order parts actor) i ≡ Some a)
  stands_before k a b there at lt =
      let i = there.0 in
      let found = at_contained (instructions_of operations order parts actor) a there in
      elim (cases_order i k) [
        | inl same ↦ (
            let e : Some a ≡ Some b = sym found ∙ (ap (slice_get (instructions_of operations order parts actor)) same ∙ at) in
            let one : a ≡ b = cc in
            absurd (let p = ap (λ (x : Instruction). x.position) one in omega (arith, p, lt)))
        | inr (inl less) ↦ (i, less, found)
        | inr (inr more) ↦ absurd (let p = positions_rise k i b a more at found in omega (arith, p, lt))
      ]
