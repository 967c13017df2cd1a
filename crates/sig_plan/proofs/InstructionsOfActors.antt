-- What the instructions of an actor are for.
use Rattle.sig_plan.proofs.Common.{◌≡◌, ◌+◌, ◌*◌, ◌++◌, inl, inr, ℕ, Bool, true, false, cond, List, [], ◌∷◌, length, map, refl, sym, ap, ◌∙◌, subst, arith, Contains, zero, suc, All, None, Option, Some, flat_map, slice_get, ◌==◌, if◌then◌else◌, cons_option, enumerate_from, filter_map, eqb-false, eqb-true, false≢true, All-append, All-cons, All-contains, All-nil, SigId, Instruction, at_end, at_number, instructions_of, is_signal, links_of, links_to, over_order, report_links, reports_of, under, unguarded, op_id, CarriesFrom, IsFor, StandsAt, collects, commits, does, receives, reports, sends, Operation, PartsView, Do, Send, Receive, Report, Collect, Commit, LinkInfo, contains_cons, contains_head, contains_later, contains_none}

-- ---- links that were chosen

module _ (f : ℕ × LinkInfo → Option ℕ) where
  abbrev Chosen : ℕ → List LinkInfo → ℕ → Type 0
  Chosen n links l = (k : ℕ) × (info : LinkInfo) × (slice_get links k ≡ Some info) × (f (n + k, info) ≡ Some l)

  chosen_later : (n : ℕ) (link : LinkInfo) (links : List LinkInfo) (l : ℕ) → Chosen (n + 1) links l → Chosen n (link ∷ links) l
  chosen_later n link links l (k, info, at, is) =
      let next : n + 1 + k ≡ n + suc k = omega arith in
      (suc k, info, at, subst (λ m. f (m, info) ≡ Some l) next is)

  chosen_here : (n : ℕ) (link : LinkInfo) (links : List LinkInfo) (ls : List ℕ) (l : ℕ) (o : Option ℕ) → f (n, link) ≡ o → (Contains ls l → Chosen (n + 1) links l) → Contains (cons_option o ls) l → Chosen n (link ∷ links) l
  chosen_here n link links ls l None is rest there = chosen_later n link links l (rest there)
  chosen_here n link links ls l (Some m) is rest there = elim (contains_cons m l ls there) [
    | inl same ↦
        let here : n ≡ n + 0 = omega arith in
        (0, link, refl, subst (λ k. f (k, link) ≡ Some l) here (is ∙ ap Some (sym same)))
    | inr later ↦ chosen_later n link links l (rest later)
  ]

  pub chosen_from : (n : ℕ) (links : List LinkInfo) (l : ℕ) → Contains (filter_map f (enumerate_from n links)) l → (k : ℕ) × (info : LinkInfo) × (slice_get links k ≡ Some info) × (f (n + k, info) ≡ Some l)
  chosen_from n [] l there = absurd (contains_none l there)
  chosen_from n (link ∷ links) l there = chosen_here n link links (filter_map f (enumerate_from (n + 1) links)) l (f (n, link)) refl (chosen_from (n + 1) links l) there

  put : (o : Option ℕ) (ls : List ℕ) (l : ℕ) → Contains ls l → Contains (cons_option o ls) l
  put None ls l there = there
  put (Some m) ls l there = contains_later m l ls there

  put_here : (o : Option ℕ) (ls : List ℕ) (l : ℕ) → o ≡ Some l → Contains (cons_option o ls) l
  put_here None ls l is = cc
  put_here (Some m) ls l is = let same : m ≡ l = cc in subst (Contains (m ∷ ls)) same (contains_head m ls)

  pub chosen : (n : ℕ) (links : List LinkInfo) (k : ℕ) (info : LinkInfo) (l : ℕ) → slice_get links k ≡ Some info → f (n + k, info) ≡ Some l → Contains (filter_map f (enumerate_from n links)) l
  chosen n [] k info l at is = cc
  chosen n (link ∷ links) zero info l at is =
      let same : link ≡ info = cc in
      let here : n + 0 ≡ n = omega arith in
      put_here (f (n, link)) (filter_map f (enumerate_from (n + 1) links)) l (ap (λ x. f (n, x)) same ∙ subst (λ m. f (m, info) ≡ Some l) here is)
  chosen n (link ∷ links) (suc k) info l at is =
      let next : n + suc k ≡ n + 1 + k = omega arith in
      put (f (n, link)) (filter_map f (enumerate_from (n + 1) links)) l (chosen (n + 1) links k info l at (subst (λ m. f (m, info) ≡ Some l) next is))

pub same_option : (a b : Option SigId) → is_signal a b ≡ true → a ≡ b
same_option (Some x) (Some y) is = let same = eqb-true x.0 y.0 is in λ j. Some (record { 0 = same j })
same_option None None is = refl
same_option _ _ is = absurd (false≢true is)

-- what a choice that gave a number gave
when_one : (b : Bool) (k l : ℕ) → (let o : Option ℕ = cond b (Some k) None in o) ≡ Some l → (b ≡ true) × (k ≡ l)
when_one true k l is = (refl, cc)
when_one false k l is = cc

when_two : (b d : Bool) (k l : ℕ) → (let o : Option ℕ = cond b (cond d (Some k) None) None in o) ≡ Some l → (b ≡ true) × (d ≡ true) × (k ≡ l)
when_two true d k l is = let inner = when_one d k l is in (refl, inner.0, inner.1)
when_two false d k l is = cc

carried : (links : List LinkInfo) (p : Operation) (writes : Option SigId) (l : ℕ) → p.writes ≡ writes → Contains (links_of links writes) l → CarriesFrom links p l
carried links p None l is there = absurd (contains_none l there)
carried links p (Some x) l is there =
    let found = chosen_from (λ link. if is_signal link.1.signal (Some x) then Some link.0 else None) 0 links l there in
    let one = when_one (is_signal found.1.signal (Some x)) (0 + found.0) l found.3 in
    let same : found.0 ≡ l = omega (arith, one.1) in
    record { info = found.1; signal = x; is = subst (λ k. slice_get links k ≡ Some found.1) same found.2; writes = is; carries = same_option found.1.signal (Some x) one.0 }

carried_to : (links : List LinkInfo) (p : Operation) (writes : Option SigId) (reader l : ℕ) → p.writes ≡ writes → Contains (links_to links writes reader) l → (from : CarriesFrom links p l) × (from.info.reader ≡ reader)
carried_to links p None reader l is there = absurd (contains_none l there)
carried_to links p (Some x) reader l is there =
    let found = chosen_from (λ link. if is_signal link.1.signal (Some x) then (if link.1.reader == reader then Some link.0 else None) else None) 0 links l there in
    let two = when_two (is_signal found.1.signal (Some x)) (found.1.reader == reader) (0 + found.0) l found.3 in
    let same : found.0 ≡ l = omega (arith, two.2) in (
      record { info = found.1; signal = x; is = subst (λ k. slice_get links k ≡ Some found.1) same found.2; writes = is; carries = same_option found.1.signal (Some x) two.0 },
      eqb-true found.1.reader reader two.1,
    )

-- ---- instructions

All-flat : {X Y : Type 0} (P : Y → Type 0) (f : X → List Y) (xs : List X) → ((x : X) → Contains xs x → All P (f x)) → All P (flat_map f xs)
All-flat P f [] each = All-nil P
All-flat P f (x ∷ xs) each = All-append P (f x) (flat_map f xs) (each x (contains_head x xs)) (All-flat P f xs (λ y there. each y (contains_later x y xs there)))

All-mapped : {X Y : Type 0} (P : Y → Type 0) (f : X → Y) (xs : List X) → ((x : X) → Contains xs x → P (f x)) → All P (map f xs)
All-mapped P f [] each = All-nil P
All-mapped P f (x ∷ xs) each = All-cons P (f x) (map f xs) (each x (contains_head x xs)) (All-mapped P f xs (λ y there. each y (contains_later x y xs there)))

numbered_at : {X : Type 0} (n : ℕ) (xs : List X) (place : ℕ × X) → Contains (enumerate_from n xs) place → (k : ℕ) × (place.0 ≡ n + k) × (slice_get xs k ≡ Some place.1)
numbered_at n [] place there = absurd (contains_none place there)
numbered_at n (x ∷ xs) place there = elim (contains_cons (n, x) place (enumerate_from (n + 1) xs) there) [
  | inl same ↦ (0, ap (λ pair. pair.0) same ∙ omega arith, ap (λ pair. Some pair.1) (sym same))
  | inr later ↦ let (k, at, is) = numbered_at (n + 1) xs place later in (suc k, omega (arith, at), is)
]

module _ (operations : List Operation) (order : List ℕ) (links : List LinkInfo) (clusters actor : ℕ) where
  abbrev Known : Instruction → Type 0
  Known i = IsFor operations order links clusters actor i

  at_own : (j number : ℕ) (p : Operation) (b : Bool) → (p.cluster == actor) ≡ b → StandsAt operations order j number p
      → All Known (if b then under p (Do (op_id number)) (2 * j) ∷ map (λ link. under p (Send link) (2 * j + 1)) (links_of links p.writes)
      else map (λ link. under p (Receive link) (2 * j + 1)) (links_to links p.writes actor))
  at_own j number p true is stands =
      let own = eqb-true p.cluster actor is in
      All-cons Known (under p (Do (op_id number)) (2 * j)) (map (λ link. under p (Send link) (2 * j + 1)) (links_of links p.writes)) (does j number p stands own)
      (All-mapped Known (λ link. under p (Send link) (2 * j + 1)) (links_of links p.writes) (λ link there. sends j number link p stands own (carried links p p.writes link refl there)))
  at_own j number p false is stands =
      All-mapped Known (λ link. under p (Receive link) (2 * j + 1)) (links_to links p.writes actor) (λ link there.
      let from = carried_to links p p.writes actor link refl there in
      receives j number link p stands (eqb-false p.cluster actor is) from.0 from.1)

  at_each : (j number : ℕ) (o : Option Operation) → slice_get order j ≡ Some number → slice_get operations number ≡ o → All Known (at_number operations links actor j number o)
  at_each j number None place is = All-nil Known
  at_each j number (Some p) place is = at_own j number p (p.cluster == actor) refl (record { place = place; is = is })

  over_all : All Known (over_order operations order links actor)
  over_all = All-flat Known (λ place. at_number operations links actor place.0 place.1 (slice_get operations place.1)) (enumerate_from 0 order) (λ place there.
      let (k, at, is) = numbered_at 0 order place there in
      let same : k ≡ place.0 = omega (arith, at) in
      at_each place.0 place.1 (slice_get operations place.1) (subst (λ m. slice_get order m ≡ Some place.1) same is) refl)

  at_last : (b : Bool) → (actor == clusters) ≡ b
      → All Known (if b then map (λ link. unguarded (Collect link) (2 * length operations)) (report_links links) ++ unguarded Commit (2 * length operations + 1) ∷ []
      else map (λ link. unguarded (Report link) (2 * length operations)) (reports_of links actor))
  at_last true is =
      let collector = eqb-true actor clusters is in
      All-append Known (map (λ link. unguarded (Collect link) (2 * length operations)) (report_links links)) (unguarded Commit (2 * length operations + 1) ∷ [])
      (All-mapped Known (λ link. unguarded (Collect link) (2 * length operations)) (report_links links) (λ l there.
      let found = chosen_from (λ link. if is_signal link.1.signal None then Some link.0 else None) 0 links l there in
      let one = when_one (is_signal found.1.signal None) (0 + found.0) l found.3 in
      let same : found.0 ≡ l = omega (arith, one.1) in
      collects l found.1 collector (subst (λ k. slice_get links k ≡ Some found.1) same found.2) (same_option found.1.signal None one.0)))
      (All-cons Known (unguarded Commit (2 * length operations + 1)) [] (commits collector) (All-nil Known))
  at_last false is =
      All-mapped Known (λ link. unguarded (Report link) (2 * length operations)) (reports_of links actor) (λ l there.
      let found = chosen_from (λ link. if is_signal link.1.signal None then (if link.1.writer == actor then Some link.0 else None) else None) 0 links l there in
      let two = when_two (is_signal found.1.signal None) (found.1.writer == actor) (0 + found.0) l found.3 in
      let same : found.0 ≡ l = omega (arith, two.2) in
      reports l found.1 (eqb-false actor clusters is) (subst (λ k. slice_get links k ≡ Some found.1) same found.2) (same_option found.1.signal None two.0) (eqb-true found.1.writer actor two.1))

  all_known : All Known (over_order operations order links actor ++ at_end links clusters (length operations) actor)
  all_known = All-append Known (over_order operations order links actor) (at_end links clusters (length operations) actor) over_all (at_last (actor == clusters) refl)

pub instruction_for : (operations : List Operation) (order : List ℕ) (parts : PartsView) (actor : ℕ) (instruction : Instruction) → Contains (instructions_of operations order parts actor) instruction
    → IsFor operations order parts.links parts.clusters actor instruction
instruction_for operations order parts actor instruction there =
    All-contains (λ i. IsFor operations order parts.links parts.clusters actor i) (instructions_of operations order parts actor) instruction (all_known operations order parts.links parts.clusters actor) there
