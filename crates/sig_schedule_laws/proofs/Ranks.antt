-- No instruction of an actor stands twice.
use Rattle.sig_schedule_laws.proofs.Common.{◌≡◌, ◌<◌, ◌≤◌, ◌+◌, ◌*◌, ◌++◌, ◌⊎◌, inl, inr, ℕ, zero, suc, Bool, true, false, List, [], ◌∷◌, length, map, refl, ap, sym, subst, ◌∙◌, arith, Contains, None, Option, Some, flat_map, slice_get, ◌==◌, if◌then◌else◌, cons_option, enumerate_from, filter_map, cases_order, SigId, Instruction, at_end, at_number, instructions_of, is_signal, links_of, links_to, op_id, over_order, report_links, reports_of, under, unguarded, Operation, PartsView, StepKind, Do, Send, Receive, Report, Collect, Commit, LinkInfo, contains_at, contains_cons, contains_head, contains_later, contains_none, mapped_from, Contains-append_cases}

-- the link that an instruction names
abbrev link_in : StepKind → ℕ
link_in (Send l) = l
link_in (Receive l) = l
link_in (Report l) = l
link_in (Collect l) = l
link_in _ = 0

-- one comes before another one: by position, then by link
abbrev Under : Instruction → Instruction → Type 0
Under a b = (a.position < b.position) ⊎ ((a.position ≡ b.position) × (link_in a.kind < link_in b.kind))

abbrev Rising : List Instruction → Type 0
Rising [] = Unit {0}
Rising (x ∷ xs) = ((y : Instruction) → Contains xs y → Under x y) × Rising xs

abbrev Between : ℕ → ℕ → List Instruction → Type 0
Between low high xs = (x : Instruction) → Contains xs x → (low ≤ x.position) × (x.position < high)

rising_append : (xs ys : List Instruction) → Rising xs → Rising ys → ((a b : Instruction) → Contains xs a → Contains ys b → Under a b) → Rising (xs ++ ys)
rising_append [] ys first second apart = second
rising_append (x ∷ xs) ys first second apart = (
  λ y there. elim (Contains-append_cases xs ys y there) [ inl own ↦ first.0 y own | inr other ↦ apart x y (contains_head x xs) other ],
  rising_append xs ys first.1 second (λ a b in_a in_b. apart a b (contains_later x a xs in_a) in_b),
)

between_wider : (low high less more : ℕ) (xs : List Instruction) → less ≤ low → high ≤ more → Between low high xs → Between less more xs
between_wider low high less more xs le ge is y there = let both = is y there in (omega (arith, le, both.0), omega (arith, ge, both.1))

between_append : (low high : ℕ) (xs ys : List Instruction) → Between low high xs → Between low high ys → Between low high (xs ++ ys)
between_append low high xs ys first second y there = elim (Contains-append_cases xs ys y there) [ inl own ↦ first y own | inr other ↦ second y other ]

between_one : (low high : ℕ) (x : Instruction) → low ≤ x.position → x.position < high → Between low high (x ∷ [])
between_one low high x above below y there = elim (contains_cons x y [] there) [
  | inl same ↦ let at = ap (λ (i : Instruction). i.position) same in (omega (arith, above, at), omega (arith, below, at))
  | inr none ↦ absurd (contains_none y none)
]

between_none : (low high : ℕ) → Between low high []
between_none low high y there = absurd (contains_none y there)

-- ---- numbers of links ascend

abbrev Ascending : List ℕ → Type 0
Ascending [] = Unit {0}
Ascending (n ∷ ns) = ((m : ℕ) → Contains ns m → n < m) × Ascending ns

module _ (f : ℕ × LinkInfo → Option ℕ) (names : (e : ℕ × LinkInfo) (l : ℕ) → f e ≡ Some l → l ≡ e.0) where
  abbrev IsFrom : ℕ → List ℕ → Type 0
  IsFrom n ns = Ascending ns × ((m : ℕ) → Contains ns m → n ≤ m)

  put_first : (n : ℕ) (link : LinkInfo) (ns : List ℕ) (o : Option ℕ) → f (n, link) ≡ o → IsFrom (n + 1) ns → IsFrom n (cons_option o ns)
  put_first n link ns None is rest = (rest.0, λ m there. omega (arith, rest.1 m there))
  put_first n link ns (Some l) is rest =
      let same : l ≡ n = names (n, link) l is in (
        ((λ m there. omega (arith, same, rest.1 m there)), rest.0),
        λ m there. elim (contains_cons l m ns there) [ inl e ↦ omega (arith, e, same) | inr later ↦ omega (arith, rest.1 m later) ],
      )

  chosen_ascend : (n : ℕ) (links : List LinkInfo) → IsFrom n (filter_map f (enumerate_from n links))
  chosen_ascend n [] = (tt, λ m there. absurd (contains_none m there))
  chosen_ascend n (link ∷ links) = put_first n link (filter_map f (enumerate_from (n + 1) links)) (f (n, link)) refl (chosen_ascend (n + 1) links)

by_one : (b : Bool) (k l : ℕ) → (let o : Option ℕ = if b then Some k else None in o) ≡ Some l → l ≡ k
by_one true k l is = let e : Some k ≡ Some l = is in cc
by_one false k l is = absurd (let e : None ≡ Some l = is in cc)

by_two : (b d : Bool) (k l : ℕ) → (let o : Option ℕ = if b then (if d then Some k else None) else None in o) ≡ Some l → l ≡ k
by_two true d k l is = by_one d k l is
by_two false d k l is = absurd (let e : None ≡ Some l = is in cc)

of_links : (links : List LinkInfo) (x : Option SigId) → Ascending (links_of links x)
of_links links None = tt
of_links links (Some x) = (chosen_ascend (λ link. if is_signal link.1.signal (Some x) then Some link.0 else None) (λ e l is. by_one (is_signal e.1.signal (Some x)) e.0 l is) 0 links).0

to_links : (links : List LinkInfo) (x : Option SigId) (reader : ℕ) → Ascending (links_to links x reader)
to_links links None reader = tt
to_links links (Some x) reader =
    (chosen_ascend (λ link. if is_signal link.1.signal (Some x) then (if link.1.reader == reader then Some link.0 else None) else None) (λ e l is. by_two (is_signal e.1.signal (Some x)) (e.1.reader == reader) e.0 l is) 0 links).0

all_reports : (links : List LinkInfo) → Ascending (report_links links)
all_reports links = (chosen_ascend (λ link. if is_signal link.1.signal None then Some link.0 else None) (λ e l is. by_one (is_signal e.1.signal None) e.0 l is) 0 links).0

own_reports : (links : List LinkInfo) (cluster : ℕ) → Ascending (reports_of links cluster)
own_reports links cluster =
    (chosen_ascend (λ link. if is_signal link.1.signal None then (if link.1.writer == cluster then Some link.0 else None) else None) (λ e l is. by_two (is_signal e.1.signal None) (e.1.writer == cluster) e.0 l is) 0 links).0

module _ (f : ℕ → Instruction) (level : ℕ) (at : (l : ℕ) → (f l).position ≡ level) (is : (l : ℕ) → link_in (f l).kind ≡ l) where
  level_rising : (ns : List ℕ) → Ascending ns → Rising (map f ns)
  level_rising [] up = tt
  level_rising (n ∷ ns) up = (
    λ y there.
        let m = mapped_from f ns y there in
        inr (at n ∙ sym (ap (λ (i : Instruction). i.position) m.2 ∙ at m.0), omega (arith, up.0 m.0 m.1, is n, is m.0, ap (λ (i : Instruction). link_in i.kind) m.2)),
    level_rising ns up.1,
  )

  level_between : (low high : ℕ) → low ≤ level → level < high → (ns : List ℕ) → Between low high (map f ns)
  level_between low high above below ns y there =
      let m = mapped_from f ns y there in
      let same : y.position ≡ level = ap (λ (i : Instruction). i.position) m.2 ∙ at m.0 in
      (omega (arith, above, same), omega (arith, below, same))

-- ---- instructions

module _ (operations : List Operation) (links : List LinkInfo) (actor : ℕ) where
  abbrev Place : ℕ → ℕ → Operation → Bool → List Instruction
  Place j number p b = if b then under p (Do (op_id number)) (2 * j) ∷ map (λ link. under p (Send link) (2 * j + 1)) (links_of links p.writes)
      else map (λ link. under p (Receive link) (2 * j + 1)) (links_to links p.writes actor)

  place_rising : (j number : ℕ) (p : Operation) (b : Bool) → Rising (Place j number p b) × Between (2 * j) (2 * j + 2) (Place j number p b)
  place_rising j number p true =
      let first : Instruction = under p (Do (op_id number)) (2 * j) in
      let sends = level_between (λ link. under p (Send link) (2 * j + 1)) (2 * j + 1) (λ l. refl) (λ l. refl) (2 * j + 1) (2 * j + 2) (omega arith) (omega arith) (links_of links p.writes) in (
        ((λ y there. inl (omega (arith, (sends y there).0))), level_rising (λ link. under p (Send link) (2 * j + 1)) (2 * j + 1) (λ l. refl) (λ l. refl) (links_of links p.writes) (of_links links p.writes)),
        between_append (2 * j) (2 * j + 2) (first ∷ []) (map (λ link. under p (Send link) (2 * j + 1)) (links_of links p.writes)) (between_one (2 * j) (2 * j + 2) first (omega arith) (omega arith))
            (between_wider (2 * j + 1) (2 * j + 2) (2 * j) (2 * j + 2) (map (λ link. under p (Send link) (2 * j + 1)) (links_of links p.writes)) (omega arith) (omega arith) sends),
      )
  place_rising j number p false = (
    level_rising (λ link. under p (Receive link) (2 * j + 1)) (2 * j + 1) (λ l. refl) (λ l. refl) (links_to links p.writes actor) (to_links links p.writes actor),
    level_between (λ link. under p (Receive link) (2 * j + 1)) (2 * j + 1) (λ l. refl) (λ l. refl) (2 * j) (2 * j + 2) (omega arith) (omega arith) (links_to links p.writes actor),
  )

  number_rising : (j number : ℕ) (o : Option Operation) → Rising (at_number operations links actor j number o) × Between (2 * j) (2 * j + 2) (at_number operations links actor j number o)
  number_rising j number None = (tt, between_none (2 * j) (2 * j + 2))
  number_rising j number (Some p) = place_rising j number p (p.cluster == actor)

  abbrev Over : ℕ → List ℕ → List Instruction
  Over n order = flat_map (λ place. at_number operations links actor place.0 place.1 (slice_get operations place.1)) (enumerate_from n order)

  over_rising : (n : ℕ) (order : List ℕ) → Rising (Over n order) × Between (2 * n) (2 * (n + length order)) (Over n order)
  over_rising n [] = (tt, between_none (2 * n) (2 * (n + 0)))
  over_rising n (number ∷ order) =
      let first = number_rising n number (slice_get operations number) in
      let rest = over_rising (n + 1) order in
      let head : List Instruction = at_number operations links actor n number (slice_get operations number) in (
        rising_append head (Over (n + 1) order) first.0 rest.0 (λ a b in_a in_b. inl (omega (arith, (first.1 a in_a).1, (rest.1 b in_b).0))),
        between_append (2 * n) (2 * (n + suc (length order))) head (Over (n + 1) order)
            (between_wider (2 * n) (2 * n + 2) (2 * n) (2 * (n + suc (length order))) head (omega arith) (omega arith) first.1)
            (between_wider (2 * (n + 1)) (2 * (n + 1 + length order)) (2 * n) (2 * (n + suc (length order))) (Over (n + 1) order) (omega arith) (omega arith) rest.1),
      )

  end_rising : (n : ℕ) (b : Bool)
      → Rising (if b then map (λ link. unguarded (Collect link) (2 * n)) (report_links links) ++ unguarded Commit (2 * n + 1) ∷ [] else map (λ link. unguarded (Report link) (2 * n)) (reports_of links actor))
      × Between (2 * n) (2 * n + 2) (if b then map (λ link. unguarded (Collect link) (2 * n)) (report_links links) ++ unguarded Commit (2 * n + 1) ∷ [] else map (λ link. unguarded (Report link) (2 * n)) (reports_of links actor))
  end_rising n true =
      let collected : List Instruction = map (λ link. unguarded (Collect link) (2 * n)) (report_links links) in
      let last : Instruction = unguarded Commit (2 * n + 1) in
      let collects = level_between (λ link. unguarded (Collect link) (2 * n)) (2 * n) (λ l. refl) (λ l. refl) (2 * n) (2 * n + 1) (omega arith) (omega arith) (report_links links) in
      let commit = between_one (2 * n + 1) (2 * n + 2) last (omega arith) (omega arith) in (
        rising_append collected (last ∷ []) (level_rising (λ link. unguarded (Collect link) (2 * n)) (2 * n) (λ l. refl) (λ l. refl) (report_links links) (all_reports links)) ((λ y there. absurd (contains_none y there)), tt)
            (λ a b in_a in_b. inl (omega (arith, (collects a in_a).1, (commit b in_b).0))),
        between_append (2 * n) (2 * n + 2) collected (last ∷ []) (between_wider (2 * n) (2 * n + 1) (2 * n) (2 * n + 2) collected (omega arith) (omega arith) collects)
            (between_wider (2 * n + 1) (2 * n + 2) (2 * n) (2 * n + 2) (last ∷ []) (omega arith) (omega arith) commit),
      )
  end_rising n false = (
    level_rising (λ link. unguarded (Report link) (2 * n)) (2 * n) (λ l. refl) (λ l. refl) (reports_of links actor) (own_reports links actor),
    level_between (λ link. unguarded (Report link) (2 * n)) (2 * n) (λ l. refl) (λ l. refl) (2 * n) (2 * n + 2) (omega arith) (omega arith) (reports_of links actor),
  )

rising_at : (xs : List Instruction) → Rising xs → (i k : ℕ) (a b : Instruction) → i < k → slice_get xs i ≡ Some a → slice_get xs k ≡ Some b → Under a b
rising_at [] is i k a b lt at_i at_k = absurd (let e : None ≡ Some a = at_i in cc)
rising_at (x ∷ xs) is zero zero a b lt at_i at_k = absurd (omega (arith, lt))
rising_at (x ∷ xs) is zero (suc k) a b lt at_i at_k = let e : Some x ≡ Some a = at_i in let same : x ≡ a = cc in subst (λ (y : Instruction). Under y b) same (is.0 b (contains_at xs k b at_k))
rising_at (x ∷ xs) is (suc i) zero a b lt at_i at_k = absurd (omega (arith, lt))
rising_at (x ∷ xs) is (suc i) (suc k) a b lt at_i at_k = rising_at xs is.1 i k a b (omega (arith, lt)) at_i at_k

never_under : (a : Instruction) → Under a a → ⊥
never_under a (inl lt) = omega (arith, lt)
never_under a (inr both) = omega (arith, both.1)

module _ (operations : List Operation) (order : List ℕ) (parts : PartsView) (actor : ℕ) (full : length order ≡ length operations) where
  abbrev all : List Instruction
  all = instructions_of operations order parts actor

  pub all_rising : Rising all
  all_rising =
      let over = over_rising operations parts.links actor 0 order in
      let end = end_rising operations parts.links actor (length operations) (actor == parts.clusters) in
      rising_append (over_order operations order parts.links actor) (at_end parts.links parts.clusters (length operations) actor) over.0 end.0
      (λ a b in_a in_b. inl (below a b (over.1 a in_a).1 (end.1 b in_b).0)) where
        below : (a b : Instruction) → a.position < 2 * (0 + length order) → 2 * length operations ≤ b.position → a.position < b.position
        below a b one two = omega (arith, one, two, full)

  pub instruction_once : (i k : ℕ) (a : Instruction) → slice_get all i ≡ Some a → slice_get all k ≡ Some a → i ≡ k
  instruction_once i k a at_i at_k = elim (cases_order i k) [
    | inl same ↦ same
    | inr (inl lt) ↦ absurd (never_under a (rising_at all all_rising i k a a lt at_i at_k))
    | inr (inr gt) ↦ absurd (never_under a (rising_at all all_rising k i a a gt at_k at_i))
  ]
