-- How often numbers stand in lists, and how many of them are left.
use Rattle.sig_graph.proofs.Common.{◌≡◌, ◌≢◌, ◌<◌, ◌≤◌, ◌+◌, ◌⊎◌, inl, inr, ◌↔◌, ℕ, Bool, true, false, List, [], ◌∷◌, ◌++◌, length, map, get_or, set, replicate, refl, sym, ap, ◌∙◌, subst, arith, Contains, eqb, eq-eqb, cond, Ordering, zero, suc, not, take, BTreeSet, contains, nat_cmp_is, nat_cmp, is_eq, Equal, cases_order, eqb-true, ne_eqb, false≢true, get_or-map, get_or-set_other, get_or-set_same, get_or_past, get_or-take, length-map, length-set, take_more, Contains-append_cases, Contains-append_left, Contains-append_right, sum_by-append, sum_by-cons, exact_unsigned, IsLeast, Adds, AreSuccessors, Has, Releases, Takes, left_in, occurs, Edge, IsOpen, mark_at, contains_later, contains_none}
use Rattle.sig_graph.proofs.Takings.{marked_more, no_mark, taking_begins, taking_goes_on}

-- 1 where it is so
abbrev one_if : Bool → ℕ
one_if b = cond b 1 0

occurs_cons : (n x : ℕ) (xs : List ℕ) → occurs n (x ∷ xs) ≡ one_if (eqb x n) + occurs n xs
occurs_cons n x xs = sum_by-cons (λ k. one_if (eqb k n)) x xs

pub occurs_append : (n : ℕ) (xs ys : List ℕ) → occurs n (xs ++ ys) ≡ occurs n xs + occurs n ys
occurs_append n xs ys = sum_by-append (λ k. one_if (eqb k n)) xs ys

pub occurs_one : (n : ℕ) → occurs n (n ∷ []) ≡ 1
occurs_one n = ap (λ (b : Bool). 0 + one_if b) (eq-eqb n n refl)

pub occurs_other : (n q : ℕ) → q ≢ n → occurs q (n ∷ []) ≡ 0
occurs_other n q apart = ap (λ (b : Bool). 0 + one_if b) (ne_eqb n q (λ e. apart (sym e)))

pub occurs_contains : (n : ℕ) (xs : List ℕ) → 0 < occurs n xs → Contains xs n
occurs_contains n [] some = absurd (omega (arith, some))
occurs_contains n (x ∷ xs) some = at (eqb x n) refl (occurs_contains n xs) where
  at : (b : Bool) → eqb x n ≡ b → (0 < occurs n xs → Contains xs n) → Contains (x ∷ xs) n
  at true is rest = (0, omega arith, eqb-true x n is)
  at false is rest =
      let here : one_if (eqb x n) ≡ 0 = ap one_if is in
      let e = occurs_cons n x xs in
      contains_later x n xs (rest (omega (arith, here, e, some)))

pub contains_occurs : (n : ℕ) (xs : List ℕ) → Contains xs n → 0 < occurs n xs
contains_occurs n [] there = absurd (contains_none n there)
contains_occurs n (x ∷ xs) there = at there.0 there.1 there.2 (contains_occurs n xs) where
  at : (k : ℕ) → k < length (x ∷ xs) → get_or (x ∷ xs) k n ≡ n → (Contains xs n → 0 < occurs n xs) → 0 < occurs n (x ∷ xs)
  at zero lt same rest =
      let here : one_if (eqb x n) ≡ 1 = ap one_if (eq-eqb x n same) in
      let e = occurs_cons n x xs in
      omega (arith, here, e)
  at (suc k) lt same rest =
      let more = rest (k, omega (arith, lt), same) in
      let e = occurs_cons n x xs in
      omega (arith, more, e)

occurs_or_not : (n : ℕ) (xs : List ℕ) → Contains xs n ⊎ (occurs n xs ≡ 0)
occurs_or_not n xs = elim (cases_order 0 (occurs n xs)) [ inl e ↦ inr (sym e) | inr (inl some) ↦ inl (occurs_contains n xs some) | inr (inr less) ↦ absurd (omega (arith, less)) ]

left_cons : (marks : List Bool) (x : ℕ) (xs : List ℕ) → left_in marks (x ∷ xs) ≡ one_if (not (mark_at marks x)) + left_in marks xs
left_cons marks x xs = sum_by-cons (λ k. one_if (not (mark_at marks k))) x xs

pub none_left : (marks : List Bool) (xs : List ℕ) → left_in marks xs ≡ 0 → (p : ℕ) → Contains xs p → mark_at marks p ≡ true
none_left marks [] none p there = absurd (contains_none p there)
none_left marks (x ∷ xs) none p there = at there.0 there.1 there.2 (none_left marks xs) where
  here : (b : Bool) → mark_at marks x ≡ b → mark_at marks x ≡ true
  here true is = is
  here false is =
      let one : one_if (not (mark_at marks x)) ≡ 1 = ap (λ (b : Bool). one_if (not b)) is in
      let e = left_cons marks x xs in
      absurd (omega (arith, one, e, none))

  at : (k : ℕ) → k < length (x ∷ xs) → get_or (x ∷ xs) k p ≡ p → (left_in marks xs ≡ 0 → (q : ℕ) → Contains xs q → mark_at marks q ≡ true) → mark_at marks p ≡ true
  at zero lt same rest = ap (mark_at marks) (sym same) ∙ here (mark_at marks x) refl
  at (suc k) lt same rest =
      let e = left_cons marks x xs in
      rest (omega (arith, e, none)) p (k, omega (arith, lt), same)

pub all_left_none : (marks : List Bool) (xs : List ℕ) → ((p : ℕ) → Contains xs p → mark_at marks p ≡ true) → left_in marks xs ≡ 0
all_left_none marks [] all = refl
all_left_none marks (x ∷ xs) all =
    let here : one_if (not (mark_at marks x)) ≡ 0 = ap (λ (b : Bool). one_if (not b)) (all x (0, omega arith, refl)) in
    let rest = all_left_none marks xs (λ p there. all p (contains_later x p xs there)) in
    let e = left_cons marks x xs in
    omega (arith, here, rest, e)

-- one more is marked: as many fewer are left as it stands there
pub left_lowered : (marks : List Bool) (n : ℕ) → n < length marks → mark_at marks n ≡ false → (xs : List ℕ) → left_in (set marks n true) xs + occurs n xs ≡ left_in marks xs
left_lowered marks n lt left [] = refl
left_lowered marks n lt left (x ∷ xs) = at (eqb x n) refl (left_lowered marks n lt left xs) where
  at : (b : Bool) → eqb x n ≡ b → left_in (set marks n true) xs + occurs n xs ≡ left_in marks xs → left_in (set marks n true) (x ∷ xs) + occurs n (x ∷ xs) ≡ left_in marks (x ∷ xs)
  at true is rest =
      let same : x ≡ n = eqb-true x n is in
      let now : one_if (not (mark_at (set marks n true) x)) ≡ 0 = ap (λ (b : Bool). one_if (not b)) (ap (mark_at (set marks n true)) same ∙ get_or-set_same marks n true false lt) in
      let was : one_if (not (mark_at marks x)) ≡ 1 = ap (λ (b : Bool). one_if (not b)) (ap (mark_at marks) same ∙ left) in
      let here : one_if (eqb x n) ≡ 1 = ap one_if is in
      let a = left_cons (set marks n true) x xs in
      let b = left_cons marks x xs in
      let c = occurs_cons n x xs in
      omega (arith, now, was, here, a, b, c, rest)
  at false is rest =
      let apart : x ≢ n = λ e. false≢true (sym is ∙ eq-eqb x n e) in
      let same : one_if (not (mark_at (set marks n true) x)) ≡ one_if (not (mark_at marks x)) = ap (λ (b : Bool). one_if (not b)) (get_or-set_other marks n x true false apart) in
      let here : one_if (eqb x n) ≡ 0 = ap one_if is in
      let a = left_cons (set marks n true) x xs in
      let b = left_cons marks x xs in
      let c = occurs_cons n x xs in
      omega (arith, same, here, a, b, c, rest)

all_left : (n : ℕ) (xs : List ℕ) → left_in (replicate n false) xs ≡ length xs
all_left n [] = refl
all_left n (x ∷ xs) =
    let here : one_if (not (mark_at (replicate n false) x)) ≡ 1 = ap (λ (b : Bool). one_if (not b)) (no_mark n x) in
    let rest = all_left n xs in
    let e = left_cons (replicate n false) x xs in
    omega (arith, here, rest, e)

-- two lists of releases, one after the other
pub releases_then : (xs ys : List ℕ) (a b d : List ℕ) (p q r : BTreeSet ℕ) → Releases xs a b p q → Releases ys b d q r → Releases (xs ++ ys) a d p r
releases_then xs ys a b d p q r first second = record {
  count = second.count ∙ first.count;
  lowered = λ k. (let x = first.lowered k in let y = second.lowered k in let e = occurs_append k xs ys in omega (arith, x, y, e));
  exact = λ k. (
    (λ has. elim ((second.exact k).0 has) [
      | inl before ↦ elim ((first.exact k).0 before) [
        | inl earlier ↦ inl earlier
        | inr there ↦ inr (Contains-append_left xs ys k there.0, (let y = second.lowered k in let none = there.1 in omega (arith, y, none)))
      ]
      | inr there ↦ inr (Contains-append_right xs ys k there.0, there.1)
    ]),
    (λ cases. (second.exact k).1 (elim cases [
      | inl earlier ↦ inl ((first.exact k).1 (inl earlier))
      | inr there ↦ elim (occurs_or_not k ys) [
        | inl in_ys ↦ inr (in_ys, there.1)
        | inr not_there ↦ elim (Contains-append_cases xs ys k there.0) [
          | inl in_xs ↦ inl ((first.exact k).1 (inr (in_xs, (let y = second.lowered k in let none = there.1 in omega (arith, y, none, not_there)))))
          | inr in_ys ↦ inr (in_ys, there.1)
        ]
      ]
    ])),
  );
}

-- the count of a number that is still to be lowered is not 0
pub some_left : (numbers : List ℕ) (i : ℕ) (old new : List ℕ) (was ready : BTreeSet ℕ) → i < length numbers → ((q : ℕ) → occurs q numbers ≤ get_or old q 0) → Releases (take i numbers) old new was ready
    → 0 < get_or new (get_or numbers i 0) 0
some_left numbers i old new was ready lt enough releases =
    let n : ℕ = get_or numbers i 0 in
    let front : occurs (get_or numbers i 0) (take (i + 1) numbers) ≡ occurs (get_or numbers i 0) (take i numbers) + occurs (get_or numbers i 0) (get_or numbers i 0 ∷ []) =
    ap (occurs (get_or numbers i 0)) (take_more numbers i 0 lt) ∙ occurs_append (get_or numbers i 0) (take i numbers) (get_or numbers i 0 ∷ []) in
    let one = occurs_one (get_or numbers i 0) in
    let most = occurs_front (get_or numbers i 0) (i + 1) numbers in
    let low = releases.lowered (get_or numbers i 0) in
    let bound = enough (get_or numbers i 0) in
    omega (arith, front, one, most, low, bound)
  where
    occurs_front : (n k : ℕ) (xs : List ℕ) → occurs n (take k xs) ≤ occurs n xs
    occurs_front n zero [] = omega arith
    occurs_front n (suc k) [] = omega arith
    occurs_front n zero (x ∷ xs) = omega arith
    occurs_front n (suc k) (x ∷ xs) =
        let a = occurs_cons n x (take k xs) in
        let b = occurs_cons n x xs in
        let rest = occurs_front n k xs in
        omega (arith, a, b, rest)

equal_of : (o : Ordering) → is_eq o ≡ true → o ≡ Equal
equal_of Equal is = refl
equal_of _ is = absurd (false≢true is)

-- the keys of a set without its least
pub popped : (old new : BTreeSet ℕ) (k : ℕ) → ((q : ℕ) → contains nat_cmp new q ≡ cond (is_eq (nat_cmp k q)) false (contains nat_cmp old q)) → (q : ℕ) → Has new q ↔ (Has old q × (q ≢ k))
popped old new k updates q = at (is_eq (nat_cmp k q)) refl where
  at : (b : Bool) → is_eq (nat_cmp k q) ≡ b → Has new q ↔ (Has old q × (q ≢ k))
  at true is = (
    (λ has. absurd (false≢true (sym (updates q ∙ ap (λ b. cond b false (contains nat_cmp old q)) is) ∙ has))),
    (λ both. absurd (both.1 (sym (exact_unsigned k q (equal_of (nat_cmp k q) is))))),
  )
  at false is =
      let kept : contains nat_cmp new q ≡ contains nat_cmp old q = updates q ∙ ap (λ b. cond b false (contains nat_cmp old q)) is in
      ((λ has. (sym kept ∙ has, λ e. false≢true (sym is ∙ ap (λ m. is_eq (nat_cmp k m)) e ∙ ap is_eq (sym (nat_cmp_is k k Equal refl))))), (λ both. kept ∙ both.0))

pub adds_then : (number : ℕ) (xs : List ℕ) (old lists : List (List ℕ)) (p : ℕ) → Adds number xs old lists → p < length old → Adds number (xs ++ p ∷ []) old (set lists p (get_or lists p [] ++ number ∷ []))
adds_then number xs old lists p adds lt = record {
  count = length-set lists p (get_or lists p [] ++ number ∷ []) ∙ adds.count;
  own = λ k within. own_at k within (cases_order k p);
  others = λ k q apart. other_at k q apart (cases_order k p);
} where
  within_lists : p < length lists
  within_lists = let e = adds.count in omega (arith, lt, e)

  here : (k : ℕ) → k ≡ p → get_or (set lists p (get_or lists p [] ++ number ∷ [])) k [] ≡ get_or lists p [] ++ number ∷ []
  here k e = ap (λ m. get_or (set lists p (get_or lists p [] ++ number ∷ [])) m []) e ∙ get_or-set_same lists p (get_or lists p [] ++ number ∷ []) [] within_lists

  there : (k : ℕ) → k ≢ p → get_or (set lists p (get_or lists p [] ++ number ∷ [])) k [] ≡ get_or lists k []
  there k apart = get_or-set_other lists p k (get_or lists p [] ++ number ∷ []) [] apart

  own_other : (k : ℕ) → k < length old → k ≢ p → occurs number (get_or (set lists p (get_or lists p [] ++ number ∷ [])) k []) ≡ occurs number (get_or old k []) + occurs k (xs ++ p ∷ [])
  own_other k within apart =
      let a = ap (occurs number) (there k apart) in
      let b = adds.own k within in
      let c = occurs_append k xs (p ∷ []) in
      let d = occurs_other p k apart in
      omega (arith, a, b, c, d)

  own_at : (k : ℕ) → k < length old → ((k ≡ p) ⊎ ((k < p) ⊎ (p < k))) → occurs number (get_or (set lists p (get_or lists p [] ++ number ∷ [])) k []) ≡ occurs number (get_or old k []) + occurs k (xs ++ p ∷ [])
  own_at k within (inl e) =
      let a = ap (occurs number) (here k e) ∙ occurs_append number (get_or lists p []) (number ∷ []) in
      let one = occurs_one number in
      let b = adds.own p lt in
      let c = occurs_append k xs (p ∷ []) in
      let d : occurs k (p ∷ []) ≡ 1 = ap (λ m. occurs m (p ∷ [])) e ∙ occurs_one p in
      let f : occurs k xs ≡ occurs p xs = ap (λ m. occurs m xs) e in
      let g : occurs number (get_or old k []) ≡ occurs number (get_or old p []) = ap (λ m. occurs number (get_or old m [])) e in
      omega (arith, a, one, b, c, d, f, g)
  own_at k within (inr (inl less)) = own_other k within (λ e. omega (arith, e, less))
  own_at k within (inr (inr more)) = own_other k within (λ e. omega (arith, e, more))

  other_at : (k q : ℕ) → q ≢ number → ((k ≡ p) ⊎ ((k < p) ⊎ (p < k))) → occurs q (get_or (set lists p (get_or lists p [] ++ number ∷ [])) k []) ≡ occurs q (get_or old k [])
  other_at k q apart (inl e) =
      let a = ap (occurs q) (here k e) ∙ occurs_append q (get_or lists p []) (number ∷ []) in
      let none = occurs_other number q apart in
      let b = adds.others p q apart in
      let g : occurs q (get_or old k []) ≡ occurs q (get_or old p []) = ap (λ m. occurs q (get_or old m [])) e in
      omega (arith, a, none, b, g)
  other_at k q apart (inr (inl less)) = ap (occurs q) (there k (λ e. omega (arith, e, less))) ∙ adds.others k q apart
  other_at k q apart (inr (inr more)) = ap (occurs q) (there k (λ e. omega (arith, e, more))) ∙ adds.others k q apart

-- one more number of the graph was added behind those that precede it
pub successors_more : (n i : ℕ) (graph old new : List (List ℕ)) → i < length graph → AreSuccessors n (take i graph) old → Adds i (get_or graph i []) old new → AreSuccessors n (take (i + 1) graph) new
successors_more n i graph old new lt are adds = record {
  all = adds.count ∙ are.all;
  each = λ p q within. at p q within (cases_order q i);
} where
  upto : take (i + 1) graph ≡ take i graph ++ get_or graph i [] ∷ []
  upto = take_more graph i [] lt

  before : (k q : ℕ) → k ≤ q → get_or (take k graph) q [] ≡ []
  before k q le = get_or_past (take k graph) q [] (short k graph q le) where
    short : (k : ℕ) (xs : List (List ℕ)) (q : ℕ) → k ≤ q → length (take k xs) ≤ q
    short zero [] q le = omega arith
    short (suc k) [] q le = omega arith
    short zero (x ∷ xs) q le = omega arith
    short (suc k) (x ∷ xs) zero le = absurd (omega (arith, le))
    short (suc k) (x ∷ xs) (suc q) le = (let rest = short k xs q (omega (arith, le)) in omega (arith, rest))

  at : (p q : ℕ) → p < n → ((q ≡ i) ⊎ ((q < i) ⊎ (i < q))) → occurs q (get_or new p []) ≡ occurs p (get_or (take (i + 1) graph) q [])
  at p q within (inl e) =
      let full = are.all in
      let a = adds.own p (omega (arith, within, full)) in
      let b : occurs i (get_or old p []) ≡ 0 = are.each p i within ∙ ap (occurs p) (before i i (omega arith)) in
      let c : occurs q (get_or new p []) ≡ occurs i (get_or new p []) = ap (λ m. occurs m (get_or new p [])) e in
      let d : occurs p (get_or (take (i + 1) graph) q []) ≡ occurs p (get_or graph i []) = ap (λ m. occurs p (get_or (take (i + 1) graph) m [])) e ∙ ap (occurs p) (get_or-take (i + 1) graph i [] (omega arith)) in
      omega (arith, a, b, c, d)
  at p q within (inr (inl less)) =
      adds.others p q (λ e. omega (arith, e, less)) ∙ are.each p q within ∙ ap (occurs p) (get_or-take i graph q [] less ∙ sym (get_or-take (i + 1) graph q [] (omega (arith, less))))
  at p q within (inr (inr more)) =
      adds.others p q (λ e. omega (arith, e, more)) ∙ are.each p q within ∙ ap (occurs p) (before i q (omega (arith, more)) ∙ sym (before (i + 1) q (omega (arith, more))))

-- the numbers of a graph that are taken, one after another
pub takes_begins : (graph : List (List ℕ)) (ready : BTreeSet ℕ) → ((q : ℕ) → Has ready q ↔ ((q < length (map length graph)) × (get_or (map length graph) q 0 ≡ 0))) → Takes graph (map length graph) ready []
takes_begins graph ready first = record {
  marks = replicate (length graph) false;
  taken = taking_begins graph;
  closed = λ p q is edge. absurd (false≢true (sym (no_mark (length graph) q) ∙ is));
  count = count;
  counted = counted;
  exact = λ q. (
    (λ has. (let both = (first q).0 has in record {
      within = (let lt = both.0 in omega (arith, lt, count));
      left = no_mark (length graph) q;
      free = λ p edge. none_left (replicate (length graph) false) (get_or graph q []) (sym (counted q) ∙ both.1) p edge;
    })),
    (λ is_open. (first q).1 ((let lt = is_open.within in omega (arith, lt, count)), counted q ∙ all_left_none (replicate (length graph) false) (get_or graph q []) (λ p edge. is_open.free p edge))),
  );
} where
  count : length (map length graph) ≡ length graph
  count = length-map graph length

  counts_at : (q : ℕ) → ((q ≡ length graph) ⊎ ((q < length graph) ⊎ (length graph < q))) → get_or (map length graph) q 0 ≡ length (get_or graph q [])
  counts_at q (inl e) = get_or_past (map length graph) q 0 (omega (arith, e, count)) ∙ ap length (sym (get_or_past graph q [] (omega (arith, e))))
  counts_at q (inr (inl less)) = get_or-map length graph q [] 0 less
  counts_at q (inr (inr more)) = get_or_past (map length graph) q 0 (omega (arith, more, count)) ∙ ap length (sym (get_or_past graph q [] (omega (arith, more))))

  counted : (q : ℕ) → get_or (map length graph) q 0 ≡ left_in (replicate (length graph) false) (get_or graph q [])
  counted q = counts_at q (cases_order q (length graph)) ∙ sym (all_left (length graph) (get_or graph q []))

-- what has a predecessor is a number of the graph
pub edge_within : (graph : List (List ℕ)) (p q : ℕ) → Edge graph p q → q < length graph
edge_within graph p q edge = at (cases_order q (length graph)) where
  past : length graph ≤ q → ⊥
  past le = contains_none p (subst (λ (xs : List ℕ). Contains xs p) (get_or_past graph q [] le) edge)

  at : ((q ≡ length graph) ⊎ ((q < length graph) ⊎ (length graph < q))) → q < length graph
  at (inl e) = absurd (past (omega (arith, e)))
  at (inr (inl less)) = less
  at (inr (inr more)) = absurd (past (omega (arith, more)))

module _ (graph successors : List (List ℕ)) (are : AreSuccessors (length graph) graph successors) (n : ℕ) (within : n < length graph) where
  pub successor_edge : (q : ℕ) → Contains (get_or successors n []) q → Edge graph n q
  successor_edge q there = (let some = contains_occurs q (get_or successors n []) there in let e = are.each n q within in occurs_contains n (get_or graph q []) (omega (arith, some, e)))

  pub edge_successor : (q : ℕ) → Edge graph n q → Contains (get_or successors n []) q
  edge_successor q edge = (let some = contains_occurs n (get_or graph q []) edge in let e = are.each n q within in occurs_contains q (get_or successors n []) (omega (arith, some, e)))

  module _ (counts : List ℕ) (ready rest : BTreeSet ℕ) (order : List ℕ) (is : Takes graph counts ready order) (has : Has ready n) where
    opened : IsOpen graph is.marks n
    opened = (is.exact n).0 has

    below : n < length is.marks
    below = let count = is.taken.count in omega (arith, within, count)

    lowered : (q : ℕ) → left_in (set is.marks n true) (get_or graph q []) + occurs n (get_or graph q []) ≡ left_in is.marks (get_or graph q [])
    lowered q = left_lowered is.marks n below opened.left (get_or graph q [])

    pub enough_left : (q : ℕ) → occurs q (get_or successors n []) ≤ get_or counts q 0
    enough_left q =
        let a = are.each n q within in
        let b = lowered q in
        let c = is.counted q in
        omega (arith, a, b, c)

    pub successors_within : (q : ℕ) → Contains (get_or successors n []) q → q < length counts
    successors_within q there = (let lt = edge_within graph n q (successor_edge q there) in let count = is.count in omega (arith, lt, count))

    pub least_open : ((q : ℕ) → Has ready q → n ≤ q) → IsLeast (IsOpen graph is.marks) n
    least_open least = record { holds = opened; least = λ q is_open. least q ((is.exact q).1 is_open) }

    module _ (least : (q : ℕ) → Has ready q → n ≤ q) (others : (q : ℕ) → Has rest q ↔ (Has ready q × (q ≢ n))) (more : List ℕ) (next : BTreeSet ℕ) (releases : Releases (get_or successors n []) counts more rest next) where
      unmarked_as : (q : ℕ) → q ≢ n → mark_at (set is.marks n true) q ≡ mark_at is.marks q
      unmarked_as q apart = get_or-set_other is.marks n q true false apart

      stays : (q : ℕ) → mark_at is.marks q ≡ true → mark_at (set is.marks n true) q ≡ true
      stays q marked = (marked_more is.marks n q below).1 (inl marked)

      not_own : Edge graph n n → ⊥
      not_own edge = false≢true (sym opened.left ∙ opened.free n edge)

      counted_more : (q : ℕ) → get_or more q 0 ≡ left_in (set is.marks n true) (get_or graph q [])
      counted_more q =
          let a = are.each n q within in
          let b = lowered q in
          let c = is.counted q in
          let d = releases.lowered q in
          omega (arith, a, b, c, d)

      open_kept : (q : ℕ) → Has rest q → IsOpen graph (set is.marks n true) q
      open_kept q there =
          let both = (others q).0 there in
          let is_open = (is.exact q).0 both.0 in
          record { within = is_open.within; left = unmarked_as q both.1 ∙ is_open.left; free = λ p edge. stays p (is_open.free p edge) }

      left_behind : (q : ℕ) → Edge graph n q → mark_at is.marks q ≡ false
      left_behind q edge = at (mark_at is.marks q) refl where
        at : (b : Bool) → mark_at is.marks q ≡ b → mark_at is.marks q ≡ false
        at false unmarked = unmarked
        at true marked = absurd (false≢true (sym opened.left ∙ is.closed n q marked edge))

      open_new : (q : ℕ) → Contains (get_or successors n []) q → get_or more q 0 ≡ 0 → IsOpen graph (set is.marks n true) q
      open_new q there none =
          let edge = successor_edge q there in
          let apart : q ≢ n = λ e. not_own (subst (Edge graph n) e edge) in
          record {
            within = edge_within graph n q edge;
            left = unmarked_as q apart ∙ left_behind q edge;
            free = λ p before. none_left (set is.marks n true) (get_or graph q []) (sym (counted_more q) ∙ none) p before;
          }

      ready_next : (q : ℕ) → IsOpen graph (set is.marks n true) q → Has next q
      ready_next q is_open = (releases.exact q).1 (elim (occurs_or_not n (get_or graph q [])) [
        | inl edge ↦ inr (edge_successor q edge, counted_more q ∙ all_left_none (set is.marks n true) (get_or graph q []) (λ p before. is_open.free p before))
        | inr no_edge ↦ inl ((others q).1 (
          (is.exact q).1 (record {
            within = is_open.within;
            left = sym (unmarked_as q apart) ∙ is_open.left;
            free = λ p before. elim ((marked_more is.marks n p below).0 (is_open.free p before)) [ inl marked ↦ marked | inr e ↦ absurd (let some = contains_occurs n (get_or graph q []) (subst (Contains (get_or graph q [])) e before) in omega (arith, some, no_edge)) ];
          }),
          apart,
        ))
      ]) where
        apart : q ≢ n
        apart e = false≢true (sym is_open.left ∙ ap (mark_at (set is.marks n true)) e ∙ get_or-set_same is.marks n true false below)

      pub takes_goes_on : Takes graph more next (order ++ n ∷ [])
      takes_goes_on = record {
        marks = set is.marks n true;
        taken = taking_goes_on graph is.marks order is.taken n (least_open least);
        closed = λ p q marked edge. elim ((marked_more is.marks n q below).0 marked) [ inl before ↦ stays p (is.closed p q before edge) | inr e ↦ stays p (opened.free p (subst (Edge graph p) e edge)) ];
        count = releases.count ∙ is.count;
        counted = counted_more;
        exact = λ q. (
          (λ there. elim ((releases.exact q).0 there) [ inl before ↦ open_kept q before | inr new ↦ open_new q new.0 new.1 ]),
          ready_next q,
        );
      }
