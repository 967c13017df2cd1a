-- Numbers that are taken one after another.
use Rattle.sig_graph.proofs.Common.{◌≡◌, ◌≢◌, ◌<◌, ◌≤◌, ◌+◌, ◌⊎◌, inl, inr, ◌↔◌, ℕ, Bool, true, false, List, [], ◌∷◌, ◌++◌, length, get_or, set, replicate, refl, sym, ap, ◌∙◌, subst, arith, Contains, get_or-set_same, get_or-set_other, zero, suc, All, take, sum_by, fold, if◌then◌else◌, list_all, cases_order, false≢true, get_or_append_left, get_or_push, length-replicate, length-set, length_push, take-append-le, take_at, All-contains, Contains-append_left, Contains-get_or, Contains-push, Contains-push_cases, AllPass-from_list_all, sum_by-set, count_by-le-length, IsLeast, IsOrdered, IsReady, Reaches, directly, onward, Edge, IsAcyclic, IsOpen, IsTaken, IsTakenOut, IsWithin, mark_at, marked_count, two_are_same, read_or_empty, contains_none}
use Rattle.sig_graph.proofs.Lists.{failing}

pub no_mark : (n k : ℕ) → mark_at (replicate n false) k ≡ false
no_mark (suc n) (suc k) = no_mark n k
no_mark _ _ = refl

none_marked : (n : ℕ) → marked_count (replicate n false) ≡ 0
none_marked zero = refl
none_marked (suc n) = none_marked n

pub marked_within : (marks : List Bool) (k : ℕ) → mark_at marks k ≡ true → k < length marks
marked_within [] k is = absurd (false≢true is)
marked_within (b ∷ marks) zero is = omega arith
marked_within (b ∷ marks) (suc k) is = omega (arith, marked_within marks k is)

-- one more is marked
pub one_marked : (marks : List Bool) (q : ℕ) → q < length marks → mark_at marks q ≡ false → marked_count (set marks q true) ≡ marked_count marks + 1
one_marked marks q lt left =
    let weight : Bool → ℕ = λ mark. if mark then 1 else 0 in
    let e : sum_by weight (set marks q true) + weight (get_or marks q false) ≡ sum_by weight marks + 1 = sum_by-set weight marks q true false lt in
    let none : weight (get_or marks q false) ≡ 0 = ap weight left in
    omega (arith, e, none)

pub marks_at_most : (marks : List Bool) → marked_count marks ≤ length marks
marks_at_most marks = count_by-le-length (λ (mark : Bool). mark) marks

-- what is marked after one more
pub marked_more : (marks : List Bool) (q k : ℕ) → q < length marks → (mark_at (set marks q true) k ≡ true) ↔ ((mark_at marks k ≡ true) ⊎ (k ≡ q))
marked_more marks q k lt = at (cases_order k q) where
  other : k ≢ q → (mark_at (set marks q true) k ≡ true) ↔ ((mark_at marks k ≡ true) ⊎ (k ≡ q))
  other apart =
      let same : mark_at (set marks q true) k ≡ mark_at marks k = get_or-set_other marks q k true false apart in
      ((λ is. inl (sym same ∙ is)), (λ is. elim is [ inl before ↦ same ∙ before | inr e ↦ absurd (apart e) ]))

  at : ((k ≡ q) ⊎ ((k < q) ⊎ (q < k))) → (mark_at (set marks q true) k ≡ true) ↔ ((mark_at marks k ≡ true) ⊎ (k ≡ q))
  at (inl e) = ((λ is. inr e), (λ is. ap (mark_at (set marks q true)) e ∙ get_or-set_same marks q true false lt))
  at (inr (inl less)) = other (λ e. omega (arith, e, less))
  at (inr (inr more)) = other (λ e. omega (arith, e, more))

pub taking_begins : (graph : List (List ℕ)) → IsTaken graph (replicate (length graph) false) []
taking_begins graph = record {
  count = length-replicate (length graph) false;
  taken = none_marked (length graph);
  marked = λ k. ((λ is. absurd (false≢true (sym (no_mark (length graph) k) ∙ is))), (λ there. absurd (contains_none k there)));
  each = λ k lt. absurd (omega (arith, lt));
}

marked_or_not : (marks : List Bool) (k : ℕ) → (mark_at marks k ≡ true) ⊎ (mark_at marks k ≡ false)
marked_or_not marks k = at (mark_at marks k) refl where
  at : (b : Bool) → mark_at marks k ≡ b → (mark_at marks k ≡ true) ⊎ (mark_at marks k ≡ false)
  at true is = inl is
  at false is = inr is

module _ (graph : List (List ℕ)) (marks : List Bool) (order : List ℕ) (is : IsTaken graph marks order) where
  open_is_ready : (q : ℕ) → IsOpen graph marks q → IsReady (Edge graph) (length graph) order q
  open_is_ready q is_open = record {
    within = is_open.within;
    left = λ there. false≢true (sym is_open.left ∙ (is.marked q).1 there);
    free = λ p edge. (is.marked p).0 (is_open.free p edge);
  }

  ready_is_open : (q : ℕ) → IsReady (Edge graph) (length graph) order q → IsOpen graph marks q
  ready_is_open q ready = record {
    within = ready.within;
    left = elim (marked_or_not marks q) [ inl marked ↦ absurd (ready.left ((is.marked q).0 marked)) | inr unmarked ↦ unmarked ];
    free = λ p edge. (is.marked p).1 (ready.free p edge);
  }

  pub room_left : (q : ℕ) → IsLeast (IsOpen graph marks) q → length order < length graph
  room_left q least =
      let within = least.holds.within in
      let count = is.count in
      let taken = is.taken in
      let lt : q < length marks = omega (arith, within, count) in
      let more = one_marked marks q lt least.holds.left in
      let most = marks_at_most (set marks q true) in
      let same : length (set marks q true) ≡ length marks = length-set marks q true in
      omega (arith, more, most, same, count, taken)

  pub taking_goes_on : (q : ℕ) → IsLeast (IsOpen graph marks) q → IsTaken graph (set marks q true) (order ++ q ∷ [])
  taking_goes_on q least =
      let within = least.holds.within in
      let count = is.count in
      let lt : q < length marks = omega (arith, within, count) in
      let same : length (set marks q true) ≡ length marks = length-set marks q true in
      let taken = is.taken in
      let more = one_marked marks q lt least.holds.left in
      let longer = length_push order q in
      record {
        count = same ∙ count;
        taken = omega (arith, more, longer, taken);
        marked = λ k. (
          (λ marked. elim ((marked_more marks q k lt).0 marked) [ inl before ↦ Contains-append_left order (q ∷ []) k ((is.marked k).0 before) | inr e ↦ subst (Contains (order ++ q ∷ [])) (sym e) (Contains-push order q) ]),
          (λ there. (marked_more marks q k lt).1 (elim (Contains-push_cases order q k there) [ inl before ↦ inl ((is.marked k).1 before) | inr e ↦ inr (sym e) ])),
        );
        each = λ k below. at k below (cases_order k (length order));
      } where
        at : (k : ℕ) → k < length (order ++ q ∷ []) → ((k ≡ length order) ⊎ ((k < length order) ⊎ (length order < k)))
            → IsLeast (IsReady (Edge graph) (length graph) (take k (order ++ q ∷ []))) (get_or (order ++ q ∷ []) k 0)
        at k below (inl e) =
            let front : take k (order ++ q ∷ []) ≡ order = take_at order (q ∷ []) k (sym e) in
            let last : get_or (order ++ q ∷ []) k 0 ≡ q = get_or_push order q 0 k (sym e) in
            let this : IsLeast (IsReady (Edge graph) (length graph) order) q = record { holds = open_is_ready q least.holds; least = λ other ready. least.least other (ready_is_open other ready) } in
            (λ (taken : List ℕ) (number : ℕ) (a : order ≡ taken) (b : q ≡ number). subst (λ (xs : List ℕ). IsLeast (IsReady (Edge graph) (length graph) xs) number) a (subst (IsLeast (IsReady (Edge graph) (length graph) order)) b this)) _ _ (sym front) (sym last)
        at k below (inr (inl less)) =
            let front : take k (order ++ q ∷ []) ≡ take k order = take-append-le k order (q ∷ []) (omega (arith, less)) in
            let same : get_or (order ++ q ∷ []) k 0 ≡ get_or order k 0 = get_or_append_left order (q ∷ []) 0 k less in
            (λ (taken : List ℕ) (number : ℕ) (a : take k order ≡ taken) (b : get_or order k 0 ≡ number). subst (λ (xs : List ℕ). IsLeast (IsReady (Edge graph) (length graph) xs) number) a (subst (IsLeast (IsReady (Edge graph) (length graph) (take k order))) b (is.each k less))) _ _ (sym front) (sym same)
        at k below (inr (inr more)) = absurd (omega (arith, below, more, length_push order q))

-- a number that is not marked
record Unmarked (graph : List (List ℕ)) (marks : List Bool) : Type 0 where
  number : ℕ
  within : number < length graph
  left : mark_at marks number ≡ false

module _ (graph : List (List ℕ)) (marks : List Bool) (below : IsWithin graph) (none : (q : ℕ) → IsOpen graph marks q → ⊥) where
  -- it has a predecessor that is not marked
  unmarked_before : (u : Unmarked graph marks) → (v : Unmarked graph marks) × Edge graph v.number u.number
  unmarked_before u = at (list_all (mark_at marks) (get_or graph u.number [])) refl where
    at : (b : Bool) → list_all (mark_at marks) (get_or graph u.number []) ≡ b → (v : Unmarked graph marks) × Edge graph v.number u.number
    at true all = absurd (none u.number (record { within = u.within; left = u.left; free = λ p edge. All-contains (λ (x : ℕ). mark_at marks x ≡ true) (get_or graph u.number []) p (AllPass-from_list_all (mark_at marks) (get_or graph u.number []) all) edge }))
    at false some =
        let from = failing (mark_at marks) (get_or graph u.number []) some in
        (record { number = from.0; within = below from.0 u.number from.1; left = from.2 }, from.1)

  -- one before the other, without an end
  row : Unmarked graph marks → ℕ → Unmarked graph marks
  row u zero = u
  row u (suc k) = (unmarked_before (row u k)).0

  number_at : Unmarked graph marks → ℕ → ℕ
  number_at u k = (row u k).number

  row_reaches : (u : Unmarked graph marks) (b a : ℕ) → a < b → Reaches (Edge graph) (number_at u b) (number_at u a)
  unfolding number_at row
  row_reaches u zero a lt = absurd (omega (arith, lt))
  row_reaches u (suc b) a lt = at (cases_order a b) (row_reaches u b a) where
    step : Edge graph (number_at u (suc b)) (number_at u b)
    step = (unmarked_before (row u b)).1

    at : ((a ≡ b) ⊎ ((a < b) ⊎ (b < a))) → (a < b → Reaches (Edge graph) (number_at u b) (number_at u a)) → Reaches (Edge graph) (number_at u (suc b)) (number_at u a)
    at (inl e) rest = directly (number_at u (suc b)) (number_at u a) (subst (λ (k : ℕ). Edge graph (number_at u (suc b)) (number_at u k)) (sym e) step)
    at (inr (inl less)) rest = onward (number_at u (suc b)) (number_at u b) (number_at u a) step (rest less)
    at (inr (inr more)) rest = absurd (omega (arith, more, lt))

  number_below : (u : Unmarked graph marks) (k : ℕ) → number_at u k < length graph
  unfolding number_at
  number_below u k = (row u k).within

  pub all_marked : IsAcyclic graph → (q : ℕ) → q < length graph → mark_at marks q ≡ true
  all_marked acyclic q lt = elim (marked_or_not marks q) [
    | inl marked ↦ marked
    | inr unmarked ↦
        let u : Unmarked graph marks = record { number = q; within = lt; left = unmarked } in
        let two = two_are_same (length graph) (number_at u) (λ k less. number_below u k) in
        let back : Reaches (Edge graph) (number_at u two.b) (number_at u two.a) = row_reaches u two.b two.a two.less in
        absurd (acyclic (number_at u two.b) (subst (Reaches (Edge graph) (number_at u two.b)) two.same back))
  ]

all_counted : (marks : List Bool) (a : ℕ) → ((k : ℕ) → k < length marks → mark_at marks k ≡ true) → fold (λ (n : ℕ) (mark : Bool). n + (if mark then 1 else 0)) a marks ≡ a + length marks
all_counted [] a all = omega arith
all_counted (b ∷ marks) a all =
    let here : b ≡ true = all 0 (omega arith) in
    let rest = all_counted marks (a + 1) (λ k lt. all (suc k) (omega (arith, lt))) in
    ap (λ (mark : Bool). fold (λ (n : ℕ) (mark : Bool). n + (if mark then 1 else 0)) (a + (if mark then 1 else 0)) marks) here ∙ rest ∙ omega arith

pub taking_ends : (graph : List (List ℕ)) (marks : List Bool) (order : List ℕ) → IsWithin graph → IsAcyclic graph → IsTaken graph marks order → ((q : ℕ) → IsOpen graph marks q → ⊥)
    → IsOrdered (Edge graph) (length graph) order
taking_ends graph marks order below acyclic is none =
    let count = is.count in
    let taken = is.taken in
    let all : marked_count marks ≡ 0 + length marks = all_counted marks 0 (λ k lt. all_marked graph marks below none acyclic k (omega (arith, lt, count))) in
    let full : length order ≡ length graph = omega (arith, all, count, taken) in
    record { all = full; each = λ k lt. is.each k (omega (arith, lt, full)) }

-- numbers that were all taken
pub taken_ordered : (graph : List (List ℕ)) (order : List ℕ) → IsTakenOut graph order → length order ≡ length graph → IsOrdered (Edge graph) (length graph) order
taken_ordered graph order is full = record { all = full; each = λ k lt. is.taken.each k (omega (arith, lt, full)) }

pub edges_below : (graph : List (List ℕ)) (number : ℕ) (numbers list : List ℕ) → IsWithin graph → number < length graph → numbers ≡ get_or graph number numbers → list ≡ numbers
    → All (λ (n : ℕ). n < length graph) list
edges_below graph number numbers list below lt is same k d less =
    below (get_or list k d) number (subst (λ (xs : List ℕ). Contains xs (get_or list k d)) (same ∙ read_or_empty graph number numbers lt is) (Contains-get_or list k d less))
