-- Walks over a graph against its edges.
use Rattle.sig_graph.proofs.Common.{◌≡◌, ◌<◌, ◌≤◌, ◌+◌, ◌⊎◌, inl, inr, ℕ, Bool, true, false, List, [], ◌∷◌, ◌++◌, length, get_or, set, replicate, refl, sym, ap, ◌∙◌, subst, arith, Contains, Option, None, Some, slice_get, nat_lt, if◌then◌else◌, ltb-false, ltb-true, SigId, IsLeast, Op, cases_order, false≢true, length-replicate, length-set, length_push, Contains-append_cases, Contains-append_left, Contains-append_right, Contains-push, Contains-push_cases, Reaches, directly, onward, Edge, mark_at, AreReaching, IsLeastOnCycle, Visits, Walks, WritesOnCycle, lesser, contains_none, contains_one}
use Rattle.sig_graph.proofs.Takings.{marked_more, marked_within, no_mark, one_marked}

-- a list of one
pub one_contains : (n : ℕ) → Contains (n ∷ []) n
one_contains n = (0, omega arith, refl)

pub visits_new : (n : ℕ) (marks : List Bool) (waiting : List ℕ) → n < length marks → mark_at marks n ≡ false → Visits (n ∷ []) marks (set marks n true) waiting (waiting ++ n ∷ [])
visits_new n marks waiting lt left =
    let more = one_marked marks n lt left in
    let longer = length_push waiting n in
    record {
      count = length-set marks n true;
      marks = λ k. (
        (λ marked. elim ((marked_more marks n k lt).0 marked) [ inl before ↦ inl before | inr e ↦ inr (subst (Contains (n ∷ [])) (sym e) (one_contains n)) ]),
        (λ cases. (marked_more marks n k lt).1 (elim cases [ inl before ↦ inl before | inr there ↦ inr (contains_one n k there) ])),
      );
      waits = λ k marked. elim ((marked_more marks n k lt).0 marked) [ inl before ↦ inl before | inr e ↦ inr (subst (Contains (waiting ++ n ∷ [])) (sym e) (Contains-push waiting n)) ];
      kept = λ k there. Contains-append_left waiting (n ∷ []) k there;
      only = λ k there. Contains-append_cases waiting (n ∷ []) k there;
      balance = omega (arith, more, longer);
    }

pub visits_then : (xs ys : List ℕ) (a b d : List Bool) (p q r : List ℕ) → Visits xs a b p q → Visits ys b d q r → Visits (xs ++ ys) a d p r
visits_then xs ys a b d p q r first second =
    let x = first.balance in
    let y = second.balance in
    record {
      count = second.count ∙ first.count;
      marks = λ k. (
        (λ is. elim ((second.marks k).0 is) [
          | inl before ↦ elim ((first.marks k).0 before) [ inl earlier ↦ inl earlier | inr there ↦ inr (Contains-append_left xs ys k there) ]
          | inr there ↦ inr (Contains-append_right xs ys k there)
        ]),
        (λ cases. (second.marks k).1 (elim cases [
          | inl earlier ↦ inl ((first.marks k).1 (inl earlier))
          | inr there ↦ elim (Contains-append_cases xs ys k there) [ inl in_xs ↦ inl ((first.marks k).1 (inr in_xs)) | inr in_ys ↦ inr in_ys ]
        ])),
      );
      waits = λ k is. elim (second.waits k is) [
        | inl before ↦ elim (first.waits k before) [ inl earlier ↦ inl earlier | inr there ↦ inr (second.kept k there) ]
        | inr there ↦ inr there
      ];
      kept = λ k there. second.kept k (first.kept k there);
      only = λ k there. elim (second.only k there) [
        | inl before ↦ elim (first.only k before) [ inl earlier ↦ inl earlier | inr in_xs ↦ inr (Contains-append_left xs ys k in_xs) ]
        | inr in_ys ↦ inr (Contains-append_right xs ys k in_ys)
      ];
      balance = omega (arith, x, y);
    }

module _ (graph : List (List ℕ)) (target : ℕ) where
  pub walk_begins : (n : ℕ) (marks : List Bool) (waiting : List ℕ) → n ≡ length graph → Visits (get_or graph target []) (replicate n false) marks [] waiting → Walks graph target marks waiting
  walk_begins n marks waiting same visits = record {
    count = visits.count ∙ length-replicate n false ∙ same;
    sound = λ k is. elim ((visits.marks k).0 is) [ inl before ↦ absurd (false≢true (sym (no_mark n k) ∙ before)) | inr there ↦ directly k target there ];
    first = λ p edge. (visits.marks p).1 (inr edge);
    closed = λ k is. elim (visits.waits k is) [ inl before ↦ absurd (false≢true (sym (no_mark n k) ∙ before)) | inr there ↦ inl there ];
    only = λ k there. (visits.marks k).1 (elim (visits.only k there) [ inl before ↦ absurd (contains_none k before) | inr edge ↦ inr edge ]);
  }

  pub walk_goes_on : (marks more : List Bool) (waiting rest now_waiting : List ℕ) (j : ℕ) → Walks graph target marks waiting → waiting ≡ rest ++ j ∷ [] → Visits (get_or graph j []) marks more rest now_waiting
      → Walks graph target more now_waiting
  walk_goes_on marks more waiting rest now_waiting j walks is visits =
      let waits : Contains waiting j = subst (λ (xs : List ℕ). Contains xs j) (sym is) (Contains-push rest j) in
      let at_j : Reaches (Edge graph) j target = walks.sound j (walks.only j waits) in
      let stays : (k : ℕ) → mark_at marks k ≡ true → mark_at more k ≡ true = λ k marked. (visits.marks k).1 (inl marked) in
      let split : (k : ℕ) → Contains waiting k → Contains rest k ⊎ (j ≡ k) = λ k there. Contains-push_cases rest j k (subst (λ (xs : List ℕ). Contains xs k) is there) in
      record {
        count = visits.count ∙ walks.count;
        sound = λ k marked. elim ((visits.marks k).0 marked) [ inl before ↦ walks.sound k before | inr edge ↦ onward k j target edge at_j ];
        first = λ p edge. stays p (walks.first p edge);
        closed = λ k marked. elim (visits.waits k marked) [
          | inl before ↦ elim (walks.closed k before) [
            | inl waited ↦ elim (split k waited) [
              | inl in_rest ↦ inl (visits.kept k in_rest)
              | inr e ↦ inr (λ p edge. (visits.marks p).1 (inr (subst (λ (m : ℕ). Edge graph p m) (sym e) edge)))
            ]
            | inr done ↦ inr (λ p edge. stays p (done p edge))
          ]
          | inr there ↦ inl there
        ];
        only = λ k there. (visits.marks k).1 (elim (visits.only k there) [
          | inl before ↦ inl (walks.only k (subst (λ (xs : List ℕ). Contains xs k) (sym is) (Contains-append_left rest (j ∷ []) k before)))
          | inr edge ↦ inr edge
        ]);
      }

-- what reaches the target is marked, where what precedes it and what precedes a marked number is
reaching_marked : (R : ℕ → ℕ → Type 0) (marks : List Bool) (i t : ℕ) → Reaches R i t → ((p : ℕ) → R p t → mark_at marks p ≡ true)
    → ((k : ℕ) → mark_at marks k ≡ true → (p : ℕ) → R p k → mark_at marks p ≡ true) → mark_at marks i ≡ true
reaching_marked R marks _ _ (directly i t edge) first closed = first i edge
reaching_marked R marks _ _ (onward i j t edge rest) first closed = closed j (reaching_marked R marks j t rest first closed) i edge

pub walk_ends : (graph : List (List ℕ)) (target : ℕ) (marks : List Bool) → Walks graph target marks [] → AreReaching graph target marks
walk_ends graph target marks walks = record {
  count = walks.count;
  exact = λ k. (
    walks.sound k,
    (λ reaches. reaching_marked (Edge graph) marks k target reaches walks.first (λ j marked p edge. elim (walks.closed j marked) [ inl there ↦ absurd (contains_none j there) | inr done ↦ done p edge ])),
  );
}

pub visits_as : (xs ys : List ℕ) (a b d : List Bool) (p q r : List ℕ) → xs ≡ ys → a ≡ b → p ≡ q → Visits xs a d p r → Visits ys b d q r
visits_as xs ys a b d p q r same_list same_marks same_waiting visits =
    subst (λ (waited : List ℕ). Visits ys b d waited r) same_waiting (subst (λ (marks : List Bool). Visits ys marks d p r) same_marks (subst (λ (list : List ℕ). Visits list a d p r) same_list visits))

-- what waits is a number of the graph
pub waiting_below : (graph : List (List ℕ)) (target : ℕ) (marks : List Bool) (waiting : List ℕ) (j : ℕ) → Walks graph target marks waiting → Contains waiting j → j < length graph
waiting_below graph target marks waiting j walks there = let count = walks.count in omega (arith, marked_within marks j (walks.only j there), count)

module _ (graph : List (List ℕ)) (ops : List Op) (n : ℕ) where
  on_later : (signal : ℕ) → WritesOnCycle graph ops n signal → WritesOnCycle graph ops (n + 1) signal
  on_later signal on =
      let below = on.below in
      record { number = on.number; below = omega (arith, below); op = on.op; writes = on.writes; is = on.is; target = on.target; named = on.named; cycle = on.cycle }

  module _ (op : Op) (is : slice_get ops n ≡ Some op) where
    on_here : (x : SigId) → op.writes ≡ Some x → Reaches (Edge graph) n n → WritesOnCycle graph ops (n + 1) x.0
    on_here x writes cycle = record { number = n; below = omega arith; op = op; writes = x; is = is; target = writes; named = refl; cycle = cycle }

    -- it is an earlier operation, or this one
    on_before_or_here : (signal : ℕ) → WritesOnCycle graph ops (n + 1) signal → WritesOnCycle graph ops n signal ⊎ ((x : SigId) × (op.writes ≡ Some x) × (x.0 ≡ signal) × Reaches (Edge graph) n n)
    on_before_or_here signal on = at (cases_order on.number n) where
      at : ((on.number ≡ n) ⊎ ((on.number < n) ⊎ (n < on.number))) → WritesOnCycle graph ops n signal ⊎ ((x : SigId) × (op.writes ≡ Some x) × (x.0 ≡ signal) × Reaches (Edge graph) n n)
      at (inl e) =
          let here : Some on.op ≡ Some op = sym on.is ∙ ap (slice_get ops) e ∙ is in
          let same : on.op ≡ op = cc in
          inr (on.writes, ap (λ (o : Op). o.writes) (sym same) ∙ on.target, on.named, subst (λ (k : ℕ). Reaches (Edge graph) k k) e on.cycle)
      at (inr (inl less)) = inl (record { number = on.number; below = less; op = on.op; writes = on.writes; is = on.is; target = on.target; named = on.named; cycle = on.cycle })
      at (inr (inr more)) = let below = on.below in absurd (omega (arith, more, below))

    pub least_not_here : (least : Option SigId) → IsLeastOnCycle graph ops n least → (Reaches (Edge graph) n n → ⊥) → IsLeastOnCycle graph ops (n + 1) least
    least_not_here None none off = λ signal on. elim (on_before_or_here signal on) [ inl before ↦ none signal before | inr here ↦ off here.3 ]
    least_not_here (Some x) is_least off = record {
      holds = on_later x.0 is_least.holds;
      least = λ other on. elim (on_before_or_here other on) [ inl before ↦ is_least.least other before | inr here ↦ absurd (off here.3) ];
    }

    named_same : (x y : SigId) (signal : ℕ) → op.writes ≡ Some x → op.writes ≡ Some y → y.0 ≡ signal → x.0 ≡ signal
    named_same x y signal own other named = let e : Some x ≡ Some y = sym own ∙ other in let same : x ≡ y = cc in ap (λ (s : SigId). s.0) same ∙ named

    least_of_two : (a b : SigId) (less : Bool) → nat_lt a.0 b.0 ≡ less → IsLeast (WritesOnCycle graph ops n) a.0 → op.writes ≡ Some b → Reaches (Edge graph) n n
        → IsLeast (WritesOnCycle graph ops (n + 1)) (if less then a else b).0
    least_of_two a b true is_less is_least writes cycle =
        let lt : a.0 < b.0 = ltb-true a.0 b.0 is_less in
        record {
          holds = on_later a.0 is_least.holds;
          least = λ other on. elim (on_before_or_here other on) [ inl before ↦ is_least.least other before | inr here ↦ omega (arith, lt, named_same b here.0 other writes here.1 here.2) ];
        }
    least_of_two a b false is_less is_least writes cycle =
        let le : b.0 ≤ a.0 = ltb-false a.0 b.0 is_less in
        record {
          holds = on_here b writes cycle;
          least = λ other on. elim (on_before_or_here other on) [ inl before ↦ omega (arith, le, is_least.least other before) | inr here ↦ omega (arith, named_same b here.0 other writes here.1 here.2) ];
        }

    pub least_with_here : (least writes : Option SigId) → op.writes ≡ writes → IsLeastOnCycle graph ops n least → Reaches (Edge graph) n n → IsLeastOnCycle graph ops (n + 1) (lesser least writes)
    least_with_here None None is_writes none cycle = λ signal on. elim (on_before_or_here signal on) [ inl before ↦ none signal before | inr here ↦ (let e : None ≡ Some here.0 = sym is_writes ∙ here.1 in cc) ]
    least_with_here None (Some b) is_writes none cycle = record {
      holds = on_here b is_writes cycle;
      least = λ other on. elim (on_before_or_here other on) [ inl before ↦ absurd (none other before) | inr here ↦ omega (arith, named_same b here.0 other is_writes here.1 here.2) ];
    }
    least_with_here (Some a) None is_writes is_least cycle = record {
      holds = on_later a.0 is_least.holds;
      least = λ other on. elim (on_before_or_here other on) [ inl before ↦ is_least.least other before | inr here ↦ absurd (let e : None ≡ Some here.0 = sym is_writes ∙ here.1 in cc) ];
    }
    least_with_here (Some a) (Some b) is_writes is_least cycle = least_of_two a b (nat_lt a.0 b.0) refl is_least is_writes cycle
