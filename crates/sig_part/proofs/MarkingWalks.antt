-- Walks that mark what is closed.
use Rattle.sig_part.proofs.Common.{◌≡◌, ◌<◌, ◌⊎◌, inl, inr, ℕ, Bool, true, false, List, [], ◌∷◌, ◌++◌, length, get_or, set, replicate, refl, sym, ap, ◌∙◌, subst, arith, Contains, Option, None, Some, slice_get, false≢true, length-replicate, length-set, length_push, Contains-append_cases, Contains-append_left, Contains-append_right, Contains-push, Contains-push_cases, SigId, Signal, AreClosed, Closes, seed, onward, Visits, Walks, is_elsewhere, is_other, mark_at, contains_cons, contains_head, contains_none, slice_get_within}
use Rattle.sig_part.proofs.SetMarks.{marked_more, marked_within, no_mark, one_marked}

-- a signal that is there
pub elsewhere_below : (signals : List Signal) (actor : ℕ) (x : SigId) (marks : List Bool) → length marks ≡ length signals → is_elsewhere signals actor x ≡ true → x.0 < length marks
elsewhere_below signals actor x marks count is = at (slice_get signals x.0) refl is where
  at : (owner : Option Signal) → slice_get signals x.0 ≡ owner → is_other actor owner ≡ true → x.0 < length marks
  at None get there = absurd (false≢true there)
  at (Some owner) get there = omega (arith, slice_get_within signals x.0 owner get, count)

in_one : (x y : SigId) → Contains (x ∷ []) y → y ≡ x
in_one x y there = elim (contains_cons x y [] there) [ inl same ↦ same | inr later ↦ absurd (contains_none y later) ]

module _ (p : SigId → Bool) where
  pub visits_none : (marks : List Bool) (waiting : List SigId) → Visits p [] marks marks waiting waiting
  visits_none marks waiting = record {
    count = refl;
    marks = λ x. ((λ is. inl is), (λ is. elim is [ inl before ↦ before | inr there ↦ absurd (contains_none x there.0) ]));
    waits = λ x is. inl is;
    kept = λ x there. there;
    only = λ x there. inl there;
    balance = refl;
  }

  module _ (x : SigId) (marks : List Bool) (waiting : List SigId) where
    pub visits_left : p x ≡ false → Visits p (x ∷ []) marks marks waiting waiting
    visits_left out = record {
      count = refl;
      marks = λ y. ((λ marked. inl marked), (λ cases. elim cases [ inl before ↦ before | inr there ↦ absurd (false≢true (sym out ∙ ap p (sym (in_one x y there.0)) ∙ there.1)) ]));
      waits = λ y marked. inl marked;
      kept = λ y there. there;
      only = λ y there. inl there;
      balance = refl;
    }

    pub visits_marked : mark_at marks x.0 ≡ true → Visits p (x ∷ []) marks marks waiting waiting
    visits_marked is = record {
      count = refl;
      marks = λ y. ((λ marked. inl marked), (λ cases. elim cases [ inl before ↦ before | inr there ↦ ap (λ (s : SigId). mark_at marks s.0) (in_one x y there.0) ∙ is ]));
      waits = λ y marked. inl marked;
      kept = λ y there. there;
      only = λ y there. inl there;
      balance = refl;
    }

    pub visits_new : p x ≡ true → x.0 < length marks → mark_at marks x.0 ≡ false → Visits p (x ∷ []) marks (set marks x.0 true) waiting (waiting ++ x ∷ [])
    visits_new passes lt left =
        let more = one_marked marks x.0 lt left in
        let longer = length_push waiting x in
        let own : (y : SigId) → y ≡ x → Contains (x ∷ []) y × (p y ≡ true) = λ y e. (subst (Contains (x ∷ [])) (sym e) (contains_head x []), ap p e ∙ passes) in
        record {
          count = length-set marks x.0 true;
          marks = λ y. (
            (λ marked. elim ((marked_more marks x y lt).0 marked) [ inl before ↦ inl before | inr e ↦ inr (own y e) ]),
            (λ cases. (marked_more marks x y lt).1 (elim cases [ inl before ↦ inl before | inr there ↦ inr (in_one x y there.0) ])),
          );
          waits = λ y marked. elim ((marked_more marks x y lt).0 marked) [ inl before ↦ inl before | inr e ↦ inr (subst (Contains (waiting ++ x ∷ [])) (sym e) (Contains-push waiting x)) ];
          kept = λ y there. Contains-append_left waiting (x ∷ []) y there;
          only = λ y there. elim (Contains-push_cases waiting x y there) [ inl before ↦ inl before | inr e ↦ inr (own y (sym e)) ];
          balance = omega (arith, more, longer);
        }

  pub visits_then : (xs ys : List SigId) (a b d : List Bool) (u v w : List SigId) → Visits p xs a b u v → Visits p ys b d v w → Visits p (xs ++ ys) a d u w
  visits_then xs ys a b d u v w first second =
      let left = first.balance in
      let right = second.balance in
      record {
        count = second.count ∙ first.count;
        marks = λ x. (
          (λ is. elim ((second.marks x).0 is) [
            | inl before ↦ elim ((first.marks x).0 before) [ inl earlier ↦ inl earlier | inr there ↦ inr (Contains-append_left xs ys x there.0, there.1) ]
            | inr there ↦ inr (Contains-append_right xs ys x there.0, there.1)
          ]),
          (λ cases. (second.marks x).1 (elim cases [
            | inl earlier ↦ inl ((first.marks x).1 (inl earlier))
            | inr there ↦ elim (Contains-append_cases xs ys x there.0) [ inl in_xs ↦ inl ((first.marks x).1 (inr (in_xs, there.1))) | inr in_ys ↦ inr (in_ys, there.1) ]
          ])),
        );
        waits = λ x is. elim (second.waits x is) [
          | inl before ↦ elim (first.waits x before) [ inl earlier ↦ inl earlier | inr there ↦ inr (second.kept x there) ]
          | inr there ↦ inr there
        ];
        kept = λ x there. second.kept x (first.kept x there);
        only = λ x there. elim (second.only x there) [
          | inl before ↦ elim (first.only x before) [ inl earlier ↦ inl earlier | inr in_xs ↦ inr (Contains-append_left xs ys x in_xs.0, in_xs.1) ]
          | inr in_ys ↦ inr (Contains-append_right xs ys x in_ys.0, in_ys.1)
        ];
        balance = omega (arith, left, right);
      }

  pub visits_as : (xs ys : List SigId) (a b d : List Bool) (u v w : List SigId) → xs ≡ ys → a ≡ b → u ≡ v → Visits p xs a d u w → Visits p ys b d v w
  visits_as xs ys a b d u v w same_list same_marks same_waiting visits =
      subst (λ (waited : List SigId). Visits p ys b d waited w) same_waiting (subst (λ (marks : List Bool). Visits p ys marks d u w) same_marks (subst (λ (list : List SigId). Visits p list a d u w) same_list visits))

  module _ (needed : List (List SigId)) (seeds : List SigId) where
    pub walk_begins : (n : ℕ) (marks : List Bool) (waiting : List SigId) → n ≡ length needed → Visits p seeds (replicate n false) marks [] waiting → Walks p needed seeds marks waiting
    walk_begins n marks waiting same visits = record {
      count = visits.count ∙ length-replicate n false ∙ same;
      sound = λ x is. elim ((visits.marks x).0 is) [ inl before ↦ absurd (false≢true (sym (no_mark n x.0) ∙ before)) | inr there ↦ seed x there.0 there.1 ];
      first = λ x there passes. (visits.marks x).1 (inr (there, passes));
      closed = λ x is. elim (visits.waits x is) [ inl before ↦ absurd (false≢true (sym (no_mark n x.0) ∙ before)) | inr there ↦ inl there ];
      only = λ x there. (visits.marks x).1 (elim (visits.only x there) [ inl before ↦ absurd (contains_none x before) | inr new ↦ inr new ]);
    }

    pub walk_goes_on : (marks more : List Bool) (waiting rest now_waiting : List SigId) (y : SigId) → Walks p needed seeds marks waiting → waiting ≡ rest ++ y ∷ [] → Visits p (get_or needed y.0 []) marks more rest now_waiting
        → Walks p needed seeds more now_waiting
    walk_goes_on marks more waiting rest now_waiting y walks is visits =
        let waits : Contains waiting y = subst (λ (xs : List SigId). Contains xs y) (sym is) (Contains-push rest y) in
        let at_y : Closes p needed seeds y = walks.sound y (walks.only y waits) in
        let stays : (x : SigId) → mark_at marks x.0 ≡ true → mark_at more x.0 ≡ true = λ x marked. (visits.marks x).1 (inl marked) in
        let split : (x : SigId) → Contains waiting x → Contains rest x ⊎ (y ≡ x) = λ x there. Contains-push_cases rest y x (subst (λ (xs : List SigId). Contains xs x) is there) in
        record {
          count = visits.count ∙ walks.count;
          sound = λ x marked. elim ((visits.marks x).0 marked) [ inl before ↦ walks.sound x before | inr there ↦ onward y x at_y there.0 there.1 ];
          first = λ x there passes. stays x (walks.first x there passes);
          closed = λ x marked. elim (visits.waits x marked) [
            | inl before ↦ elim (walks.closed x before) [
              | inl waited ↦ elim (split x waited) [
                | inl in_rest ↦ inl (visits.kept x in_rest)
                | inr e ↦ inr (λ condition there passes. (visits.marks condition).1 (inr (subst (λ (s : SigId). Contains (get_or needed s.0 []) condition) (sym e) there, passes)))
              ]
              | inr done ↦ inr (λ condition there passes. stays condition (done condition there passes))
            ]
            | inr there ↦ inl there
          ];
          only = λ x there. (visits.marks x).1 (elim (visits.only x there) [
            | inl before ↦ inl (walks.only x (subst (λ (xs : List SigId). Contains xs x) (sym is) (Contains-append_left rest (y ∷ []) x before)))
            | inr new ↦ inr new
          ]);
        }

    -- what belongs to the least set is marked, where the seeds are and what is needed for marked signals is
    closes_marked : (marks : List Bool) (x : SigId) → Closes p needed seeds x → Walks p needed seeds marks [] → mark_at marks x.0 ≡ true
    closes_marked marks _ (seed x there passes) walks = walks.first x there passes
    closes_marked marks _ (onward x condition before there passes) walks =
        elim (walks.closed x (closes_marked marks x before walks)) [ inl waits ↦ absurd (contains_none x waits) | inr done ↦ done condition there passes ]

    pub walk_ends : (marks : List Bool) → Walks p needed seeds marks [] → AreClosed p needed seeds marks
    walk_ends marks walks = record {
      count = walks.count;
      exact = λ x. (walks.sound x, (λ closes. closes_marked marks x closes walks));
    }

    -- what waits is a signal for which it is known what is needed
    pub waiting_below : (marks : List Bool) (waiting : List SigId) (x : SigId) → Walks p needed seeds marks waiting → Contains waiting x → x.0 < length needed
    waiting_below marks waiting x walks there = let count = walks.count in omega (arith, marked_within marks x.0 (walks.only x there), count)
