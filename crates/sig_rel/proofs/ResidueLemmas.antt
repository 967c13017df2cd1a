-- What is asked of columns where an equation is to be met.
use Rattle.sig_rel.proofs.Common.{◌≡◌, ◌<◌, ◌≤◌, ◌+◌, ◌-◌, inl, inr, arith, ℕ, ℤ, Bool, true, false, List, length, get_or, take, None, Some, refl, sym, ap, ◌∙◌, subst, if◌then◌else◌, ◌&&◌, ◌||◌, list_all, and_from, and_parts, cases_eq, false≢true, or_cases, list_all_more, SigId, Signal, kind_at, Equation, Form, When, WhenConst, Default, constant_truth, same_status, where_true, Holds, Keeps, Spans, StoreView, test, HoldAll, SpanAll, Node, Ref, Holds-kept, Spans-kept, is_own, IsOwnStatus, IsSomePresent, is_met, Values, has, presence_by, truth_by_form, value_status, refs_of, status_by, HoldColumns, SpanColumns, present_at, truth_at, values_at, Known, Columns, or_left, or_right}
use Rattle.sig_rel.proofs.KeptFunctions.{or_else_is, status, test_kept, where_true_is}

-- columns stay as a store grows
module _ (s t : StoreView) (kept : Keeps s t) (columns : Columns) (held : HoldColumns s.nodes columns) where
  pub columns_hold : HoldColumns t.nodes columns
  columns_hold = record {
    present = λ class. Holds-kept s t kept (present_at columns class) (held.present class);
    truth = λ signal. Holds-kept s t kept (truth_at columns signal) (held.truth signal);
  }

  pub columns_span : (vs : List ℕ) → SpanColumns s.nodes columns vs → SpanColumns t.nodes columns vs
  columns_span vs span = record {
    present = λ class. Spans-kept s t kept (present_at columns class) (held.present class) vs (span.present class);
    truth = λ signal. Spans-kept s t kept (truth_at columns signal) (held.truth signal) vs (span.truth signal);
  }

  pub columns_values : (truths : List Bool) → values_at t.nodes columns truths ≡ values_at s.nodes columns truths
  columns_values truths = λ j. record {
    present = λ class. test_kept s t kept (present_at columns class) (held.present class) truths j;
    truth = λ signal. test_kept s t kept (truth_at columns signal) (held.truth signal) truths j;
  }

-- what a signal is in the columns
module _ (nodes : List Node) (least : List ℕ) (columns : Columns) (x : ℕ) (known : Known) (is : IsOwnStatus least columns x known) where
  pub own_hold : HoldColumns nodes columns → HoldAll nodes (refs_of known)
  own_hold held = (subst (Holds nodes) (sym is.0) (held.present (get_or least x 0)), (subst (Holds nodes) (sym is.1) (held.truth x), tt))

  pub own_span : (vs : List ℕ) → SpanColumns nodes columns vs → SpanAll nodes (refs_of known) vs
  own_span vs span = (subst (λ (r : Ref). Spans nodes r vs) (sym is.0) (span.present (get_or least x 0)), (subst (λ (r : Ref). Spans nodes r vs) (sym is.1) (span.truth x), tt))

  pub own_status : (truths : List Bool) → status_by nodes known truths ≡ value_status least (values_at nodes columns truths) x
  own_status truths = λ j. if test nodes (is.0 j) truths then Some (test nodes (is.1 j) truths) else None

-- a signal is what its equation gives
module _ (signals : List Signal) (least : List ℕ) (values : Values) where
  abbrev IsGiven : SigId → Bool → Form → Type 0
  IsGiven y r form = (b : Bool) → truth_by_form signals least values form ≡ Some b → r ≡ same_status (value_status least values y.0) (status (presence_by least values form) b)

  pub when_met : (form : Form) (y x b : SigId) (r : Bool) → form ≡ When y x b → IsGiven y r form → r ≡ is_met signals least values form
  when_met form y x b r is = subst (λ f. IsGiven y r f → r ≡ is_met signals least values f) (sym is)
      (λ given. given (values.truth x.0) refl ∙ ap (same_status (value_status least values y.0)) (where_true_is (has least values b.0) (values.truth b.0) (has least values x.0) (values.truth x.0)))

  pub constant_met : (form : Form) (y : SigId) (constant : ℤ) (b : SigId) (r : Bool) → form ≡ WhenConst y constant b → IsGiven y r form → r ≡ is_met signals least values form
  constant_met form y constant b r is = subst (λ f. IsGiven y r f → r ≡ is_met signals least values f) (sym is)
      (λ given. given (constant_truth (kind_at signals y) constant) refl
      ∙ ap (same_status (value_status least values y.0)) (constant_where (has least values b.0) (values.truth b.0) (constant_truth (kind_at signals y) constant)))
    where
      constant_where : (p t c : Bool) → status (p && t) c ≡ where_true (status p t) (Some c)
      constant_where true true c = refl
      constant_where _ _ c = refl

  pub default_met : (form : Form) (y u v : SigId) (r : Bool) → form ≡ Default y u v → IsGiven y r form → r ≡ is_met signals least values form
  default_met form y u v r is = subst (λ f. IsGiven y r f → r ≡ is_met signals least values f) (sym is)
      (λ given. given (if has least values u.0 then values.truth u.0 else values.truth v.0) refl
      ∙ ap (same_status (value_status least values y.0)) (or_else_is (has least values u.0) (values.truth u.0) (has least values v.0) (values.truth v.0)))

-- one more equation is met
pub one_more_asked : (signals own : List Signal) (equations : List Equation) (least : List ℕ) (values : Values) (k : ℕ) (equation : Equation) (before after : Bool) → own ≡ signals → k < length equations
    → ((d : Equation) → get_or equations k d ≡ equation) → before ≡ list_all (λ e. is_met signals least values e.form) (take k equations)
    → after ≡ (before && is_met own least values equation.form) → after ≡ list_all (λ e. is_met signals least values e.form) (take (k + 1) equations)
one_more_asked signals own equations least values k equation before after same lt is so_far now =
    now ∙ (λ j. so_far j && is_met (same j) least values (sym (is equation) j).form)
    ∙ sym (list_all_more (λ e. is_met signals least values e.form) equations k equation lt)

-- ---- where some class is present

pub none_present : (nodes : List Node) (least : List ℕ) (columns : Columns) (r : Ref) → ((truths : List Bool) → test nodes r truths ≡ false) → IsSomePresent nodes nodes least columns (length least) r
none_present nodes least columns r is truths = (λ some. absurd (false≢true (sym (is truths) ∙ some)), λ there. absurd (let from = there.1 in let below = there.2 in omega (arith, from, below)))

-- one more class may be present
pub one_more_present : (r s t : StoreView) → Keeps r s → (least : List ℕ) (columns : Columns) → HoldColumns r.nodes columns → (class : ℕ) → 0 < class → class ≤ length least → (before after : Ref)
    → IsSomePresent r.nodes s.nodes least columns class before
    → ((truths : List Bool) → test t.nodes after truths ≡ ((is_own least (class - 1) && test s.nodes (present_at columns (class - 1)) truths) || test s.nodes before truths))
    → IsSomePresent r.nodes t.nodes least columns (class - 1) after
one_more_present r s t kept least columns held class low high before after so_far now truths = (
  λ some. elim (or_cases (is_own least (class - 1) && test s.nodes (present_at columns (class - 1)) truths) (test s.nodes before truths) (sym (now truths) ∙ some)) [
    | inl here ↦
        let parts = and_parts (is_own least (class - 1)) (test s.nodes (present_at columns (class - 1)) truths) here in
        (class - 1, omega arith, omega (arith, low, high), parts.0, sym (stays (class - 1)) ∙ parts.1)
    | inr there ↦
        let found = (so_far truths).0 there in
        (found.0, (let from = found.1 in omega (arith, from)), found.2, found.3, found.4)
  ],
  λ there. now truths ∙ elim (cases_eq there.0 (class - 1)) [
    | inl same ↦ or_left (is_own least (class - 1) && test s.nodes (present_at columns (class - 1)) truths) (test s.nodes before truths)
        (and_from (is_own least (class - 1)) (test s.nodes (present_at columns (class - 1)) truths) (subst (λ c. is_own least c ≡ true) same there.3)
        (stays (class - 1) ∙ subst (λ c. test r.nodes (present_at columns c) truths ≡ true) same there.4))
    | inr apart ↦ or_right (is_own least (class - 1) && test s.nodes (present_at columns (class - 1)) truths) (test s.nodes before truths)
        ((so_far truths).1 (there.0, (let from = there.1 in omega (arith, from, apart)), there.2, there.3, there.4))
  ],
) where
  stays : (c : ℕ) → test s.nodes (present_at columns c) truths ≡ test r.nodes (present_at columns c) truths
  stays c = test_kept r s kept (present_at columns c) (held.present c) truths

-- columns that stayed are present where they were
pub some_of_kept : (r s : StoreView) → Keeps r s → (new : List Node) (least : List ℕ) (columns : Columns) → HoldColumns r.nodes columns → (some : Ref)
    → IsSomePresent s.nodes new least columns 0 some → IsSomePresent r.nodes new least columns 0 some
some_of_kept r s kept new least columns held some is truths = (
  λ holds. let found = (is truths).0 holds in (found.0, found.1, found.2, found.3, sym (stays found.0) ∙ found.4),
  λ there. (is truths).1 (there.0, there.1, there.2, there.3, stays there.0 ∙ there.4),
) where
  stays : (c : ℕ) → test s.nodes (present_at columns c) truths ≡ test r.nodes (present_at columns c) truths
  stays c = test_kept r s kept (present_at columns c) (held.present c) truths
