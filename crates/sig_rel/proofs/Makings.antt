-- Calls that made references, one after another.
use Rattle.sig_rel.proofs.Common.{◌≡◌, ◌≤◌, ◌+◌, ℕ, Bool, List, [], ◌∷◌, inl, inr, None, Some, Result, Ok, Err, IfOk, refl, sym, subst, arith, Contains, if◌then◌else◌, IsErrAnd, mul-le-mul_right, Depends, StoreView, IsRefOf, IsStore, Keeps, Spans, allowance, test, HasAll, HoldAll, Share, Shares, SpanAll, refusal, DdAnswer, Node, Ref, Share-then, Share-wider, Depends-of_one, Depends-of_two, Keeps-itself, Keeps-trans, Spans-of, choice_depends, Trail-begins, Trail-next, Leads, Makes, itself}

-- a call of the store that makes a function g
module _ (fs : List Ref) (us : List ℕ) (g : List Bool → Bool) (IsWide : List ℕ → Type 0) (s t : StoreView) (store : IsStore t) (kept : Keeps s t)
    (spans : (vs : List ℕ) → IsWide vs → SpanAll s.nodes fs vs) (has : (vs : List ℕ) → IsWide vs → HasAll vs us)
    (depends : (vs : List ℕ) → IsWide vs → (v : ℕ) → Depends g v → Contains vs v) where
  pub made_call : (result : Result Ref DdAnswer) → IfOk result (IsRefOf t.nodes g) → Shares 1 fs us s t (refusal result) → Makes 1 IsWide s t itself result
  made_call (Ok h) is call = record {
    store = store;
    kept = kept;
    held = (is.holds, tt);
    leads = λ vs wide. Trail-next 0 1 vs s s t [] fs us (Trail-begins vs s [] tt tt) kept call (spans vs wide) (has vs wide) h is.holds (Spans-of t.nodes g h is vs (depends vs wide));
  }
  made_call (Err e) is call = record { store = store; kept = kept; held = tt; leads = λ vs wide. call.over vs (spans vs wide) (has vs wide) }

module _ (s t : StoreView) (store : IsStore t) (kept : Keeps s t) (result : Result Ref DdAnswer) where
  pub made_one : (op : Bool → Bool) (f : Ref) → IfOk result (IsRefOf t.nodes (λ ts. op (test s.nodes f ts))) → Shares 1 (f ∷ []) [] s t (refusal result) → Makes 1 (SpanAll s.nodes (f ∷ [])) s t itself result
  made_one op f is call =
      made_call (f ∷ []) [] (λ ts. op (test s.nodes f ts)) (SpanAll s.nodes (f ∷ [])) s t store kept (λ vs wide. wide) (λ vs wide. tt)
      (λ vs wide v d. wide.0 v (Depends-of_one op (test s.nodes f) v d)) result is call

  pub made_two : (op : Bool → Bool → Bool) (f g : Ref) → IfOk result (IsRefOf t.nodes (λ ts. op (test s.nodes f ts) (test s.nodes g ts))) → Shares 1 (f ∷ g ∷ []) [] s t (refusal result)
      → Makes 1 (SpanAll s.nodes (f ∷ g ∷ [])) s t itself result
  made_two op f g is call =
      made_call (f ∷ g ∷ []) [] (λ ts. op (test s.nodes f ts) (test s.nodes g ts)) (SpanAll s.nodes (f ∷ g ∷ [])) s t store kept (λ vs wide. wide) (λ vs wide. tt)
      (λ vs wide v d. elim (Depends-of_two op (test s.nodes f) (test s.nodes g) v d) [ inl a ↦ wide.0 v a | inr b ↦ wide.1.0 v b ]) result is call

  pub made_choice : (f g h : Ref) → IfOk result (IsRefOf t.nodes (λ ts. if test s.nodes f ts then test s.nodes g ts else test s.nodes h ts)) → Shares 1 (f ∷ g ∷ h ∷ []) [] s t (refusal result)
      → Makes 1 (SpanAll s.nodes (f ∷ g ∷ h ∷ [])) s t itself result
  made_choice f g h is call =
      made_call (f ∷ g ∷ h ∷ []) [] (λ ts. if test s.nodes f ts then test s.nodes g ts else test s.nodes h ts) (SpanAll s.nodes (f ∷ g ∷ h ∷ [])) s t store kept (λ vs wide. wide) (λ vs wide. tt)
      (λ vs wide v d. elim (choice_depends (test s.nodes f) (test s.nodes g) (test s.nodes h) v d) [ inl a ↦ wide.0 v a | inr (inl b) ↦ wide.1.0 v b | inr (inr e) ↦ wide.1.1.0 v e ]) result is call

-- some calls, and then others
leads_then : {X Y : Type 0} (m n : ℕ) (vs : List ℕ) (r s t : StoreView) (refs : X → List Ref) (others : Y → List Ref) (x : X) (result : Result Y DdAnswer)
    → Leads m vs r s refs (Ok x) → Leads n vs s t others result → Leads (m + n) vs r t others result
leads_then m n vs r s t refs others x (Ok y) first second = record {
  kept = Keeps-trans r s t first.kept second.kept;
  share = Share-then r s t m n vs None first.share second.share;
  held = second.held;
  spans = second.spans;
}
leads_then m n vs r s t refs others x (Err e) first second = Share-then r s t m n vs (Some e) first.share second

pub makes_then : {X Y : Type 0} (m n : ℕ) (Wide First Second : List ℕ → Type 0) (r s t : StoreView) (refs : X → List Ref) (others : Y → List Ref) (x : X) (result : Result Y DdAnswer)
    → Makes m First r s refs (Ok x) → Makes n Second s t others result → ((vs : List ℕ) → Wide vs → First vs) → ((vs : List ℕ) → Wide vs → SpanAll s.nodes (refs x) vs → Second vs)
    → Makes (m + n) Wide r t others result
makes_then m n Wide First Second r s t refs others x result first second to_first to_second = record {
  store = second.store;
  kept = Keeps-trans r s t first.kept second.kept;
  held = second.held;
  leads = λ vs wide.
      let before = first.leads vs (to_first vs wide) in
      leads_then m n vs r s t refs others x result before (second.leads vs (to_second vs wide before.spans));
}

-- what calls made depends on no more
pub makes_spans : {X : Type 0} (m : ℕ) (Wide : List ℕ → Type 0) (r s : StoreView) (refs : X → List Ref) (x : X) → Makes m Wide r s refs (Ok x) → (vs : List ℕ) → Wide vs → SpanAll s.nodes (refs x) vs
makes_spans m Wide r s refs x makes vs wide = let leads = makes.leads vs wide in leads.spans

-- what is answered of what was made
pub makes_ok : {X Y : Type 0} (m : ℕ) (Wide : List ℕ → Type 0) (r s : StoreView) (refs : X → List Ref) (others : Y → List Ref) (x : X) (y : Y) → Makes m Wide r s refs (Ok x)
    → HoldAll s.nodes (others y) → ((vs : List ℕ) → Wide vs → SpanAll s.nodes (refs x) vs → SpanAll s.nodes (others y) vs) → Makes m Wide r s others (Ok y)
makes_ok m Wide r s refs others x y makes held spans = record {
  store = makes.store;
  kept = makes.kept;
  held = held;
  leads = λ vs wide. let leads = makes.leads vs wide in record { kept = leads.kept; share = leads.share; held = held; spans = spans vs wide leads.spans };
}

refused : {Y : Type 0} (n : ℕ) (Wide : List ℕ → Type 0) (r s : StoreView) (others : Y → List Ref) (e : DdAnswer) (result : Result Y DdAnswer) → IsErrAnd result (λ d. d ≡ e) → IsStore s → Keeps r s
    → ((vs : List ℕ) → Wide vs → Share n vs r s (Some e)) → Makes n Wide r s others result
refused n Wide r s others e (Ok y) is store kept shares = absurd is
refused n Wide r s others e (Err d) is store kept shares = record { store = store; kept = kept; held = tt; leads = λ vs wide. subst (λ a. Share n vs r s (Some a)) (sym is) (shares vs wide) }

-- a refusal is passed on
pub makes_err : {X Y : Type 0} (m n : ℕ) (Wide First : List ℕ → Type 0) (r s : StoreView) (refs : X → List Ref) (others : Y → List Ref) (e : DdAnswer) (result : Result Y DdAnswer)
    → Makes m First r s refs (Err e) → m ≤ n → ((vs : List ℕ) → Wide vs → First vs) → IsErrAnd result (λ d. d ≡ e) → Makes n Wide r s others result
makes_err m n Wide First r s refs others e result makes le to_first is =
    refused n Wide r s others e result is makes.store makes.kept (λ vs wide. Share-wider r s m n vs vs (Some e) (mul-le-mul_right (allowance vs) le) (makes.leads vs (to_first vs wide)))

-- more calls, over wider lists
pub makes_wider : {X : Type 0} (m n : ℕ) (Wide First : List ℕ → Type 0) (r s : StoreView) (refs : X → List Ref) (result : Result X DdAnswer)
    → Makes m First r s refs result → m ≤ n → ((vs : List ℕ) → Wide vs → First vs) → Makes n Wide r s refs result
makes_wider m n Wide First r s refs (Ok x) makes le to_first = record {
  store = makes.store;
  kept = makes.kept;
  held = makes.held;
  leads = λ vs wide.
      let leads = makes.leads vs (to_first vs wide) in
      record { kept = leads.kept; share = Share-wider r s m n vs vs None (mul-le-mul_right (allowance vs) le) leads.share; held = leads.held; spans = leads.spans };
}
makes_wider m n Wide First r s refs (Err e) makes le to_first = record {
  store = makes.store;
  kept = makes.kept;
  held = tt;
  leads = λ vs wide. Share-wider r s m n vs vs (Some e) (mul-le-mul_right (allowance vs) le) (makes.leads vs (to_first vs wide));
}

-- what is there already takes no call
pub made_none : {X : Type 0} (n : ℕ) (Wide : List ℕ → Type 0) (s : StoreView) (refs : X → List Ref) (x : X) → IsStore s → HoldAll s.nodes (refs x)
    → ((vs : List ℕ) → Wide vs → SpanAll s.nodes (refs x) vs) → Makes n Wide s s refs (Ok x)
made_none n Wide s refs x store held spans =
    makes_wider 0 n Wide Wide s s refs (Ok x) (record { store = store; kept = Keeps-itself s; held = held; leads = λ vs wide. Trail-begins vs s (refs x) held (spans vs wide) }) (omega arith) (λ vs wide. wide)

-- a constant depends on nothing
pub constant_spans : (nodes : List Node) (b : Bool) (h : Ref) (vs : List ℕ) → IsRefOf nodes (λ ts. b) h → Spans nodes h vs
constant_spans nodes b h vs is = Spans-of nodes (λ ts. b) h is vs (λ v d. absurd (d.1 refl))
