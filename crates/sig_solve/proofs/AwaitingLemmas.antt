-- Lemmas on presences that wait for a condition.
use Rattle.sig_solve.proofs.Common.{◌≡◌, ◌≢◌, ◌↔◌, ◌⊎◌, inl, inr, ℕ, Bool, true, false, List, ◌∷◌, length, get_or, set, replicate, refl, sym, ap, ◌∙◌, subst, arith, IsTrue, zero, suc, Option, None, Some, Result, Ok, Err, IfOk, slice_get, if◌then◌else◌, false≢true, length-replicate, length-set, SigId, AgreeOn, IsDetermined, IsSignal, Reaction, Speaks, is_present, status_at, truth_of, IsRefOf, Keeps, Overlap, Spans, StoreView, test, DdAnswer, Node, Ref, Holds-kept, IsSolution, reading, ForgetsAllBut, IsAskedIn, IsImage, IsProposalOf, AreAwaited, IsApart, IsRest, IsAmong, AreEntered, IsOpenAnswer, Asked, contains_at, test-kept}
use Rattle.sig_solve.proofs.AskedLemmas.{is_condition_at, speaks_read}
use Rattle.sig_solve.proofs.AskedRounds.{agreeing, closed_rounds}
use Rattle.sig_solve.proofs.SystemLemmas.{presence_read, reading_kept, solution_newer, solution_older}

-- a list with one element set
set_cases : {X : Type 0} (xs : List X) (k : ℕ) (x : X) (s : ℕ) (y : X) → slice_get (set xs k x) s ≡ Some y → ((s ≡ k) × (x ≡ y)) ⊎ (slice_get xs s ≡ Some y)
set_cases (z ∷ xs) zero x zero y is = inl (refl, cc)
set_cases (z ∷ xs) (suc k) x (suc s) y is = elim (set_cases xs k x s y is) [ inl here ↦ inl (ap suc here.0, here.1) | inr there ↦ inr there ]
set_cases _ _ x _ y is = inr is

replicated : {X : Type 0} (n : ℕ) (x : X) (s : ℕ) (y : X) → slice_get (replicate n x) s ≡ Some y → x ≡ y
replicated (suc n) x (suc s) y is = replicated n x s y is
replicated _ x _ y is = cc

pub none_awaited : (nodes : List Node) (asked : Asked) (n : ℕ) (awaited : List (Option ℕ)) → n ≡ length asked.frame.kernel.now.signals → awaited ≡ replicate n None → AreAwaited nodes asked awaited
none_awaited nodes asked n awaited count is = record {
  count = ap length is ∙ length-replicate n None ∙ count;
  each = λ s v at. absurd (let none : None ≡ Some v = replicated n None s (Some v) (sym (ap (λ xs. slice_get xs s) is) ∙ at) in cc);
}

chosen : (p q : Bool) → IsTrue (if p then false else q) ↔ (IsTrue q × (p ≡ false))
chosen true q = ((λ t. absurd (false≢true t)), (λ both. absurd (false≢true (sym both.1))))
chosen false q = ((λ t. (t, refl)), (λ both. both.0))

-- a function that is the same everywhere depends on nothing
pub constant_spans : (nodes : List Node) (b : Bool) (r : Ref) → IsRefOf nodes (λ _. b) r → (vs : List ℕ) → Spans nodes r vs
constant_spans nodes b r is vs v depends = absurd (depends.1 (is.function _ ∙ sym (is.function _)))

module _ (store : StoreView) (asked : Asked) (is : IsAskedIn store asked) where
  module _ (new : StoreView) (kept : Keeps store new) where
    pub rest_kept : (s : ℕ) (r : Ref) → IsRest store.nodes asked s r → IsRest new.nodes asked s r
    rest_kept s r rest = record {
      holds = Holds-kept store new kept r rest.holds;
      function = λ ts.
          let read = ap (λ x. is_present x s) (reading_kept store new kept asked.system asked.frame.kernel.now is.is_system ts) in
          let same = test-kept store new kept r rest.holds ts in (
            (λ t. let both = (rest.function ts).0 (sym same ∙ t) in (solution_newer store new kept asked.system asked.frame.kernel.now is.is_system ts both.0, read ∙ both.1)),
            (λ both. same ∙ (rest.function ts).1 (solution_older store new kept asked.system asked.frame.kernel.now is.is_system ts both.0, sym read ∙ both.1)),
          );
    }

    pub apart_kept : (v s : ℕ) → IsApart store.nodes asked v s → IsApart new.nodes asked v s
    apart_kept v s apart = record {
      with = apart.with;
      without = apart.without;
      solves = solution_newer store new kept asked.system asked.frame.kernel.now is.is_system apart.with apart.solves;
      other = solution_newer store new kept asked.system asked.frame.kernel.now is.is_system apart.without apart.other;
      here = ap (λ x. is_present x s) (reading_kept store new kept asked.system asked.frame.kernel.now is.is_system apart.with) ∙ apart.here;
      gone = ap (λ x. is_present x s) (reading_kept store new kept asked.system asked.frame.kernel.now is.is_system apart.without) ∙ apart.gone;
      agree = apart.agree;
    }

    -- with what was found of one more class
    pub awaited_set : (awaited : List (Option ℕ)) (class : ℕ) (awaits : Option ℕ) → AreAwaited store.nodes asked awaited → ((v : ℕ) → awaits ≡ Some v → IsApart new.nodes asked v class)
        → AreAwaited new.nodes asked (set awaited class awaits)
    awaited_set awaited class awaits are found = record {
      count = length-set awaited class awaits ∙ are.count;
      each = λ s v at. elim (set_cases awaited class awaits s (Some v) at) [
        | inl here ↦ subst (λ k. IsApart new.nodes asked v k) (sym here.0) (found v here.1)
        | inr there ↦ apart_kept v s (are.each s v there)
      ];
    }

    -- the solutions without a signal
    pub rest_made : (s : ℕ) → IsSignal asked.frame.kernel.now s → (present never : Ref) → present ≡ get_or asked.system.present s asked.system.residue → IsRefOf store.nodes (λ _. false) never
        → (result : Result Ref DdAnswer) → IfOk result (IsRefOf new.nodes (λ ts. if test store.nodes present ts then test store.nodes never ts else test store.nodes asked.solutions ts)) → IfOk result (IsRest new.nodes asked s)
    rest_made s lt present never own none (Err e) made = tt
    rest_made s lt present never own none (Ok r) made = record {
      holds = made.holds;
      function = λ ts.
          let read = ap (λ x. is_present x s) (reading_kept store new kept asked.system asked.frame.kernel.now is.is_system ts) ∙ presence_read asked.frame.kernel.now store.nodes asked.system is.is_system s lt ts
          ∙ ap (λ f. test store.nodes f ts) (sym own) in
          let p = test store.nodes present ts in
          let q = test store.nodes asked.solutions ts in
          let value = made.function ts ∙ ap (λ b. if p then b else q) (none.function ts) in (
            (λ t. let both = (chosen p q).0 (sym value ∙ t) in (solution_newer store new kept asked.system asked.frame.kernel.now is.is_system ts ((is.solutions ts).0 both.0), read ∙ both.1)),
            (λ both. value ∙ (chosen p q).1 ((is.solutions ts).1 (solution_older store new kept asked.system asked.frame.kernel.now is.is_system ts both.0), sym read ∙ both.1)),
          );
    }

  -- solutions with and without the signal that agree on what is not forgotten
  module _ (tried : List Bool) (s v : ℕ) (with rest : Ref) (is_with : IsImage store.nodes asked tried (λ r. is_present r s ≡ true) with) (is_rest : IsRest store.nodes asked s rest) where
    pub apart_found : ((u : ℕ) (c : SigId) → IsProposalOf asked.system u c → u ≢ v → truth_of tried u ≡ false) → Overlap store.nodes with rest → IsApart store.nodes asked v s
    apart_found keeps (ts, w, o) =
        let a = (is_with.function ts).0 w in
        let b = (is_rest.function ts).0 o in
        record {
          with = a.0;
          without = ts;
          solves = a.2;
          other = b.0;
          here = a.3;
          gone = b.1;
          agree = λ u c own apart. sym (a.1 u (keeps u c own apart));
        }

    pub apart_ok : ((u : ℕ) (c : SigId) → IsProposalOf asked.system u c → u ≢ v → truth_of tried u ≡ false) → (result : Result Bool DdAnswer) → IfOk result (λ holds. IsTrue holds ↔ Overlap store.nodes with rest)
        → IfOk result (λ holds. IsTrue holds → IsApart store.nodes asked v s)
    apart_ok keeps (Err e) over = tt
    apart_ok keeps (Ok b) over = λ t. apart_found keeps (over.0 t)

  module _ (round : ℕ) (known : List SigId) (forgotten : List Bool) (but : ForgetsAllBut asked.system known forgotten) (entered : AreEntered asked.frame.kernel.now round known) (s : ℕ) where
    -- two solutions that agree on the proposals of known conditions agree on these
    agree_known : (a b : List Bool) → IsSolution store.nodes asked.system a → IsSolution store.nodes asked.system b → ((v : ℕ) (c : SigId) → IsProposalOf asked.system v c → truth_of forgotten v ≡ false → truth_of a v ≡ truth_of b v)
        → AgreeOn asked.frame.kernel.now (IsAmong known) (reading store.nodes asked.system a) (reading store.nodes asked.system b)
    agree_known a b solves_a solves_b same c is_c among =
        closed_rounds store asked is a b solves_a solves_b round
        (λ i v d at own enters. same v d (i, at, own) (but.kept v d ((entered d.0 (is_condition_at store asked is i d at)).1 enters) (i, at, own)))
        round (omega arith) c is_c ((entered c is_c).0 among)

    open_of : (a b : List Bool) → IsSolution store.nodes asked.system a → IsSolution store.nodes asked.system b → ((v : ℕ) (c : SigId) → IsProposalOf asked.system v c → truth_of forgotten v ≡ false → truth_of a v ≡ truth_of b v)
        → is_present (reading store.nodes asked.system a) s ≡ true → is_present (reading store.nodes asked.system b) s ≡ false → IsDetermined asked.frame.kernel.now (IsAmong known) s → ⊥
    open_of a b solves_a solves_b same here gone determined =
        false≢true (sym gone ∙ sym (determined (reading store.nodes asked.system a) (reading store.nodes asked.system b) (speaks_read store asked is a solves_a) (speaks_read store asked is b solves_b) (agree_known a b solves_a solves_b same)) ∙ here)

    -- a presence that waits for a variable is open until it is known
    pub apart_open : (v : ℕ) → truth_of forgotten v ≡ true → IsApart store.nodes asked v s → IsDetermined asked.frame.kernel.now (IsAmong known) s → ⊥
    apart_open v unknown apart =
        open_of apart.with apart.without apart.solves apart.other (λ u c own kept. apart.agree u c own (λ e. false≢true (sym kept ∙ ap (truth_of forgotten) e ∙ unknown))) apart.here apart.gone

    module _ (with rest : Ref) (is_with : IsImage store.nodes asked forgotten (λ r. is_present r s ≡ true) with) (is_rest : IsRest store.nodes asked s rest) where
      overlap_open : Overlap store.nodes with rest → IsDetermined asked.frame.kernel.now (IsAmong known) s → ⊥
      overlap_open (ts, w, o) =
          let a = (is_with.function ts).0 w in
          let b = (is_rest.function ts).0 o in
          open_of a.0 ts a.2 b.0 (λ v c own kept. sym (a.1 v kept)) a.3 b.1

      open_overlap : (p q : Reaction) → Speaks asked.frame.kernel.now p → Speaks asked.frame.kernel.now q → AgreeOn asked.frame.kernel.now (IsAmong known) p q → is_present p s ≡ true → is_present q s ≡ false → Overlap store.nodes with rest
      open_overlap p q speaks_p speaks_q agree here gone =
          let a = is.is_system.complete p speaks_p in
          let o = agreeing store asked is known forgotten but a.0 q speaks_q (λ c is_c among. ap (λ x. status_at x c) a.2 ∙ agree c is_c among) in (
            o.0,
            (is_with.function o.0).1 (a.0, (λ v kept. sym (o.1 v kept)), a.1, ap (λ x. is_present x s) a.2 ∙ here),
            (is_rest.function o.0).1 (o.2, ap (λ x. is_present x s) o.3 ∙ gone),
          )

      none_determined : (Overlap store.nodes with rest → ⊥) → IsDetermined asked.frame.kernel.now (IsAmong known) s
      none_determined none p q speaks_p speaks_q agree = by (is_present p s) (is_present q s) refl refl where
        by : (x y : Bool) → is_present p s ≡ x → is_present q s ≡ y → is_present p s ≡ is_present q s
        by true false e f = absurd (none (open_overlap p q speaks_p speaks_q agree e f))
        by false true e f = absurd (none (open_overlap q p speaks_q speaks_p (λ c is_c among. sym (agree c is_c among)) f e))
        by _ _ e f = e ∙ sym f

      pub open_rest : (result : Result Bool DdAnswer) → IfOk result (λ holds. IsTrue holds ↔ Overlap store.nodes with rest) → IfOk result (IsOpenAnswer asked.frame.kernel.now (IsAmong known) s)
      open_rest (Err e) over = tt
      open_rest (Ok true) over = overlap_open (over.0 refl)
      open_rest (Ok false) over = none_determined (λ o. false≢true (over.1 o))

-- what is not forgotten beside one variable
pub tried_keeps : (asked : Asked) (base tried : List Bool) (v : ℕ) → ForgetsAllBut asked.system asked.system.conditions base → ((u : ℕ) → u ≢ v → truth_of tried u ≡ truth_of base u)
    → (u : ℕ) (c : SigId) → IsProposalOf asked.system u c → u ≢ v → truth_of tried u ≡ false
tried_keeps asked base tried v but same u c own apart = same u apart ∙ but.kept u c (contains_at asked.system.conditions own.0 c own.1) own
