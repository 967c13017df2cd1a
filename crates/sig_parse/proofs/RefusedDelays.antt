-- What is refused and what is settled of delays and cells, whose end is not told by what an operand is.
use Rattle.sig_parse.proofs.Common.{◌≡◌, ◌++◌, ◌≤◌, ℕ, suc, List, [], ◌∷◌, codes, Option, None, Some, inl, inr, refl, sym, ap, ◌∙◌, subst, append_assoc, arith, append-nil, append_cancel_left, Span, Constant, Expression, Terminal, Leaf, leaf, number, word, mark, delay_level, primary_level, Limits, both_limits, no_limits, IsInit, IsOptionalInit, IsOptionalOne, IsAtLevel, StopsBefore, StartsWith, ContinuesInit, ContinuesExpression, Step, WithOperand, WithCell, WithDelay, IsStep, stops_smaller, OfCell, OfDelay, Tighter, expression_unlimited, cons_same, append_to, part_at, stops_nothing, expression_once, init_once, State, MatchOption, Natural, Reads, Shorter, IsLeaf, Cause, Wrong, Reaches, Refuses, Settles, InOptionalOne, InOptionalInit, InStep}
use Rattle.sig_parse.proofs.PartRefusals.{SameFirst, refuses_inside}
use Rattle.sig_parse.proofs.PassedLanguages.{behind_agrees, agrees_behind, same_behind}
use Rattle.sig_parse.proofs.RefusedSteps.{no_primary, two_no_cell, two_no_delay, cell_no_delay, step_operator}

-- What was read is settled, and the next leaf goes on with it: that leaf is wrong.
pub settled_wrong : (Is : Limits → List Leaf → Type 0) (Continues : Terminal → Type 0) (before after : List Leaf) (k : Settles Is Continues before after) → Reaches Is both_limits k.passed → StartsWith Continues after
    → Refuses Is Continues Wrong before after
settled_wrong Is Continues before after k reaches starts = record {
  passed = k.passed;
  split = k.split;
  viable = reaches;
  allowed = tt;
  excluded = λ leaves front back agrees e is stops.
      let same : front ≡ k.passed = k.alone leaves front back agrees e is stops in
      let parts = behind_agrees k.passed after leaves agrees in
      next after parts.0 back (behind k.passed parts.0 back (sym parts.1 ∙ e ∙ ap (λ l. l ++ back) same)) parts.2 starts stops;
} where
  behind : (front rest back : List Leaf) → front ++ rest ≡ front ++ back → rest ≡ back
  behind [] rest back e = e
  behind (l ∷ front) rest back e = behind front rest back (cons_same l l (front ++ rest) (front ++ back) e).1

  next : (after rest back : List Leaf) → rest ≡ back → SameFirst after rest → StartsWith Continues after → StopsBefore Continues back → ⊥
  next [] rest back e same starts stops = starts
  next (l ∷ after) [] back e same starts stops = same
  next (l ∷ after) (m ∷ rest) back e same starts stops =
      (subst (λ (ls : List Leaf). StopsBefore Continues ls) (sym e) stops) (subst (λ (n : Leaf). Continues n.terminal) same starts)

-- an optional 1
one_only : (passed front rest back : List Leaf) (at : Span) → passed ≡ leaf (number 1) at ∷ [] → passed ++ rest ≡ front ++ back → IsOptionalOne front → StopsBefore (λ t. t ≡ number 1) back → front ≡ passed
one_only passed front rest back at is e (inl none) stops =
    absurd ((subst (λ (l : List Leaf). StopsBefore (λ t. t ≡ number 1) l) (sym (ap (λ l. l ++ rest) (sym is) ∙ e ∙ ap (λ l. l ++ back) none)) stops) refl)
one_only passed front rest back at is e (inr (there, one)) stops =
    let heads = cons_same (leaf (number 1) at) (leaf (number 1) there) rest back (ap (λ l. l ++ rest) (sym is) ∙ e ∙ ap (λ l. l ++ back) one) in
    one ∙ ap (λ l. l ∷ []) (sym heads.0) ∙ sym is

pub one_taken : {at : Span} {s t : State} → Reads (IsLeaf (number 1) at) 0 s t → Settles InOptionalOne (λ t. t ≡ number 1) s.leaves t.leaves
one_taken {at} {s} {t} r = record {
  passed = r.front;
  split = r.split;
  alone = λ leaves front back agrees e is stops.
      let parts = behind_agrees r.front t.leaves leaves agrees in
      one_only r.front front parts.0 back at r.is (sym parts.1 ∙ e) is stops;
}

module _ (level depth used : ℕ) where
  -- a cell with its init
  pub cell_settles : (at : Span) (held : Expression) (middle : List Leaf) (init : Constant) (last before after : List Leaf) → IsAtLevel both_limits primary_level depth held middle → IsInit init last
      → before ≡ leaf (word (codes "cell")) at ∷ ((middle ++ last) ++ after) → Settles (InStep level depth used) (Tighter level) before after
  cell_settles at held middle init last before after is_held is_init split = record {
    passed = leaf (word (codes "cell")) at ∷ (middle ++ last);
    split = split;
    alone = λ leaves front back agrees e is stops.
        let parts = behind_agrees (leaf (word (codes "cell")) at ∷ (middle ++ last)) after leaves agrees in
        go parts.0 front back (sym parts.1 ∙ e) is.0 is.1;
  } where
    go : (rest front back : List Leaf) → leaf (word (codes "cell")) at ∷ ((middle ++ last) ++ rest) ≡ front ++ back → (s : Step) → IsStep no_limits level depth s front → front ≡ leaf (word (codes "cell")) at ∷ (middle ++ last)
    go rest front back e (WithCell other other_init place) (first, behind, own, f, is, is_other) =
        let heads = cons_same (leaf (word (codes "cell")) at) (leaf (word (codes "cell")) place) ((middle ++ last) ++ rest) (first ++ (behind ++ back)) (e ∙ append_to front (leaf (word (codes "cell")) place ∷ first) behind back f) in
        let free = expression_unlimited both_limits primary_level depth depth held middle is_held in
        let begin : middle ++ (last ++ rest) ≡ first ++ (behind ++ back) = sym (append_assoc middle last rest) ∙ heads.1 in
        let part = part_at (IsAtLevel no_limits primary_level depth) (ContinuesExpression primary_level) held (expression_once no_limits primary_level depth held) other middle first (last ++ rest) (behind ++ back) begin free is (no_primary (last ++ rest)) (no_primary (behind ++ back)) in
        let init_same = init_once init other_init last behind rest back part.2 is_init is_other (stops_nothing rest) (stops_nothing back) in
        f ∙ ap (λ l. l ∷ (first ++ behind)) (sym heads.0) ∙ ap (λ m. leaf (word (codes "cell")) at ∷ (m ++ behind)) (sym part.1) ∙ ap (λ b. leaf (word (codes "cell")) at ∷ (middle ++ b)) (sym init_same.1)
    go rest front back e (WithOperand other right place) is = absurd (two_no_cell other (sym (step_operator level depth used OfCell at no_limits ((middle ++ last) ++ rest) front back e (WithOperand other right place) is)))
    go rest front back e (WithDelay init place) is = absurd (cell_no_delay (step_operator level depth used OfCell at no_limits ((middle ++ last) ++ rest) front back e (WithDelay init place) is))

  no_one : (init : Option Constant) (last back : List Leaf) → level ≤ delay_level → IsOptionalInit init last → StopsBefore (Tighter level) back → StopsBefore (λ t. t ≡ number 1) (last ++ back)
  no_one None last back within e stops = subst (λ (l : List Leaf). StopsBefore (λ t. t ≡ number 1) (l ++ back)) (sym e) (stops_smaller (Tighter level) (λ t. t ≡ number 1) (λ t same. inr (within, inl same)) back stops)
  no_one (Some c) last back within (at, rest, e, is) stops = subst (λ (l : List Leaf). StopsBefore (λ t. t ≡ number 1) (l ++ back)) (sym e) apart
    where
      apart : word (codes "init") ≡ number 1 → ⊥
      apart e = cc

  -- Behind "$" and what was read of a 1: the init of any reading stands there.
  behind_dollar : (at : Span) (between here : List Leaf) (k : Settles InOptionalOne (λ t. t ≡ number 1) between here) → delay_level ≡ level
      → (limits : Limits) (rest whole back : List Leaf) → (leaf (mark (codes "$")) at ∷ k.passed) ++ rest ≡ whole ++ back → (s : Step) → IsStep limits level depth s whole → StopsBefore (Tighter level) back → SameFirst here rest
      → (init : Option Constant) × (last : List Leaf) × (rest ≡ last ++ back) × IsOptionalInit init last × (whole ≡ leaf (mark (codes "$")) at ∷ (k.passed ++ last))
  behind_dollar at between here k own limits rest whole back e (WithDelay init place) (one, last, other_own, f, is_one, is_init) stops same =
      let heads = cons_same (leaf (mark (codes "$")) at) (leaf (mark (codes "$")) place) (k.passed ++ rest) (one ++ (last ++ back)) (e ∙ append_to whole (leaf (mark (codes "$")) place ∷ one) last back f) in
      let one_same : one ≡ k.passed = k.alone (k.passed ++ rest) one (last ++ back) (agrees_behind k.passed here rest same) heads.1 is_one (no_one init last back (omega arith) is_init stops) in (
        init,
        last,
        append_cancel_left k.passed rest (last ++ back) (heads.1 ∙ ap (λ l. l ++ (last ++ back)) one_same),
        is_init,
        f ∙ ap (λ l. l ∷ (one ++ last)) (sym heads.0) ∙ ap (λ o. leaf (mark (codes "$")) at ∷ (o ++ last)) one_same,
      )
  behind_dollar at between here k own limits rest whole back e (WithOperand other right there) is stops same =
      absurd (two_no_delay other (sym (step_operator level depth used OfDelay at limits (k.passed ++ rest) whole back e (WithOperand other right there) is)))
  behind_dollar at between here k own limits rest whole back e (WithCell held init there) is stops same =
      absurd (cell_no_delay (sym (step_operator level depth used OfDelay at limits (k.passed ++ rest) whole back e (WithCell held init there) is)))

  no_init : (back : List Leaf) → level ≤ delay_level → StopsBefore (Tighter level) back → StopsBefore ContinuesInit back
  no_init back within stops = stops_smaller (Tighter level) ContinuesInit (λ t e. inr (within, inr e)) back stops

  pub delay_settles : (at : Span) (between here after before : List Leaf) (k : Settles InOptionalOne (λ t. t ≡ number 1) between here) → Settles InOptionalInit ContinuesInit here after → delay_level ≡ level
      → before ≡ leaf (mark (codes "$")) at ∷ between → Settles (InStep level depth used) (Tighter level) before after
  delay_settles at between here after before k j own split = record {
    passed = leaf (mark (codes "$")) at ∷ (k.passed ++ j.passed);
    split = split ∙ ap (λ l. leaf (mark (codes "$")) at ∷ l) (k.split ∙ ap (λ l. k.passed ++ l) j.split ∙ sym (append_assoc k.passed j.passed after));
    alone = λ leaves front back agrees e is stops.
        let parts = behind_agrees (leaf (mark (codes "$")) at ∷ (k.passed ++ j.passed)) after leaves agrees in
        let rest = j.passed ++ parts.0 in
        let begin : (leaf (mark (codes "$")) at ∷ k.passed) ++ rest ≡ front ++ back = ap (λ l. leaf (mark (codes "$")) at ∷ l) (sym (append_assoc k.passed j.passed parts.0)) ∙ sym parts.1 ∙ e in
        let found = behind_dollar at between here k own no_limits rest front back begin is.0 is.1 stops
        (subst (λ (l : List Leaf). SameFirst l rest) (sym j.split) (same_behind j.passed after parts.0 parts.2)) in
        let init_same : found.1 ≡ j.passed = j.alone rest found.1 back (agrees_behind j.passed after parts.0 parts.2) found.2 (found.0, found.3) (no_init back (omega arith) stops) in
        found.4 ∙ ap (λ l. leaf (mark (codes "$")) at ∷ (k.passed ++ l)) init_same;
  }

  -- the init of a delay is refused
  pub delay_init_refused : (at : Span) (between here before : List Leaf) (k : Settles InOptionalOne (λ t. t ≡ number 1) between here) → IsOptionalOne k.passed → delay_level ≡ level → suc used ≤ 512
      → before ≡ leaf (mark (codes "$")) at ∷ between → (cause : Cause) (after : List Leaf) → Refuses InOptionalInit ContinuesInit cause here after → Refuses (InStep level depth used) (Tighter level) cause before after
  delay_init_refused at between here before k is_one own few split cause after r =
      subst (λ (b : List Leaf). Refuses (InStep level depth used) (Tighter level) cause b after) (sym (split ∙ ap (λ l. leaf (mark (codes "$")) at ∷ l) k.split))
      (refuses_inside InOptionalInit (InStep level depth used) (leaf (mark (codes "$")) at ∷ k.passed) []
      (λ limits leaves is. (WithDelay is.0 at, (k.passed, leaves ++ [], own, refl, is_one, subst (λ (l : List Leaf). IsOptionalInit is.0 l) (sym (append-nil leaves)) is.1), λ kept. omega arith))
      ContinuesInit (Tighter level) cause here after
      (λ limits rest whole back e is stops same.
      let found = behind_dollar at between here k own limits rest whole back e is.0 is.1 stops same in
      (found.1, back, found.2, (found.0, found.3), no_init back (omega arith) stops)) r)

-- a number that is a 1
pub one_passed : (found : Option (Natural × Span)) {s t : State} → StartsWith (λ u. u ≡ number 1) s.leaves
    → MatchOption found ((t ≡ s) × StopsBefore (λ u. (n : ℕ) × (u ≡ number n)) s.leaves) (λ f. Reads (IsLeaf (number f.0.value) f.1) 0 s t × Shorter s t)
    → (at : Span) × Reads (IsLeaf (number 1) at) 0 s t
one_passed None {s} starts none = absurd (conflict s.leaves starts none.1)
  where
    conflict : (leaves : List Leaf) → StartsWith (λ u. u ≡ number 1) leaves → StopsBefore (λ u. (n : ℕ) × (u ≡ number n)) leaves → ⊥
    conflict [] starts stops = starts
    conflict (l ∷ leaves) starts stops = stops (1, starts)
one_passed (Some (n, at)) {s} {t} starts r = (at, subst (λ (v : ℕ). Reads (IsLeaf (number v) at) 0 s t) (value s.leaves (r.0.split ∙ ap (λ front. front ++ t.leaves) r.0.is) starts) r.0)
  where
    value : (leaves : List Leaf) → leaves ≡ leaf (number n.value) at ∷ t.leaves → StartsWith (λ u. u ≡ number 1) leaves → n.value ≡ 1
    value [] e starts = absurd starts
    value (l ∷ leaves) e starts = let same : number n.value ≡ number 1 = ap (λ m. m.terminal) (sym (cons_same l (leaf (number n.value) at) leaves t.leaves e).0) ∙ starts in cc
