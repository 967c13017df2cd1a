-- What is read and refused where one leaf is wanted, a constant, or an init.
use Rattle.sig_parse.proofs.Common.{◌≡◌, ◌⊎◌, ℕ, List, [], ◌∷◌, codes, true, false, arith, inl, inr, refl, sym, ap, subst, pos, neg_ℤ, Option, None, Some, Span, Name, Constant, Int, BoolConstant, Param, Terminal, Leaf, leaf, word, number, label, mark, Limits, StartsWith, StopsBefore, ContinuesNothing, ContinuesInit, IsName, IsConstant, IsInit, IsOptionalInit, IsOptionalOne, State, Reads, IsLeaf, Shorter, Cause, Wrong, Refuses, Settles, InLeaf, InLabel, InName, InNumber, InConstant, InInit, InOptionalInit, InOptionalOne}
use Rattle.sig_parse.proofs.NextLeaf.{Taken, taken, missing, take, TakenOne, taken_one, missing_one, take_one_of, TakenName, taken_name, missing_name, take_name, dec_digits, dec_label}
use Rattle.sig_parse.proofs.Verdicts.{Verdict, read, refused, behind, seen}
use Rattle.sig_parse.proofs.Joins.{viewed, after_leaf, nothing}
use Rattle.sig_parse.proofs.LiftedRefusals.{leaf_split}
use Rattle.sig_parse.proofs.RefusedConstants.{leaf_refused, number_refused, constant_refused, negative_refused, init_sign, init_refused, optional_refused, no_constant, init_settles}
use Rattle.sig_parse.proofs.RefusedTokens.{label_refused, name_refused}
use Rattle.sig_parse.proofs.RefusedDelays.{one_taken}
use Rattle.sig_parse.proofs.Enclosures.{optional_missing}

-- ---- one leaf

abbrev pub LeafRead : Terminal → State → Span → State → Type 0
LeafRead t s at u = Reads (IsLeaf t at) 0 s u × Shorter s u

pub expected : (t : Terminal) (s : State) → Verdict (LeafRead t s) (InLeaf t) ContinuesNothing s.leaves
expected t s = at (take t s) where
  at : Taken t s → Verdict (LeafRead t s) (InLeaf t) ContinuesNothing s.leaves
  at (taken place u r shorter) = read place u (r, shorter)
  at (missing stops) = refused Wrong s.leaves (leaf_refused t s.leaves stops)

abbrev pub NameRead : State → Name → State → Type 0
NameRead s n u = Reads (IsName n) 0 s u × Shorter s u

pub expected_name : (s : State) → Verdict (NameRead s) InName ContinuesNothing s.leaves
expected_name s = at (take_name s) where
  at : TakenName s → Verdict (NameRead s) InName ContinuesNothing s.leaves
  at (taken_name n u r shorter) = read n u (r, shorter)
  at (missing_name stops) = refused Wrong s.leaves (name_refused s.leaves stops)

abbrev pub LabelRead : State → List ℕ × Span → State → Type 0
LabelRead s found u = Reads (IsLeaf (label found.0) found.1) 0 s u × Shorter s u

pub expected_label : (s : State) → Verdict (LabelRead s) InLabel ContinuesNothing s.leaves
expected_label s = at (take_one_of label dec_label s) where
  at : TakenOne label s → Verdict (LabelRead s) InLabel ContinuesNothing s.leaves
  at (taken_one text place u r shorter) = read (text, place) u (r, shorter)
  at (missing_one stops) = refused Wrong s.leaves (label_refused s.leaves stops)

-- ---- constants

abbrev pub ConstantIs : State → Constant → State → Type 0
ConstantIs s c u = Reads (IsConstant c) 0 s u × Shorter s u

-- a number behind a "-"
negative : (at : Span) (s t : State) → Reads (IsLeaf (mark (codes "-")) at) 0 s t → Shorter s t → Verdict (ConstantIs s) InConstant ContinuesNothing s.leaves
negative at s t q short = by (take_one_of number dec_digits t) where
  lift : (cause : Cause) (after : List Leaf) → Refuses InNumber ContinuesNothing cause t.leaves after → Refuses InConstant ContinuesNothing cause s.leaves after
  lift cause after r = subst (λ (ls : List Leaf). Refuses InConstant ContinuesNothing cause ls after) (sym (leaf_split q)) (negative_refused at cause t.leaves after r)

  by : TakenOne number t → Verdict (ConstantIs s) InConstant ContinuesNothing s.leaves
  by (taken_one n place u r shorter) = read (Int (neg_ℤ (pos n)) at) u (
    after_leaf (IsConstant (Int (neg_ℤ (pos n)) at)) 0 refl (λ back is. inr (n, place, refl, ap (λ (ls : List Leaf). leaf (mark (codes "-")) at ∷ ls) is)) q r,
    omega (arith, short, shorter),
  )
  by (missing_one stops) = refused Wrong t.leaves (lift Wrong t.leaves (number_refused t.leaves stops))

module _ (s : State) where
  with_name : StopsBefore (λ t. (n : ℕ) × (t ≡ number n)) s.leaves → StopsBefore (λ t. t ≡ word (codes "true")) s.leaves → StopsBefore (λ t. t ≡ word (codes "false")) s.leaves → StopsBefore (λ t. t ≡ mark (codes "-")) s.leaves
      → TakenName s → Verdict (ConstantIs s) InConstant ContinuesNothing s.leaves
  with_name no_number no_true no_false no_minus (taken_name n u r shorter) = read (Param n) u (r, shorter)
  with_name no_number no_true no_false no_minus (missing_name no_name) = refused Wrong s.leaves (constant_refused s.leaves (no_constant s.leaves no_number no_true no_false no_minus no_name))

  with_minus : StopsBefore (λ t. (n : ℕ) × (t ≡ number n)) s.leaves → StopsBefore (λ t. t ≡ word (codes "true")) s.leaves → StopsBefore (λ t. t ≡ word (codes "false")) s.leaves
      → Taken (mark (codes "-")) s → Verdict (ConstantIs s) InConstant ContinuesNothing s.leaves
  with_minus no_number no_true no_false (taken at t q short) = negative at s t q short
  with_minus no_number no_true no_false (missing no_minus) = with_name no_number no_true no_false no_minus (take_name s)

  with_false : StopsBefore (λ t. (n : ℕ) × (t ≡ number n)) s.leaves → StopsBefore (λ t. t ≡ word (codes "true")) s.leaves
      → Taken (word (codes "false")) s → Verdict (ConstantIs s) InConstant ContinuesNothing s.leaves
  with_false no_number no_true (taken at u r shorter) = read (BoolConstant false at) u (r, shorter)
  with_false no_number no_true (missing no_false) = with_minus no_number no_true no_false (take (mark (codes "-")) s)

  with_true : StopsBefore (λ t. (n : ℕ) × (t ≡ number n)) s.leaves → Taken (word (codes "true")) s → Verdict (ConstantIs s) InConstant ContinuesNothing s.leaves
  with_true no_number (taken at u r shorter) = read (BoolConstant true at) u (r, shorter)
  with_true no_number (missing no_true) = with_false no_number no_true (take (word (codes "false")) s)

  with_number : TakenOne number s → Verdict (ConstantIs s) InConstant ContinuesNothing s.leaves
  with_number (taken_one n at u r shorter) = read (Int (pos n) at) u (viewed (IsConstant (Int (pos n) at)) (λ front is. inl (n, refl, is)) r, shorter)
  with_number (missing_one no_number) = with_true no_number (take (word (codes "true")) s)

  pub constant_verdict : Verdict (ConstantIs s) InConstant ContinuesNothing s.leaves
  constant_verdict = with_number (take_one_of number dec_digits s)

-- ---- inits

abbrev pub InitRead : State → Constant → State → Type 0
InitRead s c u = Reads (IsInit c) 0 s u × Shorter s u

pub init_verdict : (s : State) → Verdict (InitRead s) InInit ContinuesNothing s.leaves
init_verdict s = behind (expected (word (codes "init")) s) (λ cause after r. init_sign cause s.leaves after r) (λ at t q.
    seen (constant_verdict t) (λ cause after r. subst (λ (ls : List Leaf). Refuses InInit ContinuesNothing cause ls after) (sym (leaf_split q.0)) (init_refused at cause t.leaves after r)) (λ c. c)
    (λ c u r. (after_leaf (IsInit c) 0 refl (λ back is. (at, back, refl, is)) q.0 r.0, omega (arith, q.1, r.1))))

abbrev pub OptionalInitRead : State → Option Constant → State → Type 0
OptionalInitRead s c u = Reads (IsOptionalInit c) 0 s u × Settles InOptionalInit ContinuesInit s.leaves u.leaves

init_or_none : (limits : Limits) (leaves : List Leaf) → InOptionalInit limits leaves → (leaves ≡ []) ⊎ InInit limits leaves
init_or_none limits leaves (None, e) = inl e
init_or_none limits leaves (Some c, is) = inr (c, is)

init_starts : (limits : Limits) (leaves : List Leaf) → InInit limits leaves → StartsWith (λ t. t ≡ word (codes "init")) leaves
init_starts limits leaves (c, (at, rest, e, is)) = subst (λ (ls : List Leaf). StartsWith (λ t. t ≡ word (codes "init")) ls) (sym e) refl

pub next_is : (t : Terminal) (at : Span) {s u : State} → Reads (IsLeaf t at) 0 s u → StartsWith (λ v. v ≡ t) s.leaves
next_is t at r = subst (λ (ls : List Leaf). StartsWith (λ v. v ≡ t) ls) (sym (leaf_split r)) refl

pub optional_init_verdict : (s : State) → Verdict (OptionalInitRead s) InOptionalInit ContinuesInit s.leaves
optional_init_verdict s = at (take (word (codes "init")) s) where
  at : Taken (word (codes "init")) s → Verdict (OptionalInitRead s) InOptionalInit ContinuesInit s.leaves
  at (missing stops) = read None s (
    nothing (IsOptionalInit None) s s refl refl,
    optional_missing InOptionalInit InInit (word (codes "init")) (λ limits leaves is. (Some is.0, is.1)) init_or_none init_starts stops,
  )
  at (taken place t q short) = seen (init_verdict s) (λ cause after r. optional_refused cause s.leaves after (next_is (word (codes "init")) place q) r) Some
      (λ c u r. (r.0, record { passed = r.0.front; split = r.0.split; alone = init_settles c r.0.front u.leaves r.0.is }))

-- ---- the 1 of a delay

pub data OneRead (s : State) : Type 0 where
  one_read : (t : State) → Reads IsOptionalOne 0 s t → Settles InOptionalOne (λ u. u ≡ number 1) s.leaves t.leaves → OneRead s

one_or_none : (limits : Limits) (leaves : List Leaf) → InOptionalOne limits leaves → (leaves ≡ []) ⊎ InLeaf (number 1) limits leaves
one_or_none limits leaves (inl none) = inl none
one_or_none limits leaves (inr is) = inr is

one_starts : (limits : Limits) (leaves : List Leaf) → InLeaf (number 1) limits leaves → StartsWith (λ t. t ≡ number 1) leaves
one_starts limits leaves (at, e) = subst (λ (ls : List Leaf). StartsWith (λ t. t ≡ number 1) ls) (sym e) refl

pub take_optional_one : (s : State) → OneRead s
take_optional_one s = at (take (number 1) s) where
  at : Taken (number 1) s → OneRead s
  at (missing stops) = one_read s (nothing IsOptionalOne s s refl (inl refl)) (optional_missing InOptionalOne (InLeaf (number 1)) (number 1) (λ limits leaves is. inr is) one_or_none one_starts stops)
  at (taken place t q short) = one_read t (viewed IsOptionalOne (λ front is. inr (place, is)) q) (one_taken q)
