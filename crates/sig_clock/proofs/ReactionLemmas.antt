-- Lemmas on abstract reactions.
use Rattle.sig_clock.proofs.Common.{◌≡◌, ◌<◌, ◌+◌, ◌⊎◌, inl, inr, ℕ, Bool, true, false, not, List, [], ◌∷◌, length, get_or, refl, sym, ap, ◌∙◌, subst, arith, Contains, ◌&&◌, zero, suc, Option, None, Some, is_some, list_all, and_parts, false≢true, Kind, Integer, Boolean, Signal, Equation, Form, Fun, Delay, When, WhenConst, Default, Sync, Event as EventOf, Operand, Sig, Const, Kernel, Status, Reaction, IsReaction, status_at, is_present, is_silent, is_with, is_status_of, are_statuses, same_truth, same_status, where_present, has_truth, function_truth, meets, AreRelated, Equivalence, SameClock, given, itself, turned, joined, related, signals_among, contains_cons, contains_none}
use Rattle.sig_base.specs.declared.ids.Kind.TheVariants.{Event}

pub truths_are_same : (a b : Bool) → same_truth a b ≡ true → a ≡ b
truths_are_same true true is = refl
truths_are_same true false is = absurd (false≢true is)
truths_are_same false true is = absurd (false≢true is)
truths_are_same false false is = refl

pub statuses_are_same : (a b : Status) → same_status a b ≡ true → is_some a ≡ is_some b
statuses_are_same None None is = refl
statuses_are_same None (Some b) is = absurd (false≢true is)
statuses_are_same (Some a) None is = absurd (false≢true is)
statuses_are_same (Some a) (Some b) is = refl

kept_presence : (status : Status) (b : Bool) → is_some (where_present status b) ≡ is_some status
kept_presence None b = refl
kept_presence (Some a) b = refl

operands_with : (reaction : Reaction) (present : Bool) (operands : List Operand) (x : ℕ) → list_all (is_with reaction present) operands ≡ true
    → Contains (signals_among operands) x → present ≡ is_present reaction x
operands_with reaction present [] x all there = absurd (contains_none x there)
operands_with reaction present (Sig z ∷ operands) x all there =
    let parts = and_parts (same_truth present (is_present reaction z.0)) (list_all (is_with reaction present) operands) all in
    elim (contains_cons z.0 x (signals_among operands) there) [
      | inl is ↦ truths_are_same present (is_present reaction z.0) parts.0 ∙ ap (is_present reaction) (sym is)
      | inr later ↦ operands_with reaction present operands x parts.1 later
    ]
operands_with reaction present (Const c ∷ operands) x all there = operands_with reaction present operands x (and_parts true (list_all (is_with reaction present) operands) all).1 there

two_with : (reaction : Reaction) (a b x : ℕ) → is_present reaction a ≡ is_present reaction b → Contains (a ∷ b ∷ []) x → is_present reaction a ≡ is_present reaction x
two_with reaction a b x same there = elim (contains_cons a x (b ∷ []) there) [
  | inl is ↦ ap (is_present reaction) (sym is)
  | inr later ↦ elim (contains_cons b x [] later) [ inl is ↦ same ∙ ap (is_present reaction) (sym is) | inr none ↦ absurd (contains_none x none) ]
]

-- the first of the related signals
abbrev first_of : Form → ℕ
first_of (Fun y op operands) = y.0
first_of (Delay y x c) = y.0
first_of (When y x b) = y.0
first_of (WhenConst y c b) = y.0
first_of (Default y u v) = y.0
first_of (Sync x y) = x.0
first_of (EventOf y x) = y.0

related_with : (signals : List Signal) (reaction : Reaction) (form : Form) (x : ℕ) → meets signals reaction form ≡ true → Contains (related form) x
    → is_present reaction (first_of form) ≡ is_present reaction x
related_with signals reaction (Fun y op operands) x is there =
    let parts = and_parts (list_all (is_with reaction (is_present reaction y.0)) operands) (has_truth (status_at reaction y.0) (function_truth signals reaction op operands)) is in
    elim (contains_cons y.0 x (signals_among operands) there) [
      | inl same ↦ ap (is_present reaction) (sym same)
      | inr later ↦ operands_with reaction (is_present reaction y.0) operands x parts.0 later
    ]
related_with signals reaction (Delay y z c) x is there = two_with reaction y.0 z.0 x (truths_are_same (is_present reaction y.0) (is_present reaction z.0) is) there
related_with signals reaction (When y z b) x is there = absurd (contains_none x there)
related_with signals reaction (WhenConst y c b) x is there = absurd (contains_none x there)
related_with signals reaction (Default y u v) x is there = absurd (contains_none x there)
related_with signals reaction (Sync y z) x is there = two_with reaction y.0 z.0 x (truths_are_same (is_present reaction y.0) (is_present reaction z.0) is) there
related_with signals reaction (EventOf y z) x is there = two_with reaction y.0 z.0 x
    (statuses_are_same (status_at reaction y.0) (where_present (status_at reaction z.0) true) is ∙ kept_presence (status_at reaction z.0) true) there

equation_at : (equations : List Equation) (k : ℕ) → k < length equations → Equation
equation_at [] k lt = absurd (omega (arith, lt))
equation_at (e ∷ equations) k lt = e

-- signals of one clock are present together
pub present_together : (kernel : Kernel) (reaction : Reaction) (x y : ℕ) → IsReaction kernel reaction → SameClock kernel x y → is_present reaction x ≡ is_present reaction y
present_together kernel reaction _ _ is (given x y r) = sym (one x r.left) ∙ one y r.right where
  d : Equation
  d = equation_at kernel.equations r.number r.within

  one : (z : ℕ) → ((d : Equation) → Contains (related (get_or kernel.equations r.number d).form) z) → is_present reaction (first_of (get_or kernel.equations r.number d).form) ≡ is_present reaction z
  one z there = related_with kernel.signals reaction (get_or kernel.equations r.number d).form z (is.equations r.number d r.within) (there d)
present_together kernel reaction _ _ is (itself x) = refl
present_together kernel reaction _ _ is (turned x y e) = sym (present_together kernel reaction x y is e)
present_together kernel reaction _ _ is (joined x y z e f) = present_together kernel reaction x y is e ∙ present_together kernel reaction y z is f

-- nothing is present in a silent reaction
pub absent_in_silence : (reaction : Reaction) (signal : ℕ) → is_silent reaction ≡ true → status_at reaction signal ≡ None
absent_in_silence [] signal silent = refl
absent_in_silence (None ∷ reaction) zero silent = refl
absent_in_silence (None ∷ reaction) (suc signal) silent = absent_in_silence reaction signal silent
absent_in_silence (Some b ∷ reaction) signal silent = absurd (false≢true silent)

operands_in_silence : (reaction : Reaction) (operands : List Operand) → is_silent reaction ≡ true → list_all (is_with reaction false) operands ≡ true
operands_in_silence reaction [] silent = refl
operands_in_silence reaction (Sig x ∷ operands) silent = rw (absent_in_silence reaction x.0 silent) (operands_in_silence reaction operands silent)
operands_in_silence reaction (Const c ∷ operands) silent = operands_in_silence reaction operands silent

silence_meets : (signals : List Signal) (reaction : Reaction) (form : Form) → is_silent reaction ≡ true → meets signals reaction form ≡ true
silence_meets signals reaction (Fun y op operands) silent = rw (absent_in_silence reaction y.0 silent) (rw (operands_in_silence reaction operands silent) refl)
silence_meets signals reaction (Delay y x c) silent = rw (absent_in_silence reaction y.0 silent, absent_in_silence reaction x.0 silent) refl
silence_meets signals reaction (When y x b) silent = rw (absent_in_silence reaction y.0 silent, absent_in_silence reaction b.0 silent) refl
silence_meets signals reaction (WhenConst y c b) silent = rw (absent_in_silence reaction y.0 silent, absent_in_silence reaction b.0 silent) refl
silence_meets signals reaction (Default y u v) silent = rw (absent_in_silence reaction y.0 silent, absent_in_silence reaction u.0 silent, absent_in_silence reaction v.0 silent) refl
silence_meets signals reaction (Sync x y) silent = rw (absent_in_silence reaction x.0 silent, absent_in_silence reaction y.0 silent) refl
silence_meets signals reaction (EventOf y x) silent = rw (absent_in_silence reaction y.0 silent, absent_in_silence reaction x.0 silent) refl

absent_of : (kind : Kind) → is_status_of kind None ≡ true
absent_of Integer = refl
absent_of Boolean = refl
absent_of Event = refl

silence_of : (signals : List Signal) (reaction : Reaction) → is_silent reaction ≡ true → length reaction ≡ length signals → are_statuses signals reaction ≡ true
silence_of [] [] silent count = refl
silence_of [] (status ∷ reaction) silent count = absurd (omega (arith, count))
silence_of (signal ∷ signals) [] silent count = absurd (omega (arith, count))
silence_of (signal ∷ signals) (None ∷ reaction) silent count = rw (absent_of signal.kind) (silence_of signals reaction silent (omega (arith, count)))
silence_of (signal ∷ signals) (Some b ∷ reaction) silent count = absurd (false≢true silent)

pub silence : (kernel : Kernel) (reaction : Reaction) → is_silent reaction ≡ true → length reaction ≡ length kernel.signals → IsReaction kernel reaction
silence kernel reaction silent count = record { kinds = silence_of kernel.signals reaction silent count; equations = λ k d lt. silence_meets kernel.signals reaction (get_or kernel.equations k d).form silent }
