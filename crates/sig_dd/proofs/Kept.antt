-- What holds of references stays as nodes are added.
use Rattle.sig_dd.proofs.Common.{◌≡◌, ℕ, suc, Bool, true, false, List, [], ◌++◌, inl, inr, Option, None, Some, IfSome, refl, sym, ◌∙◌, ap, subst, if◌then◌else◌, HashMap, get, value_at, truth_of, with_truth, StartsFrom, Tests, Holds, diagram, test, IsChoice, HoldsAll, asked, AllStartFrom, SomeTests, IsAnswer, IsSplit, IsTable, Ref, Node, Question, Pick, Fix, Split}
use Rattle.sig_dd.proofs.Trees.{StartsFrom-weaker}
use Rattle.sig_dd.proofs.Listed.{diagram-append}
use Rattle.sig_dd.proofs.Growth.{Holds-append}

module _ (old more : List Node) where
  pub test-append : (r : Ref) → Holds old r → (ts : List Bool) → test (old ++ more) r ts ≡ test old r ts
  test-append r h ts = ap (λ d. value_at d ts) (diagram-append old more r h)

  pub HoldsAll-append : (q : Question) → HoldsAll old q → HoldsAll (old ++ more) q
  HoldsAll-append (Pick f g h) held = (Holds-append old more f held.0, Holds-append old more g held.1, Holds-append old more h held.2)
  HoldsAll-append (Fix f v x) held = Holds-append old more f held

  pub asked-append : (q : Question) → HoldsAll old q → (ts : List Bool) → asked (old ++ more) q ts ≡ asked old q ts
  asked-append (Pick f g h) held ts =
      ap (λ b. if b then test (old ++ more) g ts else test (old ++ more) h ts) (test-append f held.0 ts)
      ∙ ap (λ b. if test old f ts then b else test (old ++ more) h ts) (test-append g held.1 ts)
      ∙ ap (λ b. if test old f ts then test old g ts else b) (test-append h held.2 ts)
  asked-append (Fix f v x) held ts = test-append f held (with_truth ts v x)

  starts_back : (b : ℕ) (r : Ref) → Holds old r → StartsFrom b (diagram (old ++ more) r) → StartsFrom b (diagram old r)
  starts_back b r h s = subst (StartsFrom b) (diagram-append old more r h) s

  pub starts_on : (b : ℕ) (r : Ref) → Holds old r → StartsFrom b (diagram old r) → StartsFrom b (diagram (old ++ more) r)
  starts_on b r h s = subst (StartsFrom b) (sym (diagram-append old more r h)) s

  pub AllStartFrom-back : (b : ℕ) (q : Question) → HoldsAll old q → AllStartFrom (old ++ more) b q → AllStartFrom old b q
  AllStartFrom-back b (Pick f g h) held s = (starts_back b f held.0 s.0, starts_back b g held.1 s.1, starts_back b h held.2 s.2)
  AllStartFrom-back b (Fix f v x) held s = starts_back b f held s

  pub AllStartFrom-append : (b : ℕ) (q : Question) → HoldsAll old q → AllStartFrom old b q → AllStartFrom (old ++ more) b q
  AllStartFrom-append b (Pick f g h) held s = (starts_on b f held.0 s.0, starts_on b g held.1 s.1, starts_on b h held.2 s.2)
  AllStartFrom-append b (Fix f v x) held s = starts_on b f held s

  pub tests_back : (u : ℕ) (r : Ref) → Holds old r → Tests (diagram (old ++ more) r) u → Tests (diagram old r) u
  tests_back u r h t = subst (λ d. Tests d u) (diagram-append old more r h) t

  pub SomeTests-back : (u : ℕ) (q : Question) → HoldsAll old q → SomeTests (old ++ more) q u → SomeTests old q u
  SomeTests-back u (Pick f g h) held (inl t) = inl (tests_back u f held.0 t)
  SomeTests-back u (Pick f g h) held (inr (inl t)) = inr (inl (tests_back u g held.1 t))
  SomeTests-back u (Pick f g h) held (inr (inr t)) = inr (inr (tests_back u h held.2 t))
  SomeTests-back u (Fix f v x) held t = tests_back u f held t

  pub IsAnswer-append : (q : Question) (r : Ref) → HoldsAll old q → IsAnswer old q r → IsAnswer (old ++ more) q r
  IsAnswer-append q r held a = record {
    holds = Holds-append old more r a.holds;
    function = λ ts. test-append r a.holds ts ∙ a.function ts ∙ sym (asked-append q held ts);
    starts = λ b s. starts_on b r a.holds (a.starts b (AllStartFrom-back b q held s));
  }

  pub entry_stays : (q : Question) (o : Option Ref) → IfSome o (λ r. HoldsAll old q × IsAnswer old q r) → IfSome o (λ r. HoldsAll (old ++ more) q × IsAnswer (old ++ more) q r)
  entry_stays q None h = tt
  entry_stays q (Some r) h = (HoldsAll-append q h.0, IsAnswer-append q r h.0 h.1)

  pub IsTable-append : {S : Type 0} (eq : Question → Question → Bool) (table : HashMap Question Ref S) → IsTable eq old table → IsTable eq (old ++ more) table
  IsTable-append eq table h q = entry_stays q (get eq table q) (h q)

-- the two answers of a split question, chosen between, answer it
module _ (old m1 m2 m3 : List Node) (q : Question) (s : Split) (held : HoldsAll old q) (split : IsSplit old q s) (low high r : Ref)
    (is_low : IsAnswer (old ++ m1) s.low low) (is_high : IsAnswer (old ++ m1 ++ m2) s.high high) where
  held_mid : HoldsAll (old ++ m1) s.high
  held_mid = HoldsAll-append old m1 s.high split.high.holds

  -- both start later
  pub low_later : StartsFrom (suc s.variable) (diagram (old ++ m1 ++ m2) low)
  low_later = starts_on (old ++ m1) m2 (suc s.variable) low is_low.holds
      (is_low.starts (suc s.variable) (AllStartFrom-append old m1 (suc s.variable) s.low split.low.holds split.low.later))

  pub high_later : StartsFrom (suc s.variable) (diagram (old ++ m1 ++ m2) high)
  high_later = is_high.starts (suc s.variable) (AllStartFrom-append (old ++ m1) m2 (suc s.variable) s.high held_mid
      (AllStartFrom-append old m1 (suc s.variable) s.high split.high.holds split.high.later))

  module _ (choice : IsChoice (old ++ m1 ++ m2) (old ++ m1 ++ m2 ++ m3) s.variable low high r) where
    asked_now : (ts : List Bool) → asked (old ++ m1 ++ m2 ++ m3) q ts ≡ asked old q ts
    asked_now ts = asked-append (old ++ m1 ++ m2) m3 q (HoldsAll-append (old ++ m1) m2 q (HoldsAll-append old m1 q held)) ts
        ∙ asked-append (old ++ m1) m2 q (HoldsAll-append old m1 q held) ts ∙ asked-append old m1 q held ts

    chosen : (ts : List Bool) (b : Bool) → truth_of ts s.variable ≡ b → (if b then test (old ++ m1 ++ m2) high ts else test (old ++ m1 ++ m2) low ts) ≡ asked old q ts
    chosen ts true e = is_high.function ts ∙ asked-append (old ++ m1) m2 s.high held_mid ts ∙ asked-append old m1 s.high split.high.holds ts ∙ split.high.function ts e
    chosen ts false e = test-append (old ++ m1) m2 low is_low.holds ts ∙ is_low.function ts ∙ asked-append old m1 s.low split.low.holds ts ∙ split.low.function ts e

    pub IsAnswer-split : IsAnswer (old ++ m1 ++ m2 ++ m3) q r
    IsAnswer-split = record {
      holds = choice.holds;
      function = λ ts. choice.function ts ∙ chosen ts (truth_of ts s.variable) refl ∙ sym (asked_now ts);
      starts = λ b a.
          StartsFrom-weaker (diagram (old ++ m1 ++ m2 ++ m3) r) b s.variable
          (split.first b (AllStartFrom-back old m1 b q held (AllStartFrom-back (old ++ m1) m2 b q (HoldsAll-append old m1 q held)
          (AllStartFrom-back (old ++ m1 ++ m2) m3 b q (HoldsAll-append (old ++ m1) m2 q (HoldsAll-append old m1 q held)) a))))
          choice.starts;
    }

-- the same, where the lists have names of their own
module _ (old mid hi new m1 m2 m3 : List Node) (e1 : mid ≡ old ++ m1) (e2 : hi ≡ mid ++ m2) (e3 : new ≡ hi ++ m3) (q : Question) (s : Split) (held : HoldsAll old q) (split : IsSplit old q s) (low high r : Ref)
    (is_low : IsAnswer mid s.low low) (is_high : IsAnswer hi s.high high) where
  hi_is : hi ≡ old ++ m1 ++ m2
  hi_is = e2 ∙ ap (λ ns. ns ++ m2) e1

  new_is : new ≡ old ++ m1 ++ m2 ++ m3
  new_is = e3 ∙ ap (λ ns. ns ++ m3) hi_is

  low_at : IsAnswer (old ++ m1) s.low low
  low_at = subst (λ ns. IsAnswer ns s.low low) e1 is_low

  high_at : IsAnswer (old ++ m1 ++ m2) s.high high
  high_at = subst (λ ns. IsAnswer ns s.high high) hi_is is_high

  pub low_starts : StartsFrom (suc s.variable) (diagram hi low)
  low_starts = subst (λ ns. StartsFrom (suc s.variable) (diagram ns low)) (sym hi_is) (low_later old m1 m2 [] q s held split low high r low_at high_at)

  pub high_starts : StartsFrom (suc s.variable) (diagram hi high)
  high_starts = subst (λ ns. StartsFrom (suc s.variable) (diagram ns high)) (sym hi_is) (high_later old m1 m2 [] q s held split low high r low_at high_at)

  pub question_held : HoldsAll new q
  question_held = subst (λ ns. HoldsAll ns q) (sym new_is) (HoldsAll-append (old ++ m1 ++ m2) m3 q (HoldsAll-append (old ++ m1) m2 q (HoldsAll-append old m1 q held)))

  pub question_answered : IsChoice hi new s.variable low high r → IsAnswer new q r
  question_answered choice =
      subst (λ ns. IsAnswer ns q r) (sym new_is)
      (IsAnswer-split old m1 m2 m3 q s held split low high r low_at high_at
      (subst (λ ns. IsChoice (old ++ m1 ++ m2) ns s.variable low high r) new_is (subst (λ ns. IsChoice ns new s.variable low high r) hi_is choice)))
