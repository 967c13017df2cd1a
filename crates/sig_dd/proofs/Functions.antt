-- From the questions of the recursion to the functions of the calls.
use Rattle.sig_dd.proofs.Common.{◌≡◌, ℕ, Bool, true, false, not, ◌&&◌, ◌||◌, List, inl, inr, refl, sym, ◌∙◌, ap, subst, arith, cond, if◌then◌else◌, Contains, IsTrue, true≢false, value_at, truth_of, with_truth, StartsFrom, Tests, Agree, Holds, diagram, test, IsReduced, Keeps, StoreView, IsRefOf, IsChoice, Spans, Implies, HoldsAll, asked, IsAnswer, TestsOnly, Ref, Node, Question, Pick, Fix, cases_eq}
use Rattle.sig_dd.proofs.Trees.{Depends-tests, value_at-same, truth_of-with_same, truth_of-with_other, with_truth-swap}
use Rattle.sig_dd.proofs.Listed.{diagram-true, diagram-false}
use Rattle.sig_dd.proofs.Canonical.{proper, one_ref}
use Rattle.sig_dd.proofs.Kept.{asked-append, test-append}

-- the answer of a question is the function that it asks for
pub IsRefOf-answer : (old new : StoreView) → Keeps old new → (q : Question) → HoldsAll old.nodes q → (r : Ref) → IsAnswer new.nodes q r → IsRefOf new.nodes (asked old.nodes q) r
IsRefOf-answer old new kept q held r answer = record {
  holds = answer.holds;
  function = λ ts. answer.function ts ∙ ap (λ ns. asked ns q ts) kept.nodes ∙ asked-append old.nodes kept.added q held ts;
}

-- the same function, said otherwise
pub IsRefOf-same : (nodes : List Node) (f g : List Bool → Bool) → Agree f g → (r : Ref) → IsRefOf nodes f r → IsRefOf nodes g r
IsRefOf-same nodes f g same r is = record { holds = is.holds; function = λ ts. is.function ts ∙ same ts }

pub starts_false : (nodes : List Node) (r : Ref) → r.number ≡ 0 → (b : ℕ) → StartsFrom b (diagram nodes r)
unfolding StartsFrom
starts_false nodes r e b = subst (StartsFrom b) (sym (diagram-false nodes r e)) tt

pub starts_true : (nodes : List Node) (r : Ref) → r.number ≡ 1 → (b : ℕ) → StartsFrom b (diagram nodes r)
unfolding StartsFrom
starts_true nodes r e b = subst (StartsFrom b) (sym (diagram-true nodes r e)) tt

pub test-false : (nodes : List Node) (r : Ref) → r.number ≡ 0 → (ts : List Bool) → test nodes r ts ≡ false
unfolding value_at
test-false nodes r e ts = ap (λ d. value_at d ts) (diagram-false nodes r e)

pub test-true : (nodes : List Node) (r : Ref) → r.number ≡ 1 → (ts : List Bool) → test nodes r ts ≡ true
unfolding value_at
test-true nodes r e ts = ap (λ d. value_at d ts) (diagram-true nodes r e)

-- the constant of a truth
pub IsRefOf-constant : (nodes : List Node) (x : Bool) (r : Ref) → r.number ≡ cond x 1 0 → IsRefOf nodes (λ ts. x) r
IsRefOf-constant nodes true r e = record { holds = omega arith; function = λ ts. test-true nodes r e ts }
IsRefOf-constant nodes false r e = record { holds = omega arith; function = λ ts. test-false nodes r e ts }

itself : (b : Bool) → (if b then true else false) ≡ b
itself true = refl
itself false = refl

-- the choice between the constants is the variable
pub IsRefOf-variable : (old new : List Node) (v : ℕ) (low high r : Ref) → low.number ≡ 0 → high.number ≡ 1 → IsChoice old new v low high r → IsRefOf new (λ ts. truth_of ts v) r
IsRefOf-variable old new v low high r l h choice = record {
  holds = choice.holds;
  function = λ ts. choice.function ts
      ∙ ap (λ x. if truth_of ts v then x else test old low ts) (test-true old high h ts)
      ∙ ap (λ x. if truth_of ts v then true else x) (test-false old low l ts)
      ∙ itself (truth_of ts v);
}

-- the constants depend on nothing
pub Spans-false : (nodes : List Node) (r : Ref) → r.number ≡ 0 → (vs : List ℕ) → Spans nodes r vs
Spans-false nodes r e vs v (ts, ne) = absurd (ne (test-false nodes r e _ ∙ sym (test-false nodes r e _)))

pub Spans-true : (nodes : List Node) (r : Ref) → r.number ≡ 1 → (vs : List ℕ) → Spans nodes r vs
Spans-true nodes r e vs v (ts, ne) = absurd (ne (test-true nodes r e _ ∙ sym (test-true nodes r e _)))

-- a reference tests only variables on which its function depends
pub tests_spanned : (nodes : List Node) → IsReduced nodes → (r : Ref) → Holds nodes r → (vs : List ℕ) → Spans nodes r vs → (u : ℕ) → Tests (diagram nodes r) u → Contains vs u
tests_spanned nodes reduced r held vs spans u t = spans u (Depends-tests (diagram nodes r) u (proper nodes reduced r held) t)

pub TestsOnly-pick : (nodes : List Node) → IsReduced nodes → (f g h : Ref) → HoldsAll nodes (Pick f g h) → (vs : List ℕ) → Spans nodes f vs → Spans nodes g vs → Spans nodes h vs → TestsOnly nodes (Pick f g h) vs
TestsOnly-pick nodes reduced f g h held vs sf sg sh u (inl t) = tests_spanned nodes reduced f held.0 vs sf u t
TestsOnly-pick nodes reduced f g h held vs sf sg sh u (inr (inl t)) = tests_spanned nodes reduced g held.1 vs sg u t
TestsOnly-pick nodes reduced f g h held vs sf sg sh u (inr (inr t)) = tests_spanned nodes reduced h held.2 vs sh u t

pub TestsOnly-fix : (nodes : List Node) → IsReduced nodes → (f : Ref) (v : ℕ) (x : Bool) → Holds nodes f → (vs : List ℕ) → Spans nodes f vs → TestsOnly nodes (Fix f v x) vs
TestsOnly-fix nodes reduced f v x held vs spans u t = tests_spanned nodes reduced f held vs spans u t

pub and_of : (a b z : Bool) → z ≡ false → (if a then b else z) ≡ (a && b)
and_of true b z e = refl
and_of false b z e = e

pub or_of : (a z b : Bool) → z ≡ true → (if a then z else b) ≡ (a || b)
or_of true z b e = e
or_of false z b e = refl

pub not_of : (a y z : Bool) → y ≡ false → z ≡ true → (if a then y else z) ≡ not a
not_of true y z e f = e
not_of false y z e f = f

-- where the choice of g by f, and else true, is true throughout, f implies g, and only there
module _ (old new : List Node) (reduced : IsReduced new) (f g r one : Ref) (is_one : one.number ≡ 1)
    (is : IsRefOf new (λ ts. if test old f ts then test old g ts else test old one ts) r) where
  chosen_true : (a b z : Bool) → z ≡ true → (if a then b else z) ≡ true → IsTrue a → IsTrue b
  chosen_true true b z e h t = h
  chosen_true false b z e h t = absurd (true≢false (sym t))

  true_chosen : (a b z : Bool) → z ≡ true → (IsTrue a → IsTrue b) → (if a then b else z) ≡ true
  true_chosen true b z e h = h refl
  true_chosen false b z e h = e

  pub implied : r.number ≡ 1 → Implies old f g
  implied e ts = chosen_true (test old f ts) (test old g ts) (test old one ts) (test-true old one is_one ts) (sym (is.function ts) ∙ test-true new r e ts)

  pub true_of_implied : Implies old f g → r.number ≡ 1
  true_of_implied h =
      let held : Holds new one = omega arith in
      let same = one_ref new reduced r one is.holds held
      (λ ts. is.function ts ∙ true_chosen (test old f ts) (test old g ts) (test old one ts) (test-true old one is_one ts) (h ts) ∙ sym (test-true new one is_one ts)) in
      ap (λ (x : Ref). x.number) same ∙ is_one

-- a function that stays as nodes are added depends on the same variables
pub Spans-append : (old new : StoreView) → Keeps old new → (r : Ref) → Holds old.nodes r → (vs : List ℕ) → Spans old.nodes r vs → Spans new.nodes r vs
Spans-append old new kept r held vs spans v (ts, ne) =
    let same = λ (us : List Bool). ap (λ ns. test ns r us) kept.nodes ∙ test-append old.nodes kept.added r held us in
    spans v (ts, λ e. ne (same (with_truth ts v false) ∙ e ∙ sym (same (with_truth ts v true))))

pub test-kept : (old new : StoreView) → Keeps old new → (r : Ref) → Holds old.nodes r → (ts : List Bool) → test new.nodes r ts ≡ test old.nodes r ts
test-kept old new kept r held ts = ap (λ ns. test ns r ts) kept.nodes ∙ test-append old.nodes kept.added r held ts

pub fixed_twice : (nodes : List Node) (f : Ref) (v : ℕ) (x : Bool) (ts : List Bool) (a b : Bool) → test nodes f (with_truth (with_truth ts v a) v x) ≡ test nodes f (with_truth (with_truth ts v b) v x)
fixed_twice nodes f v x ts a b = value_at-same (diagram nodes f) _ _ (λ w. elim (cases_eq w v) [
  | inl e ↦ rw e (truth_of-with_same (with_truth ts v a) v x ∙ sym (truth_of-with_same (with_truth ts v b) v x))
  | inr ne ↦ (truth_of-with_other (with_truth ts v a) v x w ne ∙ truth_of-with_other ts v a w ne)
      ∙ sym (truth_of-with_other (with_truth ts v b) v x w ne ∙ truth_of-with_other ts v b w ne)
])

-- a function with a variable's truth fixed depends on no more than the function
pub Spans-fixed : (old new : List Node) (f r : Ref) (v : ℕ) (x : Bool) → IsRefOf new (λ ts. test old f (with_truth ts v x)) r → (vs : List ℕ) → Spans old f vs → Spans new r vs
Spans-fixed old new f r v x is vs spans u (ts, ne) =
    elim (cases_eq u v) [
      | inl e ↦ absurd (ne (is.function (with_truth ts u false)
          ∙ subst (λ w. test old f (with_truth (with_truth ts w false) v x) ≡ test old f (with_truth (with_truth ts w true) v x)) (sym e) (fixed_twice old f v x ts false true)
          ∙ sym (is.function (with_truth ts u true))))
      | inr apart ↦
          let swap = λ (b : Bool). value_at-same (diagram old f) _ _ (with_truth-swap ts u v b x apart) in
          spans u (with_truth ts v x, λ e. ne (is.function (with_truth ts u false) ∙ swap false ∙ e ∙ sym (swap true) ∙ sym (is.function (with_truth ts u true))))
    ]
