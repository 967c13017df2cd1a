-- The declarations of a step: each variable has its first value, and the rest is as before.
use Rattle.std.proofs.Common.{◌≡◌, ◌<◌, ◌+◌, ℕ, zero, suc, ℤ, Bool, true, List, [], ◌∷◌, Option, Some, None, refl, sym, ap, ◌∙◌, arith, slice_get, if◌then◌else◌}
use Rattle.sig_c.specs.SmallC.{Place, Variable, Field, Statements, Width, Declared}
use Rattle.sig_c.specs.Meaning.{Memory, GoesOn, Undefined, Functions, and_then, may_hold, run, set, value, with_result, with_value}
use Rattle.sig_c.specs.Calls.{declare, first_value}
use Rattle.sig_c_step.proofs.Likeness.{at_other, at_same}

module _ (call : Functions) (widths : Place → Width) (step : Statements) where
  -- the first value of a variable is there, and its type holds it
  pub record MayBegin (m : Memory) (variable : Declared) : Type 0 where
    pub first : ℤ
    pub is : value widths (first_value variable.first) m ≡ Some first
    pub holds : may_hold variable.width first ≡ true

  -- these variables, from the one of this number on, were declared between two memories
  pub record HasDeclared (x : ℕ) (variables : List Declared) (m after : Memory) : Type 0 where
    pub declared : (k : ℕ) (variable : Declared) → slice_get variables k ≡ Some variable → after.values (Variable (x + k)) ≡ value widths (first_value variable.first) m
    pub earlier : (k : ℕ) → k < x → after.values (Variable k) ≡ m.values (Variable k)
    pub fields : (n : ℕ) → after.values (Field n) ≡ m.values (Field n)
    pub flows : after.flows ≡ m.flows
    pub given : after.given ≡ m.given

  -- no first value is that of a variable
  first_stays : (m : Memory) (x : ℕ) (v : ℤ) (first : Option ℕ) → value widths (first_value first) (with_value (Variable x) v m) ≡ value widths (first_value first) m
  first_stays m x v None = refl
  first_stays m x v (Some n) = refl

  at_place : (variable : Declared) (variables : List Declared) (x : ℕ) (m after : Memory) (v : ℤ) → value widths (first_value variable.first) m ≡ Some v
      → HasDeclared (suc x) variables (with_value (Variable x) v m) after → (k : ℕ) (other : Declared) → slice_get (variable ∷ variables) k ≡ Some other
      → after.values (Variable (x + k)) ≡ value widths (first_value other.first) m
  at_place variable variables x m after v is it zero other at =
      let here : x + 0 ≡ x = omega arith in
      let same : variable ≡ other = cc at in
      ap (λ (i : ℕ). after.values (Variable i)) here ∙ it.earlier x (omega arith) ∙ at_same x x v (m.values (Variable x)) refl ∙ sym is
      ∙ ap (λ (d : Declared). value widths (first_value d.first) m) same
  at_place variable variables x m after v is it (suc k) other at =
      let e : x + suc k ≡ suc x + k = omega arith in
      ap (λ (i : ℕ). after.values (Variable i)) e ∙ it.declared k other at ∙ first_stays m x v other.first

  pub declares : (variables : List Declared) (x : ℕ) (m : Memory) → ((k : ℕ) (variable : Declared) → slice_get variables k ≡ Some variable → widths (Variable (x + k)) ≡ variable.width)
      → ((k : ℕ) (variable : Declared) → slice_get variables k ≡ Some variable → MayBegin m variable)
      → (after : Memory) × (run call widths (declare x variables step) m ≡ run call widths step after) × HasDeclared x variables m after
  declares [] x m types firsts = (m, refl, record { declared = λ k variable is. absurd (let e : None ≡ Some variable = is in cc e); earlier = λ k lt. refl; fields = λ n. refl; flows = refl; given = refl })
  declares (variable ∷ variables) x m types firsts =
      let first = firsts 0 variable refl in
      let here : x + 0 ≡ x = omega arith in
      let type : widths (Variable x) ≡ variable.width = ap (λ (k : ℕ). widths (Variable k)) (sym here) ∙ types 0 variable refl in
      let second : Memory = with_value (Variable x) first.first m in
      let (after, goes, it) = declares variables (suc x) second
      (λ k other is. let e : suc x + k ≡ x + suc k = omega arith in ap (λ (i : ℕ). widths (Variable i)) e ∙ types (suc k) other is)
      (λ k other is. let its = firsts (suc k) other is in record { first = its.first; is = first_stays m x first.first other.first ∙ its.is; holds = its.holds }) in (
        after,
        ap (λ (o : Option ℤ). and_then (with_result o (set widths (Variable x) m)) (run call widths (declare (suc x) variables step))) first.is
            ∙ ap (λ (w : Width). and_then (if may_hold w first.first then GoesOn second else Undefined) (run call widths (declare (suc x) variables step))) type
            ∙ ap (λ (b : Bool). and_then (if b then GoesOn second else Undefined) (run call widths (declare (suc x) variables step))) first.holds
            ∙ goes,
        record {
          declared = λ k other is. at_place variable variables x m after first.first first.is it k other is;
          earlier = λ k lt. it.earlier k (omega (arith, lt)) ∙ at_other k x first.first (m.values (Variable k)) (λ e. omega (arith, lt, e));
          fields = it.fields;
          flows = it.flows;
          given = it.given;
        },
      )
