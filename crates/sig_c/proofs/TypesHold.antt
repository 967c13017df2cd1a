-- What P_init and a step leave in variables and fields, their types hold.
use Rattle.std.proofs.Common.{◌≡◌, inl, inr, ℕ, zero, suc, ◌<◌, ◌^◌, ℤ, pos, List, [], ◌∷◌, Bool, true, false, Option, Some, None, refl, sym, ap, subst, ◌∙◌, arith, slice_get, slice_set, slice_index_or, if◌then◌else◌}
use Rattle.std.proofs.lemmas.Bool.Decides.{eqb_tells}
use Rattle.sig_c.specs.SmallC.{Place, Variable, Field, Result, Expression, Helper, Statement, Set, When, Check, Ask, Give, Ignore, Return, Statements, none, more, Width, FieldOfState, Prototype, Header, TranslationUnit}
use Rattle.sig_c.specs.Meaning.{Memory, is_place, with_value, is_zero, is_int, chosen, value, Outcome, GoesOn, Returned, Undefined, and_then, with_result, may_hold, set, may_ask, asked, given_to, given_as, gives, run_gift, received, is_wide, answered, helped, run_check, Functions, run_one, run, answering}
use Rattle.sig_c.specs.Calls.{AreFit, begun, declare, entered, first_held, functions_in, width_of_field, widths_in}
unfoldable use Rattle.sig_c.specs.Calls.{step_of}

-- ---- first values

held_first : (field : Option FieldOfState) (first : Option ℤ) (v : ℤ) → first_held field first ≡ Some v → may_hold (width_of_field field) v ≡ true
held_first None first v is = absurd (let e : None ≡ Some v = is in cc e)
held_first (Some field) None v is = absurd (let e : None ≡ Some v = is in cc e)
held_first (Some field) (Some w) v is = by (may_hold field.width w) refl is
  where
    by : (b : Bool) → may_hold field.width w ≡ b → (if b then Some w else None) ≡ Some v → may_hold field.width v ≡ true
    by true holds same = let e : w ≡ v = cc same in ap (may_hold field.width) (sym e) ∙ holds
    by false holds same = absurd (let e : None ≡ Some v = same in cc e)

pub first_fit : (header : Header) (unit : TranslationUnit) (flows : List (List ℤ)) → AreFit header (begun header unit flows)
first_fit header unit flows n v is = held_first (slice_get header.fields n) (slice_get unit.firsts n) v is

-- ---- statements

one_place : (x y : Place) → is_place x y ≡ true → x ≡ y
one_place (Variable x) (Variable y) is = elim (eqb_tells x y) [ inl e ↦ ap Variable e.1 | inr e ↦ absurd (let f : false ≡ true = sym e.0 ∙ is in cc f) ]
one_place (Field x) (Field y) is = elim (eqb_tells x y) [ inl e ↦ ap Field e.1 | inr e ↦ absurd (let f : false ≡ true = sym e.0 ∙ is in cc f) ]
one_place Result Result is = refl
one_place (Variable x) (Field y) is = absurd (let e : false ≡ true = is in cc e)
one_place (Variable x) Result is = absurd (let e : false ≡ true = is in cc e)
one_place (Field x) (Variable y) is = absurd (let e : false ≡ true = is in cc e)
one_place (Field x) Result is = absurd (let e : false ≡ true = is in cc e)
one_place Result (Variable y) is = absurd (let e : false ≡ true = is in cc e)
one_place Result (Field y) is = absurd (let e : false ≡ true = is in cc e)

module _ (call : Functions) (widths : Place → Width) where
  abbrev pub Fits : Memory → Type 0
  Fits m = (x : Place) (v : ℤ) → m.values x ≡ Some v → may_hold (widths x) v ≡ true

  -- whatever memory is left
  abbrev pub Leaves : Outcome → Type 0
  Leaves (GoesOn m) = Fits m
  Leaves (Returned code m) = Fits m
  Leaves Undefined = Unit {0}

  either : (b : Bool) (o p : Outcome) → Leaves o → Leaves p → Leaves (if b then o else p)
  either true o p first second = first
  either false o p first second = second

  then_leaves : (o : Outcome) (go : Memory → Outcome) → Leaves o → ((m : Memory) → Fits m → Leaves (go m)) → Leaves (and_then o go)
  then_leaves (GoesOn m) go fit next = next m fit
  then_leaves (Returned code m) go fit next = fit
  then_leaves Undefined go fit next = tt

  with_leaves : (o : Option ℤ) (go : ℤ → Outcome) → ((v : ℤ) → Leaves (go v)) → Leaves (with_result o go)
  with_leaves None go each = tt
  with_leaves (Some v) go each = each v

  value_fits : (m : Memory) (x : Place) (v : ℤ) → Fits m → may_hold (widths x) v ≡ true → Fits (with_value x v m)
  value_fits m x v fit holds y w is = by (is_place y x) refl is
    where
      by : (b : Bool) → is_place y x ≡ b → (if b then Some v else m.values y) ≡ Some w → may_hold (widths y) w ≡ true
      by true same given = let e : v ≡ w = cc given in ap (λ (z : Place). may_hold (widths z) w) (one_place y x same) ∙ ap (may_hold (widths x)) (sym e) ∙ holds
      by false same given = fit y w given

  set_leaves : (x : Place) (m : Memory) (v : ℤ) → Fits m → Leaves (set widths x m v)
  set_leaves x m v fit = by (may_hold (widths x) v) refl
    where
      by : (b : Bool) → may_hold (widths x) v ≡ b → Leaves (if b then GoesOn (with_value x v m) else Undefined)
      by true holds = value_fits m x v fit holds
      by false holds = tt

  chosen_leaves : (o : Option ℤ) (p q : Outcome) → Leaves p → Leaves q → Leaves (chosen Undefined o p q)
  chosen_leaves None p q first second = tt
  chosen_leaves (Some v) p q first second = either (is_zero v) q p second first

  answered_leaves : (code answer : ℕ) (m : Memory) → Fits m → Leaves (answered code answer m)
  answered_leaves code zero m fit = fit
  answered_leaves code (suc answer) m fit = fit

  received_leaves : (x code answer : ℕ) (m : Memory) (o : Option ℤ) → Fits m → Leaves (received widths x m o (answered code answer))
  received_leaves x code answer m None fit = answered_leaves code answer m fit
  received_leaves x code answer m (Some v) fit = then_leaves (set widths (Variable x) m v) (answered code answer) (set_leaves (Variable x) m v fit) (λ n fits. answered_leaves code answer n fits)

  helped_leaves : (x code : ℕ) (m : Memory) (o : Outcome) → Fits m → Leaves (helped widths x code m o)
  helped_leaves x code m (GoesOn after) fit = tt
  helped_leaves x code m (Returned answer after) fit = received_leaves x code answer m (after.values Result) fit
  helped_leaves x code m Undefined fit = tt

  check_leaves : (helper : Helper) (x code : ℕ) (m : Memory) (a b : Option ℤ) → Fits m → Leaves (run_check call.helper widths helper x code m a b)
  check_leaves helper x code m None b fit = tt
  check_leaves helper x code m (Some v) None fit = tt
  check_leaves helper x code m (Some v) (Some w) fit = either (is_wide (widths (Variable x))) (helped widths x code m (call.helper helper v w)) Undefined (helped_leaves x code m (call.helper helper v w) fit) tt

  asked_leaves : (input : ℕ) (x : Option ℕ) (code : ℕ) (m : Memory) (flow : List ℤ) → Fits m → Leaves (asked widths input x code m flow)
  asked_leaves input x code m [] fit = fit
  asked_leaves input None code m (v ∷ rest) fit = fit
  asked_leaves input (Some x) code m (v ∷ rest) fit = set_leaves (Variable x) (record m { flows = slice_set m.flows input rest }) v fit

  gives_leaves : (output : ℕ) (m : Memory) (wanted : Option Width) (e : Option Expression) → Fits m → Leaves (gives widths output m wanted e)
  gives_leaves output m None None fit = fit
  gives_leaves output m (Some width) (Some e) fit = with_leaves (value widths e m) (given_as width output m) (λ v. either (may_hold width v) (given_to output m v) Undefined fit tt)
  gives_leaves output m None (Some e) fit = tt
  gives_leaves output m (Some width) None fit = tt

  gift_leaves : (output : ℕ) (m : Memory) (prototype : Option Prototype) (e : Option Expression) → Fits m → Leaves (run_gift widths output m prototype e)
  gift_leaves output m None e fit = tt
  gift_leaves output m (Some prototype) e fit = gives_leaves output m prototype.takes e fit

  mutual
    one_leaves : (statement : Statement) (m : Memory) → Fits m → Leaves (run_one call widths statement m)
    one_leaves (Set x e) m fit = with_leaves (value widths e m) (set widths x m) (λ v. set_leaves x m v fit)
    one_leaves (When e statements) m fit = chosen_leaves (value widths e m) (run call widths statements m) (GoesOn m) (run_leaves statements m fit) fit
    one_leaves (Check helper a b x code) m fit = check_leaves helper x code m (value widths a m) (value widths b m) fit
    one_leaves (Ask input x code) m fit =
        either (may_ask widths (slice_get call.inputs input) x) (asked widths input x code m (slice_index_or m.flows input [])) Undefined (asked_leaves input x code m (slice_index_or m.flows input []) fit) tt
    one_leaves (Give output e) m fit = gift_leaves output m (slice_get call.outputs output) e fit
    one_leaves (Ignore x) m fit = fit
    one_leaves (Return code) m fit = fit

    pub run_leaves : (statements : Statements) (m : Memory) → Fits m → Leaves (run call widths statements m)
    run_leaves none m fit = fit
    run_leaves (more statement rest) m fit = then_leaves (run_one call widths statement m) (run call widths rest) (one_leaves statement m fit) (λ n fits. run_leaves rest n fits)

-- ---- a step

abbrev code_of : Outcome → ℕ
code_of (Returned code m) = code
code_of other = 0

abbrev after_of : Memory → Outcome → Memory
after_of other (Returned code m) = m
after_of other outcome = other

module _ (header : Header) (unit : TranslationUnit) where
  entered_fits : (m : Memory) → AreFit header m → Fits (functions_in header unit) (widths_in header unit) (entered m)
  entered_fits m fit (Variable x) v is = absurd (let e : None ≡ Some v = is in cc e)
  entered_fits m fit (Field n) v is = fit n v is
  entered_fits m fit Result v is = absurd (let e : None ≡ Some v = is in cc e)

  answered_fits : (o : Outcome) (code : ℕ) (after : Memory) → Leaves (functions_in header unit) (widths_in header unit) o → answering o ≡ Returned code after → AreFit header after × (code < 2 ^ 15)
  answered_fits (GoesOn m) code after leaves is = absurd (let e : GoesOn m ≡ Returned code after = is in cc e)
  answered_fits Undefined code after leaves is = absurd (let e : Undefined ≡ Returned code after = is in cc e)
  answered_fits (Returned k m) code after leaves is = by (is_int (pos k)) refl is
    where
      by : (b : Bool) → is_int (pos k) ≡ b → (if b then Returned k m else Undefined) ≡ Returned code after → AreFit header after × (code < 2 ^ 15)
      by true small same =
          let number : k ≡ code = ap code_of same in
          let memory : m ≡ after = ap (after_of m) same in
          ((λ n v given. leaves (Field n) v (ap (λ (a : Memory). a.values (Field n)) memory ∙ given)), subst (λ (c : ℕ). c < 2 ^ 15) number (grind (arith, small)))
      by false small same = absurd (let e : Undefined ≡ Returned code after = same in cc e)

  pub next_fit : (m after : Memory) (code : ℕ) → AreFit header m → step_of header unit m ≡ Returned code after → AreFit header after × (code < 2 ^ 15)
  unfolding step_of
  next_fit m after code fit is =
      answered_fits (run (functions_in header unit) (widths_in header unit) (declare 0 unit.variables unit.step) (entered m)) code after
      (run_leaves (functions_in header unit) (widths_in header unit) (declare 0 unit.variables unit.step) (entered m) (entered_fits m fit)) is
