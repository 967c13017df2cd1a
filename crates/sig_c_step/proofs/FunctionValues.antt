-- What the expressions of functions have is what the functions give.
use Rattle.std.proofs.Common.{◌≡◌, ◌≢◌, ◌⊎◌, inl, inr, ◌<ℤ◌, ◌≤ℤ◌, ◌&&◌, ◌||◌, ℤ, pos, Bool, true, false, not, List, [], ◌∷◌, Some, refl, sym, ap, subst, ◌∙◌, arith, if◌then◌else◌, int_le, int_lt}
use Rattle.std.specs.Prelude.{⊤}
use Rattle.std.specs.List.{list_any}
use Rattle.std.proofs.lemmas.Bool.Decides.{eqb_tells}
use Rattle.std.proofs.lemmas.Int.{ints}
use Rattle.sig_base.specs.Functions.{Tells}
use Rattle.sig_base.specs.Traces.{Bounded, Instant, IsValue, has_64_bits, seen_at}
use Rattle.sig_base.specs.declared.ids.Kind.{Kind}
use Rattle.sig_base.specs.declared.ids.Kind.TheVariants.{Boolean, Event}
use Rattle.sig_kernel.specs.KernelTraces.{HaveValues}
use Rattle.sig_kernel.specs.Table.{Row, constant_is}
use Rattle.sig_kernel.specs.declared.equation.Operand.{Operand}
use Rattle.sig_kernel.specs.declared.equation.Operand.TheVariants.{Sig, Const}
use Rattle.sig_kernel.specs.declared.table.Sort.{Sort}
use Rattle.sig_kernel.specs.declared.table.Sort.TheVariants as sort
use Rattle.sig_kernel.proofs.ValueLemmas.{value_of}
use Rattle.sig_file.specs.Images.{begins_row, kind_at, operand_is, operands_begin}
use Rattle.sig_file.specs.declared.images.ImageSignal.{ImageSignal}
use Rattle.sig_exec.proofs.KeptKinds.{Kinded, kinds_of, no, register_kind, taken}
use Rattle.sig_c.specs.SmallC.{Place, Operator, Less, LessEqual, Greater, GreaterEqual, Equal, NotEqual, And, Or, Number, Binary, Width}
use Rattle.sig_c.specs.Meaning.{Memory, truth, denied, fitted, int_same, operated, value}
use Rattle.sig_c_step.specs.Translation.{compared, is_one_signal, operand}
use Rattle.sig_c_step.proofs.StateKinds.{bits_of, register_bits}

-- ---- operands

-- a constant has 64 bits
abbrev pub HasBits : Operand → Type 0
HasBits (Sig x) = ⊤
HasBits (Const c) = has_64_bits c ≡ true

-- the value of one operand
abbrev pub HasValue : Instant → Operand → ℤ → Type 0
HasValue registers (Sig x) v = seen_at registers x.0 ≡ Some v
HasValue registers (Const c) v = c ≡ v

pub first_value : (registers : Instant) (a : Operand) (others : List Operand) (v : ℤ) (values : List ℤ) → HaveValues registers (a ∷ others) (v ∷ values)
    → HasValue registers a v × HaveValues registers others values
first_value registers (Sig x) others v values have = (have.0, have.1)
first_value registers (Const c) others v values have = (have.0, have.1)

no_value : {B : Type 0} (registers : Instant) (a : Operand) (others : List Operand) → HaveValues registers (a ∷ others) [] → B
no_value {B} registers (Sig x) others have = absurd have
no_value {B} registers (Const c) others have = absurd have

pub one_value : (registers : Instant) (a : Operand) (values : List ℤ) → HaveValues registers (a ∷ []) values → (v : ℤ) × (values ≡ v ∷ []) × HasValue registers a v
one_value registers a [] have = no_value registers a [] have
one_value registers a (v ∷ []) have = (v, refl, (first_value registers a [] v [] have).0)
one_value registers a (v ∷ w ∷ values) have = absurd ((first_value registers a [] v (w ∷ values) have).1)

pub two_values : (registers : Instant) (a b : Operand) (values : List ℤ) → HaveValues registers (a ∷ b ∷ []) values
    → (v w : ℤ) × (values ≡ v ∷ w ∷ []) × HasValue registers a v × HasValue registers b w
two_values registers a b [] have = no_value registers a (b ∷ []) have
two_values registers a b (v ∷ values) have =
    let (first, others) = first_value registers a (b ∷ []) v values have in
    let (w, are, second) = one_value registers b values others in
    (v, w, ap (λ l. v ∷ l) are, first, second)

-- ---- sorts of operands

and_both : (a b : Bool) → a && b ≡ true → (a ≡ true) × (b ≡ true)
and_both true b given = (refl, given)
and_both false b given = no given

or_one : (a b : Bool) → a || b ≡ true → (a ≡ true) ⊎ (b ≡ true)
or_one true b given = inl refl
or_one false b given = inr given

truth_bits : (c : ℤ) → constant_is sort.Truth c ≡ true → has_64_bits c ≡ true
truth_bits c is = bits_of Boolean c (value_of Boolean c is)

pub sort_bits : (signals : List ImageSignal) (s : Sort) (a : Operand) → operand_is signals a s ≡ true → HasBits a
sort_bits signals s (Sig x) is = tt
sort_bits signals sort.Integer (Const c) is = is
sort_bits signals sort.Truth (Const c) is = truth_bits c is
sort_bits signals sort.Event (Const c) is = bits_of Event c (value_of Event c is)
sort_bits signals sort.Any (Const c) is = is

abbrev pub AllOperands : (Operand → Type 0) → List Operand → Type 0
AllOperands P [] = ⊤
AllOperands P (a ∷ operands) = P a × AllOperands P operands

-- what holds of each operand that is of some sort holds of the operands of a function
module _ (signals : List ImageSignal) (kind : Kind) (operands : List Operand) (P : Operand → Type 0) (holds : (s : Sort) (a : Operand) → operand_is signals a s ≡ true → P a) where
  begun_each : (begun : List Operand) (sorts : List Sort) → operands_begin signals begun sorts ≡ true → AllOperands P begun
  begun_each [] sorts begin = tt
  begun_each (a ∷ begun) [] begin = no begin
  begun_each (a ∷ begun) (s ∷ sorts) begin =
      let parts = and_both (operand_is signals a s) (operands_begin signals begun sorts) begin in
      (holds s a parts.0, begun_each begun sorts parts.1)

  pub row_each : (rows : List Row) → list_any (begins_row signals kind operands) rows ≡ true → AllOperands P operands
  row_each [] any = no any
  row_each (row ∷ rows) any = elim (or_one (begins_row signals kind operands row) (list_any (begins_row signals kind operands) rows) any) [
    | inl here ↦ begun_each operands row.operands ((and_both _ (operands_begin signals operands row.operands) here).1)
    | inr later ↦ row_each rows later
  ]

abbrev pub HaveBits : List Operand → Type 0
HaveBits operands = AllOperands HasBits operands

pub row_bits : (signals : List ImageSignal) (kind : Kind) (operands : List Operand) (rows : List Row) → list_any (begins_row signals kind operands) rows ≡ true → HaveBits operands
row_bits signals kind operands rows any = row_each signals kind operands HasBits (sort_bits signals) rows any

-- an operand that is a truth
pub truth_operand : (signals : List ImageSignal) (registers : Instant) (a : Operand) (v : ℤ) → Kinded signals registers → operand_is signals a sort.Truth ≡ true → HasValue registers a v
    → (v ≡ pos 0) ⊎ (v ≡ pos 1)
truth_operand signals registers (Sig x) v are is has =
    let (from, kind, goes) = taken Boolean (kind_at signals x.0) is in
    goes v (register_kind signals registers x.0 from v are kind has)
truth_operand signals registers (Const c) v are is has = subst (λ (w : ℤ). IsValue Bounded Boolean w) has (value_of Boolean c is)

pub value_bits : (signals : List ImageSignal) (registers : Instant) (a : Operand) (v : ℤ) → Kinded signals registers → HasBits a → HasValue registers a v → has_64_bits v ≡ true
value_bits signals registers (Sig x) v are bits has = register_bits (kinds_of signals) registers x.0 v are has
value_bits signals registers (Const c) v are bits has = subst (λ (w : ℤ). has_64_bits w ≡ true) has bits

-- ---- truths

-- what tells a statement that a test tells too
pub told : (v : ℤ) (b : Bool) (Statement : Type 0) → (b ≡ true → Statement) → (b ≡ false → Statement → ⊥) → Tells v Statement → Some (truth b) ≡ Some v
told v true Statement holding failing (inl holds) = ap Some (sym holds.1)
told v true Statement holding failing (inr other) = absurd (other.0 (holding refl))
told v false Statement holding failing (inl holds) = absurd (failing refl holds.0)
told v false Statement holding failing (inr other) = ap Some (sym other.1)

pub told_true : (v : ℤ) (Statement : Type 0) → Statement → Tells v Statement → v ≡ pos 1
told_true v Statement is (inl holds) = holds.1
told_true v Statement is (inr other) = absurd (other.0 is)

pub told_false : (v : ℤ) (Statement : Type 0) → (Statement → ⊥) → Tells v Statement → v ≡ pos 0
told_false v Statement is (inl holds) = absurd (is holds.0)
told_false v Statement is (inr other) = other.1

pub tells_truth : (v : ℤ) (Statement : Type 0) → Tells v Statement → (v ≡ pos 0) ⊎ (v ≡ pos 1)
tells_truth v Statement (inl holds) = inr holds.1
tells_truth v Statement (inr other) = inl other.1

pub same_is : (v w : ℤ) → int_same v w ≡ true → v ≡ w
same_is v w e = grind (arith, ints, e)

pub same_not : (v w : ℤ) → int_same v w ≡ false → v ≡ w → ⊥
same_not v w e same = grind (arith, ints, e, same)

not_true : (b : Bool) → not b ≡ true → b ≡ false
not_true true e = sym e
not_true false e = refl

not_false : (b : Bool) → not b ≡ false → b ≡ true
not_false true e = refl
not_false false e = sym e

less_is : (v w : ℤ) → int_lt v w ≡ true → v <ℤ w
less_is v w e = grind (arith, ints, e)

less_not : (v w : ℤ) → int_lt v w ≡ false → v <ℤ w → ⊥
less_not v w e less = grind (arith, ints, e, less)

most_is : (v w : ℤ) → int_le v w ≡ true → v ≤ℤ w
most_is v w e = grind (arith, ints, e)

most_not : (v w : ℤ) → int_le v w ≡ false → v ≤ℤ w → ⊥
most_not v w e most = grind (arith, ints, e, most)

irreflexive : (v w : ℤ) → v ≡ w → v <ℤ w → ⊥
irreflexive v w same less = omega (arith, ints, same, less)

irreflexive_after : (v w : ℤ) → v ≡ w → w <ℤ v → ⊥
irreflexive_after v w same less = omega (arith, ints, same, less)

reflexive : (v w : ℤ) → v ≡ w → v ≤ℤ w
reflexive v w same = omega (arith, ints, same)

reflexive_after : (v w : ℤ) → v ≡ w → w ≤ℤ v
reflexive_after v w same = omega (arith, ints, same)

-- ---- connectives

abbrev pub IsTruth : ℤ → Type 0
IsTruth v = (v ≡ pos 0) ⊎ (v ≡ pos 1)

zero_one : {B : Type 0} → pos 0 ≡ pos 1 → B
zero_one {B} e = absurd (grind (arith, ints, e))

one_zero : {B : Type 0} (x : ℤ) → x ≡ pos 0 → x ≡ pos 1 → B
one_zero {B} x e f = zero_one (sym e ∙ f)

pub not_is : (x v : ℤ) → IsTruth x → Tells v (x ≢ pos 1) → denied (Some x) ≡ Some v
not_is x v (inl e) tells = rw e (ap Some (sym (told_true v (x ≢ pos 1) (λ f. one_zero x e f) tells)))
not_is x v (inr e) tells = rw e (ap Some (sym (told_false v (x ≢ pos 1) (λ f. f e) tells)))

pub and_is : (width : Width) (x w v : ℤ) → IsTruth x → IsTruth w → Tells v ((x ≡ pos 1) × (w ≡ pos 1)) → operated And width (Some x) (Some w) ≡ Some v
and_is width x w v (inl e) two tells = rw e (ap Some (sym (told_false v ((x ≡ pos 1) × (w ≡ pos 1)) (λ p. one_zero x e p.0) tells)))
and_is width x w v (inr e) (inl f) tells = rw (e, f) (ap Some (sym (told_false v ((x ≡ pos 1) × (w ≡ pos 1)) (λ p. one_zero w f p.1) tells)))
and_is width x w v (inr e) (inr f) tells = rw (e, f) (ap Some (sym (told_true v ((x ≡ pos 1) × (w ≡ pos 1)) (e, f) tells)))

pub or_is : (width : Width) (x w v : ℤ) → IsTruth x → IsTruth w → Tells v ((x ≡ pos 1) ⊎ (w ≡ pos 1)) → operated Or width (Some x) (Some w) ≡ Some v
or_is width x w v (inl e) (inl f) tells = rw (e, f) (ap Some (sym (told_false v ((x ≡ pos 1) ⊎ (w ≡ pos 1)) (λ p. elim p [ inl one ↦ one_zero x e one | inr one ↦ one_zero w f one ]) tells)))
or_is width x w v (inl e) (inr f) tells = rw (e, f) (ap Some (sym (told_true v ((x ≡ pos 1) ⊎ (w ≡ pos 1)) (inr f) tells)))
or_is width x w v (inr e) two tells = rw e (ap Some (sym (told_true v ((x ≡ pos 1) ⊎ (w ≡ pos 1)) (inl e) tells)))

-- ---- comparisons

one_signal : (registers : Instant) (a b : Operand) (x w : ℤ) → is_one_signal a b ≡ true → HasValue registers a x → HasValue registers b w → x ≡ w
one_signal registers (Sig p) (Sig q) x w one first second = elim (eqb_tells p.0 q.0) [
  | inl e ↦ same_some x w (sym first ∙ ap (seen_at registers) e.1 ∙ second)
  | inr e ↦ no (sym e.0 ∙ one)
] where
  same_some : (i j : ℤ) → Some i ≡ Some j → i ≡ j
  same_some i j e = cc e
one_signal registers (Sig p) (Const c) x w one first second = no one
one_signal registers (Const c) b x w one first second = no one

fitted_truth : (b : Bool) → fitted (truth b) ≡ Some (truth b)
fitted_truth true = refl
fitted_truth false = refl

module _ (widths : Place → Width) (m : Memory) (registers : Instant) (a b : Operand) (x w v : ℤ) (has_a : HasValue registers a x) (has_b : HasValue registers b w) where
  module _ (first : value widths (operand a) m ≡ Some x) (second : value widths (operand b) m ≡ Some w) where
    compared_is : (operator : Operator) (same : Bool) → ((width : Width) → operated operator width (Some x) (Some w) ≡ Some v) → (x ≡ w → v ≡ truth same)
        → value widths (compared operator same a b) m ≡ Some v
    compared_is operator same operates known = by (is_one_signal a b) refl where
      by : (c : Bool) → is_one_signal a b ≡ c → value widths (compared operator same a b) m ≡ Some v
      by true e =
          ap (λ (c : Bool). value widths (if c then Number (truth same) else Binary operator (operand a) (operand b)) m) e ∙ fitted_truth same
          ∙ ap Some (sym (known (one_signal registers a b x w e has_a has_b)))
      by false e =
          ap (λ (c : Bool). value widths (if c then Number (truth same) else Binary operator (operand a) (operand b)) m) e
          ∙ rw first (rw second (operates _))

    pub equal_is : Tells v (x ≡ w) → value widths (compared Equal true a b) m ≡ Some v
    equal_is tells = compared_is Equal true (λ width. told v (int_same x w) (x ≡ w) (same_is x w) (same_not x w) tells) (λ same. told_true v (x ≡ w) same tells)

    pub not_equal_is : Tells v (x ≢ w) → value widths (compared NotEqual false a b) m ≡ Some v
    not_equal_is tells =
        compared_is NotEqual false
        (λ width. told v (not (int_same x w)) (x ≢ w) (λ e. same_not x w (not_true (int_same x w) e)) (λ e apart. apart (same_is x w (not_false (int_same x w) e))) tells)
        (λ same. told_false v (x ≢ w) (λ apart. apart same) tells)

    pub less_than_is : Tells v (x <ℤ w) → value widths (compared Less false a b) m ≡ Some v
    less_than_is tells = compared_is Less false (λ width. told v (int_lt x w) (x <ℤ w) (less_is x w) (less_not x w) tells) (λ same. told_false v (x <ℤ w) (irreflexive x w same) tells)

    pub at_most_is : Tells v (x ≤ℤ w) → value widths (compared LessEqual true a b) m ≡ Some v
    at_most_is tells = compared_is LessEqual true (λ width. told v (int_le x w) (x ≤ℤ w) (most_is x w) (most_not x w) tells) (λ same. told_true v (x ≤ℤ w) (reflexive x w same) tells)

    pub greater_than_is : Tells v (w <ℤ x) → value widths (compared Greater false a b) m ≡ Some v
    greater_than_is tells = compared_is Greater false (λ width. told v (int_lt w x) (w <ℤ x) (less_is w x) (less_not w x) tells) (λ same. told_false v (w <ℤ x) (irreflexive_after x w same) tells)

    pub at_least_is : Tells v (w ≤ℤ x) → value widths (compared GreaterEqual true a b) m ≡ Some v
    at_least_is tells = compared_is GreaterEqual true (λ width. told v (int_le w x) (w ≤ℤ x) (most_is w x) (most_not w x) tells) (λ same. told_true v (w ≤ℤ x) (reflexive_after x w same) tells)
