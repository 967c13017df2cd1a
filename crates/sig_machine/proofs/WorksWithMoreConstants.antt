-- Works over cells to which constants are added.
use Rattle.sig_machine.proofs.Common.{IfOk, Ok, Err, Result, Bool, true, false, get_or, unwrap_or, ◌≡◌, ◌<◌, ◌≤◌, ◌+◌, ◌++◌, ◌∙◌, ℕ, zero, suc, ℤ, pos, List, [], ◌∷◌, length, map, Some, refl, sym, ap, subst, Contains, arith, length-append, contains_head, contains_later, two_of, EqId, SigId, function_of, FunOp, Operand, Sig, Const, Function, signals_of, Registers, Form, When, taken_by_form, Gives, Outcome, computed, computed_by, operand_in, divides_by_zero, has_64_bits, result_of, HaveConstants, cell, registers_of, AreBelow, IsCellOf, IsConstant, IsSource, as_named, no_equation, Work, Copy, One, Two, Machine}
use Rattle.sig_machine.proofs.Openings.{cell_front}

-- the last of cells
pub cell_last : (cells : List ℤ) (v : ℤ) → cell (cells ++ v ∷ []) (length cells) ≡ v
cell_last [] v = refl
cell_last (a ∷ cells) v = cell_last cells v

-- ---- functions and the equation that a fault names

pub as_computed : (e : EqId) (function : Function) (values : List ℤ) → as_named (Some e) (computed no_equation function values) ≡ computed e function values
as_computed e function values = by (divides_by_zero function values) (has_64_bits (result_of function values)) refl refl where
  by : (zeroed small : Bool) → divides_by_zero function values ≡ zeroed → has_64_bits (result_of function values) ≡ small
      → as_named (Some e) (computed no_equation function values) ≡ computed e function values
  by true small one two = rw one refl
  by false true one two = rw one (rw two refl)
  by false false one two = rw one (rw two refl)

-- ---- operands

-- the value of the cell of an operand
pub operand_is : (signals : ℕ) (cells : List ℤ) (m : Machine) → m.signals ≡ signals → HaveConstants m.signals cells m.cells.items → (operand : Operand) (number : ℕ)
    → IsCellOf signals cells operand number → ((x : SigId) → operand ≡ Sig x → registers_of m x.0 ≡ Some (cell m.cells.items x.0))
    → cell m.cells.items number ≡ operand_in (registers_of m) operand
operand_is signals cells m same constants (Sig x) number is there = ap (cell m.cells.items) is ∙ sym (ap (λ o. unwrap_or o (pos 0)) (there x refl))
operand_is signals cells m same constants (Const v) number (behind, within, holds) there = constants number (subst (λ n. n + n ≤ number) (sym same) behind) within ∙ holds

-- an operand that is a signal is among the signals of operands
signal_among : (operands : List Operand) (n : ℕ) (d : Operand) (x : SigId) → n < length operands → get_or operands n d ≡ Sig x → Contains (signals_of operands) x
signal_among [] n d x less is = absurd (omega (arith, less))
signal_among (o ∷ operands) zero d x less is = subst (λ (p : Operand). Contains (signals_of (p ∷ operands)) x) (sym is) (contains_head x (signals_of operands))
signal_among (Sig y ∷ operands) (suc n) d x less is = contains_later y x (signals_of operands) (signal_among operands n d x (omega (arith, less)) is)
signal_among (Const v ∷ operands) (suc n) d x less is = signal_among operands n d x (omega (arith, less)) is

-- its cell is among the cells
cell_within : (signals : ℕ) (cells : List ℤ) → signals + signals ≤ length cells → (operand : Operand) (number : ℕ) → IsCellOf signals cells operand number
    → ((x : SigId) → operand ≡ Sig x → x.0 < signals) → number < length cells
cell_within signals cells room (Sig x) number is below = let h = below x refl in omega (arith, is, h, room)
cell_within signals cells room (Const v) number is below = is.1

pub cell_grows : (signals : ℕ) (cells more : List ℤ) (operand : Operand) (number : ℕ) → IsCellOf signals cells operand number → IsCellOf signals (cells ++ more) operand number
cell_grows signals cells more (Sig x) number is = is
cell_grows signals cells more (Const v) number (behind, within, holds) =
    let longer = length-append cells more in
    (behind, omega (arith, within, longer), cell_front cells more number within ∙ holds)

one_of : (f : Operand → ℤ) (operands : List Operand) (d : Operand) (x : ℤ) → 1 ≤ length operands → length operands < 2 → x ≡ f (get_or operands 0 d) → x ∷ [] ≡ map f operands
one_of f [] d x low high first = absurd (omega (arith, low))
one_of f (a ∷ []) d x low high first = ap (λ z. z ∷ []) first
one_of f (a ∷ b ∷ more) d x low high first = absurd (omega (arith, high))

-- what a function gives of its operands
abbrev pub of_operands : FunOp → List Operand → Registers → EqId → Outcome
of_operands function operands registers e = computed e (function_of function) (map (operand_in registers) operands)

module _ (signals : ℕ) (cells : List ℤ) (room : signals + signals ≤ length cells) (function : FunOp) (operands : List Operand) (below : AreBelow signals (signals_of operands)) where
  -- the cell of one of the operands
  module _ (n : ℕ) (d : Operand) (less : n < length operands) (number : ℕ) (is : IsCellOf signals cells (get_or operands n d) number) where
    within : number < length cells
    within = cell_within signals cells room (get_or operands n d) number is (λ x same. below x (signal_among operands n d x less same))

    value : (m : Machine) → m.signals ≡ signals → HaveConstants m.signals cells m.cells.items → ((x : SigId) → Contains (signals_of operands) x → registers_of m x.0 ≡ Some (cell m.cells.items x.0))
        → cell m.cells.items number ≡ operand_in (registers_of m) (get_or operands n d)
    value m same constants there = operand_is signals cells m same constants (get_or operands n d) number is (λ x e. there x (signal_among operands n d x less e))

  pub one_source : (d : Operand) → 1 ≤ length operands → length operands < 2 → (number : ℕ) → IsCellOf signals cells (get_or operands 0 d) number
      → IsSource signals cells (signals_of operands) (of_operands function operands) (One function number)
  one_source d low high number is = record {
    reads = within 0 d low number is;
    value = λ flows m e same constants there.
        let list : cell m.cells.items number ∷ [] ≡ map (operand_in (registers_of m)) operands = one_of (operand_in (registers_of m)) operands d (cell m.cells.items number) low high (value 0 d low number is m same constants there) in
        as_computed e (function_of function) (cell m.cells.items number ∷ []) ∙ ap (computed e (function_of function)) list;
  }

  pub two_source : (d : Operand) → 2 ≤ length operands → length operands < 3 → (left right : ℕ) → IsCellOf signals cells (get_or operands 0 d) left → IsCellOf signals cells (get_or operands 1 d) right
      → IsSource signals cells (signals_of operands) (of_operands function operands) (Two function left right)
  two_source d low high left right one two =
      let first : 0 < length operands = omega (arith, low) in
      record {
        reads = (within 0 d first left one, within 1 d low right two);
        value = λ flows m e same constants there.
            let list : cell m.cells.items left ∷ cell m.cells.items right ∷ [] ≡ map (operand_in (registers_of m)) operands =
            two_of (operand_in (registers_of m)) operands d (cell m.cells.items left) (cell m.cells.items right) low high (value 0 d first left one m same constants there) (value 1 d low right two m same constants there) in
            as_computed e (function_of function) (cell m.cells.items left ∷ cell m.cells.items right ∷ []) ∙ ap (computed e (function_of function)) list;
      }

-- a copy of a constant
pub constant_source : (signals : ℕ) (cells new : List ℤ) (v : ℤ) (work : Work) (needs : List SigId) (gives : Registers → EqId → Outcome) → signals + signals ≤ length cells → IsConstant v cells new work
    → ((registers : Registers) (e : EqId) → gives registers e ≡ Gives v) → IsSource signals new needs gives work
constant_source signals cells new v work needs gives room (grown, copies) is =
    subst (IsSource signals new needs gives) (sym copies)
    (record {
      reads = copied;
      value = λ flows m e same constants there. ap Gives (constants (length cells) (subst (λ n. n + n ≤ length cells) (sym same) room) copied ∙ holds) ∙ sym (is (registers_of m) e);
    }) where
      copied : length cells < length new
      copied = let longer = ap length grown ∙ length-append cells (v ∷ []) in omega (arith, longer)

      holds : cell new (length cells) ≡ v
      holds = ap (λ xs. cell xs (length cells)) grown ∙ cell_last cells v

pub if_ok : {X E : Type 0} (P Q : X → Type 0) (r : Result X E) → ((x : X) → P x → Q x) → IfOk r P → IfOk r Q
if_ok P Q (Ok x) step holds = step x holds
if_ok P Q (Err e) step holds = holds

-- ---- forms

abbrev pub IsFormSource : ℕ → List ℤ → Form → Work → Type 0
IsFormSource signals cells form work = IsSource signals cells (taken_by_form form) (λ registers e. computed_by registers e form) work

pub when_source : (signals : ℕ) (cells : List ℤ) (y x b : SigId) → signals + signals ≤ length cells → AreBelow signals (x ∷ []) → IsFormSource signals cells (When y x b) (Copy x.0)
when_source signals cells y x b room below =
    let less = below x (contains_head x []) in
    record {
      reads = omega (arith, less, room);
      value = λ flows m e same constants there. ap Gives (sym (ap (λ o. unwrap_or o (pos 0)) (there x (contains_head x []))));
    }

pub as_form : (signals : ℕ) (cells : List ℤ) (work : Work) (form shape : Form) → form ≡ shape → IsFormSource signals cells shape work → IsFormSource signals cells form work
as_form signals cells work form shape is source = subst (λ f. IsFormSource signals cells f work) (sym is) source
