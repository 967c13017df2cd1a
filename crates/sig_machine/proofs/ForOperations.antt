-- Works of operations.
use Rattle.sig_machine.proofs.Common.{true, false, inl, inr, ◌⊎◌, get_or, ◌≡◌, ◌<◌, ◌≤◌, ◌+◌, ◌∙◌, ℕ, ℤ, pos, List, [], ◌∷◌, length, nat_lt, None, Option, Some, refl, sym, ap, subst, Contains, slice_get, ltb-true, ltb-false, unwrap_or, arith, length-append, slice_get_past, slice_get_read, contains_head, EqId, SigId, Equation, Kernel, Op, OpKind, Compute, Left, Right, Store, Actor, Registers, Gives, computed_at, computed_for, first_in, outcome, outcome_by, input_of, HasShape, IsWorkOf, taken_by_form, actor_at, cell, registers_of, AreBelow, IsConstant, ReadsWithin, as_named, came_to, input_taken, Work, Next, Copy, One, Two, Machine}
use Rattle.sig_machine.proofs.WorksWithMoreConstants.{IsFormSource, cell_last}

-- what is found at a place of a list
pub found : (equations : List Equation) (n : ℕ) (equation d : Equation) → true ≡ nat_lt n (length equations) → equation ≡ get_or equations n equation → slice_get equations n ≡ Some equation
found equations n equation d there is = slice_get_read equations (length equations) n equation refl (ltb-true n (length equations) (sym there)) is

pub not_found : (equations : List Equation) (n : ℕ) → false ≡ nat_lt n (length equations) → slice_get equations n ≡ None
not_found equations n none = slice_get_past equations n (ltb-false n (length equations) (sym none))

no_input : (cells : ℕ) (work : Work) → ReadsWithin 0 cells work → input_taken work ≡ None
no_input cells (Next input) within = absurd (omega (arith, within))
no_input cells (Copy source) within = refl
no_input cells (One function a) within = refl
no_input cells (Two function a b) within = refl

wider : (inputs cells : ℕ) (work : Work) → ReadsWithin 0 cells work → ReadsWithin inputs cells work
wider inputs cells (Next input) within = absurd (omega (arith, within))
wider inputs cells (Copy source) within = within
wider inputs cells (One function a) within = within
wider inputs cells (Two function a b) within = within

module _ (kernel : Kernel) (op : Op) where
  -- a copy of a constant, of an operation that gives it
  pub constant_work : (old new : List ℤ) (v : ℤ) (work : Work) → length kernel.signals + length kernel.signals ≤ length old → IsConstant v old new work → input_of op.kind ≡ None
      → ((flows : List (List ℤ)) (m : Machine) (step : ℕ) → outcome kernel flows (actor_at m step) op ≡ Gives v) → IsWorkOf kernel new op work
  constant_work old new v work room (grown, copies) none gives =
      subst (IsWorkOf kernel new op) (sym copies)
      (record {
        reads = copied;
        takes = sym none;
        value = λ flows m same constants has step. ap Gives (constants (length old) (subst (λ n. n + n ≤ length old) (sym same) room) copied ∙ holds) ∙ sym (gives flows m step);
      }) where
        copied : length old < length new
        copied = let longer = ap length grown ∙ length-append old (v ∷ []) in omega (arith, longer)

        holds : cell new (length old) ≡ v
        holds = ap (λ xs. cell xs (length old)) grown ∙ cell_last old v

  -- a copy of the first signal that an operation reads, where it hands that on
  pub copy_work : (cells : List ℤ) (x : SigId) → length kernel.signals + length kernel.signals ≤ length cells → HasShape kernel op → input_of op.kind ≡ None → Contains op.reads x
      → ((flows : List (List ℤ)) (actor : Actor) → outcome kernel flows actor op ≡ Gives (unwrap_or (actor.registers x.0) (pos 0))) → IsWorkOf kernel cells op (Copy x.0)
  copy_work cells x room shape none reads gives = record {
    reads = let below = shape.within x reads in omega (arith, below, room);
    takes = sym none;
    value = λ flows m same constants has step. ap Gives (sym (ap (λ o. unwrap_or o (pos 0)) (has x reads))) ∙ sym (gives flows (actor_at m step));
  }

  module _ (kind : op.kind ≡ Compute) (e : EqId) (number : op.eq ≡ Some e) where
    computes : (flows : List (List ℤ)) (m : Machine) (step : ℕ) (o : Option Equation) → slice_get kernel.equations e.0 ≡ o
        → outcome kernel flows (actor_at m step) op ≡ computed_at (registers_of m) e o
    computes flows m step o at =
        ap (outcome_by kernel flows (actor_at m step) op) kind ∙ ap (computed_for kernel (registers_of m)) number ∙ ap (computed_at (registers_of m) e) at

    pub form_below : HasShape kernel op → (equation : Equation) → slice_get kernel.equations e.0 ≡ Some equation → AreBelow (length kernel.signals) (taken_by_form equation.form)
    form_below shape equation at = λ x there. shape.within x (shape.reads kind e number equation at x there)

    pub form_work : HasShape kernel op → (equation : Equation) → slice_get kernel.equations e.0 ≡ Some equation → (cells : List ℤ) (work : Work)
        → IsFormSource (length kernel.signals) cells equation.form work → IsWorkOf kernel cells op work
    form_work shape equation at cells work source = record {
      reads = wider kernel.inputs (length cells) work source.reads;
      takes = no_input (length cells) work source.reads ∙ sym (ap input_of kind);
      value = λ flows m same constants has step.
          ap (λ n. as_named n (came_to flows m work)) number
          ∙ source.value flows m e same constants (λ x there. has x (shape.reads kind e number equation at x there))
          ∙ sym (computes flows m step (Some equation) at);
    }

    pub no_form : slice_get kernel.equations e.0 ≡ None → (flows : List (List ℤ)) (m : Machine) (step : ℕ) → outcome kernel flows (actor_at m step) op ≡ Gives (pos 0)
    no_form at flows m step = computes flows m step None at

-- an operation of these kinds hands on what it reads first
abbrev pub HandsOn : OpKind → Type 0
HandsOn kind = (kind ≡ Left) ⊎ ((kind ≡ Right) ⊎ ((e : EqId) × (kind ≡ Store e)))

hands_none : (kind : OpKind) → HandsOn kind → input_of kind ≡ None
hands_none kind (inl is) = ap input_of is
hands_none kind (inr (inl is)) = ap input_of is
hands_none kind (inr (inr (e, is))) = ap input_of is

hands : (kernel : Kernel) (flows : List (List ℤ)) (actor : Actor) (op : Op) (kind : OpKind) → HandsOn kind → outcome_by kernel flows actor op kind ≡ Gives (first_in actor.registers op.reads)
hands kernel flows actor op kind (inl is) = ap (outcome_by kernel flows actor op) is
hands kernel flows actor op kind (inr (inl is)) = ap (outcome_by kernel flows actor op) is
hands kernel flows actor op kind (inr (inr (e, is))) = ap (outcome_by kernel flows actor op) is

first_is : (registers : Registers) (reads : List SigId) (d : SigId) → 1 ≤ length reads → first_in registers reads ≡ unwrap_or (registers (get_or reads 0 d).0) (pos 0)
first_is registers [] d some = absurd (omega (arith, some))
first_is registers (x ∷ reads) d some = refl

first_there : (reads : List SigId) (d : SigId) → 1 ≤ length reads → Contains reads (get_or reads 0 d)
first_there [] d some = absurd (omega (arith, some))
first_there (x ∷ reads) d some = contains_head x reads

pub first_work : (kernel : Kernel) (op : Op) (cells : List ℤ) (d : SigId) → length kernel.signals + length kernel.signals ≤ length cells → HasShape kernel op → HandsOn op.kind → 1 ≤ length op.reads
    → IsWorkOf kernel cells op (Copy (get_or op.reads 0 d).0)
first_work kernel op cells d room shape kind some =
    copy_work kernel op cells (get_or op.reads 0 d) room shape (hands_none op.kind kind) (first_there op.reads d some)
    (λ flows actor. hands kernel flows actor op op.kind kind ∙ ap Gives (first_is actor.registers op.reads d some))
