-- A signal is defined once: by one equation, and where that is a delay, it is written by the delay's read alone.
use Rattle.sig_doing_laws.proofs.Common.{◌≡◌, ◌<◌, ◌≤◌, ◌⊎◌, inl, inr, ℕ, zero, suc, ℤ, Bool, true, false, cond, List, [], ◌∷◌, length, refl, ap, sym, subst, ◌∙◌, arith, Contains, All, Option, None, Some, slice_get, ◌==◌, count_by, eq-eqb, eqb-true, All-cons, All-contains, All-nil, EqId, SigId, signal_id, target_of, IsValid, defines, form_within, is_target, target_within, Equation, Form, Fun, Delay, When, WhenConst, Default, Sync, Event, Kernel, at_most_or, form_for, form_in, has_form, initial_by, initial_in, Operation, Presence, operations_of, signals_of, store_of, stores_of, without, writes_of, writing, Writes, Compute, DelayRead, Left, Right, counted, fold_tally, one_place, tally, each_operation, only, target_below, got, signal_same}

pub same_equation : (d e : EqId) → d.0 ≡ e.0 → d ≡ e
same_equation d e same = λ j. record { 0 = same j }

-- the equation of a form
pub equation_for : (kernel : Kernel) (e : EqId) (form : Form) → form_for kernel (Some e) ≡ Some form → (q : Equation) × (slice_get kernel.equations e.0 ≡ Some q) × (q.form ≡ form)
equation_for kernel e form is = by (slice_get kernel.equations e.0) refl where
  by : (found : Option Equation) → slice_get kernel.equations e.0 ≡ found → (q : Equation) × (slice_get kernel.equations e.0 ≡ Some q) × (q.form ≡ form)
  by None none = absurd (let g : None ≡ Some form = sym (ap form_in none) ∙ is in cc)
  by (Some q) some = (q, some, (let g : Some q.form ≡ Some form = sym (ap form_in some) ∙ is in cc))

-- the initial value of a delay, where no earlier equation defines its signal
pub initial_is : (equations : List Equation) (k : ℕ) (q : Equation) (y x : SigId) (initial : ℤ) → slice_get equations k ≡ Some q → q.form ≡ Delay y x initial
    → ((i : ℕ) (p : Equation) → slice_get equations i ≡ Some p → target_of p.form ≡ Some y → i ≡ k) → initial_in equations y.0 ≡ initial
initial_is [] k q y x initial at form one = absurd (let e = at in cc)
initial_is (p ∷ equations) zero q y x initial at form one =
    let e : Some p ≡ Some q = at in
    let same : p ≡ q = cc in
    ap (λ (d : Equation). initial_by y.0 d.form (initial_in equations y.0)) same ∙ ap (λ shape. initial_by y.0 shape (initial_in equations y.0)) form
    ∙ ap (λ b. cond b initial (initial_in equations y.0)) (eq-eqb y.0 y.0 refl)
initial_is (p ∷ equations) (suc k) q y x initial at form one =
    passed p.form refl ∙ initial_is equations k q y x initial at form (λ i d at_i target. let same = one (suc i) d at_i target in omega (arith, same)) where
      other : (z u : SigId) (i : ℤ) → p.form ≡ Delay z u i → (b : Bool) → (z.0 == y.0) ≡ b → cond b i (initial_in equations y.0) ≡ initial_in equations y.0
      other z u i is true same =
          let first : 0 ≡ suc k = one 0 p refl (ap target_of is ∙ ap Some (signal_same z y (eqb-true z.0 y.0 same))) in
          absurd (omega (arith, first))
      other z u i is false same = refl

      passed : (shape : Form) → p.form ≡ shape → initial_by y.0 shape (initial_in equations y.0) ≡ initial_in equations y.0
      passed (Delay z u i) is = other z u i is (z.0 == y.0) refl
      passed _ is = refl

module _ (kernel : Kernel) (valid : IsValid kernel) where
  defining : (y : SigId) (form : Form) → target_of form ≡ Some y → is_target y.0 (target_of form) ≡ true
  defining y form target = ap (is_target y.0) target ∙ eq-eqb y.0 y.0 refl

  tally_is : (y : SigId) → tally (defines y.0) kernel.equations ≡ count_by (defines y.0) kernel.equations
  tally_is y = let folded = fold_tally (defines y.0) 0 kernel.equations in omega (arith, folded)

  -- an equation defines no input, and a signal that is there
  pub defined_local : (k : ℕ) (q : Equation) (y : SigId) → slice_get kernel.equations k ≡ Some q → target_of q.form ≡ Some y → (kernel.inputs ≤ y.0) × (y.0 < length kernel.signals)
  defined_local k q y at target = (by (at_most_or kernel.inputs y.0), below) where
    by : (kernel.inputs ≤ y.0) ⊎ (y.0 < kernel.inputs) → kernel.inputs ≤ y.0
    by (inl le) = le
    by (inr lt) =
        let some = counted (defines y.0) kernel.equations k q at (defining y q.form target) in
        absurd (omega (arith, some, tally_is y, valid.defined.inputs y.0 lt))

    below : y.0 < length kernel.signals
    below =
        let there = got kernel.equations k q q at in
        let within : form_within (length kernel.signals) q.form ≡ true = subst (λ (d : Equation). form_within (length kernel.signals) d.form ≡ true) there.1 (valid.equations.within k q there.0) in
        target_below (length kernel.signals) q.form y within (ap (target_within (length kernel.signals)) target)

  -- one equation defines a signal
  pub defined_once : (i j : ℕ) (a b : Equation) (y : SigId) → slice_get kernel.equations i ≡ Some a → slice_get kernel.equations j ≡ Some b → target_of a.form ≡ Some y → target_of b.form ≡ Some y → i ≡ j
  defined_once i j a b y at_i at_j one two =
      let local = defined_local i a y at_i one in
      one_place (defines y.0) kernel.equations (omega (arith, tally_is y, valid.defined.others y.0 local.0 local.1)) i j a b at_i at_j (defining y a.form one) (defining y b.form two)

  -- ---- the writer of a delay's signal

  module _ (presence : Presence) (e : EqId) (y x : SigId) (initial : ℤ) (q : Equation) (at : slice_get kernel.equations e.0 ≡ Some q) (delay : q.form ≡ Delay y x initial) where
    abbrev ReadsMemory : Operation → Type 0
    ReadsMemory p = Writes p y → (p.kind ≡ DelayRead) × (p.equation ≡ Some e)

    abbrev HasForm : EqId → Form → Type 0
    HasForm number form = form_for kernel (Some number) ≡ Some form

    -- an equation that defines the signal is that of the delay
    it_is : (number : EqId) (form : Form) → HasForm number form → target_of form ≡ Some y → (number ≡ e) × (form ≡ Delay y x initial)
    it_is number form has target =
        let found = equation_for kernel number form has in
        let same : number ≡ e = same_equation number e (defined_once number.0 e.0 found.0 q y found.1 at (ap target_of found.2 ∙ target) (ap target_of delay)) in
        let one : Some found.0 ≡ Some q = sym found.1 ∙ ap (λ (n : EqId). slice_get kernel.equations n.0) same ∙ at in
        let equations : found.0 ≡ q = cc in
        (same, sym found.2 ∙ ap (λ (d : Equation). d.form) equations ∙ delay)

    writes_memory : (number : EqId) (form : Form) → HasForm number form → All ReadsMemory (writes_of kernel.signals presence number form)
    writes_memory number (Fun z op operands) has = only ReadsMemory (writing kernel.signals number Compute (presence z) z (signals_of operands)) (λ writes. absurd (let f : Fun z op operands ≡ Delay y x initial = (it_is number (Fun z op operands) has writes).1 in cc))
    writes_memory number (When z u b) has = only ReadsMemory (writing kernel.signals number Compute (presence z) z (u ∷ [])) (λ writes. absurd (let f : When z u b ≡ Delay y x initial = (it_is number (When z u b) has writes).1 in cc))
    writes_memory number (WhenConst z k b) has = only ReadsMemory (writing kernel.signals number Compute (presence z) z []) (λ writes. absurd (let f : WhenConst z k b ≡ Delay y x initial = (it_is number (WhenConst z k b) has writes).1 in cc))
    writes_memory number (Event z u) has = only ReadsMemory (writing kernel.signals number Compute (presence z) z []) (λ writes. absurd (let f : Event z u ≡ Delay y x initial = (it_is number (Event z u) has writes).1 in cc))
    writes_memory number (Delay z u i) has = only ReadsMemory (writing kernel.signals number DelayRead (presence z) z []) (λ writes. (refl, ap Some (it_is number (Delay z u i) has writes).0))
    writes_memory number (Sync u z) has = All-nil ReadsMemory
    writes_memory number (Default z u v) has =
        All-cons ReadsMemory (writing kernel.signals number Left (presence u) z (u ∷ [])) (writing kernel.signals number Right (without (presence v) (presence u)) z (v ∷ []) ∷ [])
        (λ writes. absurd (let f : Default z u v ≡ Delay y x initial = (it_is number (Default z u v) has writes).1 in cc))
        (only ReadsMemory (writing kernel.signals number Right (without (presence v) (presence u)) z (v ∷ [])) (λ writes. absurd (let f : Default z u v ≡ Delay y x initial = (it_is number (Default z u v) has writes).1 in cc)))

    stores_memory : (number : EqId) (form : Form) → HasForm number form → All ReadsMemory (stores_of kernel.signals presence number form)
    stores_memory number (Delay z u i) has = only ReadsMemory (store_of kernel.signals presence number z u) (λ writes. absurd (let f : None ≡ Some y = writes in cc))
    stores_memory number _ has = All-nil ReadsMemory

    pub one_memory : (p : Operation) → Contains (operations_of kernel presence) p → ReadsMemory p
    one_memory p among = All-contains ReadsMemory (operations_of kernel presence) p
        (each_operation ReadsMemory kernel presence HasForm (has_form kernel)
        (λ number lt writes.
        let f : Some (signal_id number) ≡ Some y = writes in
        let same : signal_id number ≡ y = cc in
        let local = defined_local e.0 q y at (ap target_of delay) in
        absurd (omega (arith, lt, local.0, ap (λ (z : SigId). z.0) same))) writes_memory stores_memory) among
