-- Operations name signals and equations of their kernel.
use Rattle.sig_plan.proofs.Common.{◌≡◌, ◌<◌, ℕ, inl, inr, true, List, [], ◌∷◌, length, sym, subst, Contains, All, Some, slice_get, All-cons, All-contains, All-nil, EqId, SigId, IsValid, form_within, Form, Fun, Delay, When, Default, Sync, Kernel, HasOperations, Operation, Presence, operations_of, stores_of, without, writes_of, writing, Writes, Left, Right, contains_at, contains_cons, contains_none, slice_get_within}
use Rattle.sig_plan.proofs.EachOperation.{each_operation, first_below, only, operands_below, second_below, signal_below}
use Rattle.sig_plan.proofs.WrittenSignals.{operations_written}

module _ (kernel : Kernel) (presence : Presence) where
  abbrev ReadsBelow : Operation → Type 0
  ReadsBelow p = (x : SigId) → Contains p.reads x → x.0 < length kernel.signals

  Within : Form → Type 0
  Within form = form_within (length kernel.signals) form ≡ true

  one_below : (y x : SigId) → y.0 < length kernel.signals → Contains (y ∷ []) x → x.0 < length kernel.signals
  one_below y x lt there = elim (contains_cons y x [] there) [ inl is ↦ subst (λ (z : SigId). z.0 < length kernel.signals) (sym is) lt | inr none ↦ absurd (contains_none x none) ]

  none_below : (x : SigId) → Contains [] x → x.0 < length kernel.signals
  none_below x there = absurd (contains_none x there)

  writes_below : (number : EqId) (form : Form) → Within form → All ReadsBelow (writes_of kernel.signals presence number form)
  unfolding Within
  writes_below number (Fun y op operands) within = only ReadsBelow _ (λ x there. signal_below (length kernel.signals) operands x (operands_below (length kernel.signals) (Fun y op operands) within) there)
  writes_below number (When y x b) within = only ReadsBelow _ (λ z there. one_below x z (first_below (length kernel.signals) x _ (operands_below (length kernel.signals) (When y x b) within)) there)
  writes_below number (Sync x y) within = All-nil ReadsBelow
  writes_below number (Default y u v) within =
      let operands = operands_below (length kernel.signals) (Default y u v) within in
      All-cons ReadsBelow (writing kernel.signals number Left (presence u) y (u ∷ [])) (writing kernel.signals number Right (without (presence v) (presence u)) y (v ∷ []) ∷ [])
      (λ x there. one_below u x (first_below (length kernel.signals) u _ operands) there)
      (only ReadsBelow _ (λ x there. one_below v x (second_below (length kernel.signals) u v operands) there))
  writes_below number _ within = only ReadsBelow _ none_below

  stores_below : (number : EqId) (form : Form) → Within form → All ReadsBelow (stores_of kernel.signals presence number form)
  unfolding Within
  stores_below number (Delay y x initial) within = only ReadsBelow _ (λ z there. one_below x z (first_below (length kernel.signals) x _ (operands_below (length kernel.signals) (Delay y x initial) within)) there)
  stores_below number _ within = All-nil ReadsBelow

  -- an operation's equation is one of the kernel
  abbrev HasEquation : Operation → Type 0
  HasEquation p = (e : EqId) → p.equation ≡ Some e → e.0 < length kernel.equations

  of_number : (number e : EqId) → number.0 < length kernel.equations → Some number ≡ Some e → e.0 < length kernel.equations
  of_number number e lt is = let same : number ≡ e = cc in subst (λ (n : EqId). n.0 < length kernel.equations) same lt

  writes_have : (number : EqId) (form : Form) → number.0 < length kernel.equations → All HasEquation (writes_of kernel.signals presence number form)
  writes_have number (Sync x y) lt = All-nil HasEquation
  writes_have number (Default y u v) lt =
      All-cons HasEquation (writing kernel.signals number Left (presence u) y (u ∷ [])) (writing kernel.signals number Right (without (presence v) (presence u)) y (v ∷ []) ∷ [])
      (λ e is. of_number number e lt is) (only HasEquation _ (λ e is. of_number number e lt is))
  writes_have number _ lt = only HasEquation _ (λ e is. of_number number e lt is)

  stores_have : (number : EqId) (form : Form) → number.0 < length kernel.equations → All HasEquation (stores_of kernel.signals presence number form)
  stores_have number (Delay y x initial) lt = only HasEquation _ (λ e is. of_number number e lt is)
  stores_have number _ lt = All-nil HasEquation

  pub all_reads : IsValid kernel → All ReadsBelow (operations_of kernel presence)
  unfolding Within
  all_reads valid = each_operation ReadsBelow kernel presence (λ number form. Within form) (λ k d lt. valid.equations.within k d lt) (λ number lt. none_below) writes_below stores_below

  pub all_equations : All HasEquation (operations_of kernel presence)
  all_equations = each_operation HasEquation kernel presence (λ number form. number.0 < length kernel.equations) (λ k d lt. lt) (λ number lt e is. cc) writes_have stores_have

module _ (kernel : Kernel) (valid : IsValid kernel) (conditions : List SigId) (operations : List Operation) (has : HasOperations kernel conditions operations) (number : ℕ) (p : Operation) (is : slice_get operations number ≡ Some p) where
  among : Contains (operations_of kernel has.presence) p
  among = subst (λ (ps : List Operation). Contains ps p) has.are (contains_at operations number p is)

  pub read_below : (x : SigId) → Contains p.reads x → x.0 < length kernel.signals
  read_below x there =
      All-contains (λ (q : Operation). (y : SigId) → Contains q.reads y → y.0 < length kernel.signals) (operations_of kernel has.presence) p (all_reads kernel has.presence valid) among x there

  pub written_below : (x : SigId) → Writes p x → x.0 < length kernel.signals
  written_below x writes =
      let owner = (operations_written kernel has.presence operations valid has.are).owner p x (number, is) writes in
      slice_get_within kernel.signals x.0 owner.0 owner.1

  pub equation_below : (e : EqId) → p.equation ≡ Some e → e.0 < length kernel.equations
  equation_below e there =
      All-contains (λ (q : Operation). (d : EqId) → q.equation ≡ Some d → d.0 < length kernel.equations) (operations_of kernel has.presence) p (all_equations kernel has.presence) among e there
