-- What each operation of a plan writes and reads.
use Rattle.sig_machine.proofs.Common.{◌≡◌, ◌<◌, ◌+◌, ◌⊎◌, ◌∙◌, inl, inr, ℕ, Bool, true, List, [], ◌∷◌, length, get_or, None, Some, refl, sym, ap, subst, Contains, All, slice_get, ltb-true, zero, suc, All-contains, EqId, SigId, IsValid, form_within, Equation, Form, Fun, Delay, When, WhenConst, Default, Sync, Event, Kernel, HasOperations, Operation, Presence, operation_in, operations_in, operations_of, store_of, stores_of, without, writes_of, writing, IsAccepted, PlanView, Op, OpKind, Read, Compute, Left, Right, DelayRead, Store, plan_operations, All-cons, All-nil, list_all, Node, and_parts, contains_at, get_at, is_below, operand_within, operands_of, signal_id, target_of, target_within, each_operation, only, read_below, written_below, defined_by, remembers, HasShape, IsTarget, taken_by_form}

module _ (kernel : Kernel) (presence : Presence) where
  -- an equation of this number has this form, which is within the kernel
  record IsEquation (number : EqId) (form : Form) : Type 0 where
    equation : Equation
    is : slice_get kernel.equations number.0 ≡ Some equation
    has : equation.form ≡ form
    within : form_within (length kernel.signals) form ≡ true

  record IsShaped (p : Operation) : Type 0 where
    target : ((x : SigId) × (p.writes ≡ Some x) × (remembers kernel p.kind ≡ None))
        ⊎ ((y : SigId) × (p.writes ≡ None) × (remembers kernel p.kind ≡ Some y) × (y.0 < length kernel.signals))
    reads : p.kind ≡ Compute → (e : EqId) → p.equation ≡ Some e → (equation : Equation) → slice_get kernel.equations e.0 ≡ Some equation
        → (x : SigId) → Contains (taken_by_form equation.form) x → Contains p.reads x
    input : (x : SigId) → p.kind ≡ Read x → x.0 < kernel.inputs

  computing : (number : EqId) (form : Form) (guard : List Bool → Bool) (y : SigId) → IsEquation number form → IsShaped (writing kernel.signals number Compute guard y (taken_by_form form))
  computing number form guard y q = record {
    target = inl (y, refl, refl);
    reads = λ kind e is equation at x there.
        let one : Some number ≡ Some e = is in
        let same : number ≡ e = cc in
        let both : Some q.equation ≡ Some equation = sym q.is ∙ ap (λ (n : EqId). slice_get kernel.equations n.0) same ∙ at in
        let forms : q.equation ≡ equation = cc in
        subst (λ f. Contains (taken_by_form f) x) (sym (ap (λ (d : Equation). d.form) forms) ∙ q.has) there;
    input = λ x kind. absurd (let f : Compute ≡ Read x = kind in cc);
  }

  other : (number : EqId) (kind : OpKind) (guard : List Bool → Bool) (y : SigId) (reads : List SigId) → remembers kernel kind ≡ None → (kind ≡ Compute → ⊥) → ((x : SigId) → kind ≡ Read x → ⊥)
      → IsShaped (writing kernel.signals number kind guard y reads)
  other number kind guard y reads none computes reading = record {
    target = inl (y, refl, none);
    reads = λ is e n equation at x there. absurd (computes is);
    input = λ x is. absurd (reading x is);
  }

  writes_shaped : (number : EqId) (form : Form) → IsEquation number form → All IsShaped (writes_of kernel.signals presence number form)
  writes_shaped number (Fun y op operands) q = only IsShaped _ (computing number (Fun y op operands) (presence y) y q)
  writes_shaped number (When y x b) q = only IsShaped _ (computing number (When y x b) (presence y) y q)
  writes_shaped number (WhenConst y k b) q = only IsShaped _ (computing number (WhenConst y k b) (presence y) y q)
  writes_shaped number (Event y x) q = only IsShaped _ (computing number (Event y x) (presence y) y q)
  writes_shaped number (Delay y x i) q =
      only IsShaped _ (other number DelayRead (presence y) y [] refl (λ is. let f : DelayRead ≡ Compute = is in cc) (λ x is. let f : DelayRead ≡ Read x = is in cc))
  writes_shaped number (Sync x y) q = All-nil IsShaped
  writes_shaped number (Default y u v) q =
      All-cons IsShaped (writing kernel.signals number Left (presence u) y (u ∷ [])) (writing kernel.signals number Right (without (presence v) (presence u)) y (v ∷ []) ∷ [])
      (other number Left (presence u) y (u ∷ []) refl (λ is. let f : Left ≡ Compute = is in cc) (λ x is. let f : Left ≡ Read x = is in cc))
      (only IsShaped _ (other number Right (without (presence v) (presence u)) y (v ∷ []) refl (λ is. let f : Right ≡ Compute = is in cc) (λ x is. let f : Right ≡ Read x = is in cc)))

  storing : (number : EqId) (y x : SigId) (i : _) → IsEquation number (Delay y x i) → IsShaped (store_of kernel.signals presence number y x)
  storing number y x i q =
      let defined : defined_by kernel number ≡ Some y = rw q.is (ap target_of q.has) in
      let parts = and_parts (target_within (length kernel.signals) (target_of (Delay y x i))) (list_all (operand_within (length kernel.signals)) (operands_of (Delay y x i))) q.within in
      let below : is_below (length kernel.signals) y ≡ true = parts.0 in
      record {
        target = inr (y, refl, defined, ltb-true y.0 (length kernel.signals) below);
        reads = λ kind e n equation at z there. absurd (let f : Store number ≡ Compute = kind in cc);
        input = λ z kind. absurd (let f : Store number ≡ Read z = kind in cc);
      }

  stores_shaped : (number : EqId) (form : Form) → IsEquation number form → All IsShaped (stores_of kernel.signals presence number form)
  stores_shaped number (Delay y x i) q = only IsShaped _ (storing number y x i q)
  stores_shaped number (Fun y op operands) q = All-nil IsShaped
  stores_shaped number (When y x b) q = All-nil IsShaped
  stores_shaped number (WhenConst y k b) q = All-nil IsShaped
  stores_shaped number (Default y u v) q = All-nil IsShaped
  stores_shaped number (Sync x y) q = All-nil IsShaped
  stores_shaped number (Event y x) q = All-nil IsShaped

  all_shaped : IsValid kernel → All IsShaped (operations_of kernel presence)
  all_shaped valid =
      each_operation IsShaped kernel presence IsEquation
      (λ k d lt. record { equation = get_or kernel.equations k d; is = get_at kernel.equations k d lt; has = refl; within = valid.equations.within k d lt })
      (λ number below. record {
        target = inl (signal_id number, refl, refl);
        reads = λ kind e n equation at x there. absurd (let f : Read (signal_id number) ≡ Compute = kind in cc);
        input = λ x kind. let f : Read (signal_id number) ≡ Read x = kind in let same : signal_id number ≡ x = cc in subst (λ (z : SigId). z.0 < kernel.inputs) same below;
      })
      writes_shaped stores_shaped

made_at : (nodes : List Node) (ops : List Op) (number : ℕ) (op : Op) → slice_get ops number ≡ Some op → slice_get (operations_in nodes ops) number ≡ Some (operation_in nodes op)
made_at nodes [] number op is = absurd (let e : None ≡ Some op = is in cc)
made_at nodes (o ∷ ops) zero op is = let e : Some o ≡ Some op = is in let one : o ≡ op = cc in ap (λ (z : Op). Some (operation_in nodes z)) one
made_at nodes (o ∷ ops) (suc number) op is = made_at nodes ops number op is

-- each operation of an accepted plan has its shape
module _ (plan : PlanView) (accepted : IsAccepted plan) (number : ℕ) (op : Op) (is : slice_get plan.ops number ≡ Some op) where
  abbrev operations : List Operation
  operations = operations_in plan.store.nodes plan.ops

  has : HasOperations plan.kernel plan.clocks.conditions operations
  has = plan_operations plan accepted

  abbrev p : Operation
  p = operation_in plan.store.nodes op

  at : slice_get operations number ≡ Some p
  at = made_at plan.store.nodes plan.ops number op is

  one : IsShaped plan.kernel has.presence p
  one = All-contains (IsShaped plan.kernel has.presence) (operations_of plan.kernel has.presence) p (all_shaped plan.kernel has.presence accepted.valid)
      (subst (λ (ps : List Operation). Contains ps p) has.are (contains_at operations number p at))

  target : (target : ℕ) × IsTarget plan.kernel op target
  target = by one.target where
    by : ((x : SigId) × (p.writes ≡ Some x) × (remembers plan.kernel p.kind ≡ None))
        ⊎ ((y : SigId) × (p.writes ≡ None) × (remembers plan.kernel p.kind ≡ Some y) × (y.0 < length plan.kernel.signals)) → (target : ℕ) × IsTarget plan.kernel op target
    by (inl (x, writes, none)) = (x.0, inl (x, writes, none, written_below plan.kernel accepted.valid plan.clocks.conditions operations has number p at x writes, refl))
    by (inr (y, writes, some, below)) = (length plan.kernel.signals + y.0, inr (y, writes, some, below, refl))

  pub shaped : HasShape plan.kernel op
  shaped = record {
    target = target;
    reads = one.reads;
    within = read_below plan.kernel accepted.valid plan.clocks.conditions operations has number p at;
    input = one.input;
  }
