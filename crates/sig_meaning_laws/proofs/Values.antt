-- The value that an operation writes, by what it reads.
use Rattle.sig_meaning_laws.proofs.Common.{◌≡◌, ◌<◌, ℕ, ℤ, pos, Bool, true, false, not, List, [], ◌∷◌, length, map, get_or, refl, ap, sym, subst, ◌∙◌, arith, Contains, All, Option, None, Some, is_some, slice_get, unwrap_or, int_eq, and_parts, All-cons, All-nil, Function, Instant, Seen, Unbounded, seen_at, EqId, SigId, signal_id, HaveValues, IsFunction, IsReaction, Meets, Memory, function_of, or_else, IsValid, form_within, Equation, Form, Fun, Delay, When, WhenConst, Default, Sync, Event, Operand, Sig, Const, Kernel, Registers, value_in, first_in, operand_in, result_of, Operation, Presence, equation_id, operations_of, signals_of, stores_of, without, writes_of, writing, Writes, OpKind, Read, Compute, Left, Right, DelayRead, Store, each_operation, first_below, only, operands_below, second_below, target_below, contains_at, contains_head, contains_later, slice_get-get_or, at_element, not_true}
use Rattle.sig_kernel.specs.KernelTraces.{where_present, where_true}
use Rattle.sig_meaning_laws.proofs.Results.{determined}

abbrev pub form_in : Option Equation → Option Form
form_in None = None
form_in (Some equation) = Some equation.form

-- the form of an operation's equation
abbrev pub form_for : Kernel → Option EqId → Option Form
form_for kernel None = None
form_for kernel (Some e) = form_in (slice_get kernel.equations e.0)

abbrev pub computed : Registers → Option Form → ℤ
computed registers (Some (Fun y op operands)) = result_of (function_of op) (map (operand_in registers) operands)
computed registers (Some (When y x b)) = value_in registers x
computed registers (Some (WhenConst y constant b)) = constant
computed registers (Some (Event y x)) = pos 1
computed registers _ = pos 0

abbrev pub kept_in : Memory → Option Form → ℤ
kept_in memory (Some (Delay y x initial)) = memory y.0 x.0 initial
kept_in memory _ = pos 0

abbrev pub value_by : Memory → (ℕ → ℤ) → Registers → List SigId → Option Form → OpKind → ℤ
value_by memory next registers reads form (Read x) = next x.0
value_by memory next registers reads form Compute = computed registers form
value_by memory next registers reads form DelayRead = kept_in memory form
value_by memory next registers reads form (Store e) = pos 0
value_by memory next registers reads form _ = first_in registers reads

-- the value that an operation writes
abbrev pub value : Kernel → Memory → (ℕ → ℤ) → Registers → Operation → ℤ
value kernel memory next registers p = value_by memory next registers p.reads (form_for kernel p.equation) p.kind

-- the form of the equation of a number
pub has_form : (kernel : Kernel) (k : ℕ) (d : Equation) → k < length kernel.equations → form_for kernel (Some (equation_id k)) ≡ Some (get_or kernel.equations k d).form
has_form kernel k d lt = ap form_in (slice_get-get_or kernel.equations k d lt)

-- ---- the value depends on what is read alone

pub same_operands : (r s : Registers) (operands : List Operand) → ((x : SigId) → Contains (signals_of operands) x → r x.0 ≡ s x.0) → map (operand_in r) operands ≡ map (operand_in s) operands
same_operands r s [] same = refl
same_operands r s (Sig x ∷ operands) same =
    let first : value_in r x ≡ value_in s x = ap (λ (seen : Seen). unwrap_or seen (pos 0)) (same x (contains_head x (signals_of operands))) in
    let rest : map (operand_in r) operands ≡ map (operand_in s) operands = same_operands r s operands (λ y there. same y (contains_later x y (signals_of operands) there)) in
    cc
same_operands r s (Const c ∷ operands) same = ap (λ list. c ∷ list) (same_operands r s operands same)

same_value_in : (r s : Registers) (x : SigId) → r x.0 ≡ s x.0 → value_in r x ≡ value_in s x
same_value_in r s x same = ap (λ (seen : Seen). unwrap_or seen (pos 0)) same

module _ (kernel : Kernel) (memory : Memory) (next : ℕ → ℤ) (presence : Presence) where
  abbrev DependsOnReads : Operation → Type 0
  DependsOnReads p = (r s : Registers) → ((x : SigId) → Contains p.reads x → r x.0 ≡ s x.0) → value kernel memory next r p ≡ value kernel memory next s p

  abbrev HasForm : EqId → Form → Type 0
  HasForm number form = form_for kernel (Some number) ≡ Some form

  by_form : (number : EqId) (form : Form) (r s : Registers) → HasForm number form → computed r (Some form) ≡ computed s (Some form)
      → computed r (form_for kernel (Some number)) ≡ computed s (form_for kernel (Some number))
  by_form number form r s is same = ap (computed r) is ∙ same ∙ sym (ap (computed s) is)

  writes_depend : (number : EqId) (form : Form) → HasForm number form → All DependsOnReads (writes_of kernel.signals presence number form)
  writes_depend number (Fun y op operands) is = only DependsOnReads _ (λ r s same. by_form number (Fun y op operands) r s is (ap (result_of (function_of op)) (same_operands r s operands same)))
  writes_depend number (When y x b) is = only DependsOnReads _ (λ r s same. by_form number (When y x b) r s is (same_value_in r s x (same x (contains_head x []))))
  writes_depend number (Delay y x initial) is = only DependsOnReads _ (λ r s same. refl)
  writes_depend number (Sync x y) is = All-nil DependsOnReads
  writes_depend number (Default y u v) is =
      All-cons DependsOnReads (writing kernel.signals number Left (presence u) y (u ∷ [])) (writing kernel.signals number Right (without (presence v) (presence u)) y (v ∷ []) ∷ [])
      (λ r s same. same_value_in r s u (same u (contains_head u [])))
      (only DependsOnReads _ (λ r s same. same_value_in r s v (same v (contains_head v []))))
  writes_depend number form is = only DependsOnReads _ (λ r s same. by_form number form r s is refl)

  stores_depend : (number : EqId) (form : Form) → HasForm number form → All DependsOnReads (stores_of kernel.signals presence number form)
  stores_depend number (Delay y x initial) is = only DependsOnReads _ (λ r s same. refl)
  stores_depend number _ is = All-nil DependsOnReads

  pub all_depend : All DependsOnReads (operations_of kernel presence)
  all_depend = each_operation DependsOnReads kernel presence HasForm (has_form kernel) (λ number lt r s same. refl) writes_depend stores_depend

-- ---- the value is what is seen

pub where_true_some : (b x : Seen) (v : ℤ) → where_true b x ≡ Some v → x ≡ Some v
where_true_some None x v is = absurd (let e = is in cc)
where_true_some (Some t) x v is = by (int_eq t (pos 1)) refl where
  by : (yes : Bool) → int_eq t (pos 1) ≡ yes → x ≡ Some v
  by true e = rw e at is
  by false e = absurd (let f : None ≡ Some v = rw e at is in cc)

pub where_present_some : (x : Seen) (w v : ℤ) → where_present x w ≡ Some v → w ≡ v
where_present_some None w v is = absurd (let e = is in cc)
where_present_some (Some u) w v is = cc

pub where_some : (x : Seen) → is_some x ≡ true → (v : ℤ) × (x ≡ Some v)
where_some None is = absurd (let e : false ≡ true = is in cc)
where_some (Some v) is = (v, refl)

pub none_where : (x : Seen) → is_some x ≡ false → x ≡ None
none_where None is = refl
none_where (Some v) is = absurd (let e : true ≡ false = is in cc)

pub have_map : (instant : Instant) (operands : List Operand) (values : List ℤ) → HaveValues instant operands values → values ≡ map (operand_in (seen_at instant)) operands
have_map instant [] [] have = refl
have_map instant (Sig x ∷ operands) (v ∷ values) have =
    let first : value_in (seen_at instant) x ≡ v = ap (λ (seen : Seen). unwrap_or seen (pos 0)) have.0 in
    let rest : values ≡ map (operand_in (seen_at instant)) operands = have_map instant operands values have.1 in
    cc
have_map instant (Const c ∷ operands) (v ∷ values) have =
    let first : c ≡ v = have.0 in
    let rest : values ≡ map (operand_in (seen_at instant)) operands = have_map instant operands values have.1 in
    cc
have_map instant _ _ have = absurd have

some_value_in : (instant : Instant) (x : SigId) (v : ℤ) → seen_at instant x.0 ≡ Some v → value_in (seen_at instant) x ≡ v
some_value_in instant x v is = ap (λ (seen : Seen). unwrap_or seen (pos 0)) is

module _ (kernel : Kernel) (memory : Memory) (next : ℕ → ℤ) (presence : Presence) (instant : Instant) (proposal : List Bool)
    (at : (x : SigId) → x.0 < length kernel.signals → is_some (seen_at instant x.0) ≡ presence x proposal) where
  abbrev IsSeen : Operation → Type 0
  IsSeen p = (y : SigId) → Writes p y → p.guard proposal ≡ true → seen_at instant y.0 ≡ Some (value kernel memory next (seen_at instant) p)

  abbrev IsMet : EqId → Form → Type 0
  IsMet number form = (form_for kernel (Some number) ≡ Some form) × (Meets Unbounded memory instant form) × (form_within (length kernel.signals) form ≡ true)

  -- what an operation computes
  of_computed : (number : EqId) (form : Form) (y z : SigId) (v : ℤ) → form_for kernel (Some number) ≡ Some form → Some y ≡ Some z → seen_at instant y.0 ≡ Some v
      → v ≡ computed (seen_at instant) (Some form) → seen_at instant z.0 ≡ Some (computed (seen_at instant) (form_for kernel (Some number)))
  of_computed number form y z v is target seen same =
      let one : y ≡ z = cc in
      subst (λ (u : SigId). seen_at instant u.0 ≡ Some (computed (seen_at instant) (form_for kernel (Some number)))) one (seen ∙ ap Some (same ∙ sym (ap (computed (seen_at instant)) is)))

  present : (y : SigId) → y.0 < length kernel.signals → presence y proposal ≡ true → (v : ℤ) × (seen_at instant y.0 ≡ Some v)
  present y lt done = where_some (seen_at instant y.0) (at y lt ∙ done)

  function_seen : (op : Function) (operands : List Operand) (seen : Seen) (v : ℤ) → seen ≡ Some v → IsFunction Unbounded op instant operands seen
      → v ≡ result_of op (map (operand_in (seen_at instant)) operands)
  function_seen op operands seen v is met =
      let given : IsFunction Unbounded op instant operands (Some v) = subst (λ s. IsFunction Unbounded op instant operands s) is met in
      determined op given.0 v given.2 ∙ ap (result_of op) (have_map instant operands given.0 given.1)

  writes_seen : (number : EqId) (form : Form) → IsMet number form → All IsSeen (writes_of kernel.signals presence number form)
  writes_seen number (Fun y op operands) (is, met, within) = only IsSeen _ (λ z target done.
      let there = present y (target_below (length kernel.signals) (Fun y op operands) y within refl) done in
      of_computed number (Fun y op operands) y z there.0 is target there.1 (function_seen (function_of op) operands (seen_at instant y.0) there.0 there.1 met))
  writes_seen number (When y x b) (is, met, within) = only IsSeen _ (λ z target done.
      let there = present y (target_below (length kernel.signals) (When y x b) y within refl) done in
      of_computed number (When y x b) y z there.0 is target there.1
      (sym (some_value_in instant x there.0 (where_true_some (seen_at instant b.0) (seen_at instant x.0) there.0 (sym met ∙ there.1)))))
  writes_seen number (WhenConst y constant b) (is, met, within) = only IsSeen _ (λ z target done.
      let there = present y (target_below (length kernel.signals) (WhenConst y constant b) y within refl) done in
      of_computed number (WhenConst y constant b) y z there.0 is target there.1
      (let e : Some constant ≡ Some there.0 = where_true_some (seen_at instant b.0) (Some constant) there.0 (sym met ∙ there.1) in cc))
  writes_seen number (Event y x) (is, met, within) = only IsSeen _ (λ z target done.
      let there = present y (target_below (length kernel.signals) (Event y x) y within refl) done in
      of_computed number (Event y x) y z there.0 is target there.1 (sym (where_present_some (seen_at instant x.0) (pos 1) there.0 (sym met ∙ there.1))))
  writes_seen number (Delay y x initial) (is, met, within) = only IsSeen _ (λ z target done.
      let there = present y (target_below (length kernel.signals) (Delay y x initial) y within refl) done in
      let one : y ≡ z = cc in
      subst (λ (u : SigId). seen_at instant u.0 ≡ Some (kept_in memory (form_for kernel (Some number)))) one
      (there.1 ∙ ap Some (sym (where_present_some (seen_at instant x.0) (memory y.0 x.0 initial) there.0 (sym met ∙ there.1)) ∙ sym (ap (kept_in memory) is))))
  writes_seen number (Sync x y) (is, met, within) = All-nil IsSeen
  writes_seen number (Default y u v) (is, met, within) =
      let operands = operands_below (length kernel.signals) (Default y u v) within in
      All-cons IsSeen (writing kernel.signals number Left (presence u) y (u ∷ [])) (writing kernel.signals number Right (without (presence v) (presence u)) y (v ∷ []) ∷ [])
      (λ z target done.
      let there = present u (first_below (length kernel.signals) u _ operands) done in
      let one : y ≡ z = cc in
      subst (λ (w : SigId). seen_at instant w.0 ≡ Some (value_in (seen_at instant) u)) one
      (met ∙ ap (λ s. or_else s (seen_at instant v.0)) there.1 ∙ ap Some (sym (some_value_in instant u there.0 there.1))))
      (only IsSeen _ (λ z target done.
      let parts = and_parts (presence v proposal) (not (presence u proposal)) done in
      let there = present v (second_below (length kernel.signals) u v operands) parts.0 in
      let absent : seen_at instant u.0 ≡ None = none_where (seen_at instant u.0) (at u (first_below (length kernel.signals) u _ operands) ∙ not_true (presence u proposal) parts.1) in
      let one : y ≡ z = cc in
      subst (λ (w : SigId). seen_at instant w.0 ≡ Some (value_in (seen_at instant) v)) one
      (met ∙ ap (λ s. or_else s (seen_at instant v.0)) absent ∙ there.1 ∙ ap Some (sym (some_value_in instant v there.0 there.1)))))

  stores_seen : (number : EqId) (form : Form) → IsMet number form → All IsSeen (stores_of kernel.signals presence number form)
  stores_seen number (Delay y x initial) is = only IsSeen _ (λ z target done. absurd (let e : None ≡ Some z = target in cc))
  stores_seen number _ is = All-nil IsSeen

  -- an operation that is done writes what is seen
  pub all_seen : IsValid kernel → IsReaction Unbounded kernel memory instant → ((input : ℕ) (v : ℤ) → input < kernel.inputs → seen_at instant input ≡ Some v → v ≡ next input)
      → All IsSeen (operations_of kernel presence)
  all_seen valid is takes = each_operation IsSeen kernel presence IsMet
      (λ k d lt. (
        has_form kernel k d lt,
        at_element (λ (equation : Equation). Meets Unbounded memory instant equation.form) kernel.equations (get_or kernel.equations k d)
            (contains_at kernel.equations k (get_or kernel.equations k d) (slice_get-get_or kernel.equations k d lt)) is.equations,
        valid.equations.within k d lt,
      ))
      (λ number lt z target done.
      let there = present (signal_id number) (omega (arith, lt, valid.parts.interface, valid.parts.declared)) done in
      let e : Some (signal_id number) ≡ Some z = target in
      let one : signal_id number ≡ z = cc in
      subst (λ (u : SigId). seen_at instant u.0 ≡ Some (next number)) one (there.1 ∙ ap Some (takes number there.0 lt there.1)))
      writes_seen stores_seen
