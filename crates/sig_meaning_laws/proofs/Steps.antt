-- What an operation writes is of its signal's kind, and has the truth that an abstract reaction gives to the signal, where what
-- it reads is and has.
use Rattle.sig_meaning_laws.proofs.Common.{◌≡◌, ◌<◌, ◌≤◌, ◌+◌, inl, inr, ℕ, zero, suc, ℤ, pos, Bool, true, false, not, cond, ◌&&◌, ◌||◌, List, [], ◌∷◌, length, map, get_or, refl, ap, sym, subst, ◌∙◌, arith, Contains, All, Option, None, Some, is_some, slice_get, unwrap_or, ◌==◌, nat_lt, list_all, list_any, range_with_len, int_eq, and_parts, eqb-false, false≢true, lt-ltb, or-true, length-map, All-cons, All-contains, All-nil, get_or-map-range_with_len, Gives, AreOfKinds, Instant, IsOfKind, IsValue, Seen, Unbounded, seen_at, EqId, Kind, Integer, Boolean, SigId, Signal, Span, abstraction_of, status_of, truth_of_value, freed, frees, is_condition, is_free, is_number, signal_id, Reaction, Status, compares, constant_truth, function_truth, has_truth, is_boolean_kind, is_present, is_status_of, is_with, meets, operand_truth, same_truth, status_at, truth_function, truth_of_status, where_present, where_true, at as status_by_kind, function_met, handed_row, like, merged_rows, one_operand, sort_of, status_by, where_rows, truths_are_same, HaveValues, Memory, function_of, defines_well, form_fits, function_rows, keeps_to_one, kind_at, kind_fits, kind_is, kind_of, operand_is, operands_of, target_fits, IsValid, form_within, is_below, is_signal, operand_within, Form, Fun, Delay, When, WhenConst, Default, Sync, Event as EventOf, FunOp, Id, Operand, Sig, Const, Kernel, sampled_value, HasNextValues, RemembersValues, Registers, value_in, operand_in, result_of, Operation, Presence, operations_of, signals_of, stores_of, without, writes_of, writing, Writes, Left, Right, each_operation, first_below, only, operands_below, target_below, at_contained, contains_at, contains_head, contains_later, slice_get-get_or, slice_get_within, not_true, any_passes_from_place}
use Rattle.sig_base.specs.declared.ids.Kind.TheVariants.{Event}
use Rattle.sig_clock.specs.Reactions.{IsReaction, or_else}
use Rattle.sig_meaning_laws.proofs.References.{wide}
use Rattle.sig_meaning_laws.proofs.Results.{given}
use Rattle.sig_meaning_laws.proofs.Truths.{boolean_result, event_result, handed_value, no_status, operands_counted, plain, sampled, some_status, status_fits, statuses_equal, truth_told}
use Rattle.sig_meaning_laws.proofs.Values.{computed, form_for, has_form, kept_in, value, where_some}

-- ---- the instant of registers

abbrev pub instant_of : ℕ → Registers → Instant
instant_of count registers = map registers (range_with_len 0 count)

pub seen_of : (count : ℕ) (registers : Registers) (x : ℕ) → x < count → seen_at (instant_of count registers) x ≡ registers x
seen_of count registers x lt = get_or-map-range_with_len registers 0 count x x None lt (omega arith)

of_kinds_from : (signals : List Signal) (registers : Registers) (a : ℕ) → ((k : ℕ) (signal : Signal) → slice_get signals k ≡ Some signal → IsOfKind Unbounded signal.kind (registers (a + k)))
    → AreOfKinds Unbounded (map (λ (signal : Signal). signal.kind) signals) (map registers (range_with_len a (length signals)))
of_kinds_from [] registers a each = tt
of_kinds_from (s ∷ signals) registers a each =
    let here : a + 0 ≡ a = omega arith in (
      subst (λ k. IsOfKind Unbounded s.kind (registers k)) here (each 0 s refl),
      of_kinds_from signals registers (a + 1) (λ k signal is.
          let next : a + suc k ≡ a + 1 + k = omega arith in subst (λ n. IsOfKind Unbounded signal.kind (registers n)) next (each (suc k) signal is)),
    )

pub of_kinds : (signals : List Signal) (registers : Registers) → ((k : ℕ) (signal : Signal) → slice_get signals k ≡ Some signal → IsOfKind Unbounded signal.kind (registers k))
    → AreOfKinds Unbounded (map (λ (signal : Signal). signal.kind) signals) (instant_of (length signals) registers)
of_kinds signals registers each = of_kinds_from signals registers 0 (λ k signal is.
    let same : k ≡ 0 + k = omega arith in subst (λ n. IsOfKind Unbounded signal.kind (registers n)) same (each k signal is))

constant_is : (kind : Kind) (c : ℤ) → constant_truth (Some kind) c ≡ truth_of_value kind c
constant_is Integer c = refl
constant_is _ c = refl

one_value : (kind : Kind) → IsValue Unbounded kind (pos 1)
one_value Integer = tt
one_value Boolean = inr refl
one_value Event = refl

one_truth : (kind : Kind) → truth_of_value kind (pos 1) ≡ true
one_truth Integer = refl
one_truth _ = refl

present_truth : (s : Status) (t : Bool) → where_present s true ≡ Some t → t ≡ true
present_truth None t is = absurd (let e = is in cc)
present_truth (Some u) t is = cc

itself : (n : ℕ) → (n == n) ≡ true
itself n = by (n == n) refl where
  by : (b : Bool) → (n == n) ≡ b → (n == n) ≡ true
  by true e = e
  by false e = absurd (eqb-false n n e refl)

-- a boolean whose truth is free is a condition
pub freed_condition : (kernel : Kernel) (y : SigId) (form : Form) (at : Span) → Contains kernel.equations (record { form = form; at = at }) → freed kernel.signals form ≡ Some y
    → (signal : Signal) → slice_get kernel.signals y.0 ≡ Some signal → signal.kind ≡ Boolean → is_condition kernel y.0 ≡ true
freed_condition kernel y form at there free signal own boolean =
    let kind : is_boolean_kind (kind_of (slice_get kernel.signals y.0)) ≡ true = ap (λ o. is_boolean_kind (kind_of o)) own ∙ ap (λ k. is_boolean_kind (Some k)) boolean in
    let some : list_any (frees kernel.signals y.0) kernel.equations ≡ true =
    any_passes_from_place (frees kernel.signals y.0) kernel.equations there.0 (record { form = form; at = at }) (at_contained kernel.equations (record { form = form; at = at }) there) (ap (is_number y.0) free ∙ itself y.0) in
    ap (λ b. b && is_free kernel y.0) kind ∙ ap (λ b. nat_lt y.0 kernel.inputs || b) some ∙ or-true (nat_lt y.0 kernel.inputs)

pub input_condition : (kernel : Kernel) (number : ℕ) → number < kernel.inputs → (signal : Signal) → slice_get kernel.signals number ≡ Some signal → signal.kind ≡ Boolean → is_condition kernel number ≡ true
input_condition kernel number lt signal own boolean =
    let kind : is_boolean_kind (kind_of (slice_get kernel.signals number)) ≡ true = ap (λ o. is_boolean_kind (kind_of o)) own ∙ ap (λ k. is_boolean_kind (Some k)) boolean in
    ap (λ b. b && is_free kernel number) kind ∙ ap (λ b. b || list_any (frees kernel.signals number) kernel.equations) (lt-ltb number kernel.inputs lt)

-- what is known of registers: values of their kinds, with the truths of a reaction
abbrev pub AreKnown : Kernel → Reaction → Registers → Type 0
AreKnown kernel a registers = (x : ℕ) (signal : Signal) → slice_get kernel.signals x ≡ Some signal → (v : ℤ) → registers x ≡ Some v
    → IsValue Unbounded signal.kind v × (status_at a x ≡ Some (truth_of_value signal.kind v))

module _ (kernel : Kernel) (valid : IsValid kernel) (memory : Memory) (next : ℕ → ℤ) (memories : RemembersValues kernel memory) (nexts : HasNextValues kernel next)
    (presence : Presence) (a : Reaction) (is : IsReaction kernel a) (proposal : List Bool)
    (there_at : (x : SigId) → x.0 < length kernel.signals → is_present a x.0 ≡ presence x proposal) (registers : Registers) (known : AreKnown kernel a registers) where
  abbrev Fit : Kind → SigId → ℤ → Type 0
  Fit kind y v = IsValue Unbounded kind v × (is_condition kernel y.0 ≡ false → status_at a y.0 ≡ Some (truth_of_value kind v))

  abbrev IsFit : Operation → Type 0
  IsFit p = (z : SigId) → Writes p z → p.guard proposal ≡ true → (signal : Signal) → slice_get kernel.signals z.0 ≡ Some signal
      → ((x : SigId) → Contains p.reads x → is_some (registers x.0) ≡ true) → Fit signal.kind z (value kernel memory next registers p)

  record HasEquation (number : EqId) (form : Form) : Type 0 where
    has : form_for kernel (Some number) ≡ Some form
    within : form_within (length kernel.signals) form ≡ true
    fits : form_fits kernel.signals form ≡ true
    speaks : list_any is_signal (operands_of form) ≡ true
    met : meets kernel.signals a form ≡ true
    span : Span
    there : Contains kernel.equations (record { form = form; at = span })

  status_there : (y : SigId) → y.0 < length kernel.signals → presence y proposal ≡ true → (t : Bool) × (status_at a y.0 ≡ Some t)
  status_there y lt done = some_status (status_at a y.0) (there_at y lt ∙ done)

  target_form : (y : SigId) (form : Form) (signal : Signal) → target_fits kernel.signals (kind_at kernel.signals y) form ≡ true → slice_get kernel.signals y.0 ≡ Some signal
      → defines_well kernel.signals signal.kind form ≡ true
  target_form y form signal fits own = sym (ap (λ o. target_fits kernel.signals (kind_of o) form) own) ∙ fits

  handed : (x : SigId) (target : Kind) → operand_is kernel.signals (Sig x) (sort_of target) ≡ true → is_some (registers x.0) ≡ true
      → IsValue Unbounded target (value_in registers x) × (status_at a x.0 ≡ Some (truth_of_value target (value_in registers x)))
  handed x target fits some = by (slice_get kernel.signals x.0) refl (where_some (registers x.0) some) where
    by : (owner : Option Signal) → slice_get kernel.signals x.0 ≡ owner → (v : ℤ) × (registers x.0 ≡ Some v)
        → IsValue Unbounded target (value_in registers x) × (status_at a x.0 ≡ Some (truth_of_value target (value_in registers x)))
    by None none found = absurd (false≢true (sym (ap (λ o. kind_fits (sort_of target) (kind_of o)) none) ∙ fits))
    by (Some signal) own found =
        let fit : kind_is (sort_of target) signal.kind ≡ true = sym (ap (λ o. kind_fits (sort_of target) (kind_of o)) own) ∙ fits in
        let knows = known x.0 signal own found.0 found.1 in
        let same : status_of target (Some found.0) ≡ status_of signal.kind (Some found.0) = like Unbounded target signal.kind (Some found.0) fit knows.0 in
        let held : value_in registers x ≡ found.0 = ap (λ (seen : Seen). unwrap_or seen (pos 0)) found.1 in
        subst (λ v. IsValue Unbounded target v × (status_at a x.0 ≡ Some (truth_of_value target v))) (sym held) (handed_value target signal.kind found.0 fit knows.0, knows.1 ∙ sym same)

  finish : (number : EqId) (form : Form) (y z : SigId) (kind : Kind) → form_for kernel (Some number) ≡ Some form → Some y ≡ Some z → Fit kind y (computed registers (Some form))
      → Fit kind z (computed registers (form_for kernel (Some number)))
  finish number form y z kind has target fit =
      let one : y ≡ z = cc in
      subst (λ (u : SigId). Fit kind u (computed registers (form_for kernel (Some number)))) one (subst (λ f. Fit kind y (computed registers f)) (sym has) fit)

  own_signal : (y z : SigId) (signal : Signal) → Some y ≡ Some z → slice_get kernel.signals z.0 ≡ Some signal → slice_get kernel.signals y.0 ≡ Some signal
  own_signal y z signal target there = let one : y ≡ z = cc in subst (λ (u : SigId). slice_get kernel.signals u.0 ≡ Some signal) (sym one) there

  -- the status of a signal that is no condition, where its truth is known if it is a boolean
  plain_status : (y : SigId) (signal : Signal) (v : ℤ) (t : Bool) → slice_get kernel.signals y.0 ≡ Some signal → status_at a y.0 ≡ Some t → (signal.kind ≡ Boolean → t ≡ int_eq v (pos 1))
      → status_at a y.0 ≡ Some (truth_of_value signal.kind v)
  plain_status y signal v t own status boolean =
      let fits : is_status_of signal.kind (Some t) ≡ true = subst (λ s. is_status_of signal.kind s ≡ true) status (status_fits kernel.signals a y.0 signal is.kinds own) in
      status ∙ ap Some (plain signal.kind t v fits boolean)

  when_fit : (number : EqId) (y x b : SigId) (signal : Signal) → HasEquation number (When y x b) → slice_get kernel.signals y.0 ≡ Some signal → presence y proposal ≡ true
      → is_some (registers x.0) ≡ true → Fit signal.kind y (value_in registers x)
  when_fit number y x b signal e own done some =
      let rows = where_rows kernel.signals signal.kind (Sig x) (Sig b) (target_form y (When y x b) signal e.fits own) in
      let h = handed x signal.kind rows.0 some in (
        h.0,
        λ free.
            let t = status_there y (target_below (length kernel.signals) (When y x b) y e.within refl) done in
            let same = statuses_equal (status_at a y.0) (where_true (status_at a b.0) (status_at a x.0)) e.met in
            let s = sampled (status_at a b.0) (status_at a x.0) t.0 (sym same ∙ t.1) in
            t.1 ∙ sym s.1 ∙ h.1,
      )

  constant_fit : (number : EqId) (y b : SigId) (constant : ℤ) (signal : Signal) → HasEquation number (WhenConst y constant b) → slice_get kernel.signals y.0 ≡ Some signal → presence y proposal ≡ true
      → Fit signal.kind y constant
  constant_fit number y b constant signal e own done = (
    wide signal.kind constant (sampled_value kernel y b constant e.span signal.kind valid.equations e.there (ap kind_of own)),
    λ free.
        let t = status_there y (target_below (length kernel.signals) (WhenConst y constant b) y e.within refl) done in
        let same = statuses_equal (status_at a y.0) (where_true (status_at a b.0) (Some (constant_truth (kind_at kernel.signals y) constant))) e.met in
        let s = sampled (status_at a b.0) (Some (constant_truth (kind_at kernel.signals y) constant)) t.0 (sym same ∙ t.1) in
        t.1 ∙ sym s.1 ∙ ap (λ o. Some (constant_truth (kind_of o) constant)) own ∙ ap Some (constant_is signal.kind constant),
  )

  event_fit : (number : EqId) (y x : SigId) (signal : Signal) → HasEquation number (EventOf y x) → slice_get kernel.signals y.0 ≡ Some signal → presence y proposal ≡ true → Fit signal.kind y (pos 1)
  event_fit number y x signal e own done = (
    one_value signal.kind,
    λ free.
        let t = status_there y (target_below (length kernel.signals) (EventOf y x) y e.within refl) done in
        let same = statuses_equal (status_at a y.0) (where_present (status_at a x.0) true) e.met in
        t.1 ∙ ap Some (present_truth (status_at a x.0) t.0 (sym same ∙ t.1) ∙ sym (one_truth signal.kind)),
  )

  left_fit : (number : EqId) (y u v : SigId) (signal : Signal) → HasEquation number (Default y u v) → slice_get kernel.signals y.0 ≡ Some signal → presence u proposal ≡ true
      → is_some (registers u.0) ≡ true → Fit signal.kind y (value_in registers u)
  left_fit number y u v signal e own done some =
      let rows = merged_rows kernel.signals signal.kind (Sig u) (Sig v) (target_form y (Default y u v) signal e.fits own) in
      let h = handed u signal.kind rows.0 some in (
        h.0,
        λ free.
            let t = status_there u (first_below (length kernel.signals) u _ (operands_below (length kernel.signals) (Default y u v) e.within)) done in
            let same = statuses_equal (status_at a y.0) (or_else (status_at a u.0) (status_at a v.0)) e.met in
            same ∙ ap (λ s. or_else s (status_at a v.0)) t.1 ∙ sym t.1 ∙ h.1,
      )

  right_fit : (number : EqId) (y u v : SigId) (signal : Signal) → HasEquation number (Default y u v) → slice_get kernel.signals y.0 ≡ Some signal → without (presence v) (presence u) proposal ≡ true
      → is_some (registers v.0) ≡ true → Fit signal.kind y (value_in registers v)
  right_fit number y u v signal e own done some =
      let rows = merged_rows kernel.signals signal.kind (Sig u) (Sig v) (target_form y (Default y u v) signal e.fits own) in
      let h = handed v signal.kind rows.1 some in (
        h.0,
        λ free.
            let parts = and_parts (presence v proposal) (not (presence u proposal)) done in
            let none = no_status (status_at a u.0) (there_at u (first_below (length kernel.signals) u _ (operands_below (length kernel.signals) (Default y u v) e.within)) ∙ not_true (presence u proposal) parts.1) in
            let same = statuses_equal (status_at a y.0) (or_else (status_at a u.0) (status_at a v.0)) e.met in
            same ∙ ap (λ s. or_else s (status_at a v.0)) none ∙ h.1,
      )

  delay_fit : (number : EqId) (y x : SigId) (initial : ℤ) (signal : Signal) → HasEquation number (Delay y x initial) → slice_get kernel.signals y.0 ≡ Some signal → presence y proposal ≡ true
      → Fit signal.kind y (memory y.0 x.0 initial)
  delay_fit number y x initial signal e own done = (
    memories y x initial e.span signal.kind e.there (ap kind_of own),
    λ free.
        let t = status_there y (target_below (length kernel.signals) (Delay y x initial) y e.within refl) done in
        plain_status y signal (memory y.0 x.0 initial) t.0 own t.1 (λ boolean.
        absurd (false≢true (sym free ∙ freed_condition kernel y (Delay y x initial) e.span e.there refl signal own boolean))),
  )

  read_fit : (number : ℕ) (signal : Signal) → number < kernel.inputs → slice_get kernel.signals number ≡ Some signal → presence (signal_id number) proposal ≡ true → Fit signal.kind (signal_id number) (next number)
  read_fit number signal lt own done = (
    nexts number signal lt own,
    λ free.
        let t = status_there (signal_id number) (slice_get_within kernel.signals number signal own) done in
        plain_status (signal_id number) signal (next number) t.0 own t.1 (λ boolean. absurd (false≢true (sym free ∙ input_condition kernel number lt signal own boolean))),
  )

  -- ---- functions

  abbrev now : Instant
  now = instant_of (length kernel.signals) registers

  now_kinds : AreOfKinds Unbounded (map (λ (signal : Signal). signal.kind) kernel.signals) now
  now_kinds = of_kinds kernel.signals registers (λ k signal own. by k signal own (registers k) refl) where
    by : (k : ℕ) (signal : Signal) → slice_get kernel.signals k ≡ Some signal → (seen : Seen) → registers k ≡ seen → IsOfKind Unbounded signal.kind (registers k)
    by k signal own None e = subst (λ s. IsOfKind Unbounded signal.kind s) (sym e) tt
    by k signal own (Some v) e = subst (λ s. IsOfKind Unbounded signal.kind s) (sym e) (known k signal own v e).0

  abbrev AreThere : List Operand → Type 0
  AreThere operands = (x : SigId) → Contains (signals_of operands) x → is_some (registers x.0) ≡ true

  have_values : (operands : List Operand) → list_all (operand_within (length kernel.signals)) operands ≡ true → AreThere operands → HaveValues now operands (map (operand_in registers) operands)
  have_values [] within there = tt
  have_values (Sig x ∷ operands) within there =
      let parts = and_parts (is_below (length kernel.signals) x) (list_all (operand_within (length kernel.signals)) operands) within in
      let found = where_some (registers x.0) (there x (contains_head x (signals_of operands))) in
      let held : value_in registers x ≡ found.0 = ap (λ (seen : Seen). unwrap_or seen (pos 0)) found.1 in (
        seen_of (length kernel.signals) registers x.0 (first_below (length kernel.signals) x (list_all (operand_within (length kernel.signals)) operands) within) ∙ found.1 ∙ ap Some (sym held),
        have_values operands parts.1 (λ y among. there y (contains_later x y (signals_of operands) among)),
      )
  have_values (Const c ∷ operands) within there = (refl, have_values operands within there)

  same_truths : (operands : List Operand) → list_all (operand_within (length kernel.signals)) operands ≡ true → AreThere operands
      → map (operand_truth (abstraction_of kernel.signals now)) operands ≡ map (operand_truth a) operands
  same_truths [] within there = refl
  same_truths (Sig x ∷ operands) within there =
      let parts = and_parts (is_below (length kernel.signals) x) (list_all (operand_within (length kernel.signals)) operands) within in
      let lt = first_below (length kernel.signals) x (list_all (operand_within (length kernel.signals)) operands) within in
      let found = where_some (registers x.0) (there x (contains_head x (signals_of operands))) in
      let first : truth_of_status (status_at (abstraction_of kernel.signals now) x.0) ≡ truth_of_status (status_at a x.0) = ap truth_of_status (one x.0 lt found.0 found.1 (slice_get kernel.signals x.0) refl) in
      let rest : map (operand_truth (abstraction_of kernel.signals now)) operands ≡ map (operand_truth a) operands = same_truths operands parts.1 (λ y among. there y (contains_later x y (signals_of operands) among)) in
      cc where
        one : (k : ℕ) → k < length kernel.signals → (v : ℤ) → registers k ≡ Some v → (owner : Option Signal) → slice_get kernel.signals k ≡ owner → status_at (abstraction_of kernel.signals now) k ≡ status_at a k
        one k lt v held None none = absurd (omega (arith, lt, beyond kernel.signals k none)) where
          beyond : (signals : List Signal) (k : ℕ) → slice_get signals k ≡ None → length signals ≤ k
          beyond [] k e = omega arith
          beyond (s ∷ signals) zero e = absurd (let f = e in cc)
          beyond (s ∷ signals) (suc k) e = omega (arith, beyond signals k e)
        one k lt v held (Some signal) own =
            status_by_kind Unbounded kernel.signals now k now_kinds ∙ ap (λ o. status_by (kind_of o) (seen_at now k)) own
            ∙ ap (status_of signal.kind) (seen_of (length kernel.signals) registers k lt ∙ held) ∙ sym (known k signal own v held).1
  same_truths (Const c ∷ operands) within there = ap (λ list. int_eq c (pos 1) ∷ list) (same_truths operands within there)

  id_value : (kind : Kind) (operands : List Operand) → keeps_to_one kernel.signals kind operands (function_rows Id) ≡ true → list_any is_signal operands ≡ true → AreThere operands
      → IsValue Unbounded kind (result_of (function_of Id) (map (operand_in registers) operands))
  id_value kind operands well speaks there =
      let one = one_operand kernel.signals operands (sort_of kind) (handed_row kernel.signals kind operands well) in
      subst (λ (list : List Operand). IsValue Unbounded kind (result_of (function_of Id) (map (operand_in registers) list))) (sym one.1)
      (by one.0 one.2 (subst (λ (list : List Operand). list_any is_signal list ≡ true) one.1 speaks) (subst AreThere one.1 there)) where
        by : (operand : Operand) → operand_is kernel.signals operand (sort_of kind) ≡ true → list_any is_signal (operand ∷ []) ≡ true → AreThere (operand ∷ []) → IsValue Unbounded kind (operand_in registers operand)
        by (Sig x) fits speaks there = (handed x kind fits (there x (contains_head x []))).0
        by (Const c) fits speaks there = absurd (false≢true speaks)

  function_value : (kind : Kind) (op : FunOp) (operands : List Operand) → keeps_to_one kernel.signals kind operands (function_rows op) ≡ true → list_any is_signal operands ≡ true → AreThere operands
      → IsValue Unbounded kind (result_of (function_of op) (map (operand_in registers) operands))
  function_value Integer op operands well speaks there = tt
  function_value Boolean op operands well speaks there = elim (boolean_result kernel.signals op operands (map (operand_in registers) operands) well (length-map operands (operand_in registers))) [
    | inl id ↦ subst (λ (o : FunOp). IsValue Unbounded Boolean (result_of (function_of o) (map (operand_in registers) operands))) (sym id)
        (id_value Boolean operands (subst (λ (o : FunOp). keeps_to_one kernel.signals Boolean operands (function_rows o) ≡ true) id well) speaks there)
    | inr bit ↦ bit
  ]
  function_value Event op operands well speaks there =
      let id = event_result kernel.signals op operands well in
      subst (λ (o : FunOp). IsValue Unbounded Event (result_of (function_of o) (map (operand_in registers) operands))) (sym id)
      (id_value Event operands (subst (λ (o : FunOp). keeps_to_one kernel.signals Event operands (function_rows o) ≡ true) id well) speaks there)

  function_fit : (number : EqId) (y : SigId) (op : FunOp) (operands : List Operand) (signal : Signal) → HasEquation number (Fun y op operands) → slice_get kernel.signals y.0 ≡ Some signal
      → presence y proposal ≡ true → AreThere operands → Fit signal.kind y (result_of (function_of op) (map (operand_in registers) operands))
  function_fit number y op operands signal e own done there = (
    function_value signal.kind op operands well e.speaks there,
    λ free.
        plain_status y signal (result_of (function_of op) (map (operand_in registers) operands)) t.0 own t.1 (λ boolean. by free boolean (compares kernel.signals op operands) refl),
  ) where
    well : keeps_to_one kernel.signals signal.kind operands (function_rows op) ≡ true
    well = target_form y (Fun y op operands) signal e.fits own

    t : (t : Bool) × (status_at a y.0 ≡ Some t)
    t = status_there y (target_below (length kernel.signals) (Fun y op operands) y e.within refl) done

    within : list_all (operand_within (length kernel.signals)) operands ≡ true
    within = operands_below (length kernel.signals) (Fun y op operands) e.within

    by : is_condition kernel y.0 ≡ false → signal.kind ≡ Boolean → (b : Bool) → compares kernel.signals op operands ≡ b → t.0 ≡ int_eq (result_of (function_of op) (map (operand_in registers) operands)) (pos 1)
    by free boolean true compared =
        absurd (false≢true (sym free ∙ freed_condition kernel y (Fun y op operands) e.span e.there (ap (λ b. cond b (Some y) None) compared) signal own boolean))
    by free boolean false compared =
        let well_boolean : keeps_to_one kernel.signals Boolean operands (function_rows op) ≡ true = subst (λ (k : Kind). keeps_to_one kernel.signals k operands (function_rows op) ≡ true) boolean well in
        let told = truth_told kernel.signals op operands (map (operand_truth a) operands) well_boolean compared (length-map operands (operand_truth a)) in
        let of_a : function_truth kernel.signals a op operands ≡ Some told.0 = ap (λ b. cond b None (truth_function op (map (operand_truth a) operands))) compared ∙ told.1 in
        let of_now : function_truth kernel.signals (abstraction_of kernel.signals now) op operands ≡ Some told.0 =
        ap (λ b. cond b None (truth_function op (map (operand_truth (abstraction_of kernel.signals now)) operands))) compared ∙ ap (truth_function op) (same_truths operands within there) ∙ told.1 in
        let parts = and_parts (list_all (is_with a (is_present a y.0)) operands) (has_truth (status_at a y.0) (function_truth kernel.signals a op operands)) e.met in
        let one : same_truth t.0 told.0 ≡ true = sym (ap (λ f. has_truth (Some t.0) f) of_a) ∙ sym (ap (λ s. has_truth s (function_truth kernel.signals a op operands)) t.1) ∙ parts.1 in
        let gives : Gives Unbounded (function_of op) (map (operand_in registers) operands) (result_of (function_of op) (map (operand_in registers) operands)) =
        given (function_of op) (map (operand_in registers) operands) (length-map operands (operand_in registers) ∙ operands_counted kernel.signals Boolean op operands well_boolean) in
        let met = function_met Unbounded kernel.signals now Boolean op operands (map (operand_in registers) operands) (result_of (function_of op) (map (operand_in registers) operands)) now_kinds well_boolean e.speaks
        (have_values operands within there) gives in
        let two : same_truth (int_eq (result_of (function_of op) (map (operand_in registers) operands)) (pos 1)) told.0 ≡ true =
        sym (ap (λ f. has_truth (Some (int_eq (result_of (function_of op) (map (operand_in registers) operands)) (pos 1))) f) of_now) ∙ met in
        truths_are_same t.0 told.0 one ∙ sym (truths_are_same (int_eq (result_of (function_of op) (map (operand_in registers) operands)) (pos 1)) told.0 two)

  -- ---- each operation

  writes_fit : (number : EqId) (form : Form) → HasEquation number form → All IsFit (writes_of kernel.signals presence number form)
  writes_fit number (Fun y op operands) e = only IsFit _ (λ z target done signal there reads.
      finish number (Fun y op operands) y z signal.kind e.has target (function_fit number y op operands signal e (own_signal y z signal target there) done reads))
  writes_fit number (When y x b) e = only IsFit _ (λ z target done signal there reads.
      finish number (When y x b) y z signal.kind e.has target (when_fit number y x b signal e (own_signal y z signal target there) done (reads x (contains_head x []))))
  writes_fit number (WhenConst y constant b) e = only IsFit _ (λ z target done signal there reads.
      finish number (WhenConst y constant b) y z signal.kind e.has target (constant_fit number y b constant signal e (own_signal y z signal target there) done))
  writes_fit number (EventOf y x) e = only IsFit _ (λ z target done signal there reads.
      finish number (EventOf y x) y z signal.kind e.has target (event_fit number y x signal e (own_signal y z signal target there) done))
  writes_fit number (Delay y x initial) e = only IsFit _ (λ z target done signal there reads.
      let one : y ≡ z = cc in
      subst (λ (u : SigId). Fit signal.kind u (kept_in memory (form_for kernel (Some number)))) one
      (subst (λ f. Fit signal.kind y (kept_in memory f)) (sym e.has) (delay_fit number y x initial signal e (own_signal y z signal target there) done)))
  writes_fit number (Sync x y) e = All-nil IsFit
  writes_fit number (Default y u v) e =
      All-cons IsFit (writing kernel.signals number Left (presence u) y (u ∷ [])) (writing kernel.signals number Right (without (presence v) (presence u)) y (v ∷ []) ∷ [])
      (λ z target done signal there reads.
      let one : y ≡ z = cc in
      subst (λ (w : SigId). Fit signal.kind w (value_in registers u)) one (left_fit number y u v signal e (own_signal y z signal target there) done (reads u (contains_head u []))))
      (only IsFit _ (λ z target done signal there reads.
      let one : y ≡ z = cc in
      subst (λ (w : SigId). Fit signal.kind w (value_in registers v)) one (right_fit number y u v signal e (own_signal y z signal target there) done (reads v (contains_head v [])))))

  stores_fit : (number : EqId) (form : Form) → HasEquation number form → All IsFit (stores_of kernel.signals presence number form)
  stores_fit number (Delay y x initial) e = only IsFit _ (λ z target done signal there reads. absurd (let f : None ≡ Some z = target in cc))
  stores_fit number _ e = All-nil IsFit

  pub all_fit : All IsFit (operations_of kernel presence)
  all_fit = each_operation IsFit kernel presence HasEquation
      (λ k d lt. record {
        has = has_form kernel k d lt;
        within = valid.equations.within k d lt;
        fits = valid.equations.fit k d lt;
        speaks = valid.equations.speak k d lt;
        met = is.equations k d lt;
        span = (get_or kernel.equations k d).at;
        there = contains_at kernel.equations k (get_or kernel.equations k d) (slice_get-get_or kernel.equations k d lt);
      })
      (λ number lt z target done signal there reads.
      let e : Some (signal_id number) ≡ Some z = target in
      let one : signal_id number ≡ z = cc in
      subst (λ (w : SigId). Fit signal.kind w (next number)) one (read_fit number signal lt (own_signal (signal_id number) z signal e there) done))
      writes_fit stores_fit

  pub one_fit : (p : Operation) → Contains (operations_of kernel presence) p → (z : SigId) → Writes p z → p.guard proposal ≡ true → (signal : Signal) → slice_get kernel.signals z.0 ≡ Some signal
      → ((x : SigId) → Contains p.reads x → is_some (registers x.0) ≡ true)
      → IsValue Unbounded signal.kind (value kernel memory next registers p) × (is_condition kernel z.0 ≡ false → status_at a z.0 ≡ Some (truth_of_value signal.kind (value kernel memory next registers p)))
  one_fit p among = All-contains IsFit (operations_of kernel presence) p all_fit among
