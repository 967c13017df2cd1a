-- Registers that hold what the operations write meet the equations of a kernel.
use Rattle.sig_meaning_laws.proofs.Common.{◌≡◌, ◌<◌, ◌+◌, ℕ, zero, suc, ℤ, pos, Bool, true, false, not, cond, ◌&&◌, List, [], ◌∷◌, length, map, get_or, refl, ap, sym, subst, ◌∙◌, arith, Contains, Option, None, Some, is_some, slice_get, unwrap_or, AllByRecursion, list_all, range_with_len, int_eq, and_parts, false≢true, length-map, Contains-append_left, Contains-append_right, get_or-map-range_with_len, length-map-range_with_len, Instant, IsOfKind, Seen, Unbounded, is_silent, seen_at, EqId, SigId, Signal, silent_at, truth_of_value, signal_id, IsAbstract, Reaction, Status, are_statuses, is_present, is_silent_reaction, is_status_of, is_with, meets, status_or_else, function_truth, has_truth, same_truth, status_at, where_present as status_where_present, where_true as status_where_true, constant_truth, truth_is, where_rows, truths_are_same, AreAbsent, HaveValues, IsFunction, IsReaction, Meets, Memory, function_of, or_else, defines_well, form_fits, kind_at, kind_fits, kind_is, kind_of, operand_is, target_fits, Truth, IsValid, form_within, is_below, operand_within, Equation, Form, Fun, Delay, When, WhenConst, Default, Sync, Event as EventOf, FunOp, Operand, Sig, Const, Kernel, IsNext, Registers, value_in, operand_in, Operation, Presence, equation_id, of_each, operations_of, read_of, signals_of, stores_of, without, writes_of, writing, Writes, Compute, DelayRead, Left, Right, first_below, operands_below, second_below, target_below, contains_head, contains_later}
use Rattle.sig_kernel.specs.KernelTraces.{where_present, where_true}
use Rattle.sig_meaning_laws.proofs.Results.{given}
use Rattle.sig_meaning_laws.proofs.Steps.{AreKnown, instant_of, of_kinds, seen_of}
use Rattle.sig_meaning_laws.proofs.Truths.{no_status, operands_counted, sampled, statuses_equal}
use Rattle.sig_meaning_laws.proofs.Values.{computed, form_for, has_form, kept_in, none_where, value, where_some}

-- what holds at each index
pub from_index : (Q : Equation → Type 0) (equations : List Equation) → ((k : ℕ) (d : Equation) → k < length equations → Q (get_or equations k d)) → AllByRecursion Q equations
from_index Q [] each = tt
from_index Q (equation ∷ equations) each = (each 0 equation (omega arith), from_index Q equations (λ k d lt. each (suc k) d (omega (arith, lt))))

-- what an equation makes is among the operations
pub among_each : (make : EqId → Form → List Operation) (n : ℕ) (equations : List Equation) (k : ℕ) (d : Equation) (p : Operation) → k < length equations
    → Contains (make (equation_id (n + k)) (get_or equations k d).form) p → Contains (of_each make n equations) p
among_each make n [] k d p lt there = absurd (omega (arith, lt))
among_each make n (equation ∷ equations) zero d p lt there =
    let here : n + 0 ≡ n = omega arith in
    Contains-append_left (make (equation_id n) equation.form) (of_each make (n + 1) equations) p (subst (λ m. Contains (make (equation_id m) equation.form) p) here there)
among_each make n (equation ∷ equations) (suc k) d p lt there =
    let next : n + suc k ≡ n + 1 + k = omega arith in
    Contains-append_right (make (equation_id n) equation.form) (of_each make (n + 1) equations) p
    (among_each make (n + 1) equations k d p (omega (arith, lt)) (subst (λ m. Contains (make (equation_id m) (get_or equations k d).form) p) next there))

-- a reaction that has no signal is silent
all_silent : (signals : List Signal) (a : Reaction) → are_statuses signals a ≡ true → ((x : ℕ) → x < length signals → is_present a x ≡ false) → is_silent_reaction a ≡ true
all_silent [] [] are none = refl
all_silent [] (s ∷ a) are none = absurd (false≢true are)
all_silent (signal ∷ signals) [] are none = refl
all_silent (signal ∷ signals) (None ∷ a) are none = all_silent signals a (and_parts (is_status_of signal.kind None) (are_statuses signals a) are).1 (λ x lt. none (suc x) (omega (arith, lt)))
all_silent (signal ∷ signals) (Some t ∷ a) are none = absurd (false≢true (sym (none 0 (omega arith))))

module _ (kernel : Kernel) (valid : IsValid kernel) (memory : Memory) (next : ℕ → ℤ) (presence : Presence) (a : Reaction) (is : IsAbstract kernel a) (proposal : List Bool)
    (there_at : (x : SigId) → x.0 < length kernel.signals → is_present a x.0 ≡ presence x proposal) (final : Registers) (known : AreKnown kernel a final)
    (present : (x : SigId) → x.0 < length kernel.signals → is_some (final x.0) ≡ is_present a x.0)
    (written : (p : Operation) → Contains (operations_of kernel presence) p → p.guard proposal ≡ true → (y : SigId) → Writes p y → final y.0 ≡ Some (value kernel memory next final p)) where
  abbrev now : Instant
  now = instant_of (length kernel.signals) final

  seen : (x : SigId) → x.0 < length kernel.signals → seen_at now x.0 ≡ final x.0
  seen x lt = seen_of (length kernel.signals) final x.0 lt

  absent : (x : SigId) → x.0 < length kernel.signals → status_at a x.0 ≡ None → final x.0 ≡ None
  absent x lt none = none_where (final x.0) (present x lt ∙ ap is_some none)

  held : (x : SigId) → x.0 < length kernel.signals → (t : Bool) → status_at a x.0 ≡ Some t → (v : ℤ) × (final x.0 ≡ Some v)
  held x lt t some = where_some (final x.0) (present x lt ∙ ap is_some some)

  hold : (x : SigId) (v : ℤ) → final x.0 ≡ Some v → value_in final x ≡ v
  hold x v is = ap (λ (s : Seen). unwrap_or s (pos 0)) is

  -- the value of a truth
  truth_held : (b : SigId) (t : Bool) (w : ℤ) → operand_is kernel.signals (Sig b) Truth ≡ true → status_at a b.0 ≡ Some t → final b.0 ≡ Some w → int_eq w (pos 1) ≡ t
  truth_held b t w fits status at = by (slice_get kernel.signals b.0) refl where
    by : (owner : Option Signal) → slice_get kernel.signals b.0 ≡ owner → int_eq w (pos 1) ≡ t
    by None none = absurd (false≢true (sym (ap (λ o. kind_fits Truth (kind_of o)) none) ∙ fits))
    by (Some signal) own =
        let fit : kind_is Truth signal.kind ≡ true = sym (ap (λ o. kind_fits Truth (kind_of o)) own) ∙ fits in
        let knows = known b.0 signal own w at in
        let same : truth_of_value signal.kind w ≡ t = (let e : Some (truth_of_value signal.kind w) ≡ Some t = sym knows.1 ∙ status in cc) in
        sym (truth_is Unbounded signal.kind w fit knows.0) ∙ same

  record Equated (number : EqId) (form : Form) : Type 0 where
    has : form_for kernel (Some number) ≡ Some form
    within : form_within (length kernel.signals) form ≡ true
    fits : form_fits kernel.signals form ≡ true
    met : meets kernel.signals a form ≡ true
    among : (p : Operation) → Contains (writes_of kernel.signals presence number form) p → Contains (operations_of kernel presence) p

  of_target : (y : SigId) (form : Form) → target_fits kernel.signals (kind_at kernel.signals y) form ≡ true → (signal : Signal) × (slice_get kernel.signals y.0 ≡ Some signal) × (defines_well kernel.signals signal.kind form ≡ true)
  of_target y form fits = by (slice_get kernel.signals y.0) refl where
    by : (owner : Option Signal) → slice_get kernel.signals y.0 ≡ owner → (signal : Signal) × (slice_get kernel.signals y.0 ≡ Some signal) × (defines_well kernel.signals signal.kind form ≡ true)
    by None none = absurd (false≢true (sym (ap (λ o. target_fits kernel.signals (kind_of o) form) none) ∙ fits))
    by (Some signal) own = (signal, own, sym (ap (λ o. target_fits kernel.signals (kind_of o) form) own) ∙ fits)

  -- what is computed where a signal is there
  compute : (number : EqId) (form : Form) (y : SigId) (reads : List SigId) → Equated number form → y.0 < length kernel.signals
      → Contains (writes_of kernel.signals presence number form) (writing kernel.signals number Compute (presence y) y reads) → is_present a y.0 ≡ true → final y.0 ≡ Some (computed final (Some form))
  compute number form y reads e lt there some =
      written (writing kernel.signals number Compute (presence y) y reads) (e.among (writing kernel.signals number Compute (presence y) y reads) there) (sym (there_at y lt) ∙ some) y refl
      ∙ ap (λ f. Some (computed final f)) e.has

  -- ---- functions

  all_absent : (operands : List Operand) → list_all (operand_within (length kernel.signals)) operands ≡ true → list_all (is_with a false) operands ≡ true → AreAbsent now operands
  all_absent [] within none = tt
  all_absent (Sig x ∷ operands) within none =
      let lt = first_below (length kernel.signals) x (list_all (operand_within (length kernel.signals)) operands) within in
      let parts = and_parts (same_truth false (is_present a x.0)) (list_all (is_with a false) operands) none in (
        seen x lt ∙ absent x lt (no_status (status_at a x.0) (sym (truths_are_same false (is_present a x.0) parts.0))),
        all_absent operands (and_parts (is_below (length kernel.signals) x) (list_all (operand_within (length kernel.signals)) operands) within).1 parts.1,
      )
  all_absent (Const c ∷ operands) within none = all_absent operands within none

  all_present : (operands : List Operand) → list_all (operand_within (length kernel.signals)) operands ≡ true → list_all (is_with a true) operands ≡ true
      → HaveValues now operands (map (operand_in final) operands)
  all_present [] within some = tt
  all_present (Sig x ∷ operands) within some =
      let lt = first_below (length kernel.signals) x (list_all (operand_within (length kernel.signals)) operands) within in
      let parts = and_parts (same_truth true (is_present a x.0)) (list_all (is_with a true) operands) some in
      let found = where_some (final x.0) (present x lt ∙ sym (truths_are_same true (is_present a x.0) parts.0)) in (
        seen x lt ∙ found.1 ∙ ap Some (sym (hold x found.0 found.1)),
        all_present operands (and_parts (is_below (length kernel.signals) x) (list_all (operand_within (length kernel.signals)) operands) within).1 parts.1,
      )
  all_present (Const c ∷ operands) within some = (refl, all_present operands within some)

  function_met : (number : EqId) (y : SigId) (op : FunOp) (operands : List Operand) → Equated number (Fun y op operands) → IsFunction Unbounded (function_of op) now operands (seen_at now y.0)
  function_met number y op operands e = by (is_present a y.0) refl where
    lt : y.0 < length kernel.signals
    lt = target_below (length kernel.signals) (Fun y op operands) y e.within refl

    within : list_all (operand_within (length kernel.signals)) operands ≡ true
    within = operands_below (length kernel.signals) (Fun y op operands) e.within

    beside : list_all (is_with a (is_present a y.0)) operands ≡ true
    beside = (and_parts (list_all (is_with a (is_present a y.0)) operands) (has_truth (status_at a y.0) (function_truth kernel.signals a op operands)) e.met).0

    by : (b : Bool) → is_present a y.0 ≡ b → IsFunction Unbounded (function_of op) now operands (seen_at now y.0)
    by false none = subst (λ s. IsFunction Unbounded (function_of op) now operands s) (sym (seen y lt ∙ absent y lt (no_status (status_at a y.0) none)))
        (all_absent operands within (subst (λ b. list_all (is_with a b) operands ≡ true) none beside))
    by true some =
        let target = of_target y (Fun y op operands) e.fits in
        let it = compute number (Fun y op operands) y (signals_of operands) e lt (contains_head (writing kernel.signals number Compute (presence y) y (signals_of operands)) []) some in
        subst (λ s. IsFunction Unbounded (function_of op) now operands s) (sym (seen y lt ∙ it)) (
          map (operand_in final) operands,
          all_present operands within (subst (λ b. list_all (is_with a b) operands ≡ true) some beside),
          given (function_of op) (map (operand_in final) operands) (length-map operands (operand_in final) ∙ operands_counted kernel.signals target.0.kind op operands target.2),
        )

  -- ---- the other forms

  delay_met : (number : EqId) (y x : SigId) (initial : ℤ) → Equated number (Delay y x initial) → final y.0 ≡ where_present (final x.0) (memory y.0 x.0 initial)
  delay_met number y x initial e = by (is_present a x.0) refl where
    lt : y.0 < length kernel.signals
    lt = target_below (length kernel.signals) (Delay y x initial) y e.within refl

    lt_x : x.0 < length kernel.signals
    lt_x = first_below (length kernel.signals) x _ (operands_below (length kernel.signals) (Delay y x initial) e.within)

    together : is_present a y.0 ≡ is_present a x.0
    together = truths_are_same (is_present a y.0) (is_present a x.0) e.met

    by : (b : Bool) → is_present a x.0 ≡ b → final y.0 ≡ where_present (final x.0) (memory y.0 x.0 initial)
    by false none =
        absent y lt (no_status (status_at a y.0) (together ∙ none)) ∙ sym (ap (λ s. where_present s (memory y.0 x.0 initial)) (absent x lt_x (no_status (status_at a x.0) none)))
    by true some =
        let found = where_some (final x.0) (present x lt_x ∙ some) in
        written (writing kernel.signals number DelayRead (presence y) y []) (e.among (writing kernel.signals number DelayRead (presence y) y []) (contains_head (writing kernel.signals number DelayRead (presence y) y []) []))
        (sym (there_at y lt) ∙ (together ∙ some)) y refl
        ∙ ap (λ f. Some (kept_in memory f)) e.has ∙ sym (ap (λ s. where_present s (memory y.0 x.0 initial)) found.1)

  -- what is sampled
  where_met : (b : SigId) (x y : Seen) (s : Status) → b.0 < length kernel.signals → operand_is kernel.signals (Sig b) Truth ≡ true
      → ((t : Bool) → status_where_true (status_at a b.0) s ≡ Some t → y ≡ x) → (status_where_true (status_at a b.0) s ≡ None → y ≡ None) → (s ≡ None → x ≡ None) → y ≡ where_true (final b.0) x
  where_met b x y s lt fits some none stays = by (status_at a b.0) refl where
    sample : (w : ℤ) (t : Bool) → int_eq w (pos 1) ≡ t → where_true (Some w) x ≡ cond t x None
    sample w t e = ap (λ q. cond q x None) e

    by_true : status_at a b.0 ≡ Some true → (status : Status) → s ≡ status → y ≡ x
    by_true e (Some t) at = some t (ap (λ q. status_where_true q s) e ∙ at)
    by_true e None at = none (ap (λ q. status_where_true q s) e ∙ at) ∙ sym (stays at)

    by : (status : Status) → status_at a b.0 ≡ status → y ≡ where_true (final b.0) x
    by None e = none (ap (λ q. status_where_true q s) e) ∙ sym (ap (λ q. where_true q x) (absent b lt e))
    by (Some true) e =
        let found = held b lt true e in
        by_true e s refl ∙ sym (ap (λ q. where_true q x) found.1 ∙ sample found.0 true (truth_held b true found.0 fits e found.1))
    by (Some false) e =
        let found = held b lt false e in
        none (ap (λ q. status_where_true q s) e) ∙ sym (ap (λ q. where_true q x) found.1 ∙ sample found.0 false (truth_held b false found.0 fits e found.1))

  when_met : (number : EqId) (y x b : SigId) → Equated number (When y x b) → final y.0 ≡ where_true (final b.0) (final x.0)
  when_met number y x b e =
      let lt = target_below (length kernel.signals) (When y x b) y e.within refl in
      let operands = operands_below (length kernel.signals) (When y x b) e.within in
      let lt_x = first_below (length kernel.signals) x _ operands in
      let lt_b = second_below (length kernel.signals) x b operands in
      let target = of_target y (When y x b) e.fits in
      let rows = where_rows kernel.signals target.0.kind (Sig x) (Sig b) target.2 in
      let same = statuses_equal (status_at a y.0) (status_where_true (status_at a b.0) (status_at a x.0)) e.met in
      where_met b (final x.0) (final y.0) (status_at a x.0) lt_b rows.1
      (λ t some.
      let s = sampled (status_at a b.0) (status_at a x.0) t some in
      let found = held x lt_x t s.1 in
      compute number (When y x b) y (x ∷ []) e lt (contains_head (writing kernel.signals number Compute (presence y) y (x ∷ [])) []) (ap is_some (same ∙ some)) ∙ ap Some (hold x found.0 found.1) ∙ sym found.1)
      (λ none. absent y lt (same ∙ none)) (λ none. absent x lt_x none)

  constant_met : (number : EqId) (y b : SigId) (constant : ℤ) → Equated number (WhenConst y constant b) → final y.0 ≡ where_true (final b.0) (Some constant)
  constant_met number y b constant e =
      let lt = target_below (length kernel.signals) (WhenConst y constant b) y e.within refl in
      let operands = operands_below (length kernel.signals) (WhenConst y constant b) e.within in
      let lt_b = first_below (length kernel.signals) b _ operands in
      let target = of_target y (WhenConst y constant b) e.fits in
      let rows = where_rows kernel.signals target.0.kind (Const constant) (Sig b) target.2 in
      let same = statuses_equal (status_at a y.0) (status_where_true (status_at a b.0) (Some (constant_truth (kind_at kernel.signals y) constant))) e.met in
      where_met b (Some constant) (final y.0) (Some (constant_truth (kind_at kernel.signals y) constant)) lt_b rows.1
      (λ t some. compute number (WhenConst y constant b) y [] e lt (contains_head (writing kernel.signals number Compute (presence y) y []) []) (ap is_some (same ∙ some)))
      (λ none. absent y lt (same ∙ none)) (λ none. absurd (let f = none in cc))

  default_met : (number : EqId) (y u v : SigId) → Equated number (Default y u v) → final y.0 ≡ or_else (final u.0) (final v.0)
  default_met number y u v e = by (status_at a u.0) (status_at a v.0) refl refl where
    lt : y.0 < length kernel.signals
    lt = target_below (length kernel.signals) (Default y u v) y e.within refl

    lt_u : u.0 < length kernel.signals
    lt_u = first_below (length kernel.signals) u _ (operands_below (length kernel.signals) (Default y u v) e.within)

    lt_v : v.0 < length kernel.signals
    lt_v = second_below (length kernel.signals) u v (operands_below (length kernel.signals) (Default y u v) e.within)

    same : status_at a y.0 ≡ status_or_else (status_at a u.0) (status_at a v.0)
    same = statuses_equal (status_at a y.0) (status_or_else (status_at a u.0) (status_at a v.0)) e.met

    by : (one two : Status) → status_at a u.0 ≡ one → status_at a v.0 ≡ two → final y.0 ≡ or_else (final u.0) (final v.0)
    by (Some t) two e_u e_v =
        let found = held u lt_u t e_u in
        written (writing kernel.signals number Left (presence u) y (u ∷ [])) (e.among (writing kernel.signals number Left (presence u) y (u ∷ []))
        (contains_head (writing kernel.signals number Left (presence u) y (u ∷ [])) (writing kernel.signals number Right (without (presence v) (presence u)) y (v ∷ []) ∷ [])))
        (sym (there_at u lt_u) ∙ ap is_some e_u) y refl
        ∙ ap Some (hold u found.0 found.1) ∙ sym (ap (λ s. or_else s (final v.0)) found.1)
    by None (Some t) e_u e_v =
        let found = held v lt_v t e_v in
        written (writing kernel.signals number Right (without (presence v) (presence u)) y (v ∷ [])) (e.among (writing kernel.signals number Right (without (presence v) (presence u)) y (v ∷ []))
        (contains_later (writing kernel.signals number Left (presence u) y (u ∷ [])) (writing kernel.signals number Right (without (presence v) (presence u)) y (v ∷ [])) (writing kernel.signals number Right (without (presence v) (presence u)) y (v ∷ []) ∷ [])
        (contains_head (writing kernel.signals number Right (without (presence v) (presence u)) y (v ∷ [])) [])))
        (ap (λ b. b && not (presence u proposal)) (sym (there_at v lt_v) ∙ ap is_some e_v) ∙ ap not (sym (there_at u lt_u) ∙ ap is_some e_u)) y refl
        ∙ ap Some (hold v found.0 found.1) ∙ sym found.1 ∙ sym (ap (λ s. or_else s (final v.0)) (absent u lt_u e_u))
    by None None e_u e_v =
        absent y lt (same ∙ ap (λ s. status_or_else s (status_at a v.0)) e_u ∙ e_v) ∙ sym (absent v lt_v e_v) ∙ sym (ap (λ s. or_else s (final v.0)) (absent u lt_u e_u))

  event_met : (number : EqId) (y x : SigId) → Equated number (EventOf y x) → final y.0 ≡ where_present (final x.0) (pos 1)
  event_met number y x e = by (status_at a x.0) refl where
    lt : y.0 < length kernel.signals
    lt = target_below (length kernel.signals) (EventOf y x) y e.within refl

    lt_x : x.0 < length kernel.signals
    lt_x = first_below (length kernel.signals) x _ (operands_below (length kernel.signals) (EventOf y x) e.within)

    same : status_at a y.0 ≡ status_where_present (status_at a x.0) true
    same = statuses_equal (status_at a y.0) (status_where_present (status_at a x.0) true) e.met

    by : (status : Status) → status_at a x.0 ≡ status → final y.0 ≡ where_present (final x.0) (pos 1)
    by None none = absent y lt (same ∙ ap (λ s. status_where_present s true) none) ∙ sym (ap (λ s. where_present s (pos 1)) (absent x lt_x none))
    by (Some t) some =
        let found = held x lt_x t some in
        compute number (EventOf y x) y [] e lt (contains_head (writing kernel.signals number Compute (presence y) y []) []) (ap is_some (same ∙ ap (λ s. status_where_present s true) some))
        ∙ sym (ap (λ s. where_present s (pos 1)) found.1)

  form_met : (number : EqId) (form : Form) → Equated number form → Meets Unbounded memory now form
  form_met number (Fun y op operands) e = function_met number y op operands e
  form_met number (Delay y x initial) e =
      let lt = target_below (length kernel.signals) (Delay y x initial) y e.within refl in
      let lt_x = first_below (length kernel.signals) x _ (operands_below (length kernel.signals) (Delay y x initial) e.within) in
      seen y lt ∙ delay_met number y x initial e ∙ sym (ap (λ s. where_present s (memory y.0 x.0 initial)) (seen x lt_x))
  form_met number (When y x b) e =
      let lt = target_below (length kernel.signals) (When y x b) y e.within refl in
      let operands = operands_below (length kernel.signals) (When y x b) e.within in
      let lt_x = first_below (length kernel.signals) x _ operands in
      let lt_b = second_below (length kernel.signals) x b operands in
      seen y lt ∙ when_met number y x b e ∙ sym (ap (λ s. where_true s (final x.0)) (seen b lt_b)) ∙ sym (ap (λ s. where_true (seen_at now b.0) s) (seen x lt_x))
  form_met number (WhenConst y constant b) e =
      let lt = target_below (length kernel.signals) (WhenConst y constant b) y e.within refl in
      let lt_b = first_below (length kernel.signals) b _ (operands_below (length kernel.signals) (WhenConst y constant b) e.within) in
      seen y lt ∙ constant_met number y b constant e ∙ sym (ap (λ s. where_true s (Some constant)) (seen b lt_b))
  form_met number (Default y u v) e =
      let lt = target_below (length kernel.signals) (Default y u v) y e.within refl in
      let operands = operands_below (length kernel.signals) (Default y u v) e.within in
      let lt_u = first_below (length kernel.signals) u _ operands in
      let lt_v = second_below (length kernel.signals) u v operands in
      seen y lt ∙ default_met number y u v e ∙ sym (ap (λ s. or_else s (final v.0)) (seen u lt_u)) ∙ sym (ap (λ s. or_else (seen_at now u.0) s) (seen v lt_v))
  form_met number (Sync x y) e =
      let operands = operands_below (length kernel.signals) (Sync x y) e.within in
      let lt_x = first_below (length kernel.signals) x _ operands in
      let lt_y = second_below (length kernel.signals) x y operands in
      ap is_some (seen x lt_x) ∙ present x lt_x ∙ truths_are_same (is_present a x.0) (is_present a y.0) e.met ∙ sym (present y lt_y) ∙ sym (ap is_some (seen y lt_y))
  form_met number (EventOf y x) e =
      let lt = target_below (length kernel.signals) (EventOf y x) y e.within refl in
      let lt_x = first_below (length kernel.signals) x _ (operands_below (length kernel.signals) (EventOf y x) e.within) in
      seen y lt ∙ event_met number y x e ∙ sym (ap (λ s. where_present s (pos 1)) (seen x lt_x))

  equated : (k : ℕ) (d : Equation) → k < length kernel.equations → Equated (equation_id k) (get_or kernel.equations k d).form
  equated k d lt = record {
    has = has_form kernel k d lt;
    within = valid.equations.within k d lt;
    fits = valid.equations.fit k d lt;
    met = is.equations k d lt;
    among = λ p there.
        let same : k ≡ 0 + k = omega arith in
        Contains-append_left _ (of_each (stores_of kernel.signals presence) 0 kernel.equations) p
        (Contains-append_right (map (λ number. read_of kernel.signals presence (signal_id number)) (range_with_len 0 kernel.inputs)) (of_each (writes_of kernel.signals presence) 0 kernel.equations) p
        (among_each (writes_of kernel.signals presence) 0 kernel.equations k d p lt (subst (λ m. Contains (writes_of kernel.signals presence (equation_id m) (get_or kernel.equations k d).form) p) same there)));
  }

  is_instant : IsReaction Unbounded kernel memory now
  is_instant = record {
    kinds = of_kinds kernel.signals final (λ k signal own. by k signal own (final k) refl);
    equations = from_index (λ (equation : Equation). Meets Unbounded memory now equation.form) kernel.equations (λ k d lt. form_met (equation_id k) (get_or kernel.equations k d).form (equated k d lt));
  } where
    by : (k : ℕ) (signal : Signal) → slice_get kernel.signals k ≡ Some signal → (s : Seen) → final k ≡ s → IsOfKind Unbounded signal.kind (final k)
    by k signal own None e = subst (λ s. IsOfKind Unbounded signal.kind s) (sym e) tt
    by k signal own (Some v) e = subst (λ s. IsOfKind Unbounded signal.kind s) (sym e) (known k signal own v e).0

  speaks_now : is_silent_reaction a ≡ false → is_silent now ≡ false
  speaks_now some = by (is_silent now) refl where
    by : (b : Bool) → is_silent now ≡ b → is_silent now ≡ false
    by false e = e
    by true e = absurd (false≢true (sym some ∙ all_silent kernel.signals a is.kinds (λ x lt.
        sym (present (signal_id x) lt) ∙ ap is_some (sym (seen (signal_id x) lt) ∙ silent_at now x e))))

  pub next_instant : is_silent_reaction a ≡ false → IsNext kernel memory next now
  next_instant some = record {
    is = is_instant;
    speaks = speaks_now some;
    takes = λ input v lt at.
        let below : input < length kernel.signals = omega (arith, lt, valid.parts.interface, valid.parts.declared) in
        let it : final input ≡ Some v = sym (seen (signal_id input) below) ∙ at in
        let there : is_present a input ≡ true = sym (present (signal_id input) below) ∙ ap is_some it in
        let found : final input ≡ Some (next input) = written (read_of kernel.signals presence (signal_id input))
        (Contains-append_left _ (of_each (stores_of kernel.signals presence) 0 kernel.equations) (read_of kernel.signals presence (signal_id input))
        (Contains-append_left (map (λ number. read_of kernel.signals presence (signal_id number)) (range_with_len 0 kernel.inputs)) (of_each (writes_of kernel.signals presence) 0 kernel.equations) (read_of kernel.signals presence (signal_id input)) (
          input,
          omega (arith, lt, length-map-range_with_len (λ number. read_of kernel.signals presence (signal_id number)) 0 kernel.inputs),
          get_or-map-range_with_len (λ number. read_of kernel.signals presence (signal_id number)) 0 kernel.inputs input input (read_of kernel.signals presence (signal_id input)) lt (omega arith),
        )))
        (sym (there_at (signal_id input) below) ∙ there) (signal_id input) refl in
        let e : Some v ≡ Some (next input) = sym it ∙ found in cc;
  }
