-- What the operation at a place comes to in an actor, it comes to in a state of the image that has the same.
use Rattle.sig_shipped_laws.proofs.Common.{compiled_operations, compiled_order, ◌≡◌, ◌<◌, ◌+◌, inl, inr, ℕ, ℤ, Bool, true, false, List, [], ◌∷◌, length, map, drop, Option, None, Some, is_some, refl, sym, ap, subst, ◌∙◌, Contains, slice_get, if◌then◌else◌, pos, negsuc, slice_index, slice_index_or, slice_set, unwrap_or, option_and_then, length-map, EqId, SigId, Kind, Function, Quotient, Remainder, operand_count, Instant, Trace, seen_at, has_64_bits as fits_64, HaveValues, function_of, form_fits, kind_at, target_fits, target_of, AreFlowsFor, Equation, Form, Fun, When, WhenConst, Default, Event, FunOp, Operand, Sig, Const, Kernel, abstraction_of, test, Operation, operation_in, signals_of, IsAccepted, PlanView, Cause, Exhausted, Overflow, ZeroDivisor, Op, OpKind, Read, Compute, Left, Right, DelayRead, Store, read_present, read_below, written_below, Actor, truths_of, value_in, with_signal, Faults, Gives, computed_at, computed_by, computed_for, defined_by, first_in, memory_of, next_of, operand_in, operated, outcome, outcome_by, remembers, taken_by, divides_by_zero, result_of, compiled, Compiled, own_present, bounded_gives, equal, given, operands_counted, IsAmid, stepped, StandsAt, guard_known, here, reads_known, is_next, keeps, speaks, Computes, Does, Ends, HasZeroDivisor, State, written, memory_number, cause_in, span_at, span_of, contains_head, contains_later, at_each}
use Rattle.sig_model.specs.Results.{has_64_bits}
use Rattle.sig_file.specs.declared.images.ImageOpKind.TheVariants as does
use Rattle.sig_file.specs.declared.run.ImageCause.TheVariants as image
use Rattle.sig_shipped_laws.proofs.Cases.{Applies, Case, Fixes, IsCase, IsOf, Keeps, Lefts, Reading, Recalls, Rights, Samples, Ticks, does_in, place_in}
use Rattle.sig_shipped_laws.proofs.Lists.{left_at, none_left}
use Rattle.sig_shipped_laws.proofs.TrackedState.{Tracks, seen_there, takes_value, tracks_as, tracks_stored, tracks_taken, tracks_written, writes_memory, writes_register}

gives_same : (a v : ℤ) → Gives a ≡ Gives v → a ≡ v
gives_same a v e = cc

faults_same : (a b : Cause) → Faults a ≡ Faults b → a ≡ b
faults_same a b e = cc

gives_no_fault : (a : ℤ) (cause : Cause) → Gives a ≡ Faults cause → ⊥
gives_no_fault a cause e = cc

value_there : (o : Option ℤ) → is_some o ≡ true → o ≡ Some (unwrap_or o (pos 0))
value_there None e = absurd (let f : false ≡ true = e in cc)
value_there (Some v) e = refl

-- a number has 64 bits, as values of traces have and as results
one_width : (v : ℤ) → has_64_bits v ≡ fits_64 v
one_width (pos n) = refl
one_width (negsuc n) = refl

counted_by : (kernel : Kernel) (y : SigId) (op : FunOp) (operands : List Operand) (o : Option Kind) → target_fits kernel.signals o (Fun y op operands) ≡ true → length operands ≡ operand_count (function_of op)
counted_by kernel y op operands None fits = absurd (let f : false ≡ true = fits in cc)
counted_by kernel y op operands (Some kind) fits = operands_counted kernel.signals kind op operands fits

-- a divisor that is 0
zero_divisor : (function : Function) (values : List ℤ) → divides_by_zero function values ≡ true → HasZeroDivisor function values
zero_divisor Quotient (a ∷ divisor ∷ []) e = (equal divisor (pos 0)).yes e
zero_divisor Remainder (a ∷ divisor ∷ []) e = (equal divisor (pos 0)).yes e
zero_divisor _ _ e = absurd (let f : false ≡ true = e in cc)

module _ (plan : PlanView) (accepted : IsAccepted plan) (flows : List (List ℤ)) (fit : AreFlowsFor plan.kernel flows) (trace : Trace) (instant : Instant)
    (actor : Actor) (amid : IsAmid plan flows trace instant actor) (op : Op) (stands : StandsAt plan actor.step op)
    (on : test plan.store.nodes op.guard (truths_of plan.clocks.conditions actor.registers) ≡ true) (s : State) (tracks : Tracks plan.kernel flows actor s) where
  abbrev c : Compiled plan.kernel plan.clocks.conditions (compiled_operations plan) (compiled_order plan)
  c = compiled plan accepted

  abbrev q : Operation
  q = operation_in plan.store.nodes op

  place : (actor.step < length (compiled_order plan)) × (slice_get (compiled_operations plan) (slice_index (compiled_order plan) actor.step) ≡ Some q)
  place = here plan accepted flows fit trace instant actor amid op stands

  done : test plan.store.nodes op.guard (truths_of plan.clocks.conditions (seen_at instant)) ≡ true
  done = sym (guard_known plan accepted flows fit trace instant actor amid op stands) ∙ on

  there : (x : SigId) → Contains op.reads x → is_some (seen_at instant x.0) ≡ true
  there x reads =
      let is = is_next plan accepted flows fit trace instant amid.behind amid.next in
      sym (own_present plan.kernel plan.clocks.conditions (compiled_operations plan) (compiled_order plan) c _ _ instant is x.0)
      ∙ read_present plan.kernel accepted.valid plan.clocks.conditions (compiled_operations plan) c.has (truths_of plan.clocks.conditions (seen_at instant))
      (abstraction_of plan.kernel.signals instant) (speaks plan accepted flows fit trace instant amid.behind amid.next) (keeps plan accepted flows fit trace instant amid.behind amid.next)
      (slice_index (compiled_order plan) actor.step) q x place.1 reads done

  -- what is read is in its register
  has_read : (x : SigId) → Contains op.reads x → actor.registers x.0 ≡ Some (value_in actor.registers x)
  has_read x reads = value_there (actor.registers x.0) (ap is_some (reads_known plan accepted flows fit trace instant actor amid op stands done x reads) ∙ there x reads)

  pub seen_read : (x : SigId) → Contains op.reads x → seen_at s.registers x.0 ≡ Some (value_in actor.registers x)
  seen_read x reads =
      seen_there plan.kernel flows actor s tracks x.0 (read_below plan.kernel accepted.valid plan.clocks.conditions (compiled_operations plan) c.has (slice_index (compiled_order plan) actor.step) q place.1 x reads) ∙ has_read x reads

  written_there : (y : SigId) → op.writes ≡ Some y → y.0 < length plan.kernel.signals
  written_there y writes = written_below plan.kernel accepted.valid plan.clocks.conditions (compiled_operations plan) c.has (slice_index (compiled_order plan) actor.step) q place.1 y writes

  -- ---- a state behind the operation

  abbrev pub behind : ℤ → Actor
  behind v = stepped (operated plan.kernel op v actor)

  module _ (v : ℤ) where
    -- where a signal is written and nothing else
    behind_written : (y : SigId) → op.writes ≡ Some y → remembers plan.kernel op.kind ≡ None → ((x : ℕ) → taken_by op.kind actor.taken x ≡ actor.taken x) → Tracks plan.kernel flows (behind v) (written y v s)
    behind_written y writes none same =
        tracks_as plan.kernel flows (writes_register plan.kernel flows y.0 v actor) (stepped (operated plan.kernel op v actor)) (written y v s)
        (λ x. ap (λ (w : Option SigId). with_signal w (Some v) actor.registers x) writes)
        (λ x. ap (λ (w : Option SigId). with_signal w v actor.memories x) none)
        same
        (tracks_written plan.kernel flows actor s tracks y v (written_there y writes))

  kind_outcome : (kind : OpKind) → op.kind ≡ kind → outcome plan.kernel flows actor op ≡ outcome_by plan.kernel flows actor op kind
  kind_outcome kind is = ap (outcome_by plan.kernel flows actor op) is

  none_for : (kind : OpKind) → op.kind ≡ kind → remembers plan.kernel kind ≡ None → remembers plan.kernel op.kind ≡ None
  none_for kind is none = ap (remembers plan.kernel) is ∙ none

  taken_for : (kind : OpKind) → op.kind ≡ kind → ((x : ℕ) → taken_by kind actor.taken x ≡ actor.taken x) → (x : ℕ) → taken_by op.kind actor.taken x ≡ actor.taken x
  taken_for kind is same x = ap (λ (k : OpKind). taken_by k actor.taken x) is ∙ same x

  -- ---- operations of equations that compute

  module _ (e : EqId) (d : Equation) (form : Form) (y : SigId) (reads : List SigId) (is : IsOf plan.kernel q e d Compute form (Some y) reads) where
    computes : outcome plan.kernel flows actor op ≡ computed_by actor.registers e form
    computes =
        kind_outcome Compute is.kind_is
        ∙ ap (computed_for plan.kernel actor.registers) is.equation
        ∙ ap (computed_at actor.registers e) is.at
        ∙ ap (computed_by actor.registers e) is.form_is

    computed_behind : (v : ℤ) → Tracks plan.kernel flows (behind v) (written y v s)
    computed_behind v = behind_written v y is.writes_is (none_for Compute is.kind_is refl) (taken_for Compute is.kind_is (λ x. refl))

  read_first : (x : SigId) → op.reads ≡ x ∷ [] → Contains op.reads x
  read_first x is = subst (λ (l : List SigId). Contains l x) (sym is) (contains_head x [])

  -- ---- functions

  module _ (e : EqId) (d : Equation) (y : SigId) (function : FunOp) (operands : List Operand) (is : IsOf plan.kernel q e d Compute (Fun y function operands) (Some y) (signals_of operands)) where
    abbrev values : List ℤ
    values = map (operand_in actor.registers) operands

    have : (list : List Operand) → ((x : SigId) → Contains (signals_of list) x → Contains op.reads x) → HaveValues s.registers list (map (operand_in actor.registers) list)
    have [] each = tt
    have (Sig x ∷ list) each = (seen_read x (each x (contains_head x (signals_of list))), have list (λ z in_list. each z (contains_later x z (signals_of list) in_list)))
    have (Const k ∷ list) each = (refl, have list each)

    have_all : HaveValues s.registers operands values
    have_all = have operands (λ x in_list. subst (λ (l : List SigId). Contains l x) (sym is.reads_is) in_list)

    counted : length values ≡ operand_count (function_of function)
    counted =
        let fits = at_each (λ (one : Equation). form_fits plan.kernel.signals one.form) plan.kernel.equations accepted.valid.equations.fit e.0 d is.at in
        length-map operands (operand_in actor.registers)
        ∙ counted_by plan.kernel y function operands (kind_at plan.kernel.signals y) (subst (λ (f : Form). form_fits plan.kernel.signals f ≡ true) is.form_is fits)

    comes : (zeroed small : Bool) → divides_by_zero (function_of function) values ≡ zeroed → has_64_bits (result_of (function_of function) values) ≡ small
        → outcome plan.kernel flows actor op ≡ (if zeroed then Faults (ZeroDivisor e) else (if small then Gives (result_of (function_of function) values) else Faults (Overflow e)))
    comes zeroed small one two =
        computes e d (Fun y function operands) y (signals_of operands) is
        ∙ (λ j. if one j then Faults (ZeroDivisor e) else (if two j then Gives (result_of (function_of function) values) else Faults (Overflow e)))

    computed_so : divides_by_zero (function_of function) values ≡ false → Computes function operands s (result_of (function_of function) values)
    computed_so one = (values, have_all, bounded_gives (function_of function) values (result_of (function_of function) values) one (given (function_of function) values counted))

    pub applied : (v : ℤ) → outcome plan.kernel flows actor op ≡ Gives v → (t : State) × Does (does_in plan.kernel (Applies e d y function operands)) s t × Tracks plan.kernel flows (behind v) t
    applied v gives = by (divides_by_zero (function_of function) values) (has_64_bits (result_of (function_of function) values)) refl refl where
      by : (zeroed small : Bool) → divides_by_zero (function_of function) values ≡ zeroed → has_64_bits (result_of (function_of function) values) ≡ small
          → (t : State) × Does (does_in plan.kernel (Applies e d y function operands)) s t × Tracks plan.kernel flows (behind v) t
      by true small one two = absurd (gives_no_fault v (ZeroDivisor e) (sym gives ∙ comes true small one two))
      by false false one two = absurd (gives_no_fault v (Overflow e) (sym gives ∙ comes false false one two))
      by false true one two =
          let same : result_of (function_of function) values ≡ v = gives_same (result_of (function_of function) values) v (sym (comes false true one two) ∙ gives) in (
            written y v s,
            (v, subst (Computes function operands s) same (computed_so one), sym (one_width v) ∙ ap has_64_bits (sym same) ∙ two, refl),
            computed_behind e d (Fun y function operands) y (signals_of operands) is v,
          )

    pub applied_not : (cause : Cause) → outcome plan.kernel flows actor op ≡ Faults cause → Ends (does_in plan.kernel (Applies e d y function operands)) d.at s (cause_in plan.kernel cause)
    applied_not cause faults = by (divides_by_zero (function_of function) values) (has_64_bits (result_of (function_of function) values)) refl refl where
      spans : span_at plan.kernel e ≡ d.at
      spans = ap span_of is.at

      by : (zeroed small : Bool) → divides_by_zero (function_of function) values ≡ zeroed → has_64_bits (result_of (function_of function) values) ≡ small
          → Ends (does_in plan.kernel (Applies e d y function operands)) d.at s (cause_in plan.kernel cause)
      by true small one two =
          let same : ZeroDivisor e ≡ cause = faults_same (ZeroDivisor e) cause (sym (comes true small one two) ∙ faults) in
          inr (values, have_all, zero_divisor (function_of function) values one, ap (cause_in plan.kernel) (sym same) ∙ ap image.ZeroDivisor spans)
      by false false one two =
          let same : Overflow e ≡ cause = faults_same (Overflow e) cause (sym (comes false false one two) ∙ faults) in
          inl (result_of (function_of function) values, computed_so one, sym (one_width (result_of (function_of function) values)) ∙ two, ap (cause_in plan.kernel) (sym same) ∙ ap image.Overflow spans)
      by false true one two = absurd (gives_no_fault (result_of (function_of function) values) cause (sym (comes false true one two) ∙ faults))

  -- ---- what hands on a value

  module _ (e : EqId) (d : Equation) (kind : OpKind) (form : Form) (y x : SigId) (is : IsOf plan.kernel q e d kind form (Some y) (x ∷ [])) where
    -- an operation that gives what it reads first
    handed : outcome plan.kernel flows actor op ≡ Gives (value_in actor.registers x) → remembers plan.kernel op.kind ≡ None → ((z : ℕ) → taken_by op.kind actor.taken z ≡ actor.taken z)
        → (v : ℤ) → outcome plan.kernel flows actor op ≡ Gives v → (t : State) × Does (does.Copy y x) s t × Tracks plan.kernel flows (behind v) t
    handed gives none same v is_v =
        let value : value_in actor.registers x ≡ v = gives_same (value_in actor.registers x) v (sym gives ∙ is_v) in
        (written y v s, (v, seen_read x (read_first x is.reads_is) ∙ ap Some value, refl), behind_written v y is.writes_is none same)

    first_handed : Gives (first_in actor.registers op.reads) ≡ Gives (value_in actor.registers x)
    first_handed = ap (λ (l : List SigId). Gives (first_in actor.registers l)) is.reads_is

  -- ---- each operation

  -- where it has a value, the image does it too
  pub does_by : (case : Case) → IsCase plan.kernel q case → (v : ℤ) → outcome plan.kernel flows actor op ≡ Gives v → (t : State) × Does (does_in plan.kernel case) s t × Tracks plan.kernel flows (behind v) t
  does_by (Reading x) is v gives = by (slice_get (slice_index_or flows x.0 []) (actor.taken x.0)) refl where
    by : (o : Option ℤ) → slice_get (slice_index_or flows x.0 []) (actor.taken x.0) ≡ o → (t : State) × Does (does.Read x) s t × Tracks plan.kernel flows (behind v) t
    by None at = absurd (gives_no_fault v (Exhausted x) (sym gives ∙ kind_outcome (Read x) is.kind_is ∙ ap (next_of x) at))
    by (Some w) at =
        let value : w ≡ v = gives_same w v (sym (kind_outcome (Read x) is.kind_is ∙ ap (next_of x) at) ∙ gives) in
        let rest = drop (actor.taken x.0 + 1) (slice_index_or flows x.0 []) in
        let left = tracks.inputs x.0 is.input ∙ ap Some (left_at (slice_index_or flows x.0 []) (actor.taken x.0) v (at ∙ ap Some value)) in
        let middle = record s { flows = slice_set s.flows x.0 rest } in
        let taken = tracks_taken plan.kernel flows actor s tracks x is.input in (
          written x v middle,
          (v, rest, left, refl),
          tracks_as plan.kernel flows (writes_register plan.kernel flows x.0 v (takes_value plan.kernel flows x.0 actor)) (behind v) (written x v middle)
              (λ z. ap (λ (o : Option SigId). with_signal o (Some v) actor.registers z) is.writes_is)
              (λ z. ap (λ (k : OpKind). with_signal (remembers plan.kernel k) v actor.memories z) is.kind_is)
              (λ z. ap (λ (k : OpKind). taken_by k actor.taken z) is.kind_is)
              (tracks_written plan.kernel flows (takes_value plan.kernel flows x.0 actor) middle taken x v (written_there x is.writes_is)),
        )
  does_by (Applies e d y function operands) is v gives = applied e d y function operands is v gives
  does_by (Samples e d y x b) is v gives =
      handed e d Compute (When y x b) y x is (computes e d (When y x b) y (x ∷ []) is) (none_for Compute is.kind_is refl) (taken_for Compute is.kind_is (λ z. refl)) v gives
  does_by (Fixes e d y k b) is v gives =
      let value : k ≡ v = gives_same k v (sym (computes e d (WhenConst y k b) y [] is) ∙ gives) in
      (written y v s, ap (λ (w : ℤ). written y w s) (sym value), computed_behind e d (WhenConst y k b) y [] is v)
  does_by (Ticks e d y x) is v gives =
      let value : pos 1 ≡ v = gives_same (pos 1) v (sym (computes e d (Event y x) y [] is) ∙ gives) in
      (written y v s, ap (λ (w : ℤ). written y w s) (sym value), computed_behind e d (Event y x) y [] is v)
  does_by (Lefts e d y u w) is v gives =
      handed e d Left (Default y u w) y u is (kind_outcome Left is.kind_is ∙ first_handed e d Left (Default y u w) y u is) (none_for Left is.kind_is refl) (taken_for Left is.kind_is (λ z. refl)) v gives
  does_by (Rights e d y u w) is v gives =
      handed e d Right (Default y u w) y w is (kind_outcome Right is.kind_is ∙ first_handed e d Right (Default y u w) y w is) (none_for Right is.kind_is refl) (taken_for Right is.kind_is (λ z. refl)) v gives
  does_by (Recalls e d y x initial) is v gives =
      let gave : outcome plan.kernel flows actor op ≡ Gives (actor.memories y.0) = kind_outcome DelayRead is.kind_is ∙ ap (λ (o : Option SigId). Gives (memory_of actor o)) is.writes_is in
      let value : actor.memories y.0 ≡ v = gives_same (actor.memories y.0) v (sym gave ∙ gives) in
      (written y v s, (v, tracks.memories e d y x initial is.at is.form_is ∙ ap Some value, refl), behind_written v y is.writes_is (none_for DelayRead is.kind_is refl) (taken_for DelayRead is.kind_is (λ z. refl)))
  does_by (Keeps e d y x initial) is v gives =
      let gave : outcome plan.kernel flows actor op ≡ Gives (value_in actor.registers x) = kind_outcome (Store e) is.kind_is ∙ ap (λ (l : List SigId). Gives (first_in actor.registers l)) is.reads_is in
      let value : value_in actor.registers x ≡ v = gives_same (value_in actor.registers x) v (sym gave ∙ gives) in
      let defined : defined_by plan.kernel e ≡ Some y = ap (option_and_then (λ (one : Equation). target_of one.form)) is.at ∙ ap target_of is.form_is in
      let kept = record s { memories = slice_set s.memories (memory_number plan.kernel.equations e.0) v } in (
        kept,
        (v, seen_read x (read_first x is.reads_is) ∙ ap Some value, refl),
        tracks_as plan.kernel flows (writes_memory plan.kernel flows y.0 v actor) (behind v) kept
            (λ z. ap (λ (o : Option SigId). with_signal o (Some v) actor.registers z) is.writes_is)
            (λ z. ap (λ (k : OpKind). with_signal (remembers plan.kernel k) v actor.memories z) is.kind_is ∙ ap (λ (o : Option SigId). with_signal o v actor.memories z) defined)
            (taken_for (Store e) is.kind_is (λ z. refl))
            (tracks_stored plan.kernel flows accepted.valid e d y x initial is.at is.form_is actor s tracks v),
      )

  -- and where it has none, the image ends there too
  pub ends_by : (case : Case) → IsCase plan.kernel q case → (cause : Cause) → outcome plan.kernel flows actor op ≡ Faults cause → Ends (does_in plan.kernel case) (place_in plan.kernel case) s (cause_in plan.kernel cause)
  ends_by (Reading x) is cause faults = by (slice_get (slice_index_or flows x.0 []) (actor.taken x.0)) refl where
    by : (o : Option ℤ) → slice_get (slice_index_or flows x.0 []) (actor.taken x.0) ≡ o → Ends (does.Read x) (place_in plan.kernel (Reading x)) s (cause_in plan.kernel cause)
    by None at =
        let same : Exhausted x ≡ cause = faults_same (Exhausted x) cause (sym (kind_outcome (Read x) is.kind_is ∙ ap (next_of x) at) ∙ faults) in
        (tracks.inputs x.0 is.input ∙ ap Some (none_left (slice_index_or flows x.0 []) (actor.taken x.0) at), ap (cause_in plan.kernel) (sym same))
    by (Some w) at = absurd (gives_no_fault w cause (sym (kind_outcome (Read x) is.kind_is ∙ ap (next_of x) at) ∙ faults))
  ends_by (Applies e d y function operands) is cause faults = applied_not e d y function operands is cause faults
  ends_by (Samples e d y x b) is cause faults = absurd (gives_no_fault (value_in actor.registers x) cause (sym (computes e d (When y x b) y (x ∷ []) is) ∙ faults))
  ends_by (Fixes e d y k b) is cause faults = absurd (gives_no_fault k cause (sym (computes e d (WhenConst y k b) y [] is) ∙ faults))
  ends_by (Ticks e d y x) is cause faults = absurd (gives_no_fault (pos 1) cause (sym (computes e d (Event y x) y [] is) ∙ faults))
  ends_by (Lefts e d y u w) is cause faults = absurd (gives_no_fault (first_in actor.registers op.reads) cause (sym (kind_outcome Left is.kind_is) ∙ faults))
  ends_by (Rights e d y u w) is cause faults = absurd (gives_no_fault (first_in actor.registers op.reads) cause (sym (kind_outcome Right is.kind_is) ∙ faults))
  ends_by (Recalls e d y x initial) is cause faults = absurd (gives_no_fault (memory_of actor op.writes) cause (sym (kind_outcome DelayRead is.kind_is) ∙ faults))
  ends_by (Keeps e d y x initial) is cause faults = absurd (gives_no_fault (first_in actor.registers op.reads) cause (sym (kind_outcome (Store e) is.kind_is) ∙ faults))
