-- The reference goes on within bounds, or has a first fault, which is the named cause.
use Rattle.sig_meaning_laws.proofs.Common.{◌≡◌, ◌<◌, ◌≤◌, ◌+◌, ◌++◌, ◌⊎◌, inl, inr, ℕ, zero, suc, ℤ, Bool, true, false, List, [], ◌∷◌, length, map, get_or, refl, ap, sym, subst, ◌∙◌, arith, Contains, None, Some, is_some, slice_get, slice_index, option_to_list, AllByRecursion, range_with_len, append-nil, length-append, length-map, get_or-map-range_with_len, length-map-range_with_len, Contains-append_left, Contains-append_right, AreOfKinds, Bounded, Instant, IsValue, Range, Seen, Trace, Unbounded, flow_of, has_64_bits, seen_at, Kind, SigId, Signal, prefix_length, abstraction_of, signal_id, Memory, function_of, remembered, inputs_of, Equation, Fun, Form, FunOp, Operand, Kernel, flow_values, IsWithinBounds, IsFaultAt, IsFirstFault, IsNext, truths_of, Computes, HasFault, IsPastEnd, MeetsFault, MeetsAt, IsReference, divides_by_zero, Operation, equation_id, of_each, operations_of, read_of, signals_of, stores_of, writes_of, writing, Writes, Cause, Exhausted, ZeroDivisor, Compute, read_earlier, at_contained, contains_at, contains_head, slice_get-get_or, got, some_at}
use Rattle.sig_meaning_laws.proofs.Agreement.{Compiled, own_keeps, own_present, own_speaks, own_written}
use Rattle.sig_meaning_laws.proofs.OrderedOperations.{place_of}
use Rattle.sig_meaning_laws.proofs.Numbers.{at_most_or}
use Rattle.sig_meaning_laws.proofs.Equations.{among_each}
use Rattle.sig_meaning_laws.proofs.FirstFaults.{decide_fault}
use Rattle.sig_meaning_laws.proofs.Flows.{flow_more, last_value, next_in}
use Rattle.sig_meaning_laws.proofs.Longest.{Decided, IsClean}
use Rattle.sig_meaning_laws.proofs.References.{Fitting, flow_count, reference_last, taken_at}
use Rattle.sig_meaning_laws.proofs.Small.{bounded_reaction, one_small, small_value}

-- a place of the order at which an operation meets a fault
pub meets_at : (operations : List Operation) (order : List ℕ) (k : ℕ) (q : Operation) (cause : Cause) → k < length order → slice_get operations (slice_index order k) ≡ Some q → MeetsFault q cause
    → MeetsAt operations order k cause
meets_at operations order k q cause lt at meets = record { number = slice_index order k; ordered = slice_get-get_or order k 0 lt; operation = q; is = at; meets = meets }

pub met_place : (operations : List Operation) (order : List ℕ) (k : ℕ) (cause : Cause) (m : MeetsAt operations order k cause) → (k < length order) × (slice_get operations (slice_index order k) ≡ Some m.operation)
met_place operations order k cause m =
    let there = got order k 0 m.number m.ordered in
    (there.0, ap (slice_get operations) there.1 ∙ m.is)

pub kinds_length : (range : Range) (kinds : List Kind) (t : Instant) → AreOfKinds range kinds t → length t ≡ length kinds
kinds_length range [] [] are = refl
kinds_length range (kind ∷ kinds) (s ∷ t) are = ap suc (kinds_length range kinds t are.1)
kinds_length range _ _ are = absurd are

-- a signal that is there has a number below the count
pub beyond_end : (signals : List Signal) (t : Instant) (x : ℕ) (w : ℤ) → length t ≡ length signals → seen_at t x ≡ Some w → x < length signals
beyond_end signals t x w same seen = elim (at_most_or (length t) x) [
  | inl le ↦ absurd (past t x le seen)
  | inr lt ↦ omega (arith, lt, same)
] where
  past : (t : Instant) (x : ℕ) → length t ≤ x → seen_at t x ≡ Some w → ⊥
  past [] x le seen = let e : None ≡ Some w = seen in cc
  past (s ∷ t) zero le seen = omega (arith, le)
  past (s ∷ t) (suc x) le seen = past t x (omega (arith, le)) seen

-- a value within a flow
flow_value : (P : ℤ → Type 0) (flow : List ℤ) (k : ℕ) (d : ℤ) → k < length flow → AllByRecursion P flow → P (get_or flow k d)
flow_value P [] k d lt all = absurd (omega (arith, lt))
flow_value P (v ∷ flow) zero d lt all = all.0
flow_value P (v ∷ flow) (suc k) d lt all = flow_value P flow k d (omega (arith, lt)) all.1

module _ (kernel : Kernel) (conditions : List SigId) (operations : List Operation) (order : List ℕ) (c : Compiled kernel conditions operations order) (flows : List (List ℤ)) (f : Fitting kernel flows)
    (trace : Trace) (clean : IsClean kernel flows (length trace) trace) (instant : Instant) (reference : IsReference kernel flows (suc (length trace)) (trace ++ instant ∷ [])) where
  abbrev pub memory : Memory
  memory = remembered trace

  abbrev pub next : ℕ → ℤ
  next = next_in kernel flows trace

  pub follows : IsNext kernel memory next instant
  follows = reference_last f (suc (length trace)) trace instant reference

  abbrev own : List Bool
  own = truths_of conditions (seen_at instant)

  pub own_presence : (x : SigId) → x.0 < length kernel.signals → is_some (seen_at instant x.0) ≡ c.has.presence x own
  own_presence x lt = sym (own_present kernel conditions operations order c memory next instant follows x.0)
      ∙ c.has.functions x.0 lt own (abstraction_of kernel.signals instant) (own_speaks kernel conditions operations order c memory next instant follows) (own_keeps kernel conditions operations order c memory next instant follows)

  among : (q : Operation) (number : ℕ) → slice_get operations number ≡ Some q → Contains (operations_of kernel c.has.presence) q
  among q number at = subst (λ (ps : List Operation). Contains ps q) c.has.are (contains_at operations number q at)

  places : length order ≡ length operations
  places = c.ordered.all

  abbrev Fault : ℕ → Cause → Type 0
  Fault k cause = IsFaultAt kernel operations order flows trace instant k cause

  abbrev NoneBefore : ℕ → Type 0
  NoneBefore k = (i : ℕ) (cause : Cause) → i < k → Fault i cause → ⊥

  abbrev First : Type 0
  First = (k : ℕ) × (cause : Cause) × IsFirstFault kernel operations order flows trace instant k cause

  -- the first fault, if there is one
  search : (n : ℕ) → n ≤ length operations → NoneBefore n ⊎ First
  search zero le = inl (λ i cause lt fault. omega (arith, lt))
  search (suc n) le = by (search n (omega (arith, le))) where
    q : (q : Operation) × (slice_get operations (slice_index order n) ≡ Some q)
    q = some_at operations (slice_index order n) (c.ordered.each n (omega (arith, le))).holds.within

    more : NoneBefore n → Decided ((cause : Cause) × MeetsFault q.0 cause × HasFault kernel flows trace instant cause) → NoneBefore (suc n) ⊎ First
    more none (inl found) = inr (
      n,
      found.0,
      record {
        is = record { met = meets_at operations order n q.0 found.0 (omega (arith, le, places)) q.1 found.1; fault = found.2 };
        first = λ other another fault. elim (at_most_or n other) [ inl le ↦ le | inr lt ↦ absurd (none other another lt fault) ];
      },
    )
    more none (inr fine) = inl (λ i cause lt fault. elim (at_most_or n i) [
      | inl at ↦
          let there = met_place operations order i cause fault.met in
          let same : i ≡ n = omega (arith, at, lt) in
          let one : Some q.0 ≡ Some fault.met.operation = sym q.1 ∙ ap (λ k. slice_get operations (slice_index order k)) (sym same) ∙ there.1 in
          let is_q : fault.met.operation ≡ q.0 = cc in
          fine (cause, subst (λ (p : Operation). MeetsFault p cause) is_q fault.met.meets, fault.fault)
      | inr before ↦ none i cause before fault
    ])

    by : NoneBefore n ⊎ First → NoneBefore (suc n) ⊎ First
    by (inl none) = more none (decide_fault kernel memory instant follows.is flows trace q.0)
    by (inr first) = inr first

  -- ---- where there is none

  read_small : (input : ℕ) (v : ℤ) → input < kernel.inputs → seen_at instant input ≡ Some v → (IsPastEnd flows trace instant (signal_id input) → ⊥) → has_64_bits v ≡ true
  read_small input v lt seen fine =
      let is_v : v ≡ next input = follows.takes input v lt seen in
      let longer : length (flow_of input (trace ++ instant ∷ [])) ≡ length (flow_of input trace) + 1 =
      ap length (flow_more input trace instant ∙ ap (λ s. flow_of input trace ++ option_to_list s) seen) ∙ length-append (flow_of input trace) (v ∷ []) in
      let within : length (flow_of input trace) < length (get_or flows input []) = elim (at_most_or (length (flow_of input (trace ++ instant ∷ []))) (length (get_or flows input []))) [
        | inl le ↦ omega (arith, le, longer)
        | inr past ↦ absurd (fine past)
      ] in
      let below : input < length kernel.signals = omega (arith, lt, c.valid.parts.interface, c.valid.parts.declared) in
      let s = some_at kernel.signals input below in
      let there = got (inputs_of kernel) input s.0 s.0 (taken_at kernel.signals kernel.inputs input s.0 lt s.1) in
      let values : AllByRecursion (IsValue Bounded s.0.kind) (get_or flows input []) =
      subst (λ (z : Signal). AllByRecursion (IsValue Bounded z.kind) (get_or flows input [])) there.1 (flow_values kernel flows f.fit input s.0 there.0) in
      ap has_64_bits is_v ∙ small_value s.0.kind (next input) (flow_value (IsValue Bounded s.0.kind) (get_or flows input []) (length (flow_of input trace)) (last_value kernel input) within values)

  abbrev SmallBefore : ℕ → Type 0
  SmallBefore k = (i : ℕ) → i < k → (q : Operation) → slice_get operations (slice_index order i) ≡ Some q → (y : SigId) → Writes q y → q.guard own ≡ true
      → (w : ℤ) → seen_at instant y.0 ≡ Some w → has_64_bits w ≡ true

  small_next : (k : ℕ) → k < length operations → ((cause : Cause) → Fault k cause → ⊥) → SmallBefore k → SmallBefore (suc k)
  small_next k lt none before i below q at y writes done w seen = by (at_most_or k i) where
    here : slice_get operations (slice_index order k) ≡ Some q → has_64_bits w ≡ true
    here at_k = one_small kernel c.valid flows trace clean.is instant follows.is c.has.presence own own_presence read_small q (among q (slice_index order k) at_k) y writes done
        (λ x reads v is.
        let e = read_earlier kernel c.valid conditions operations c.has order c.ordered k lt q at_k own done x reads in
        before e.0 e.2 e.1 e.3 x e.4 e.5 v is)
        (λ cause meets fault. none cause (record { met = meets_at operations order k q cause (omega (arith, lt, places)) at_k meets; fault = fault })) w seen

    by : (k ≤ i) ⊎ (i < k) → has_64_bits w ≡ true
    by (inl le) = let same : i ≡ k = omega (arith, le, below) in here (ap (λ n. slice_get operations (slice_index order n)) (sym same) ∙ at)
    by (inr lt_k) = before i lt_k q at y writes done w seen

  small_before : (k : ℕ) → k ≤ length operations → ((i : ℕ) (cause : Cause) → i < k → Fault i cause → ⊥) → SmallBefore k
  small_before zero le none = λ i lt q at y writes done w seen. absurd (omega (arith, lt))
  small_before (suc k) le none = small_next k (omega (arith, le)) (λ cause fault. none k cause (omega arith) fault) (small_before k (omega (arith, le)) (λ i cause lt fault. none i cause (omega (arith, lt)) fault))

  place_of_op : (p : Operation) → Contains (operations_of kernel c.has.presence) p → (k : ℕ) × (k < length operations) × (slice_get operations (slice_index order k) ≡ Some p)
  place_of_op p there =
      let contained : Contains operations p = subst (λ (ps : List Operation). Contains ps p) (sym c.has.are) there in
      place_of kernel conditions operations order memory next c contained.0 p (at_contained operations p contained)

  read_in : (input : ℕ) → input < kernel.inputs → Contains (operations_of kernel c.has.presence) (read_of kernel.signals c.has.presence (signal_id input))
  read_in input lt =
      Contains-append_left _ (of_each (stores_of kernel.signals c.has.presence) 0 kernel.equations) (read_of kernel.signals c.has.presence (signal_id input))
      (Contains-append_left (map (λ number. read_of kernel.signals c.has.presence (signal_id number)) (range_with_len 0 kernel.inputs)) (of_each (writes_of kernel.signals c.has.presence) 0 kernel.equations)
      (read_of kernel.signals c.has.presence (signal_id input)) (
        input,
        omega (arith, lt, length-map-range_with_len (λ number. read_of kernel.signals c.has.presence (signal_id number)) 0 kernel.inputs),
        get_or-map-range_with_len (λ number. read_of kernel.signals c.has.presence (signal_id number)) 0 kernel.inputs input input (read_of kernel.signals c.has.presence (signal_id input)) lt (omega arith),
      ))

  compute_in : (k : ℕ) (y : SigId) (op : FunOp) (operands : List Operand) → k < length kernel.equations → (d : Equation) → (get_or kernel.equations k d).form ≡ Fun y op operands
      → Contains (operations_of kernel c.has.presence) (writing kernel.signals (equation_id k) Compute (c.has.presence y) y (signals_of operands))
  compute_in k y op operands lt d form =
      let made : Contains (writes_of kernel.signals c.has.presence (equation_id k) (get_or kernel.equations k d).form) (writing kernel.signals (equation_id k) Compute (c.has.presence y) y (signals_of operands)) =
      subst (λ (shape : Form). Contains (writes_of kernel.signals c.has.presence (equation_id k) shape) (writing kernel.signals (equation_id k) Compute (c.has.presence y) y (signals_of operands))) (sym form) (contains_head (writing kernel.signals (equation_id k) Compute (c.has.presence y) y (signals_of operands)) []) in
      let same : k ≡ 0 + k = omega arith in
      Contains-append_left _ (of_each (stores_of kernel.signals c.has.presence) 0 kernel.equations) (writing kernel.signals (equation_id k) Compute (c.has.presence y) y (signals_of operands))
      (Contains-append_right (map (λ number. read_of kernel.signals c.has.presence (signal_id number)) (range_with_len 0 kernel.inputs)) (of_each (writes_of kernel.signals c.has.presence) 0 kernel.equations)
      (writing kernel.signals (equation_id k) Compute (c.has.presence y) y (signals_of operands))
      (among_each (writes_of kernel.signals c.has.presence) 0 kernel.equations k d (writing kernel.signals (equation_id k) Compute (c.has.presence y) y (signals_of operands)) lt
      (subst (λ m. Contains (writes_of kernel.signals c.has.presence (equation_id m) (get_or kernel.equations k d).form) (writing kernel.signals (equation_id k) Compute (c.has.presence y) y (signals_of operands))) same made)))

  -- an instant without faults is within bounds
  pub without_faults : NoneBefore (length operations) → IsWithinBounds kernel flows trace instant
  without_faults none = record {
    is = bounded_reaction kernel c.valid flows trace clean.is instant follows.is c.has.presence own own_presence read_small small (λ k d lt. apart k d lt (divides_by_zero (function_of d.function) d.values) refl);
    inputs = λ input lt. within input (omega (arith, lt, flow_count f)) lt (seen_at instant input) refl;
  } where
    small : (x : ℕ) (w : ℤ) → seen_at instant x ≡ Some w → has_64_bits w ≡ true
    small x w seen =
        let lt : x < length kernel.signals = beyond_end kernel.signals instant x w (kinds_length Unbounded (map (λ (signal : Signal). signal.kind) kernel.signals) instant follows.is.kinds ∙ length-map kernel.signals (λ (signal : Signal). signal.kind)) seen in
        let p = own_written kernel conditions operations order c memory next instant follows (signal_id x) lt (ap is_some seen) in
        let place = place_of kernel conditions operations order memory next c p.0 p.1 p.2 in
        small_before (length operations) (omega arith) none place.0 place.1 p.1 place.2 (signal_id x) p.3 p.4 w seen

    apart : (k : ℕ) (d : Computes kernel instant (equation_id k)) → k < length kernel.equations → (b : Bool) → divides_by_zero (function_of d.function) d.values ≡ b → divides_by_zero (function_of d.function) d.values ≡ false
    apart k d lt false fine = fine
    apart k d lt true by_zero =
        let at = got kernel.equations k d.equation d.equation d.is in
        let place = place_of_op (writing kernel.signals (equation_id k) Compute (c.has.presence d.target) d.target (signals_of d.operands))
        (compute_in k d.target d.function d.operands lt d.equation (ap (λ (q : Equation). q.form) at.1 ∙ d.form)) in
        absurd (none place.0 (ZeroDivisor (equation_id k)) place.1 (record {
          met = meets_at operations order place.0 (writing kernel.signals (equation_id k) Compute (c.has.presence d.target) d.target (signals_of d.operands)) (ZeroDivisor (equation_id k)) (omega (arith, place.1, places)) place.2 (refl, refl);
          fault = (d, by_zero);
        }))

    within : (input : ℕ) → input < kernel.inputs → input < length flows → (s : Seen) → seen_at instant input ≡ s → length (flow_of input (trace ++ instant ∷ [])) ≤ length (get_or flows input [])
    within input lt below None seen =
        let same : flow_of input (trace ++ instant ∷ []) ≡ flow_of input trace = flow_more input trace instant ∙ ap (λ s. flow_of input trace ++ option_to_list s) seen ∙ append-nil (flow_of input trace) in
        let few : length (flow_of input trace) ≤ length (get_or flows input []) = prefix_length (flow_of input trace) (get_or flows input []) (clean.fits input below) in
        omega (arith, few, ap length same)
    within input lt below (Some v) seen = elim (at_most_or (length (flow_of input (trace ++ instant ∷ []))) (length (get_or flows input []))) [
      | inl le ↦ le
      | inr past ↦
          let place = place_of_op (read_of kernel.signals c.has.presence (signal_id input)) (read_in input lt) in
          absurd (none place.0 (Exhausted (signal_id input)) place.1 (record {
            met = meets_at operations order place.0 (read_of kernel.signals c.has.presence (signal_id input)) (Exhausted (signal_id input)) (omega (arith, place.1, places)) place.2 refl;
            fault = past;
          }))
    ]

  -- an instant that is not within bounds has a first fault
  pub first_fault : (IsWithinBounds kernel flows trace instant → ⊥) → First
  first_fault beyond = by (search (length operations) (omega arith)) where
    by : NoneBefore (length operations) ⊎ First → First
    by (inl none) = absurd (beyond (without_faults none))
    by (inr first) = first
