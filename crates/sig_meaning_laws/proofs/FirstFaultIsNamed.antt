-- The first fault of the reference is the named cause.
use Rattle.sig_meaning_laws.proofs.Common.{◌≡◌, ◌<◌, ◌≤◌, ◌+◌, ◌++◌, inl, inr, ℕ, suc, ℤ, Bool, true, List, [], ◌∷◌, length, get_or, refl, ap, sym, subst, ◌∙◌, arith, Contains, None, Some, is_some, slice_get, slice_index, option_to_list, unwrap_or, append-nil, length-append, Instant, IsPrefixOf, Seen, Trace, Unbounded, flow_of, has_64_bits, seen_at, EqId, SigId, prefix_length, abstraction_of, HaveValues, Memory, function_of, remembered, Fun, Operand, Sig, Const, Kernel, comes_from, IsFirstFault, IsNext, truths_of, AgreeSoFar, Computes, GoesOn, HasFault, IsFirstCause, IsPastEnd, MeetsFault, place_at, IsReference, divides_by_zero, Operation, operations_of, signals_of, Writes, Cause, Exhausted, Overflow, ZeroDivisor, Limit, Read, Compute, written_below, contains_at, contains_head, contains_later}
use Rattle.sig_meaning_laws.proofs.Agreement.{Compiled, ReadsAgree, SameBefore, own_keeps, own_present, own_speaks, same_before, same_guard, same_reads, same_value}
use Rattle.sig_meaning_laws.proofs.NamedCause.{follows, meets_at, met_place, own_presence}
use Rattle.sig_meaning_laws.proofs.Numbers.{at_most_or}
use Rattle.sig_meaning_laws.proofs.FirstFaults.{one_either}
use Rattle.sig_meaning_laws.proofs.Flows.{Continues, fits_follows, flow_more, last_value, next_in, within_flow}
use Rattle.sig_meaning_laws.proofs.Longest.{IsClean}
use Rattle.sig_meaning_laws.proofs.References.{Fitting, flow_count}
use Rattle.sig_meaning_laws.proofs.Values.{form_for, form_in, where_some}

-- a value at which a flow goes on
value_at : (values : List ℤ) (v : ℤ) (flow : List ℤ) (d : ℤ) → AgreeSoFar (values ++ v ∷ []) flow → length values < length flow → get_or flow (length values) d ≡ v
value_at values v [] d so_far lt = absurd (omega (arith, lt))
value_at [] v (w ∷ flow) d (inl front) lt = let e : w ∷ flow ≡ v ∷ front.0 = front.1 in cc
value_at [] v (w ∷ flow) d (inr front) lt = let e : v ∷ [] ≡ w ∷ (flow ++ front.0) = front.1 in cc
value_at (x ∷ values) v (w ∷ flow) d (inl front) lt =
    let e : w ∷ flow ≡ x ∷ ((values ++ v ∷ []) ++ front.0) = front.1 in
    value_at values v flow d (inl (front.0, cc)) (omega (arith, lt))
value_at (x ∷ values) v (w ∷ flow) d (inr front) lt =
    let e : x ∷ (values ++ v ∷ []) ≡ w ∷ (flow ++ front.0) = front.1 in
    value_at values v flow d (inr (front.0, cc)) (omega (arith, lt))

-- values past the end of a flow
beyond_flow : (flow : List ℤ) (last : ℤ) (values : List ℤ) → length flow ≤ length values → Continues flow last values → IsPrefixOf flow values
beyond_flow [] last values le is = (values, refl)
beyond_flow (w ∷ flow) last [] le is = absurd (omega (arith, le))
beyond_flow (w ∷ flow) last (v ∷ values) le is =
    let rest = beyond_flow flow last values (omega (arith, le)) is.1 in
    (rest.0, rw is.0 (ap (λ list. w ∷ list) rest.1))

have_moved : (a b : Instant) (operands : List Operand) (values : List ℤ) → ((x : SigId) → Contains (signals_of operands) x → seen_at a x.0 ≡ seen_at b x.0) → HaveValues a operands values → HaveValues b operands values
have_moved a b [] [] same have = tt
have_moved a b (Sig x ∷ operands) (v ∷ values) same have =
    (sym (same x (contains_head x (signals_of operands))) ∙ have.0, have_moved a b operands values (λ y there. same y (contains_later x y (signals_of operands) there)) have.1)
have_moved a b (Const k ∷ operands) (v ∷ values) same have = (have.0, have_moved a b operands values same have.1)
have_moved a b _ _ same have = absurd have

module _ (kernel : Kernel) (conditions : List SigId) (operations : List Operation) (order : List ℕ) (c : Compiled kernel conditions operations order) (flows : List (List ℤ)) (f : Fitting kernel flows)
    (trace : Trace) (clean : IsClean kernel flows (length trace) trace) (instant : Instant) (reference : IsReference kernel flows (suc (length trace)) (trace ++ instant ∷ [])) where
  abbrev memory : Memory
  memory = remembered trace

  abbrev next : ℕ → ℤ
  next = next_in kernel flows trace

  abbrev is : IsNext kernel memory next instant
  is = follows kernel conditions operations order c flows f trace clean instant reference

  abbrev own : List Bool
  own = truths_of conditions (seen_at instant)

  goes_on : GoesOn kernel flows trace instant
  goes_on = record {
    is = reference.is;
    speaks = (follows kernel conditions operations order c flows f trace clean instant reference).speaks;
    inputs = λ input lt.
        let so_far = fits_follows kernel flows (suc (length trace)) (trace ++ instant ∷ []) f.fit.count reference.fits input lt in
        elim (at_most_or (length (flow_of input (trace ++ instant ∷ []))) (length (get_or flows input []))) [
          | inl le ↦ inl (within_flow (get_or flows input []) (last_value kernel input) (flow_of input (trace ++ instant ∷ [])) le so_far)
          | inr past ↦ inr (beyond_flow (get_or flows input []) (last_value kernel input) (flow_of input (trace ++ instant ∷ [])) (omega (arith, past)) so_far)
        ];
  }

  among : (q : Operation) (number : ℕ) → slice_get operations number ≡ Some q → Contains (operations_of kernel c.has.presence) q
  among q number at = subst (λ (ps : List Operation). Contains ps q) c.has.are (contains_at operations number q at)

  below : (x : SigId) → x.0 < kernel.inputs → x.0 < length kernel.signals
  below x lt = omega (arith, lt, c.valid.parts.interface, c.valid.parts.declared)

  -- one value more
  longer : (t : Instant) (x : SigId) (v : ℤ) → seen_at t x.0 ≡ Some v → length (flow_of x.0 (trace ++ t ∷ [])) ≡ length (flow_of x.0 trace) + 1
  longer t x v seen = ap length (flow_more x.0 trace t ∙ ap (λ s. flow_of x.0 trace ++ option_to_list s) seen) ∙ length-append (flow_of x.0 trace) (v ∷ [])

  module _ (k : ℕ) (cause : Cause) (first : IsFirstFault kernel operations order flows trace instant k cause) (b : Instant) (goes : GoesOn kernel flows trace b) where
    abbrev other : ℕ → ℤ
    other input = unwrap_or (seen_at b input) (next input)

    also : IsNext kernel memory other b
    also = record {
      is = (comes_from Unbounded kernel trace b goes.is).1;
      speaks = goes.speaks;
      takes = λ input v lt at. sym (ap (λ s. unwrap_or s (next input)) at);
    }

    place : (k < length order) × (slice_get operations (slice_index order k) ≡ Some first.is.met.operation)
    place = met_place operations order k cause first.is.met

    within : k < length operations
    within = omega (arith, place.0, c.ordered.all)

    agree_at : (i : ℕ) → i < k → ReadsAgree kernel conditions operations order c memory next other instant b is also i
    agree_at i lt q at x kind done = by (seen_at b x.0) refl where
      either : Writes q x × (x.0 < kernel.inputs) × (q.guard ≡ c.has.presence x)
      either = (one_either kernel c.has.presence q (among q (slice_index order i) at)).0 x kind

      there : (v : ℤ) × (seen_at instant x.0 ≡ Some v)
      there = where_some (seen_at instant x.0) (own_presence kernel conditions operations order c flows f trace clean instant reference x (below x either.1) ∙ ap (λ g. g own) (sym either.2) ∙ done)

      fine : length (flow_of x.0 trace) < length (get_or flows x.0 [])
      fine = elim (at_most_or (length (flow_of x.0 (trace ++ instant ∷ []))) (length (get_or flows x.0 []))) [
        | inl le ↦ omega (arith, le, longer instant x there.0 there.1)
        | inr past ↦
            let late : k ≤ i = first.first i (Exhausted x) (record { met = meets_at operations order i q (Exhausted x) (omega (arith, lt, place.0)) at kind; fault = past }) in
            absurd (omega (arith, late, lt))
      ]

      by : (s : Seen) → seen_at b x.0 ≡ s → next x.0 ≡ other x.0
      by None none = sym (ap (λ s. unwrap_or s (next x.0)) none)
      by (Some v) some =
          let agrees : AgreeSoFar (flow_of x.0 trace ++ v ∷ []) (get_or flows x.0 []) =
          subst (λ values. AgreeSoFar values (get_or flows x.0 [])) (flow_more x.0 trace b ∙ ap (λ s. flow_of x.0 trace ++ option_to_list s) some) (goes.inputs x.0 (omega (arith, either.1, flow_count f))) in
          value_at (flow_of x.0 trace) v (get_or flows x.0 []) (last_value kernel x.0) agrees fine ∙ sym (ap (λ s. unwrap_or s (next x.0)) some)

    before : SameBefore kernel conditions operations order c memory next other instant b is also k
    before = same_before kernel conditions operations order c memory next other instant b is also k (omega (arith, within)) agree_at

    -- the operation at the place is done in both
    also_done : first.is.met.operation.guard own ≡ true → first.is.met.operation.guard (truths_of conditions (seen_at b)) ≡ true
    also_done done = sym (same_guard kernel conditions operations order c memory next other instant b is also k within before first.is.met.operation place.1) ∙ done

    also_there : (x : SigId) → x.0 < length kernel.signals → c.has.presence x (truths_of conditions (seen_at b)) ≡ true → (v : ℤ) × (seen_at b x.0 ≡ Some v)
    also_there x lt done = where_some (seen_at b x.0) (sym (own_present kernel conditions operations order c memory other b also x.0)
        ∙ c.has.functions x.0 lt (truths_of conditions (seen_at b)) (abstraction_of kernel.signals b) (own_speaks kernel conditions operations order c memory other b also) (own_keeps kernel conditions operations order c memory other b also) ∙ done)

    past_too : (x : SigId) → first.is.met.operation.kind ≡ Read x → IsPastEnd flows trace instant x → IsPastEnd flows trace b x
    past_too x kind past = by (seen_at instant x.0) refl where
      either : Writes first.is.met.operation x × (x.0 < kernel.inputs) × (first.is.met.operation.guard ≡ c.has.presence x)
      either = (one_either kernel c.has.presence first.is.met.operation (among first.is.met.operation (slice_index order k) place.1)).0 x kind

      by : (s : Seen) → seen_at instant x.0 ≡ s → IsPastEnd flows trace b x
      by None none =
          let same : flow_of x.0 (trace ++ instant ∷ []) ≡ flow_of x.0 trace = flow_more x.0 trace instant ∙ ap (λ s. flow_of x.0 trace ++ option_to_list s) none ∙ append-nil (flow_of x.0 trace) in
          let few = prefix_length (flow_of x.0 trace) (get_or flows x.0 []) (clean.fits x.0 (omega (arith, either.1, flow_count f))) in
          absurd (omega (arith, past, few, ap length same))
      by (Some v) some =
          let done : first.is.met.operation.guard own ≡ true =
          ap (λ g. g own) either.2 ∙ sym (own_presence kernel conditions operations order c flows f trace clean instant reference x (below x either.1)) ∙ ap is_some some in
          let there = also_there x (below x either.1) (ap (λ g. g (truths_of conditions (seen_at b))) (sym either.2) ∙ also_done done) in
          omega (arith, past, longer instant x v some, longer b x there.0 there.1)

    computes_too : (e : EqId) → first.is.met.operation.kind ≡ Compute → first.is.met.operation.equation ≡ Some e → (d : Computes kernel instant e)
        → (g : Computes kernel b e) × (g.result ≡ d.result) × (function_of g.function ≡ function_of d.function) × (g.values ≡ d.values)
    computes_too e kind is_e d =
        let form : form_for kernel (Some e) ≡ Some (Fun d.target d.function d.operands) = ap form_in d.is ∙ ap Some d.form in
        let either = (one_either kernel c.has.presence first.is.met.operation (among first.is.met.operation (slice_index order k) place.1)).1 e d.target d.function d.operands kind is_e form in
        let lt = written_below kernel c.valid conditions operations c.has (slice_index order k) first.is.met.operation place.1 d.target either.0 in
        let done : first.is.met.operation.guard own ≡ true =
        ap (λ g. g own) either.1 ∙ sym (own_presence kernel conditions operations order c flows f trace clean instant reference d.target lt) ∙ ap is_some d.gives in
        let same = same_value kernel conditions operations order c memory next other instant b is also k within
        (λ p at x reads yes_p. absurd (let one : Some p ≡ Some first.is.met.operation = sym at ∙ place.1 in
        let is_p : p ≡ first.is.met.operation = cc in
        let clash : Read x ≡ Compute = sym reads ∙ ap (λ (o : Operation). o.kind) is_p ∙ kind in cc)) before first.is.met.operation place.1 in
        let seen : seen_at instant d.target.0 ≡ seen_at b d.target.0 = same.seen d.target either.0 done in
        let have : HaveValues b d.operands d.values = have_moved instant b d.operands d.values
        (λ x among_them. same_reads kernel conditions operations order c memory next other instant b is also k within before first.is.met.operation place.1 done x
        (subst (λ (xs : List SigId). Contains xs x) (sym either.2) among_them)) d.have in (
          record { equation = d.equation; is = d.is; target = d.target; function = d.function; operands = d.operands; form = d.form; values = d.values; have = have; result = d.result; gives = sym seen ∙ d.gives },
          refl,
          refl,
          refl,
        )

    fault_too : (found : Cause) → cause ≡ found → MeetsFault first.is.met.operation found → HasFault kernel flows trace instant found → HasFault kernel flows trace b found
    fault_too (Exhausted x) e meets fault = past_too x meets fault
    fault_too (Overflow n) e meets fault = let g = computes_too n meets.0 meets.1 fault.0 in (g.0, ap has_64_bits g.1 ∙ fault.1)
    fault_too (ZeroDivisor n) e meets fault =
        let g = computes_too n meets.0 meets.1 fault.0 in
        (g.0, ap (λ o. divides_by_zero o g.0.values) g.2 ∙ ap (divides_by_zero (function_of fault.0.function)) g.3 ∙ fault.1)
    fault_too Limit e meets fault = fault

    pub has_fault : HasFault kernel flows trace b cause
    has_fault = fault_too cause refl first.is.met.meets first.is.fault

  pub first_cause : (k : ℕ) (cause : Cause) → IsFirstFault kernel operations order flows trace instant k cause
      → IsFirstCause kernel operations order flows trace cause (place_at (length trace + 1) k)
  first_cause k cause first = record {
    first = k;
    is = record { at = first.is.met; every = λ b goes. has_fault k cause first b goes };
    least = λ other another is_cause. first.first other another (record { met = is_cause.at; fault = is_cause.every instant goes_on });
    met = refl;
  }

  pub reference_goes_on : GoesOn kernel flows trace instant
  reference_goes_on = goes_on
