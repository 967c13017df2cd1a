-- Two instants of an accepted kernel with the same memories and next values agree, place by place of the compiled order.
use Rattle.sig_meaning_laws.proofs.Common.{◌≡◌, ◌<◌, ◌≤◌, ◌⊎◌, inl, inr, ℕ, zero, suc, ℤ, Bool, true, false, List, [], ◌∷◌, length, map, refl, ap, sym, subst, ◌∙◌, arith, Contains, Option, None, Some, is_some, slice_get, slice_index, and_parts, get_or_default, length-map, All-contains, AreOfKinds, Instant, Range, Seen, Unbounded, seen_at, Kind, Boolean, SigId, Signal, abstraction_of, status_of, Allows, KeepsTo, AreInOrder, is_condition, is_free, signal_id, Reaction, Speaks, is_boolean_kind, is_present, status_at, abstract_presence, abstract_speaks, abstract_status, Depends, truth_of, IsReaction, Memory, kind_at, kind_of, IsValid, Kernel, IsNext, Registers, is_true, truths_of, HasOperations, Operation, operations_of, IsCompiledOrder, Needs, Precedes, Writes, OpKind, Read, present_written, guards_alone, needed_earlier, read_earlier, stands_somewhere, some_at, contains_at, slice_get_within, cases_eq}
use Rattle.sig_meaning_laws.proofs.Values.{all_depend, all_seen, form_for, none_where, value, value_by}

-- truths that agree on the variables on which a guard depends give it one value
abbrev pub GuardsAgree : List Operation → Type 0
GuardsAgree operations = (number : ℕ) (p : Operation) → slice_get operations number ≡ Some p → (truths others : List Bool)
    → ((v : ℕ) → Depends p.guard v → truth_of truths v ≡ truth_of others v) → p.guard truths ≡ p.guard others

-- a kernel with the compiled order of its operations
pub record Compiled (kernel : Kernel) (conditions : List SigId) (operations : List Operation) (order : List ℕ) : Type 0 where
  pub valid : IsValid kernel
  pub has : HasOperations kernel conditions operations
  pub ordered : IsCompiledOrder conditions operations order
  pub agree : GuardsAgree operations

pub truth_at : (conditions : List SigId) (registers : Registers) (v : ℕ) (c : SigId) → slice_get conditions v ≡ Some c → truth_of (truths_of conditions registers) v ≡ is_true (registers c.0)
truth_at [] registers v c is = absurd (let e = is in cc)
truth_at (d ∷ conditions) registers zero c is = let e : Some d ≡ Some c = is in let one : d ≡ c = cc in ap (λ (x : SigId). is_true (registers x.0)) one
truth_at (d ∷ conditions) registers (suc v) c is = truth_at conditions registers v c is

boolean_kind : (owner : Option Signal) → is_boolean_kind (kind_of owner) ≡ true → (signal : Signal) × (owner ≡ Some signal) × (signal.kind ≡ Boolean)
boolean_kind None is = absurd (let e : false ≡ true = is in cc)
boolean_kind (Some signal) is = (signal, refl, by signal.kind is) where
  by : (kind : Kind) → is_boolean_kind (Some kind) ≡ true → kind ≡ Boolean
  by Boolean is = refl
  by _ is = absurd (let e : false ≡ true = is in cc)

-- a condition is a boolean signal
pub condition_signal : (kernel : Kernel) (conditions : List SigId) → AreInOrder kernel conditions → (v : ℕ) (c : SigId) → slice_get conditions v ≡ Some c
    → (signal : Signal) × (slice_get kernel.signals c.0 ≡ Some signal) × (signal.kind ≡ Boolean)
condition_signal kernel conditions order v c is =
    let yes : is_condition kernel c.0 ≡ true = (order.all c).0 (contains_at conditions v c is) in
    boolean_kind (slice_get kernel.signals c.0) (and_parts (is_boolean_kind (kind_at kernel.signals (signal_id c.0))) (is_free kernel c.0) yes).0

-- an instant keeps to the truths of its conditions
pub keeps_to_own : (kernel : Kernel) (memory : Memory) (instant : Instant) (conditions : List SigId) → AreInOrder kernel conditions → IsReaction Unbounded kernel memory instant
    → KeepsTo conditions (truths_of conditions (seen_at instant)) (abstraction_of kernel.signals instant)
keeps_to_own kernel memory instant conditions order is v c at =
    let there = condition_signal kernel conditions order v c at in
    let status : status_at (abstraction_of kernel.signals instant) c.0 ≡ status_of Boolean (seen_at instant c.0) =
    abstract_status Unbounded kernel memory instant is c.0 there.0 there.1 ∙ ap (λ kind. status_of kind (seen_at instant c.0)) there.2 in
    rw status (subst (λ t. Allows (status_of Boolean (seen_at instant c.0)) t) (sym (truth_at conditions (seen_at instant) v c at)) (by (seen_at instant c.0))) where
      by : (seen : Seen) → Allows (status_of Boolean seen) (is_true seen)
      by None = tt
      by (Some w) = refl

-- an instant of a compiled kernel
module _ (kernel : Kernel) (conditions : List SigId) (operations : List Operation) (order : List ℕ) (c : Compiled kernel conditions operations order)
    (memory : Memory) (next : ℕ → ℤ) (instant : Instant) (is : IsNext kernel memory next instant) where
  abbrev own : List Bool
  own = truths_of conditions (seen_at instant)

  abbrev left : Reaction
  left = abstraction_of kernel.signals instant

  pub own_speaks : Speaks kernel left
  own_speaks = abstract_speaks Unbounded kernel memory instant c.valid is.is is.speaks

  pub own_keeps : KeepsTo conditions own left
  own_keeps = keeps_to_own kernel memory instant conditions c.has.order is.is

  pub own_present : (x : ℕ) → is_present left x ≡ is_some (seen_at instant x)
  own_present x = abstract_presence Unbounded kernel memory instant is.is x

  pub own_written : (x : SigId) → x.0 < length kernel.signals → is_some (seen_at instant x.0) ≡ true
      → (number : ℕ) × (p : Operation) × (slice_get operations number ≡ Some p) × Writes p x × (p.guard own ≡ true)
  own_written x lt some = present_written kernel c.valid conditions operations c.has own left own_speaks own_keeps x lt (own_present x.0 ∙ some)

  -- what is done writes what is seen
  pub own_seen : (number : ℕ) (p : Operation) (y : SigId) → slice_get operations number ≡ Some p → Writes p y → p.guard own ≡ true
      → seen_at instant y.0 ≡ Some (value kernel memory next (seen_at instant) p)
  own_seen number p y at writes done =
      All-contains (λ (q : Operation). (z : SigId) → Writes q z → q.guard own ≡ true → seen_at instant z.0 ≡ Some (value kernel memory next (seen_at instant) q))
      (operations_of kernel c.has.presence) p
      (all_seen kernel memory next c.has.presence instant own (λ x lt. sym (own_present x.0) ∙ c.has.functions x.0 lt own left own_speaks own_keeps) c.valid is.is is.takes)
      (subst (λ (ps : List Operation). Contains ps p) c.has.are (contains_at operations number p at)) y writes done

-- the value depends on what is read alone
pub value_by_reads : (kernel : Kernel) (conditions : List SigId) (operations : List Operation) → HasOperations kernel conditions operations → (memory : Memory) (next : ℕ → ℤ)
    → (number : ℕ) (p : Operation) → slice_get operations number ≡ Some p → (r s : Registers) → ((x : SigId) → Contains p.reads x → r x.0 ≡ s x.0)
    → value kernel memory next r p ≡ value kernel memory next s p
value_by_reads kernel conditions operations has memory next number p at =
    All-contains (λ (q : Operation). (r s : Registers) → ((x : SigId) → Contains q.reads x → r x.0 ≡ s x.0) → value kernel memory next r q ≡ value kernel memory next s q)
    (operations_of kernel has.presence) p (all_depend kernel memory next has.presence)
    (subst (λ (ps : List Operation). Contains ps p) has.are (contains_at operations number p at))

-- and on the next value of an input that is read
value_by_next : (kernel : Kernel) (memory : Memory) (next other : ℕ → ℤ) (r : Registers) (p : Operation) → ((x : SigId) → p.kind ≡ Read x → next x.0 ≡ other x.0)
    → value kernel memory next r p ≡ value kernel memory other r p
value_by_next kernel memory next other r p agree = by p.kind refl where
  by : (kind : OpKind) → p.kind ≡ kind → value_by memory next r p.reads (form_for kernel p.equation) kind ≡ value_by memory other r p.reads (form_for kernel p.equation) kind
  by (Read x) e = agree x e
  by _ e = refl

module _ (kernel : Kernel) (conditions : List SigId) (operations : List Operation) (order : List ℕ) (c : Compiled kernel conditions operations order)
    (memory : Memory) (next other : ℕ → ℤ) (a b : Instant) (is : IsNext kernel memory next a) (also : IsNext kernel memory other b) where
  abbrev pub by_a : List Bool
  by_a = truths_of conditions (seen_at a)

  abbrev pub by_b : List Bool
  by_b = truths_of conditions (seen_at b)

  -- they agree before a place: an operation is done in both or in neither, and where it is, it writes one value
  pub record SameAt (q : Operation) : Type 0 where
    pub done : q.guard by_a ≡ q.guard by_b
    pub seen : (x : SigId) → Writes q x → q.guard by_a ≡ true → seen_at a x.0 ≡ seen_at b x.0

  abbrev pub SameBefore : ℕ → Type 0
  SameBefore k = (i : ℕ) → i < k → (q : Operation) → slice_get operations (slice_index order i) ≡ Some q → SameAt q

  -- an input that is read at a place has one next value in both
  abbrev pub ReadsAgree : ℕ → Type 0
  ReadsAgree k = (q : Operation) → slice_get operations (slice_index order k) ≡ Some q → (x : SigId) → q.kind ≡ Read x → q.guard by_a ≡ true → next x.0 ≡ other x.0

  -- a condition that is written before a place is the same
  same_condition : (k : ℕ) → SameBefore k → (x : SigId) → x.0 < length kernel.signals
      → ((number : ℕ) (p : Operation) → slice_get operations number ≡ Some p → Writes p x → (i : ℕ) × (i < k) × (slice_index order i ≡ number)) → seen_at a x.0 ≡ seen_at b x.0
  same_condition k before x lt earlier = by (is_some (seen_at a x.0)) (is_some (seen_at b x.0)) refl refl where
    by : (one two : Bool) → is_some (seen_at a x.0) ≡ one → is_some (seen_at b x.0) ≡ two → seen_at a x.0 ≡ seen_at b x.0
    by true two e f =
        let w = own_written kernel conditions operations order c memory next a is x lt e in
        let place = earlier w.0 w.1 w.2 w.3 in
        (before place.0 place.1 w.1 (ap (slice_get operations) place.2 ∙ w.2)).seen x w.3 w.4
    by false true e f =
        let w = own_written kernel conditions operations order c memory other b also x lt f in
        let place = earlier w.0 w.1 w.2 w.3 in
        let same = before place.0 place.1 w.1 (ap (slice_get operations) place.2 ∙ w.2) in
        same.seen x w.3 (same.done ∙ w.4)
    by false false e f = none_where (seen_at a x.0) e ∙ sym (none_where (seen_at b x.0) f)

  pub same_guard : (k : ℕ) → k < length operations → SameBefore k → (q : Operation) → slice_get operations (slice_index order k) ≡ Some q → q.guard by_a ≡ q.guard by_b
  same_guard k lt before q at = c.agree (slice_index order k) q at by_a by_b (λ v depends.
      let there = some_at conditions v (guards_alone kernel c.valid conditions operations c.has (slice_index order k) q at v depends) in
      let signal = condition_signal kernel conditions c.has.order v there.0 there.1 in
      let needs : Needs conditions q there.0 = record { variable = v; is = there.1; depends = depends } in
      let same : seen_at a there.0.0 ≡ seen_at b there.0.0 = same_condition k before there.0 (slice_get_within kernel.signals there.0.0 signal.0 signal.1)
      (λ number p is_p writes. needed_earlier kernel c.valid conditions operations c.has order c.ordered k lt q at there.0 needs number p is_p writes) in
      truth_at conditions (seen_at a) v there.0 there.1 ∙ ap is_true same ∙ sym (truth_at conditions (seen_at b) v there.0 there.1))

  -- what is read at a place is the same
  pub same_reads : (k : ℕ) → k < length operations → SameBefore k → (q : Operation) → slice_get operations (slice_index order k) ≡ Some q → q.guard by_a ≡ true
      → (y : SigId) → Contains q.reads y → seen_at a y.0 ≡ seen_at b y.0
  same_reads k lt before q at yes_a y there =
      let e = read_earlier kernel c.valid conditions operations c.has order c.ordered k lt q at by_a yes_a y there in
      (before e.0 e.2 e.1 e.3).seen y e.4 e.5

  pub same_value : (k : ℕ) → k < length operations → ReadsAgree k → SameBefore k → (q : Operation) → slice_get operations (slice_index order k) ≡ Some q → SameAt q
  same_value k lt agree before q at =
      let done : q.guard by_a ≡ q.guard by_b = same_guard k lt before q at in
      record {
        done = done;
        seen = λ x writes yes_a.
            let one = own_seen kernel conditions operations order c memory next a is (slice_index order k) q x at writes yes_a in
            let two = own_seen kernel conditions operations order c memory other b also (slice_index order k) q x at writes (sym done ∙ yes_a) in
            let reads = value_by_reads kernel conditions operations c.has memory next (slice_index order k) q at (seen_at a) (seen_at b) (same_reads k lt before q at yes_a) in
            let values = value_by_next kernel memory next other (seen_at b) q (λ y kind. agree q at y kind yes_a) in
            one ∙ ap Some (reads ∙ values) ∙ sym two;
      }

  same_next : (k : ℕ) → suc k ≤ length operations → ReadsAgree k → SameBefore k → SameBefore (suc k)
  same_next k le agree before i lt q at = by (cases_eq i k) where
    by : (i ≡ k) ⊎ ((i ≡ k) → ⊥) → SameAt q
    by (inl e) = same_value k (omega (arith, le)) agree before q (sym (ap (λ j. slice_get operations (slice_index order j)) e) ∙ at)
    by (inr differs) = before i (omega (arith, lt, differs)) q at

  pub same_before : (k : ℕ) → k ≤ length operations → ((i : ℕ) → i < k → ReadsAgree i) → SameBefore k
  same_before zero le agree = λ i lt q at. absurd (omega (arith, lt))
  same_before (suc k) le agree = same_next k le (agree k (omega arith)) (same_before k (omega (arith, le)) (λ i lt. agree i (omega (arith, lt))))

  pub same_seen : ((i : ℕ) → ReadsAgree i) → (x : SigId) → x.0 < length kernel.signals → seen_at a x.0 ≡ seen_at b x.0
  same_seen agree x lt = same_condition (length operations) (same_before (length operations) (omega arith) (λ i below. agree i)) x lt (λ number p at writes.
      let within = slice_get_within operations number p at in
      let somewhere = stands_somewhere (Precedes conditions operations) (length operations) order c.ordered number within in
      (somewhere.0, omega (arith, somewhere.1, c.ordered.all), get_or_default order somewhere.0 0 number somewhere.1 ∙ somewhere.2))

  same_lists : (range : Range) (kinds : List Kind) (s t : Instant) → AreOfKinds range kinds s → AreOfKinds range kinds t → ((x : ℕ) → x < length kinds → seen_at s x ≡ seen_at t x) → s ≡ t
  same_lists range [] [] [] one two same = refl
  same_lists range [] (y ∷ s) t one two same = absurd one
  same_lists range (kind ∷ kinds) [] t one two same = absurd one
  same_lists range (kind ∷ kinds) (y ∷ s) (z ∷ t) one two same =
      let first : y ≡ z = same 0 (omega arith) in
      let rest : s ≡ t = same_lists range kinds s t one.1 two.1 (λ x lt. same (suc x) (omega (arith, lt))) in
      cc
  same_lists range _ _ _ one two same = absurd two

  pub same_instants : ((i : ℕ) → ReadsAgree i) → a ≡ b
  same_instants agree = same_lists Unbounded (map (λ (signal : Signal). signal.kind) kernel.signals) a b is.is.kinds also.is.kinds
      (λ x lt. same_seen agree (signal_id x) (omega (arith, lt, length-map kernel.signals (λ (signal : Signal). signal.kind))))

pub same_instant : (kernel : Kernel) (conditions : List SigId) (operations : List Operation) (order : List ℕ) → Compiled kernel conditions operations order → (memory : Memory) (next : ℕ → ℤ) (a b : Instant)
    → IsNext kernel memory next a → IsNext kernel memory next b → a ≡ b
same_instant kernel conditions operations order c memory next a b is also = same_instants kernel conditions operations order c memory next next a b is also (λ i q at x kind done. refl)
