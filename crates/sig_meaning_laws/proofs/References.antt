-- Lemmas on extended references of a kernel that has one reaction.
use Rattle.sig_meaning_laws.proofs.Common.{◌≡◌, ◌≤◌, ◌<◌, ◌++◌, inl, ℕ, zero, suc, ℤ, false, List, [], ◌∷◌, length, get_or, take, refl, ap, sym, subst, ◌∙◌, arith, Some, slice_get, AllByRecursion, length-append, length-take, Bounded, Instant, IsPrefixOf, IsValue, NoneSilent, Trace, Unbounded, flow_of, is_silent, Kind, Integer, Boolean, Signal, prefix_speaks, IsTraceIn, remembered, AreFlowsFor, IsValid, inputs_of, Kernel, comes_from, goes_on, no_instants, prefix_trace, flow_values, remembered_value, HasNextValues, HasOneReaction, IsNext, RemembersValues, IsReference, filler, got, no_more}
use Rattle.sig_base.specs.declared.ids.Kind.TheVariants.{Event}
use Rattle.sig_meaning_laws.proofs.Flows.{fill, fits_follows, follows_fits, follows_front, follows_more, follows_takes, last_value, next_in}

pub wide : (kind : Kind) (v : ℤ) → IsValue Bounded kind v → IsValue Unbounded kind v
wide Integer v is = tt
wide _ v is = is

filled : (kind : Kind) → IsValue Unbounded kind (filler kind)
filled Integer = tt
filled Boolean = inl refl
filled Event = refl

value_or_filled : (kind : Kind) (flow : List ℤ) (k : ℕ) → AllByRecursion (IsValue Bounded kind) flow → IsValue Unbounded kind (get_or flow k (filler kind))
value_or_filled kind [] k all = filled kind
value_or_filled kind (v ∷ flow) zero all = wide kind v all.0
value_or_filled kind (v ∷ flow) (suc k) all = value_or_filled kind flow k all.1

pub taken_at : (signals : List Signal) (n k : ℕ) (signal : Signal) → k < n → slice_get signals k ≡ Some signal → slice_get (take n signals) k ≡ Some signal
taken_at [] n k signal lt is = cc
taken_at (s ∷ signals) zero k signal lt is = absurd (omega (arith, lt))
taken_at (s ∷ signals) (suc n) zero signal lt is = is
taken_at (s ∷ signals) (suc n) (suc k) signal lt is = taken_at signals n k signal (omega (arith, lt)) is

-- the inputs of a valid kernel are as many as it says
pub count_inputs : (kernel : Kernel) → IsValid kernel → length (inputs_of kernel) ≡ kernel.inputs
count_inputs kernel valid = omega (arith, length-take kernel.inputs kernel.signals, valid.parts.interface, valid.parts.declared)

pub next_values : (kernel : Kernel) (flows : List (List ℤ)) (trace : Trace) → AreFlowsFor kernel flows → HasNextValues kernel (next_in kernel flows trace)
next_values kernel flows trace fit input signal lt is =
    let there : slice_get (inputs_of kernel) input ≡ Some signal = taken_at kernel.signals kernel.inputs input signal lt is in
    let at = got (inputs_of kernel) input signal signal there in
    let values : AllByRecursion (IsValue Bounded signal.kind) (get_or flows input []) =
    subst (λ (s : Signal). AllByRecursion (IsValue Bounded s.kind) (get_or flows input [])) at.1 (flow_values kernel flows fit input signal at.0) in
    let last : last_value kernel input ≡ filler signal.kind = ap fill there in
    subst (λ d. IsValue Unbounded signal.kind (get_or (get_or flows input []) (length (flow_of input trace)) d)) (sym last)
    (value_or_filled signal.kind (get_or flows input []) (length (flow_of input trace)) values)

pub memory_values : (kernel : Kernel) (trace : Trace) → IsValid kernel → IsTraceIn Unbounded kernel trace → RemembersValues kernel (remembered trace)
memory_values kernel trace valid is y x initial at kind there of = remembered_value Unbounded kernel trace y x initial at kind valid.equations is there of

-- what a valid kernel and its flows have in common
pub record Fitting (kernel : Kernel) (flows : List (List ℤ)) : Type 0 where
  pub valid : IsValid kernel
  pub fit : AreFlowsFor kernel flows
  pub one : HasOneReaction kernel

pub flow_count : {kernel : Kernel} {flows : List (List ℤ)} → Fitting kernel flows → length flows ≡ kernel.inputs
flow_count {kernel} {flows} f = f.fit.count ∙ count_inputs kernel f.valid

pub speaks_more : (trace : Trace) (instant : Instant) → NoneSilent trace → is_silent instant ≡ false → NoneSilent (trace ++ instant ∷ [])
speaks_more [] instant all one = (one, tt)
speaks_more (first ∷ trace) instant all one = (all.0, speaks_more trace instant all.1 one)

pub speaks_last : (trace : Trace) (instant : Instant) → NoneSilent (trace ++ instant ∷ []) → is_silent instant ≡ false
speaks_last [] instant all = all.0
speaks_last (first ∷ trace) instant all = speaks_last trace instant all.1

-- the next instant behind a reference
pub reference_more : {kernel : Kernel} {flows : List (List ℤ)} → Fitting kernel flows → (count : ℕ) (trace : Trace) (instant : Instant) → IsReference kernel flows count trace
    → IsNext kernel (remembered trace) (next_in kernel flows trace) instant → IsReference kernel flows (suc count) (trace ++ instant ∷ [])
reference_more {kernel} {flows} f count trace instant is next =
    let many : length (trace ++ instant ∷ []) ≡ suc count = omega (arith, length-append trace (instant ∷ []), is.instants) in
    record {
      is = goes_on Unbounded kernel trace instant is.is next.is;
      speaks = speaks_more trace instant is.speaks next.speaks;
      instants = many;
      fits = follows_fits kernel flows (suc count) (trace ++ instant ∷ []) f.fit.count (omega (arith, many))
          (follows_more kernel flows trace instant (fits_follows kernel flows count trace f.fit.count is.fits)
          (λ input v lt at. next.takes input v (omega (arith, lt, flow_count f)) at));
    }

-- a reference without its last instants
pub reference_front : {kernel : Kernel} {flows : List (List ℤ)} → Fitting kernel flows → (count : ℕ) (front back : Trace) → IsReference kernel flows count (front ++ back)
    → IsReference kernel flows (length front) front
reference_front {kernel} {flows} f count front back is = record {
  is = prefix_trace Unbounded kernel front (front ++ back) (back, refl) is.is;
  speaks = prefix_speaks front (front ++ back) (back, refl) is.speaks;
  instants = refl;
  fits = follows_fits kernel flows (length front) front f.fit.count (omega arith)
      (follows_front kernel flows front back (fits_follows kernel flows count (front ++ back) f.fit.count is.fits));
}

-- the last instant of a reference is the next one behind the others
pub reference_last : {kernel : Kernel} {flows : List (List ℤ)} → Fitting kernel flows → (count : ℕ) (trace : Trace) (instant : Instant) → IsReference kernel flows count (trace ++ instant ∷ [])
    → IsNext kernel (remembered trace) (next_in kernel flows trace) instant
reference_last {kernel} {flows} f count trace instant is = record {
  is = (comes_from Unbounded kernel trace instant is.is).1;
  speaks = speaks_last trace instant is.speaks;
  takes = λ input v lt at. follows_takes kernel flows trace instant (fits_follows kernel flows count (trace ++ instant ∷ []) f.fit.count is.fits) input v (omega (arith, lt, flow_count f)) at;
}

-- a list that is not empty ends
pub split_last : {A : Type 0} (xs : List A) (n : ℕ) → length xs ≡ suc n → (front : List A) × (last : A) × (xs ≡ front ++ last ∷ []) × (length front ≡ n)
split_last {A} (x ∷ []) n e = ([], x, refl, omega (arith, e))
split_last {A} (x ∷ y ∷ xs) (suc n) e =
    let rest = split_last (y ∷ xs) n (omega (arith, e)) in
    (x ∷ rest.0, rest.1, ap (λ list. x ∷ list) rest.2, ap suc rest.3)
split_last {A} _ _ e = absurd (omega (arith, e))

pub some_reference : {kernel : Kernel} {flows : List (List ℤ)} → Fitting kernel flows → (count : ℕ) → (trace : Trace) × IsReference kernel flows count trace
some_reference {kernel} {flows} f zero = (
  [],
  record {
    is = no_instants Unbounded kernel;
    speaks = tt;
    instants = refl;
    fits = follows_fits kernel flows 0 [] f.fit.count (omega arith) (λ input lt. tt);
  },
)
some_reference {kernel} {flows} f (suc count) =
    let before = some_reference f count in
    let next = f.one.some (remembered before.0) (next_in kernel flows before.0) (memory_values kernel before.0 f.valid before.1.is) (next_values kernel flows before.0 f.fit) in
    (before.0 ++ next.0 ∷ [], reference_more f count before.0 next.0 before.1 next.1)

pub one_reference : {kernel : Kernel} {flows : List (List ℤ)} → Fitting kernel flows → (count : ℕ) (a b : Trace) → IsReference kernel flows count a → IsReference kernel flows count b → a ≡ b
one_reference {kernel} {flows} f zero a b is other = no_more a is.instants ∙ sym (no_more b other.instants)
one_reference {kernel} {flows} f (suc count) a b is other =
    let s = split_last a count is.instants in
    let t = split_last b count other.instants in
    let whole : IsReference kernel flows (suc count) (s.0 ++ s.1 ∷ []) = subst (λ trace. IsReference kernel flows (suc count) trace) s.2 is in
    let whole_too : IsReference kernel flows (suc count) (t.0 ++ t.1 ∷ []) = subst (λ trace. IsReference kernel flows (suc count) trace) t.2 other in
    let front : IsReference kernel flows count s.0 = subst (λ n. IsReference kernel flows n s.0) s.3 (reference_front f (suc count) s.0 (s.1 ∷ []) whole) in
    let front_too : IsReference kernel flows count t.0 = subst (λ n. IsReference kernel flows n t.0) t.3 (reference_front f (suc count) t.0 (t.1 ∷ []) whole_too) in
    let same : s.0 ≡ t.0 = one_reference f count s.0 t.0 front front_too in
    let next : IsNext kernel (remembered s.0) (next_in kernel flows s.0) s.1 = reference_last f (suc count) s.0 s.1 whole in
    let next_too : IsNext kernel (remembered s.0) (next_in kernel flows s.0) t.1 =
    subst (λ trace. IsNext kernel (remembered trace) (next_in kernel flows trace) t.1) (sym same) (reference_last f (suc count) t.0 t.1 whole_too) in
    let last : s.1 ≡ t.1 = f.one.one (remembered s.0) (next_in kernel flows s.0) (memory_values kernel s.0 f.valid front.is) (next_values kernel flows s.0 f.fit) s.1 t.1 next next_too in
    s.2 ∙ ap (λ trace. trace ++ s.1 ∷ []) same ∙ ap (λ instant. t.0 ++ instant ∷ []) last ∙ sym t.2

-- a list with at least so many elements begins with so many
pub split_at : {A : Type 0} (xs : List A) (n : ℕ) → n ≤ length xs → (front : List A) × (back : List A) × (xs ≡ front ++ back) × (length front ≡ n)
split_at {A} xs zero le = ([], xs, refl, refl)
split_at {A} [] (suc n) le = absurd (omega (arith, le))
split_at {A} (x ∷ xs) (suc n) le =
    let rest = split_at xs n (omega (arith, le)) in
    (x ∷ rest.0, rest.1, ap (λ list. x ∷ list) rest.2, ap suc rest.3)

pub reference_begins : {kernel : Kernel} {flows : List (List ℤ)} → Fitting kernel flows → (few many : ℕ) (a b : Trace) → few ≤ many
    → IsReference kernel flows few a → IsReference kernel flows many b → IsPrefixOf a b
reference_begins {kernel} {flows} f few many a b le is other =
    let s = split_at b few (omega (arith, other.instants, le)) in
    let whole : IsReference kernel flows many (s.0 ++ s.1) = subst (λ trace. IsReference kernel flows many trace) s.2 other in
    let front : IsReference kernel flows few s.0 = subst (λ n. IsReference kernel flows n s.0) s.3 (reference_front f many s.0 s.1 whole) in
    (s.1, s.2 ∙ ap (λ trace. trace ++ s.1) (one_reference f few s.0 a front is))
