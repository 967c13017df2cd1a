-- Lemmas on the longest trace of a kernel that has one reaction.
use Rattle.sig_meaning_laws.proofs.Common.{◌≡◌, ◌≤◌, ◌<◌, ◌+◌, ◌++◌, ◌⊎◌, inl, inr, ℕ, zero, suc, ℤ, Bool, true, false, List, [], ◌∷◌, length, get_or, map, refl, ap, sym, subst, ◌∙◌, arith, append_assoc, None, Some, AllByRecursion, Function, Gives, AreOfKinds, Bounded, Fits, Instant, IsLongest, IsOfKind, IsPrefixOf, NoneSilent, Seen, Trace, Unbounded, flow_of, has_64_bits, reduce, seen_at, Kind, Integer, fits_by_test, fits_reduced, prefix_fits, one_longest, speaks, prefix_length, HaveValues, IsFunction, IsKernelTrace, IsReaction, Meets, Memory, function_of, remembered, Equation, Form, Fun, Operand, Sig, Const, Kernel, comes_from, goes_on, prefix_trace, reduced_trace, wide_trace, IsCut, IsWithinBounds, StopsBefore, IsReference, divides_by_zero, cases_eq}
use Rattle.sig_meaning_laws.proofs.Flows.{fits_follows, follows_fits, last_value, of_prefix, within_flow}
use Rattle.sig_meaning_laws.proofs.Numbers.{at_most_or}
use Rattle.sig_meaning_laws.proofs.References.{Fitting, reference_begins, some_reference, split_last}
use Rattle.sig_meaning_laws.proofs.Results.{bounded_gives, never_by_zero, within_bounds}

abbrev pub Decided : Type 0 → Type 0
Decided Statement = Statement ⊎ (Statement → ⊥)

both : {A B : Type 0} → Decided A → Decided B → Decided (A × B)
both {A} {B} (inl a) (inl b) = inl (a, b)
both {A} {B} (inl a) (inr fails) = inr (λ p. fails p.1)
both {A} {B} (inr fails) b = inr (λ p. fails p.0)

decide_kind : (kind : Kind) (seen : Seen) → IsOfKind Unbounded kind seen → Decided (IsOfKind Bounded kind seen)
decide_kind kind None is = inl tt
decide_kind Integer (Some v) is = by (has_64_bits v) refl where
  by : (b : Bool) → has_64_bits v ≡ b → Decided (IsOfKind Bounded Integer (Some v))
  by true e = inl ((fits_by_test v).0 e)
  by false e = inr (λ has. let t : has_64_bits v ≡ true = (fits_by_test v).1 has in cc)
decide_kind _ (Some v) is = inl is

decide_kinds : (kinds : List Kind) (instant : Instant) → AreOfKinds Unbounded kinds instant → Decided (AreOfKinds Bounded kinds instant)
decide_kinds [] [] are = inl tt
decide_kinds (kind ∷ kinds) (seen ∷ instant) are = both (decide_kind kind seen are.0) (decide_kinds kinds instant are.1)
decide_kinds _ _ are = absurd are

decide_gives : (function : Function) (operands : List ℤ) (v : ℤ) → Gives Unbounded function operands v → Decided (Gives Bounded function operands v)
decide_gives function operands v is = by (divides_by_zero function operands) refl where
  by : (b : Bool) → divides_by_zero function operands ≡ b → Decided (Gives Bounded function operands v)
  by true e = inr (λ gives. never_by_zero function operands v gives e)
  by false e = inl (bounded_gives function operands v e is)

-- operands have one list of values
pub same_values : (instant : Instant) (operands : List Operand) (us vs : List ℤ) → HaveValues instant operands us → HaveValues instant operands vs → us ≡ vs
same_values instant [] [] [] a b = refl
same_values instant [] (u ∷ us) vs a b = absurd a
same_values instant (Sig x ∷ operands) [] vs a b = absurd a
same_values instant (Sig x ∷ operands) (u ∷ us) (v ∷ vs) a b =
    let rest : us ≡ vs = same_values instant operands us vs a.1 b.1 in
    let e : Some u ≡ Some v = sym a.0 ∙ b.0 in
    cc
same_values instant (Const constant ∷ operands) [] vs a b = absurd a
same_values instant (Const constant ∷ operands) (u ∷ us) (v ∷ vs) a b =
    let rest : us ≡ vs = same_values instant operands us vs a.1 b.1 in
    let e : u ≡ v = sym a.0 ∙ b.0 in
    cc
same_values instant _ _ _ a b = absurd b

decide_function : (function : Function) (instant : Instant) (operands : List Operand) (seen : Seen) → IsFunction Unbounded function instant operands seen
    → Decided (IsFunction Bounded function instant operands seen)
decide_function function instant operands None is = inl is
decide_function function instant operands (Some v) is = by (decide_gives function is.0 v is.2) where
  by : Decided (Gives Bounded function is.0 v) → Decided (IsFunction Bounded function instant operands (Some v))
  by (inl gives) = inl (is.0, is.1, gives)
  by (inr fails) = inr (λ other. fails (subst (λ values. Gives Bounded function values v) (same_values instant operands other.0 is.0 other.1 is.1) other.2))

decide_form : (memory : Memory) (instant : Instant) (form : Form) → Meets Unbounded memory instant form → Decided (Meets Bounded memory instant form)
decide_form memory instant (Fun y op operands) met = decide_function (function_of op) instant operands (seen_at instant y.0) met
decide_form memory instant _ met = inl met

decide_equations : (memory : Memory) (instant : Instant) (equations : List Equation)
    → AllByRecursion (λ (equation : Equation). Meets Unbounded memory instant equation.form) equations
    → Decided (AllByRecursion (λ (equation : Equation). Meets Bounded memory instant equation.form) equations)
decide_equations memory instant [] all = inl tt
decide_equations memory instant (equation ∷ equations) all = both (decide_form memory instant equation.form all.0) (decide_equations memory instant equations all.1)

pub decide_reaction : (kernel : Kernel) (memory : Memory) (instant : Instant) → IsReaction Unbounded kernel memory instant → Decided (IsReaction Bounded kernel memory instant)
decide_reaction kernel memory instant is =
    by (decide_kinds (map (λ signal. signal.kind) kernel.signals) instant is.kinds) (decide_equations memory instant kernel.equations is.equations) where
      by : Decided (AreOfKinds Bounded (map (λ signal. signal.kind) kernel.signals) instant)
          → Decided (AllByRecursion (λ (equation : Equation). Meets Bounded memory instant equation.form) kernel.equations) → Decided (IsReaction Bounded kernel memory instant)
      by (inl kinds) (inl equations) = inl (record { kinds = kinds; equations = equations })
      by (inl kinds) (inr fails) = inr (λ r. fails r.equations)
      by (inr fails) equations = inr (λ r. fails r.kinds)

-- a bound on each of so many numbers
decide_below : (f g : ℕ → ℕ) (n : ℕ) → Decided ((input : ℕ) → input < n → f input ≤ g input)
decide_below f g zero = inl (λ input lt. absurd (omega (arith, lt)))
decide_below f g (suc n) = by (decide_below f g n) (at_most_or (f n) (g n)) where
  last : ((input : ℕ) → input < n → f input ≤ g input) → f n ≤ g n → (input : ℕ) → input < suc n → Decided (input ≡ n) → f input ≤ g input
  last all le input lt (inl e) = rw e le
  last all le input lt (inr differs) = all input (omega (arith, lt, differs))

  by : Decided ((input : ℕ) → input < n → f input ≤ g input) → (f n ≤ g n) ⊎ (g n < f n) → Decided ((input : ℕ) → input < suc n → f input ≤ g input)
  by (inl all) (inl le) = inl (λ input lt. last all le input lt (cases_eq input n))
  by (inl all) (inr more) = inr (λ each. omega (arith, more, each n (omega arith)))
  by (inr fails) le = inr (λ each. fails (λ input lt. each input (omega (arith, lt))))

pub decide_bounds : (kernel : Kernel) (flows : List (List ℤ)) (trace : Trace) (instant : Instant) → IsReaction Unbounded kernel (remembered trace) instant
    → Decided (IsWithinBounds kernel flows trace instant)
decide_bounds kernel flows trace instant is =
    by (decide_reaction kernel (remembered trace) instant is)
    (decide_below (λ input. length (flow_of input (trace ++ instant ∷ []))) (λ input. length (get_or flows input [])) (length flows)) where
      by : Decided (IsReaction Bounded kernel (remembered trace) instant)
          → Decided ((input : ℕ) → input < length flows → length (flow_of input (trace ++ instant ∷ [])) ≤ length (get_or flows input []))
          → Decided (IsWithinBounds kernel flows trace instant)
      by (inl r) (inl few) = inl (record { is = r; inputs = few })
      by (inl r) (inr many) = inr (λ w. many w.inputs)
      by (inr fails) few = inr (λ w. fails w.is)

-- a reference that is a trace of the kernel and fits the flows
pub record IsClean (kernel : Kernel) (flows : List (List ℤ)) (count : ℕ) (trace : Trace) : Type 0 where
  pub reference : IsReference kernel flows count trace
  pub is : IsKernelTrace kernel trace
  pub fits : Fits flows trace

-- a trace of the kernel that fits the flows is a reference
pub clean : {kernel : Kernel} {flows : List (List ℤ)} → Fitting kernel flows → (trace : Trace) → IsKernelTrace kernel trace → Fits flows trace → NoneSilent trace
    → IsClean kernel flows (length trace) trace
clean {kernel} {flows} f trace is fits none = record {
  reference = record {
    is = wide_trace within_bounds kernel trace is;
    speaks = none;
    instants = refl;
    fits = follows_fits kernel flows (length trace) trace f.fit.count (omega arith)
        (λ input lt. of_prefix (get_or flows input []) (last_value kernel input) (flow_of input trace) (fits input lt));
  };
  is = is;
  fits = fits;
}

-- a clean reference goes on where the next instant is within bounds
pub clean_more : {kernel : Kernel} {flows : List (List ℤ)} → Fitting kernel flows → (count : ℕ) (trace : Trace) (instant : Instant) → IsClean kernel flows count trace
    → IsReference kernel flows (suc count) (trace ++ instant ∷ []) → IsWithinBounds kernel flows trace instant → IsClean kernel flows (suc count) (trace ++ instant ∷ [])
clean_more {kernel} {flows} f count trace instant c next within = record {
  reference = next;
  is = goes_on Bounded kernel trace instant c.is within.is;
  fits = λ input lt. within_flow (get_or flows input []) (last_value kernel input) (flow_of input (trace ++ instant ∷ [])) (within.inputs input lt)
      (fits_follows kernel flows (suc count) (trace ++ instant ∷ []) f.fit.count next.fits input lt);
}

-- behind a trace of the kernel that fits the flows
pub clean_back : (kernel : Kernel) (flows : List (List ℤ)) (trace : Trace) (instant : Instant) → IsKernelTrace kernel (trace ++ instant ∷ []) → Fits flows (trace ++ instant ∷ [])
    → IsWithinBounds kernel flows trace instant
clean_back kernel flows trace instant is fits = record {
  is = (comes_from Bounded kernel trace instant is).1;
  inputs = λ input lt. prefix_length (flow_of input (trace ++ instant ∷ [])) (get_or flows input []) (fits input lt);
}

-- a clean reference up to the limit, or up to an instant that is not within bounds
abbrev pub IsCleanCut : Kernel → List (List ℤ) → ℕ → Trace → Type 0
IsCleanCut kernel flows limit trace = IsClean kernel flows (length trace) trace
    × ((length trace ≡ limit) ⊎ ((length trace < limit) × (instant : Instant) × StopsBefore kernel flows trace instant))

pub some_cut : {kernel : Kernel} {flows : List (List ℤ)} → Fitting kernel flows → (limit : ℕ) → (trace : Trace) × IsCleanCut kernel flows limit trace
some_cut {kernel} {flows} f zero =
    ([], (clean f [] (λ past instant back e. absurd (never past instant back (ap length e))) (λ input lt. (get_or flows input [], refl)) tt, inl refl)) where
      never : (past : Trace) (instant : Instant) (back : Trace) → 0 ≡ length (past ++ instant ∷ back) → ⊥
      never [] instant back e = omega (arith, e)
      never (first ∷ past) instant back e = omega (arith, e)
some_cut {kernel} {flows} f (suc limit) = by (some_cut f limit) where
  further : (trace : Trace) → IsClean kernel flows (length trace) trace → length trace ≡ limit → (trace : Trace) × IsCleanCut kernel flows (suc limit) trace
  further trace c at =
      let more = some_reference f (suc (length trace)) in
      let s = split_last more.0 (length trace) more.1.instants in
      let whole : IsReference kernel flows (suc (length trace)) (s.0 ++ s.1 ∷ []) = subst (λ t. IsReference kernel flows (suc (length trace)) t) s.2 more.1 in
      let begins : IsPrefixOf trace (s.0 ++ s.1 ∷ []) = reference_begins f (length trace) (suc (length trace)) trace (s.0 ++ s.1 ∷ []) (omega arith) c.reference whole in
      let same : s.0 ≡ trace = same_front trace s.0 s.1 begins s.3 in
      let next : IsReference kernel flows (suc (length trace)) (trace ++ s.1 ∷ []) = subst (λ t. IsReference kernel flows (suc (length trace)) (t ++ s.1 ∷ [])) same whole in
      at_instant trace s.1 c at next (decide_bounds kernel flows trace s.1 (comes_from Unbounded kernel trace s.1 next.is).1) where
        same_front : (trace front : Trace) (last : Instant) → IsPrefixOf trace (front ++ last ∷ []) → length front ≡ length trace → front ≡ trace
        same_front [] [] last begins e = refl
        same_front (y ∷ trace) (x ∷ front) last begins e =
            let parts : x ∷ (front ++ last ∷ []) ≡ y ∷ (trace ++ begins.0) = begins.1 in
            let rest : front ≡ trace = same_front trace front last (begins.0, cc) (omega (arith, e)) in
            cc
        same_front _ _ last begins e = absurd (omega (arith, e))

        at_instant : (trace : Trace) (instant : Instant) → IsClean kernel flows (length trace) trace → length trace ≡ limit
            → IsReference kernel flows (suc (length trace)) (trace ++ instant ∷ []) → Decided (IsWithinBounds kernel flows trace instant) → (trace : Trace) × IsCleanCut kernel flows (suc limit) trace
        at_instant trace instant c at next (inl within) =
            let longer = clean_more f (length trace) trace instant c next within in
            (trace ++ instant ∷ [], (subst (λ n. IsClean kernel flows n (trace ++ instant ∷ [])) (sym longer.reference.instants) longer, inl (longer.reference.instants ∙ ap suc at)))
        at_instant trace instant c at next (inr beyond) =
            (trace, (c, inr (omega (arith, at), instant, record { next = subst (λ n. IsReference kernel flows n (trace ++ instant ∷ [])) (omega arith) next; beyond = beyond })))

  by : (trace : Trace) × IsCleanCut kernel flows limit trace → (trace : Trace) × IsCleanCut kernel flows (suc limit) trace
  by found = at_end found.0 found.1.0 found.1.1 where
    at_end : (trace : Trace) → IsClean kernel flows (length trace) trace
        → (length trace ≡ limit) ⊎ ((length trace < limit) × (instant : Instant) × StopsBefore kernel flows trace instant) → (trace : Trace) × IsCleanCut kernel flows (suc limit) trace
    at_end trace c (inl at) = further trace c at
    at_end trace c (inr stops) = (trace, (c, inr (omega (arith, stops.0), stops.1, stops.2)))

-- the cut is the longest trace
pub cut_longest : {kernel : Kernel} {flows : List (List ℤ)} → Fitting kernel flows → (limit : ℕ) (trace : Trace) → IsCleanCut kernel flows limit trace
    → IsLongest (IsKernelTrace kernel) flows limit trace
cut_longest {kernel} {flows} f limit trace cut = record {
  is = cut.0.is;
  fits = cut.0.fits;
  within = short cut.1;
  speaks = cut.0.reference.speaks;
  longest = λ other is fits few. reduced_begins (reduce other) (reduced_trace Bounded kernel other is) ((fits_reduced flows other).1 fits) (speaks other) few;
} where
  short : (length trace ≡ limit) ⊎ ((length trace < limit) × (instant : Instant) × StopsBefore kernel flows trace instant) → length trace ≤ limit
  short (inl at) = omega (arith, at)
  short (inr stops) = omega (arith, stops.0)

  reduced_begins : (other : Trace) → IsKernelTrace kernel other → Fits flows other → NoneSilent other → length other ≤ limit → IsPrefixOf other trace
  reduced_begins other is fits none few = by cut.1 (at_most_or (length other) (length trace)) where
    begins : length other ≤ length trace → IsPrefixOf other trace
    begins le = reference_begins f (length other) (length trace) other trace le (clean f other is fits none).reference cut.0.reference

    by : (length trace ≡ limit) ⊎ ((length trace < limit) × (instant : Instant) × StopsBefore kernel flows trace instant) → (length other ≤ length trace) ⊎ (length trace < length other) → IsPrefixOf other trace
    by ends (inl le) = begins le
    by (inl at) (inr more) = begins (omega (arith, at, few))
    by (inr stops) (inr more) =
        let longer : IsPrefixOf (trace ++ stops.1 ∷ []) other =
        reference_begins f (length trace + 1) (length other) (trace ++ stops.1 ∷ []) other (omega (arith, more)) stops.2.next (clean f other is fits none).reference in
        absurd (stops.2.beyond (clean_back kernel flows trace stops.1 (prefix_trace Bounded kernel (trace ++ stops.1 ∷ []) other longer is) (prefix_fits flows (trace ++ stops.1 ∷ []) other longer fits)))

pub some_longest : {kernel : Kernel} {flows : List (List ℤ)} → Fitting kernel flows → (limit : ℕ) → (trace : Trace) × IsLongest (IsKernelTrace kernel) flows limit trace
some_longest {kernel} {flows} f limit = let found = some_cut f limit in (found.0, cut_longest f limit found.0 found.1)

-- and the longest trace is the cut
pub longest_cut : {kernel : Kernel} {flows : List (List ℤ)} → Fitting kernel flows → (limit : ℕ) (trace : Trace) → IsLongest (IsKernelTrace kernel) flows limit trace → IsCut kernel flows limit trace
longest_cut {kernel} {flows} f limit trace is =
    let found = some_cut f limit in
    let same : found.0 ≡ trace = one_longest (IsKernelTrace kernel) flows limit found.0 trace (cut_longest f limit found.0 found.1) is in
    let cut : IsCleanCut kernel flows limit trace = subst (λ t. IsCleanCut kernel flows limit t) same found.1 in
    record {
      reference = cut.0.reference;
      within = λ past instant future split.
          let begins : IsPrefixOf (past ++ instant ∷ []) trace = (future, split ∙ sym (append_assoc past (instant ∷ []) future)) in
          clean_back kernel flows past instant (prefix_trace Bounded kernel (past ++ instant ∷ []) trace begins is.is) (prefix_fits flows (past ++ instant ∷ []) trace begins is.fits);
      ends = cut.1;
    }
