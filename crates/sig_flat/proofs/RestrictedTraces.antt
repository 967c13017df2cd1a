-- Lemmas on traces of a kernel without its intermediates.
use Rattle.sig_flat.proofs.Common.{◌≡◌, ◌≤◌, ◌<◌, ◌+◌, ◌-◌, ◌++◌, ◌↔◌, ℕ, zero, suc, ℤ, min, Bool, true, false, List, [], ◌∷◌, length, take, drop, map, replicate, refl, ap, sym, subst, ◌∙◌, arith, append_assoc, None, Some, option_to_list, slice_index_or, AllByRecursion, append-nil, drop-take, get_or-take, length-append, length-map, length-replicate, length-take, length-take-le, take-append-drop, take-replicate, take_at, Trace, Instant, Seen, Range, Bounded, AreOfKinds, Fits, IsLongest, IsPrefixOf, NoneSilent, flow_of, is_silent, reduce, seen_at, Signal, kernel_of, restricted, IsKernelTrace, instant_text, output_text, outputs_of, seen_line, seen_lines, Kernel, FlatBody, IsProcessTrace}

-- what is known of the traces of a kernel
pub record Known (flat : FlatBody) : Type 0 where
  pub signals : IsPrefixOf flat.signals (kernel_of flat).signals
  pub restricts : (trace : Trace) → IsKernelTrace (kernel_of flat) trace → IsProcessTrace flat (restricted (length flat.signals) trace)
  pub extends : (trace : Trace) → IsProcessTrace flat trace
      → (whole : Trace) × IsKernelTrace (kernel_of flat) whole × (restricted (length flat.signals) whole ≡ trace)
  pub once : (a b : Trace) → IsKernelTrace (kernel_of flat) a → IsKernelTrace (kernel_of flat) b
      → restricted (length flat.signals) a ≡ restricted (length flat.signals) b → a ≡ b
  pub begins : (front trace : Trace) → IsPrefixOf front trace → IsKernelTrace (kernel_of flat) trace → IsKernelTrace (kernel_of flat) front
  pub reduces : (trace : Trace) → IsKernelTrace (kernel_of flat) trace → IsKernelTrace (kernel_of flat) (reduce trace)
  pub goes_on : (front back : Trace) (instant : Instant) → is_silent instant ≡ true → length instant ≡ length (kernel_of flat).signals
      → IsKernelTrace (kernel_of flat) (front ++ back) → IsKernelTrace (kernel_of flat) (front ++ instant ∷ back)

-- silent instants
all_absent : (instant : Instant) → is_silent instant ≡ true → instant ≡ replicate (length instant) None
all_absent [] silent = refl
all_absent (None ∷ instant) silent = ap (λ rest. None ∷ rest) (all_absent instant silent)
all_absent (Some v ∷ instant) silent = cc

absent_silent : (n : ℕ) → (let instant : Instant = replicate n None in is_silent instant ≡ true)
absent_silent zero = refl
absent_silent (suc n) = absent_silent n

take_silent : (n : ℕ) (instant : Instant) → is_silent instant ≡ true → is_silent (take n instant) ≡ true
take_silent (suc n) (None ∷ instant) silent = take_silent n instant silent
take_silent (suc n) (Some v ∷ instant) silent = cc
take_silent _ _ silent = refl

kinds_length : (range : Range) (signals : List Signal) (instant : Instant) → AreOfKinds range (map (λ (s : Signal). s.kind) signals) instant → length instant ≡ length signals
kinds_length range [] [] are = refl
kinds_length range (s ∷ signals) (seen ∷ instant) are = ap suc (kinds_length range signals instant are.1)
kinds_length range _ _ are = absurd are

same_ends : (n : ℕ) (past : Trace) (x y : Instant) → take n x ≡ take n y → restricted n (past ++ x ∷ []) ≡ restricted n (past ++ y ∷ [])
same_ends n [] x y same = ap (λ i. i ∷ []) same
same_ends n (first ∷ past) x y same = ap (λ rest. take n first ∷ rest) (same_ends n past x y same)

last_same : (past : Trace) (x y : Instant) → past ++ x ∷ [] ≡ past ++ y ∷ [] → x ≡ y
last_same [] x y e = cc
last_same (first ∷ past) x y e = let rest : past ++ x ∷ [] ≡ past ++ y ∷ [] = cc in last_same past x y rest

-- no intermediate is present where all other signals are absent
no_intermediate : (flat : FlatBody) → Known flat → (past future : Trace) (instant : Instant) → IsKernelTrace (kernel_of flat) (past ++ instant ∷ future)
    → is_silent (take (length flat.signals) instant) ≡ true → is_silent instant ≡ true
no_intermediate flat known past future instant is silent =
    let n : ℕ = length flat.signals in
    let all : ℕ = length (kernel_of flat).signals in
    let within : all ≡ n + length known.signals.0 = ap length known.signals.1 ∙ length-append flat.signals known.signals.0 in
    let count : length instant ≡ all = kinds_length Bounded (kernel_of flat).signals instant (is past instant future refl).kinds in
    let quiet : Instant = replicate all None in
    let here : IsKernelTrace (kernel_of flat) (past ++ instant ∷ []) = known.begins (past ++ instant ∷ []) (past ++ instant ∷ future) (future, sym (append_assoc past (instant ∷ []) future)) is in
    let before : IsKernelTrace (kernel_of flat) (past ++ []) = known.begins (past ++ []) (past ++ instant ∷ []) (instant ∷ [], ap (λ t. t ++ instant ∷ []) (sym (append-nil past))) here in
    let there : IsKernelTrace (kernel_of flat) (past ++ quiet ∷ []) = known.goes_on past [] quiet (absent_silent all) (length-replicate all None) before in
    let front : take n instant ≡ replicate n None = all_absent (take n instant) silent ∙ ap (λ k. replicate k None) (length-take-le n instant (omega (arith, within, count))) in
    let same : take n instant ≡ take n quiet = front ∙ sym (take-replicate n all None (omega (arith, within))) in
    let e : instant ≡ quiet = last_same past instant quiet (known.once (past ++ instant ∷ []) (past ++ quiet ∷ []) here there (same_ends n past instant quiet same)) in
    subst (λ i. is_silent i ≡ true) (sym e) (absent_silent all)

-- an instant is silent with and without the intermediates
abbrev IsAlike : ℕ → Instant → Type 0
IsAlike n instant = is_silent (take n instant) ≡ is_silent instant

alike : (a b : Bool) → (a ≡ true → b ≡ true) → (b ≡ true → a ≡ true) → a ≡ b
alike true b there back = sym (there refl)
alike false true there back = back refl
alike false false there back = refl

at_all : (P : Instant → Type 0) (trace : Trace) → ((before : Trace) (instant : Instant) (after : Trace) → trace ≡ before ++ instant ∷ after → P instant) → AllByRecursion P trace
at_all P [] each = tt
at_all P (instant ∷ trace) each = (each [] instant trace refl, at_all P trace (λ before other after e. each (instant ∷ before) other after (ap (λ rest. instant ∷ rest) e)))

everywhere : (flat : FlatBody) → Known flat → (trace : Trace) → IsKernelTrace (kernel_of flat) trace → AllByRecursion (IsAlike (length flat.signals)) trace
everywhere flat known trace is = at_all (IsAlike (length flat.signals)) trace (λ before instant after e.
    alike (is_silent (take (length flat.signals) instant)) (is_silent instant)
    (no_intermediate flat known before after instant (subst (IsKernelTrace (kernel_of flat)) e is)) (take_silent (length flat.signals) instant))

commutes : (n : ℕ) (trace : Trace) → AllByRecursion (IsAlike n) trace → reduce (restricted n trace) ≡ restricted n (reduce trace)
commutes n [] all = refl
commutes n (instant ∷ trace) all = one (is_silent instant) all.0 refl (commutes n trace all.1) where
  one : (silent : Bool) → is_silent (take n instant) ≡ is_silent instant → is_silent instant ≡ silent → reduce (restricted n trace) ≡ restricted n (reduce trace)
      → reduce (restricted n (instant ∷ trace)) ≡ restricted n (reduce (instant ∷ trace))
  one true same is rest = rw (same ∙ is, is) rest
  one false same is rest = rw (same ∙ is, is) (ap (λ r. take n instant ∷ r) rest)

pub reduce_commutes : (flat : FlatBody) → Known flat → (trace : Trace) → IsKernelTrace (kernel_of flat) trace
    → reduce (restricted (length flat.signals) trace) ≡ restricted (length flat.signals) (reduce trace)
reduce_commutes flat known trace is = commutes (length flat.signals) trace (everywhere flat known trace is)

speaks_restricted : (n : ℕ) (trace : Trace) → AllByRecursion (IsAlike n) trace → NoneSilent trace → NoneSilent (restricted n trace)
speaks_restricted n [] all none = tt
speaks_restricted n (instant ∷ trace) all none = (all.0 ∙ none.0, speaks_restricted n trace all.1 none.1)

speaks_whole : (n : ℕ) (trace : Trace) → AllByRecursion (IsAlike n) trace → NoneSilent (restricted n trace) → NoneSilent trace
speaks_whole n [] all none = tt
speaks_whole n (instant ∷ trace) all none = (sym all.0 ∙ none.0, speaks_whole n trace all.1 none.1)

-- flows and texts
pub flow_restricted : (n signal : ℕ) (trace : Trace) → signal < n → flow_of signal (restricted n trace) ≡ flow_of signal trace
flow_restricted n signal [] lt = refl
flow_restricted n signal (instant ∷ trace) lt =
    ap (λ seen. option_to_list seen ++ flow_of signal (restricted n trace)) (get_or-take n instant signal None lt)
    ∙ ap (λ rest. option_to_list (seen_at instant signal) ++ rest) (flow_restricted n signal trace lt)

pub fits_restricted : (n : ℕ) (flows : List (List ℤ)) (trace : Trace) → length flows ≤ n → Fits flows (restricted n trace) ↔ Fits flows trace
fits_restricted n flows trace few = (
  (λ fits input lt. subst (λ flow. IsPrefixOf flow (slice_index_or flows input [])) (flow_restricted n input trace (omega (arith, few, lt))) (fits input lt)),
  (λ fits input lt. subst (λ flow. IsPrefixOf flow (slice_index_or flows input [])) (sym (flow_restricted n input trace (omega (arith, few, lt)))) (fits input lt)),
)

lines_taken : (signals : List Signal) (m : ℕ) (seen : List Seen) → length signals ≤ m → seen_lines signals (take m seen) ≡ seen_lines signals seen
lines_taken (signal ∷ signals) zero seen le = absurd (omega (arith, le))
lines_taken (signal ∷ signals) (suc m) (s ∷ seen) le = ap (λ rest. seen_line signal s ++ rest) (lines_taken signals m seen (omega (arith, le)))
lines_taken _ _ _ le = refl

instant_restricted : (kernel : Kernel) (n : ℕ) (instant : Instant) → kernel.inputs + kernel.outputs ≤ n → instant_text kernel (take n instant) ≡ instant_text kernel instant
instant_restricted kernel n instant le =
    let m : ℕ = n - kernel.inputs in
    let sum : n ≡ kernel.inputs + m = omega (arith, le) in
    let behind : drop kernel.inputs (take n instant) ≡ take m (drop kernel.inputs instant) = ap (λ k. drop kernel.inputs (take k instant)) sum ∙ drop-take kernel.inputs m instant in
    let count : length (outputs_of kernel) ≡ min kernel.outputs (length (drop kernel.inputs kernel.signals)) = length-take kernel.outputs (drop kernel.inputs kernel.signals) in
    ap (λ seen. seen_lines (outputs_of kernel) seen) behind ∙ lines_taken (outputs_of kernel) m (drop kernel.inputs instant) (omega (arith, count, le))

pub text_restricted : (kernel : Kernel) (n : ℕ) (trace : Trace) → kernel.inputs + kernel.outputs ≤ n → output_text kernel (restricted n trace) ≡ output_text kernel trace
text_restricted kernel n [] le = refl
text_restricted kernel n (instant ∷ trace) le =
    ap (λ text. text ++ output_text kernel (restricted n trace)) (instant_restricted kernel n instant le)
    ∙ ap (λ rest. instant_text kernel instant ++ rest) (text_restricted kernel n trace le)

-- beginnings
restricted_append : (n : ℕ) (t u : Trace) → restricted n (t ++ u) ≡ restricted n t ++ restricted n u
restricted_append n [] u = refl
restricted_append n (instant ∷ t) u = ap (λ rest. take n instant ∷ rest) (restricted_append n t u)

restricted_prefix : (n : ℕ) (t u : Trace) → IsPrefixOf t u → IsPrefixOf (restricted n t) (restricted n u)
restricted_prefix n t u begins = (restricted n begins.0, ap (λ trace. restricted n trace) begins.1 ∙ restricted_append n t begins.0)

take_restricted : (n m : ℕ) (t : Trace) → take m (restricted n t) ≡ restricted n (take m t)
take_restricted n (suc m) (instant ∷ t) = ap (λ rest. take n instant ∷ rest) (take_restricted n m t)
take_restricted n _ _ = refl

-- the longest traces
pub longest_restricted : (flat : FlatBody) → Known flat → (flows : List (List ℤ)) (limit : ℕ) (trace : Trace) → length flows ≤ length flat.signals
    → IsLongest (IsKernelTrace (kernel_of flat)) flows limit trace → IsLongest (IsProcessTrace flat) flows limit (restricted (length flat.signals) trace)
longest_restricted flat known flows limit trace few is =
    let n : ℕ = length flat.signals in
    record {
      is = known.restricts trace is.is;
      fits = (fits_restricted n flows trace few).1 is.fits;
      within = subst (λ k. k ≤ limit) (sym (length-map trace (take n))) is.within;
      speaks = speaks_restricted n trace (everywhere flat known trace is.is) is.speaks;
      longest = λ other of fits short.
          let whole = known.extends other of in
          let same : reduce other ≡ restricted n (reduce whole.0) = ap reduce (sym whole.2) ∙ reduce_commutes flat known whole.0 whole.1 in
          let count : length (reduce other) ≡ length (reduce whole.0) = ap length same ∙ length-map (reduce whole.0) (take n) in
          let fit : Fits flows whole.0 = (fits_restricted n flows whole.0 few).0 (subst (Fits flows) (sym whole.2) fits) in
          let begins : IsPrefixOf (reduce whole.0) trace = is.longest whole.0 whole.1 fit (omega (arith, count, short)) in
          subst (λ t. IsPrefixOf t (restricted n trace)) (sym same) (restricted_prefix n (reduce whole.0) trace begins);
    }

pub longest_extended : (flat : FlatBody) → Known flat → (flows : List (List ℤ)) (limit : ℕ) (trace : Trace) → length flows ≤ length flat.signals
    → IsKernelTrace (kernel_of flat) trace → IsLongest (IsProcessTrace flat) flows limit (restricted (length flat.signals) trace)
    → IsLongest (IsKernelTrace (kernel_of flat)) flows limit trace
longest_extended flat known flows limit trace few kept is =
    let n : ℕ = length flat.signals in
    record {
      is = kept;
      fits = (fits_restricted n flows trace few).0 is.fits;
      within = subst (λ k. k ≤ limit) (length-map trace (take n)) is.within;
      speaks = speaks_whole n trace (everywhere flat known trace kept) is.speaks;
      longest = λ other of fits short.
          let m : ℕ = length (reduce other) in
          let same : reduce (restricted n other) ≡ restricted n (reduce other) = reduce_commutes flat known other of in
          let count : length (restricted n (reduce other)) ≡ m = length-map (reduce other) (take n) in
          let fewer : length (reduce (restricted n other)) ≤ limit = subst (λ t. length t ≤ limit) (sym same) (omega (arith, count, short)) in
          let begins : IsPrefixOf (restricted n (reduce other)) (restricted n trace) =
          subst (λ t. IsPrefixOf t (restricted n trace)) same (is.longest (restricted n other) (known.restricts other of) ((fits_restricted n flows other few).1 fits) fewer) in
          let front : restricted n (reduce other) ≡ restricted n (take m trace) =
          sym (take_at (restricted n (reduce other)) begins.0 m count) ∙ ap (λ t. take m t) (sym begins.1) ∙ take_restricted n m trace in
          let e : reduce other ≡ take m trace = known.once (reduce other) (take m trace) (known.reduces other of)
          (known.begins (take m trace) trace (drop m trace, sym (take-append-drop m trace)) kept) front in
          (drop m trace, sym (take-append-drop m trace) ∙ ap (λ t. t ++ drop m trace) (sym e));
    }
