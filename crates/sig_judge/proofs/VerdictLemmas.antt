-- What the equations of a flat body lead to decides the verdict.
use Rattle.sig_judge.proofs.Common.{◌≡◌, ◌<◌, ◌≤◌, ◌+◌, ◌++◌, ◌⊎◌, ℕ, suc, List, [], ◌∷◌, length, map, take, drop, get_or, refl, sym, ap, subst, ◌∙◌, arith, ⊎_elim, length-append, AllByRecursion, AllZip, get_or-append, drop-cons, cases_order, take-append-drop, take_all, length-take-le, length-map, Instant, Trace, Bounded, AreOfKinds, FlatEquation, Defines, Equal, FlatBody, instant_at, HoldsAt, HoldThroughout, IsTraceOf, IsProcessTrace, kinds_of, EquationSteps, Leads, HoldsBehind, holds_up_to, BreaksAt, without_prefix, IsBroken, IsVerdict, Verdict, Accepted, Broken, all_front, zip_back, zip_left}
use Rattle.sig_judge.proofs.ZipLemmas.{Splits, zip_split, zip_map_left, zip_length, all_at, all_map}

-- laws of process traces
abbrev pub Hold : Type 0
Hold = (equations nexts : List FlatEquation) (t : Trace) → Leads equations t nexts → HoldThroughout equations t

abbrev pub Behind : Type 0
Behind = (equations nexts : List FlatEquation) (front rest : Trace) → Leads equations front nexts → AllZip (HoldsBehind front rest) equations nexts

abbrev pub First : Type 0
First = (equation : FlatEquation) (now : Instant) (t : Trace) → HoldsAt (now ∷ t) 0 equation → (next : FlatEquation) × EquationSteps now equation next

abbrev pub Holds : Type 0
Holds = (equation next : FlatEquation) (now : Instant) (t : Trace) → EquationSteps now equation next → HoldsAt (now ∷ t) 0 equation

abbrev pub UpTo : Type 0
UpTo = (equation : FlatEquation) (t u : Trace) (i : ℕ) → ((k : ℕ) → k ≤ i → instant_at t k ≡ instant_at u k) → HoldsAt t i equation → HoldsAt u i equation

-- a prefix changes nothing
bare : (t : Trace) (i : ℕ) (q : FlatEquation) → HoldsAt t i (without_prefix q) → HoldsAt t i q
bare t i (Defines signal e prefix) h = h
bare t i (Equal operands prefix) h = h

bare_back : (t : Trace) (i : ℕ) (q : FlatEquation) → HoldsAt t i q → HoldsAt t i (without_prefix q)
bare_back t i (Defines signal e prefix) h = h
bare_back t i (Equal operands prefix) h = h

bare_through : (t : Trace) (qs : List FlatEquation) → HoldThroughout (map without_prefix qs) t → HoldThroughout qs t
bare_through t qs h i lt = all_map without_prefix (HoldsAt t i) (HoldsAt t i) (bare t i) qs (h i lt)

-- there are as many equations behind a trace as before it
leads_length : (t : Trace) (qs nexts : List FlatEquation) → Leads qs t nexts → length nexts ≡ length qs
leads_length [] qs nexts h = ap length h
leads_length (now ∷ t) qs nexts h = leads_length t h.0 nexts h.2 ∙ sym (zip_length (EquationSteps now) qs h.0 h.1)

pub within_body : {A : Type 0} (f : A → FlatEquation) (xs : List A) (t : Trace) (nexts : List FlatEquation) (now : Instant) (e : ℕ) → Leads (map without_prefix (map f xs)) t nexts → BreaksAt now nexts e → e < length xs
within_body f xs t nexts now e h b =
    let same : length nexts ≡ length (map without_prefix (map f xs)) = leads_length t (map without_prefix (map f xs)) nexts h in
    let first : length (map without_prefix (map f xs)) ≡ length (map f xs) = length-map (map f xs) without_prefix in
    let second : length (map f xs) ≡ length xs = length-map xs f in
    let split : length nexts ≡ length b.earlier + suc (length b.later) = ap length b.equations_are ∙ length-append b.earlier (b.broken ∷ b.later) in
    let index : e ≡ length b.earlier = b.index_is in
    omega arith

-- at an equation, what holds at the first instant behind a trace
abbrev Same : Trace → Instant → Trace → FlatEquation → FlatEquation → Type 0
Same front now rest q next = HoldsBehind front (now ∷ rest) (without_prefix q) next

here_of : (trace front : Trace) (now : Instant) (rest : Trace) → trace ≡ front ++ now ∷ rest → (q next : FlatEquation) → Same front now rest q next → HoldsAt (now ∷ rest) 0 next → HoldsAt trace (length front) q
here_of trace front now rest split q next same h =
    let end : length front + 0 ≡ length front = omega arith in
    subst (λ (t : Trace). HoldsAt t (length front) q) (sym split)
    (subst (λ (i : ℕ). HoldsAt (front ++ now ∷ rest) i q) end (bare (front ++ now ∷ rest) (length front + 0) q ((same 0).1 h)))

there_of : (trace front : Trace) (now : Instant) (rest : Trace) → trace ≡ front ++ now ∷ rest → (q next : FlatEquation) → Same front now rest q next → HoldsAt trace (length front) q → HoldsAt (now ∷ rest) 0 next
there_of trace front now rest split q next same h =
    let end : length front + 0 ≡ length front = omega arith in
    (same 0).0 (bare_back (front ++ now ∷ rest) (length front + 0) q
    (subst (λ (i : ℕ). HoldsAt (front ++ now ∷ rest) i q) (sym end) (subst (λ (t : Trace). HoldsAt t (length front) q) split h)))

-- where an instant breaks an equation that the body led to, the trace is broken
pub broken_here : Behind → Hold → First → Holds → (flat : FlatBody) (trace : Trace) (k : ℕ) (d : Instant) → k < length trace → IsTraceOf flat.signals trace
    → (nexts : List FlatEquation) → Leads (map without_prefix flat.equations) (take k trace) nexts → (e : ℕ) → BreaksAt (get_or trace k d) nexts e → IsBroken flat trace (k + 1) (e + 1)
broken_here behind hold first holds flat trace k d lt kinds nexts leads e b =
    let now : Instant = get_or trace k d in
    let front : Trace = take k trace in
    let rest : Trace = drop (suc k) trace in
    let split : trace ≡ front ++ now ∷ rest = sym (take-append-drop k trace) ∙ ap (λ (back : Trace). take k trace ++ back) (drop-cons trace k d lt) in
    let long : length front ≡ k = length-take-le k trace (omega arith) in
    let zipped : AllZip (Same front now rest) flat.equations nexts =
    zip_map_left without_prefix (HoldsBehind front (now ∷ rest)) flat.equations nexts (behind (map without_prefix flat.equations) nexts front (now ∷ rest) leads) in
    let s : Splits (Same front now rest) flat.equations b.earlier b.broken =
    zip_split (Same front now rest) flat.equations b.earlier b.broken b.later (subst (λ (qs : List FlatEquation). AllZip (Same front now rest) flat.equations qs) b.equations_are zipped) in
    let index : e ≡ length b.earlier = b.index_is in
    let same_length : length s.earlier ≡ length b.earlier = s.long in
    record {
      front = front;
      now = now;
      rest = rest;
      trace_is = split;
      instant_is = omega arith;
      good = record {
        kinds = all_front (AreOfKinds Bounded (kinds_of flat.signals)) front (now ∷ rest) (subst (λ (t : Trace). IsTraceOf flat.signals t) split kinds);
        holds = bare_through front flat.equations (hold (map without_prefix flat.equations) nexts front leads);
      };
      earlier = s.earlier;
      broken = s.here;
      later = s.later;
      equations_are = s.are;
      equation_is = omega arith;
      hold = zip_back (HoldsAt trace (length front)) (HoldsAt (now ∷ rest) 0) (Same front now rest) (here_of trace front now rest split) s.earlier b.earlier s.each
          (zip_left (HoldsAt (now ∷ rest) 0) (EquationSteps now) (λ q n step. holds q n now rest step) b.earlier b.nexts b.steps);
      breaks = λ h. let step = first b.broken now rest (there_of trace front now rest split s.here b.broken s.at h) in b.breaks step.0 step.1;
    }

-- where the body led through the whole trace, it is one of the process
pub accepted_here : Hold → (flat : FlatBody) (trace : Trace) (k : ℕ) → length trace ≤ k → IsTraceOf flat.signals trace
    → (nexts : List FlatEquation) → Leads (map without_prefix flat.equations) (take k trace) nexts → IsProcessTrace flat trace
accepted_here hold flat trace k le kinds nexts leads = record {
  kinds = kinds;
  holds = bare_through trace flat.equations (hold (map without_prefix flat.equations) nexts trace (subst (λ (t : Trace). Leads (map without_prefix flat.equations) t nexts) (take_all k trace le) leads));
}

-- a trace of the process is not broken
not_both : (flat : FlatBody) (trace : Trace) (i e : ℕ) → IsProcessTrace flat trace → IsBroken flat trace i e → ⊥
not_both flat trace i e is b =
    let long : length trace ≡ length b.front + suc (length b.rest) = ap length b.trace_is ∙ length-append b.front (b.now ∷ b.rest) in
    b.breaks (all_at (HoldsAt trace (length b.front)) b.earlier b.broken b.later
    (subst (λ (qs : List FlatEquation). AllByRecursion (HoldsAt trace (length b.front)) qs) b.equations_are (is.holds (length b.front) (omega arith))))

-- of two ways to split a list, what stands at the shorter front's end is in the longer front
in_longer : (P : FlatEquation → Type 0) (a : List FlatEquation) (x : FlatEquation) (l b : List FlatEquation) (y : FlatEquation) (m : List FlatEquation)
    → a ++ x ∷ l ≡ b ++ y ∷ m → length a < length b → AllByRecursion P b → P x
in_longer P [] x l [] y m e lt h = absurd (omega arith)
in_longer P [] x l (z ∷ b) y m e lt h = let same : z ≡ x = cc in subst P same h.0
in_longer P (w ∷ a) x l [] y m e lt h = absurd (omega arith)
in_longer P (w ∷ a) x l (z ∷ b) y m e lt h =
    let tail : a ++ x ∷ l ≡ b ++ y ∷ m = cc in
    in_longer P a x l b y m tail (omega arith) h.1

no_later_instant : UpTo → (flat : FlatBody) (trace : Trace) (i e j f : ℕ) → (a : IsBroken flat trace i e) (b : IsBroken flat trace j f) → length a.front < length b.front → ⊥
no_later_instant up_to flat trace i e j f a b lt =
    a.breaks (up_to a.broken b.front trace (length a.front)
    (λ k le. let below : k < length b.front = omega arith in
    sym (ap (λ (t : Trace). instant_at t k) b.trace_is ∙ get_or-append b.front (b.now ∷ b.rest) [] k below))
    (all_at (HoldsAt b.front (length a.front)) a.earlier a.broken a.later
    (subst (λ (qs : List FlatEquation). AllByRecursion (HoldsAt b.front (length a.front)) qs) a.equations_are (b.good.holds (length a.front) lt))))

no_later_equation : (flat : FlatBody) (trace : Trace) (i e j f : ℕ) → (a : IsBroken flat trace i e) (b : IsBroken flat trace j f) → length a.front ≡ length b.front → length a.earlier < length b.earlier → ⊥
no_later_equation flat trace i e j f a b same lt =
    a.breaks (subst (λ (n : ℕ). HoldsAt trace n a.broken) (sym same)
    (in_longer (HoldsAt trace (length b.front)) a.earlier a.broken a.later b.earlier b.broken b.later (sym a.equations_are ∙ b.equations_are) lt b.hold))

same_instant : UpTo → (flat : FlatBody) (trace : Trace) (i e j f : ℕ) → (a : IsBroken flat trace i e) (b : IsBroken flat trace j f) → length a.front ≡ length b.front
same_instant up_to flat trace i e j f a b = ⊎_elim
    (λ (same : length a.front ≡ length b.front). same)
    (λ (h : (length a.front < length b.front) ⊎ (length b.front < length a.front)). ⊎_elim
    (λ (lt : length a.front < length b.front). absurd (no_later_instant up_to flat trace i e j f a b lt))
    (λ (lt : length b.front < length a.front). absurd (no_later_instant up_to flat trace j f i e b a lt)) h)
    (cases_order (length a.front) (length b.front))

same_equation : UpTo → (flat : FlatBody) (trace : Trace) (i e j f : ℕ) → (a : IsBroken flat trace i e) (b : IsBroken flat trace j f) → length a.earlier ≡ length b.earlier
same_equation up_to flat trace i e j f a b =
    let instant = same_instant up_to flat trace i e j f a b in
    ⊎_elim
    (λ (same : length a.earlier ≡ length b.earlier). same)
    (λ (h : (length a.earlier < length b.earlier) ⊎ (length b.earlier < length a.earlier)). ⊎_elim
    (λ (lt : length a.earlier < length b.earlier). absurd (no_later_equation flat trace i e j f a b instant lt))
    (λ (lt : length b.earlier < length a.earlier). absurd (no_later_equation flat trace j f i e b a (sym instant) lt)) h)
    (cases_order (length a.earlier) (length b.earlier))

one_broken : UpTo → (flat : FlatBody) (trace : Trace) (i e j f : ℕ) → IsBroken flat trace i e → IsBroken flat trace j f → (i ≡ j) × (e ≡ f)
one_broken up_to flat trace i e j f a b = (
  a.instant_is ∙ ap (λ (n : ℕ). n + 1) (same_instant up_to flat trace i e j f a b) ∙ sym b.instant_is,
  a.equation_is ∙ ap (λ (n : ℕ). n + 1) (same_equation up_to flat trace i e j f a b) ∙ sym b.equation_is,
)

pub accepted_exactly : (flat : FlatBody) (trace : Trace) (v : Verdict) → IsVerdict flat trace v → (v ≡ Accepted → IsProcessTrace flat trace) × (IsProcessTrace flat trace → v ≡ Accepted)
accepted_exactly flat trace Accepted h = ((λ same. h), (λ is. refl))
accepted_exactly flat trace (Broken i e) h = ((λ same. cc), (λ is. absurd (not_both flat trace i e is h)))

pub broken_exactly : UpTo → (flat : FlatBody) (trace : Trace) (v : Verdict) → IsVerdict flat trace v
    → (i e : ℕ) → (v ≡ Broken i e → IsBroken flat trace i e) × (IsBroken flat trace i e → v ≡ Broken i e)
broken_exactly up_to flat trace Accepted h i e = ((λ same. cc), (λ b. absurd (not_both flat trace i e h b)))
broken_exactly up_to flat trace (Broken j f) h i e = (
  (λ same. let first : j ≡ i = cc in let second : f ≡ e = cc in
      subst (λ (n : ℕ). IsBroken flat trace n e) first (subst (λ (n : ℕ). IsBroken flat trace j n) second h)),
  (λ b. let one = one_broken up_to flat trace j f i e h b in ap (λ (n : ℕ). Broken n f) one.0 ∙ ap (λ (n : ℕ). Broken i n) one.1),
)

pub one_verdict : UpTo → (flat : FlatBody) (trace : Trace) (v w : Verdict) → IsVerdict flat trace v → IsVerdict flat trace w → v ≡ w
one_verdict up_to flat trace v Accepted h is = (accepted_exactly flat trace v h).1 is
one_verdict up_to flat trace v (Broken i e) h is = (broken_exactly up_to flat trace v h i e).1 is

-- a trace has one verdict
pub one_verdict_of : (flat : FlatBody) (trace : Trace) (v w : Verdict) → IsVerdict flat trace v → IsVerdict flat trace w → v ≡ w
one_verdict_of = one_verdict (λ equation t u i same a. holds_up_to t u equation i same a)
