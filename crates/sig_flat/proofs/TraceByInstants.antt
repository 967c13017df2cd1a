-- The traces of a kernel and those of the flat body, one instant after another.
use Rattle.sig_flat.proofs.Common.{◌≡◌, ◌≤◌, ◌<◌, ℕ, zero, suc, List, [], ◌∷◌, length, take, refl, sym, ap, subst, ◌∙◌, arith, append-nil, AllByRecursion, Signal as Declared, Instant, Trace, Bounded, AreOfKinds, IsKernelTrace, FlatEquation, FlatBody, kinds_of, HoldsAt, HoldThroughout, IsTraceOf, IsProcessTrace, EquationSteps, BodySteps, IsWellMade, Made, next as next_signal, kernel_of, restricted, with_flat_equations}
use Rattle.sig_flat.proofs.Agreement.{Agree, agree_then, agree_back, Fitting, fitting, Suits, kinds_length, kinds_begin, take_agrees, begins_with, same_instant}
use Rattle.sig_flat.proofs.AddedBehind.{equations_grow}
use Rattle.sig_flat.proofs.Instants.{behind_made, Runs, runs_from, trace_from}
use Rattle.sig_flat.proofs.TranslationCases.{Met}
use Rattle.sig_flat.proofs.AddedSignals.{Over, over_then, over_size}
use Rattle.sig_flat.proofs.ExpressionValues.{OneStep, made_fits}
use Rattle.sig_flat.proofs.MetTranslations.{Goes, BodySays, AreMade, body_says, body_at, body_goes, body_stays}

-- what is said of equations that are read one instant at a time
pub record ReadByInstants : Type 0 where
  pub one : OneStep
  pub first : (q : FlatEquation) (now : Instant) (t : Trace) → HoldsAt (now ∷ t) 0 q → (next : FlatEquation) × EquationSteps now q next
  pub holds : (q next : FlatEquation) (now : Instant) (t : Trace) → EquationSteps now q next → HoldsAt (now ∷ t) 0 q
  pub behind : (q next : FlatEquation) (now : Instant) (t : Trace) → EquationSteps now q next → (i : ℕ) → HoldsAt (now ∷ t) (suc i) q → HoldsAt t i next
  pub whole : (q next : FlatEquation) (now : Instant) (t : Trace) → EquationSteps now q next → (i : ℕ) → HoldsAt t i next → HoldsAt (now ∷ t) (suc i) q

steps_first : ReadByInstants → (qs : List FlatEquation) (now : Instant) (t : Trace) → AllByRecursion (HoldsAt (now ∷ t) 0) qs → (nexts : List FlatEquation) × BodySteps now qs nexts
steps_first read [] now t h = ([], tt)
steps_first read (q ∷ qs) now t h =
    let s = read.first q now t h.0 in
    let r = steps_first read qs now t h.1 in
    (s.0 ∷ r.0, (s.1, r.1))

hold_now : ReadByInstants → (qs nexts : List FlatEquation) (now : Instant) (t : Trace) → BodySteps now qs nexts → AllByRecursion (HoldsAt (now ∷ t) 0) qs
hold_now read [] nexts now t a = tt
hold_now read (q ∷ qs) [] now t a = absurd a
hold_now read (q ∷ qs) (n ∷ nexts) now t a = (read.holds q n now t a.0, hold_now read qs nexts now t a.1)

hold_behind : ReadByInstants → (qs nexts : List FlatEquation) (now : Instant) (t : Trace) (i : ℕ) → BodySteps now qs nexts → AllByRecursion (HoldsAt (now ∷ t) (suc i)) qs → AllByRecursion (HoldsAt t i) nexts
hold_behind read [] [] now t i a h = tt
hold_behind read (q ∷ qs) (n ∷ nexts) now t i a h = (read.behind q n now t a.0 i h.0, hold_behind read qs nexts now t i a.1 h.1)
hold_behind read _ _ now t i a h = absurd a

hold_later : ReadByInstants → (qs nexts : List FlatEquation) (now : Instant) (t : Trace) (i : ℕ) → BodySteps now qs nexts → AllByRecursion (HoldsAt t i) nexts → AllByRecursion (HoldsAt (now ∷ t) (suc i)) qs
hold_later read [] nexts now t i a h = tt
hold_later read (q ∷ qs) [] now t i a h = absurd a
hold_later read (q ∷ qs) (n ∷ nexts) now t i a h = (read.whole q n now t a.0 i h.0, hold_later read qs nexts now t i a.1 h.1)

joined : (x y : Instant) (a b : Trace) → x ≡ y → a ≡ b → x ∷ a ≡ y ∷ b
joined x y a b first rest = cc

begins_by : (now whole : Instant) (count : ℕ) → length now ≡ count → count ≤ length whole → Agree count now whole → take count whole ≡ now
begins_by now whole count size few agree =
    ap (λ n. take n whole) (sym size) ∙ begins_with now whole (omega arith) (subst (λ n. Agree n now whole) (sym size) agree)

-- before any equation
abbrev start : List Declared → Made
start signals = record { signals = signals; equations = [] }

over_start : (signals : List Declared) → Over signals (start signals)
over_start signals = record { more = []; is = sym (append-nil signals) }

over_all : (signals : List Declared) (qs : List FlatEquation) → Over signals (with_flat_equations qs (start signals))
over_all signals qs = over_then signals (start signals) (with_flat_equations qs (start signals)) (over_start signals)
    (equations_grow qs (start signals))

abbrev RunsOf : Made → Trace → Type 0
RunsOf made trace = Runs (kinds_of made.signals) made.equations trace

runs_as : (a b : Made) (trace : Trace) → a ≡ b → RunsOf a trace → RunsOf b trace
runs_as a b trace e h = subst (λ (m : Made). RunsOf m trace) e h

-- from a trace of the kernel
holds_in : ReadByInstants → (signals : List Declared) (qs : List FlatEquation) (trace : Trace) → AreMade signals qs → RunsOf (with_flat_equations qs (start signals)) trace
    → IsTraceOf signals (restricted (length signals) trace) × HoldThroughout qs (restricted (length signals) trace)
holds_in read signals qs [] h runs = (tt, λ i below. absurd (omega arith))
holds_in read signals qs (now ∷ trace) h runs =
    let made : Made = with_flat_equations qs (start signals) in
    let over : Over signals made = over_all signals qs in
    let fits : Fitting now = fitting made.signals now runs.0.kinds in
    let suits : Suits signals now = made_fits signals made now over runs.0.kinds in
    let s : BodySays qs (start signals) now = body_says signals qs (start signals) now fits suits h runs.0.equations in
    let r = holds_in read signals s.nexts trace (body_stays signals now suits qs s.nexts h s.steps) (subst (λ (m : Made). RunsOf m trace) (sym s.is) runs.1) in
    let here : Instant = take (length signals) now in
    let rest : Trace = restricted (length signals) trace in
    let steps : BodySteps here qs s.nexts = body_at signals qs s.nexts now here h (take_agrees (length signals) now) s.steps in (
      (kinds_begin signals over.more now (subst (λ (xs : List Declared). AreOfKinds Bounded (kinds_of xs) now) over.is runs.0.kinds), r.0),
      by_number (λ i. AllByRecursion (HoldsAt (here ∷ rest) i) qs) (length rest) (hold_now read qs s.nexts here rest steps)
          (λ i below. hold_later read qs s.nexts here rest i steps (r.1 i below)),
    )
  where
    by_number : (P : ℕ → Type 0) (n : ℕ) → P zero → ((i : ℕ) → i < n → P (suc i)) → (i : ℕ) → i < suc n → P i
    by_number P n first later zero below = first
    by_number P n first later (suc i) below = later i (omega arith)

-- from a trace of the process
goes_on : ReadByInstants → (signals : List Declared) (qs : List FlatEquation) (trace : Trace) → AreMade signals qs → IsTraceOf signals trace → HoldThroughout qs trace
    → (whole : Trace) × RunsOf (with_flat_equations qs (start signals)) whole × (restricted (length signals) whole ≡ trace)
goes_on read signals qs [] h kinds holds = ([], tt, refl)
goes_on read signals qs (now ∷ trace) h kinds holds =
    let made : Made = with_flat_equations qs (start signals) in
    let over : Over signals made = over_all signals qs in
    let f = steps_first read qs now trace (holds zero (omega arith)) in
    let g : Goes made (start signals) now = body_goes read.one signals qs f.0 (start signals) now (over_start signals) kinds.0 h f.1 in
    let fits : Fitting g.whole = fitting made.signals g.whole g.kinds in
    let suits : Suits signals g.whole = made_fits signals made g.whole over g.kinds in
    let met : Met g.whole made = g.met g.whole fits (λ x below. refl) tt in
    let begins : Agree (length signals) now g.whole = g.begins g.whole (λ x below. refl) in
    let s : BodySays qs (start signals) g.whole = body_says signals qs (start signals) g.whole fits suits h met in
    let steps : BodySteps now qs s.nexts = body_at signals qs s.nexts g.whole now h (agree_back (length signals) now g.whole begins) s.steps in
    let r = goes_on read signals s.nexts trace (body_stays signals g.whole suits qs s.nexts h s.steps) kinds.1
    (λ i below. hold_behind read qs s.nexts now trace i steps (holds (suc i) (omega arith))) in
    let size : length now ≡ length signals = kinds_length signals now kinds.0 in
    let longer : length g.whole ≡ length made.signals = kinds_length made.signals g.whole g.kinds in
    let few : length signals ≤ length made.signals = over_size signals made over in
    let front : take (length signals) g.whole ≡ now = begins_by now g.whole (length signals) size (omega arith) begins in (
      g.whole ∷ r.0,
      (record { kinds = g.kinds; equations = met }, runs_as (with_flat_equations s.nexts (start signals)) (behind_made g.whole made) r.0 s.is r.1),
      joined (take (length signals) g.whole) now (restricted (length signals) r.0) trace front r.2,
    )

-- one trace of the kernel for each of the process
same_traces : ReadByInstants → (signals : List Declared) (qs : List FlatEquation) (a b : Trace) → AreMade signals qs → RunsOf (with_flat_equations qs (start signals)) a → RunsOf (with_flat_equations qs (start signals)) b
    → restricted (length signals) a ≡ restricted (length signals) b → a ≡ b
same_traces read signals qs [] [] h ra rb e = refl
same_traces read signals qs (x ∷ a) (y ∷ b) h ra rb e =
    let count : ℕ = length signals in
    let here : Instant = take count x in
    let fronts : here ≡ take count y = cc in
    let rests : restricted count a ≡ restricted count b = cc in
    let made : Made = with_flat_equations qs (start signals) in
    let over : Over signals made = over_all signals qs in
    let x_fits : Fitting x = fitting made.signals x ra.0.kinds in
    let y_fits : Fitting y = fitting made.signals y rb.0.kinds in
    let suits : Suits signals x = made_fits signals made x over ra.0.kinds in
    let s : BodySays qs (start signals) x = body_says signals qs (start signals) x x_fits suits h ra.0.equations in
    let x_begins : Agree count x here = take_agrees count x in
    let y_begins : Agree count here y = agree_back count y here (subst (λ (i : Instant). Agree count y i) (sym fronts) (take_agrees count y)) in
    let steps : BodySteps here qs s.nexts = body_at signals qs s.nexts x here h x_begins s.steps in
    let kinds : AreOfKinds Bounded (kinds_of signals) here = kinds_begin signals over.more x (subst (λ (xs : List Declared). AreOfKinds Bounded (kinds_of xs) x) over.is ra.0.kinds) in
    let g : Goes made (start signals) here = body_goes read.one signals qs s.nexts (start signals) here (over_start signals) kinds h steps in
    let from_x : Agree (next_signal made) g.whole x = g.only x x_fits (agree_back count x here x_begins) ra.0.equations in
    let from_y : Agree (next_signal made) g.whole y = g.only y y_fits y_begins rb.0.equations in
    let x_size : length x ≡ length made.signals = kinds_length made.signals x ra.0.kinds in
    let y_size : length y ≡ length made.signals = kinds_length made.signals y rb.0.kinds in
    let agree : Agree (next_signal made) x y = agree_then (next_signal made) x g.whole y (agree_back (next_signal made) g.whole x from_x) from_y in
    let same : x ≡ y = same_instant x y (x_size ∙ sym y_size) (subst (λ n. Agree n x y) (sym x_size) agree) in
    let next_made = body_stays signals x suits qs s.nexts h s.steps in
    let runs_a : RunsOf (with_flat_equations s.nexts (start signals)) a = subst (λ (m : Made). RunsOf m a) (sym s.is) ra.1 in
    let behind_x : RunsOf (behind_made x made) b = subst (λ (i : Instant). RunsOf (behind_made i made) b) (sym same) rb.1 in
    let runs_b : RunsOf (with_flat_equations s.nexts (start signals)) b = subst (λ (m : Made). RunsOf m b) (sym s.is) behind_x in
    joined x y a b same (same_traces read signals s.nexts a b next_made runs_a runs_b rests)
same_traces read signals qs _ _ h ra rb e = absurd cc

-- the kernel of a flat body
kernel_runs : (flat : FlatBody) (trace : Trace) → IsKernelTrace (kernel_of flat) trace → RunsOf (with_flat_equations flat.equations (start flat.signals)) trace
kernel_runs flat trace h = runs_from (kernel_of flat) trace h

pub process_trace : ReadByInstants → (flat : FlatBody) (trace : Trace) → IsWellMade flat → IsKernelTrace (kernel_of flat) trace → IsProcessTrace flat (restricted (length flat.signals) trace)
process_trace read flat trace made h =
    let r = holds_in read flat.signals flat.equations trace made.equations (kernel_runs flat trace h) in
    record { kinds = r.0; holds = r.1 }

pub kernel_trace : ReadByInstants → (flat : FlatBody) (trace : Trace) → IsWellMade flat → IsProcessTrace flat trace
    → (whole : Trace) × IsKernelTrace (kernel_of flat) whole × (restricted (length flat.signals) whole ≡ trace)
kernel_trace read flat trace made h =
    let r = goes_on read flat.signals flat.equations trace made.equations h.kinds h.holds in
    (r.0, trace_from (kernel_of flat) r.0 r.1, r.2)

pub one_kernel_trace : ReadByInstants → (flat : FlatBody) (a b : Trace) → IsWellMade flat → IsKernelTrace (kernel_of flat) a → IsKernelTrace (kernel_of flat) b
    → restricted (length flat.signals) a ≡ restricted (length flat.signals) b → a ≡ b
one_kernel_trace read flat a b made ha hb e = same_traces read flat.signals flat.equations a b made.equations (kernel_runs flat a ha) (kernel_runs flat b hb) e
