-- The traces of a paced kernel, without the paces, are those of the old one.
use Rattle.sig_pace.proofs.Common.{◌≡◌, ◌<◌, ◌≤◌, ◌+◌, ◌++◌, inl, inr, ℕ, zero, suc, pos, Bool, true, false, cond, not, List, [], ◌∷◌, length, map, take, drop, get_or, slice_get, refl, sym, ap, ◌∙◌, subst, arith, Contains, None, Some, is_some, AllByRecursion, list_all, option_to_list, slice_index_or, and_parts, ext_get_or, get_or-map, length-map, map-append, list_all-from_AllPass, AreOfKinds, Instant, IsOfKind, Range, Seen, Trace, flow_of, seen_at, Boolean, Event, silent_at, IsSignal, Meets, Memory, last_of, remembered, where_true, IsValid, form_within, Equation, Kernel, Runs, runs_from_trace, trace_from_runs, marked_from, marks_from, others_together, paced_kernel, paces_from, together_from, moved, renumbered_equation, HasTracesOf, paced_seen, without_paces, contains_at, slice_get-get_or, slice_get_within, all_both, all_front, value_there}
use Rattle.sig_base.specs.Traces.{is_silent}
use Rattle.sig_kernel.specs.KernelTraces.{IsReaction}
use Rattle.sig_pace.proofs.Agreement.{Agrees, RememberAlike, how_many_left, meets_back, meets_to, what_is_left}
use Rattle.sig_pace.proofs.Kinded.{kind_there, kinds_dropped, kinds_from_places, kinds_joined, kinds_length, kinds_of, kinds_taken}
use Rattle.sig_pace.proofs.Places.{stand}
use Rattle.sig_pace.proofs.Rooms.{last_at, more_at, next_offset, no_offset, old_at, same_at, with_room}

-- ---- what paces and their marks are

-- the event of a pace: present where the pace is true
abbrev pub marked_seen : Instant → ℕ → Seen
marked_seen instant m = where_true (paced_seen instant m) (Some (pos 1))

-- the pace of a signal as a function of whether the instant is silent and the signal present
abbrev pace_by : Bool → Bool → Seen
pace_by silent present = cond silent None (cond present (Some (pos 1)) (Some (pos 0)))

pace_kind : (range : Range) (silent present : Bool) → IsOfKind range Boolean (pace_by silent present)
pace_kind range true present = tt
pace_kind range false true = inr refl
pace_kind range false false = inl refl

mark_kind : (range : Range) (silent present : Bool) → IsOfKind range Event (where_true (pace_by silent present) (Some (pos 1)))
mark_kind range false true = refl
mark_kind range _ _ = tt

pace_speaks : (silent present : Bool) → is_some (pace_by silent present) ≡ not silent
pace_speaks true present = refl
pace_speaks false true = refl
pace_speaks false false = refl

-- a signal is present where its mark is
mark_present : (instant : Instant) (m : ℕ) → is_some (seen_at instant m) ≡ is_some (marked_seen instant m)
mark_present instant m = by (is_silent instant) refl (seen_at instant m) refl where
  by : (silent : Bool) → is_silent instant ≡ silent → (seen : Seen) → seen_at instant m ≡ seen → is_some seen ≡ is_some (where_true (pace_by silent (is_some seen)) (Some (pos 1)))
  by true e None is = refl
  by true e (Some v) is = let none : seen_at instant m ≡ None = silent_at instant m e in cc
  by false e None is = refl
  by false e (Some v) is = refl

-- ---- instants with paces

-- an instant of the old kernel with the paces and their marks
abbrev pub with_paces : Kernel → List ℕ → Instant → Instant
with_paces kernel least instant = with_room kernel.inputs (map (paced_seen instant) least) (map (marked_seen instant) least) instant

paces_kinds : (range : Range) (kernel : Kernel) (instant : Instant) (number : ℕ) (least : List ℕ) → AreOfKinds range (kinds_of (paces_from kernel number least)) (map (paced_seen instant) least)
paces_kinds range kernel instant number [] = tt
paces_kinds range kernel instant number (m ∷ least) = (pace_kind range (is_silent instant) (is_some (seen_at instant m)), paces_kinds range kernel instant (suc number) least)

marks_kinds : (range : Range) (kernel : Kernel) (instant : Instant) (number : ℕ) (least : List ℕ) → AreOfKinds range (kinds_of (marks_from kernel number least)) (map (marked_seen instant) least)
marks_kinds range kernel instant number [] = tt
marks_kinds range kernel instant number (m ∷ least) = (mark_kind range (is_silent instant) (is_some (seen_at instant m)), marks_kinds range kernel instant (suc number) least)

-- the pace and the mark of a signal, each at its place
record IsTold (place : ℕ → ℕ) (old wide : Instant) (pace mark m : ℕ) : Type 0 where
  told : seen_at wide pace ≡ paced_seen old m
  shown : seen_at wide mark ≡ marked_seen old m
  there : seen_at old m ≡ seen_at wide (place m)

module _ (range : Range) (kernel : Kernel) (memory : Memory) where
  abbrev AllMet : Instant → List Equation → Type 0
  AllMet wide equations = AllByRecursion (λ equation. Meets range memory wide equation.form) equations

  together_met : (wide : Instant) (present : Bool) → is_some (seen_at wide kernel.inputs) ≡ present → (number : ℕ) (least : List ℕ)
      → ((j : ℕ) → j < length least → is_some (seen_at wide (number + j)) ≡ present) → AllMet wide (together_from kernel number least)
  together_met wide present first number [] each = tt
  together_met wide present first number (m ∷ least) each = (
    first ∙ sym (each 0 (omega arith)) ∙ ap (λ k. is_some (seen_at wide k)) (no_offset number),
    together_met wide present first (suc number) least (λ j lt. ap (λ k. is_some (seen_at wide k)) (sym (next_offset number j)) ∙ each (suc j) (omega (arith, lt))),
  )

  others_met : (wide : Instant) (present : Bool) (least : List ℕ) → ((j : ℕ) → j < length least → is_some (seen_at wide (kernel.inputs + j)) ≡ present) → AllMet wide (others_together kernel least)
  others_met wide present [] each = tt
  others_met wide present (m ∷ least) each =
      together_met wide present (ap (λ k. is_some (seen_at wide k)) (sym (no_offset kernel.inputs)) ∙ each 0 (omega arith)) (suc kernel.inputs) least
      (λ j lt. ap (λ k. is_some (seen_at wide k)) (sym (next_offset kernel.inputs j)) ∙ each (suc j) (omega (arith, lt)))

  marked_met : (place : ℕ → ℕ) (old wide : Instant) (pace mark : ℕ) (least : List ℕ)
      → ((j m : ℕ) → slice_get least j ≡ Some m → IsTold place old wide (pace + j) (mark + j) m) → AllMet wide (marked_from kernel place pace mark least)
  marked_met place old wide pace mark [] each = tt
  marked_met place old wide pace mark (m ∷ least) each =
      let zeroth = each 0 m refl in
      let first = subst (λ k. IsTold place old wide k mark m) (no_offset pace) (subst (λ k. IsTold place old wide (pace + 0) k m) (no_offset mark) zeroth) in (
        first.shown ∙ ap (λ seen. where_true seen (Some (pos 1))) (sym first.told),
        (
          ap is_some (sym first.there) ∙ mark_present old m ∙ ap is_some (sym first.shown),
          marked_met place old wide (suc pace) (suc mark) least (λ j n is.
              let next = each (suc j) n is in
              subst (λ k. IsTold place old wide k (suc mark + j) n) (next_offset pace j) (subst (λ k. IsTold place old wide (pace + suc j) k n) (next_offset mark j) next)),
        ),
      )

module _ (kernel : Kernel) (least : List ℕ) where
  -- what is left agrees with what was there
  pub left_out : (wide : Instant) → Agrees (moved kernel.inputs (length least)) (length kernel.signals) (without_paces kernel least wide) wide
  left_out wide = what_is_left (length kernel.signals) (moved kernel.inputs (length least)) wide

  pub flow_alike : (past : Trace) (x : ℕ) → x < length kernel.signals → flow_of x (map (without_paces kernel least) past) ≡ flow_of (moved kernel.inputs (length least) x) past
  flow_alike [] x lt = refl
  flow_alike (wide ∷ past) x lt = λ j. option_to_list (left_out wide x lt j) ++ flow_alike past x lt j

module _ (kernel : Kernel) (least : List ℕ) (valid : IsValid kernel) (are : (m : ℕ) → Contains least m → IsSignal kernel m) where
  abbrev count : ℕ
  count = length kernel.signals

  abbrev place : ℕ → ℕ
  place = moved kernel.inputs (length least)

  abbrev paced : Kernel
  paced = paced_kernel kernel least

  abbrev without : Instant → Instant
  without = without_paces kernel least

  abbrev wider : Instant → Instant
  wider = with_paces kernel least

  inputs_within : kernel.inputs ≤ count
  inputs_within = omega (arith, valid.parts.interface, valid.parts.declared)

  equations_within : list_all (λ (equation : Equation). form_within count equation.form) kernel.equations ≡ true
  equations_within = list_all-from_AllPass (λ (equation : Equation). form_within count equation.form) kernel.equations valid.equations.within

  -- ---- without the paces

  remember_alike : (past : Trace) → RememberAlike place count (remembered (map without past)) (remembered past)
  remember_alike past signal delayed initial lt = ap (last_of initial) (flow_alike kernel least past delayed lt)

  back_met : (range : Range) (past : Trace) (wide : Instant) (equations : List Equation) → list_all (λ (equation : Equation). form_within count equation.form) equations ≡ true
      → AllByRecursion (λ equation. Meets range (remembered past) wide equation.form) (map (renumbered_equation place) equations)
      → AllByRecursion (λ equation. Meets range (remembered (map without past)) (without wide) equation.form) equations
  back_met range past wide [] within all = tt
  back_met range past wide (equation ∷ equations) within all =
      let parts = and_parts (form_within count equation.form) (list_all (λ (e : Equation). form_within count e.form) equations) within in (
        meets_back place count (without wide) wide (left_out kernel least wide) range (remembered (map without past)) (remembered past) (remember_alike past) equation.form parts.0 all.0,
        back_met range past wide equations parts.1 all.1,
      )

  only_reaction : (range : Range) (past : Trace) (wide : Instant) → IsReaction range paced (remembered past) wide → IsReaction range kernel (remembered (map without past)) (without wide)
  only_reaction range past wide is = record {
    kinds = kinds_from_places range kernel.signals (without wide) (how_many_left count place wide) (λ k signal found.
        let lt = slice_get_within kernel.signals k signal found in
        subst (IsOfKind range signal.kind) (sym (left_out kernel least wide k lt)) (kind_there range paced.signals wide is.kinds (place k) signal (sym (stand kernel least inputs_within k lt) ∙ found)));
    equations = back_met range past wide kernel.equations equations_within (all_front (λ (equation : Equation). Meets range (remembered past) wide equation.form) (map (renumbered_equation place) kernel.equations)
        (others_together kernel least ++ marked_from kernel place kernel.inputs (length kernel.signals + length least) least) is.equations);
  }

  only_runs : (range : Range) (past wide : Trace) → Runs range paced past wide → Runs range kernel (map without past) (map without wide)
  only_runs range past [] runs = tt
  only_runs range past (instant ∷ wide) runs = (
    only_reaction range past instant runs.0,
    subst (λ front. Runs range kernel front (map without wide)) (map-append without past (instant ∷ [])) (only_runs range (past ++ instant ∷ []) wide runs.1),
  )

  -- ---- with the paces

  put_in : (old : Instant) → length old ≡ count → Agrees place count old (wider old)
  put_in old len x lt = sym (subst (λ n. slice_index_or (wider old) (moved kernel.inputs n x) None ≡ slice_index_or old x None) (length-map least (paced_seen old))
      (old_at kernel.inputs (map (paced_seen old) least) (map (marked_seen old) least) old (omega (arith, len, inputs_within)) x None (omega (arith, len, lt))))

  pace_at : (old : Instant) → length old ≡ count → (j m : ℕ) → slice_get least j ≡ Some m → seen_at (wider old) (kernel.inputs + j) ≡ paced_seen old m
  pace_at old len j m is =
      let lt = slice_get_within least j m is in
      more_at kernel.inputs (map (paced_seen old) least) (map (marked_seen old) least) old (omega (arith, len, inputs_within)) j None (omega (arith, length-map least (paced_seen old), lt))
      ∙ get_or-map (paced_seen old) least j m None lt ∙ ap (paced_seen old) (value_there least j m m is)

  mark_at : (old : Instant) → length old ≡ count → (j m : ℕ) → slice_get least j ≡ Some m → seen_at (wider old) (count + length least + j) ≡ marked_seen old m
  mark_at old len j m is =
      let lt = slice_get_within least j m is in
      same_at (seen_at (wider old)) (count + length least + j) (length old + length (map (paced_seen old) least) + j) (omega (arith, len, length-map least (paced_seen old)))
      ∙ last_at kernel.inputs (map (paced_seen old) least) (map (marked_seen old) least) old (omega (arith, len, inputs_within)) j None
      ∙ get_or-map (marked_seen old) least j m None lt ∙ ap (marked_seen old) (value_there least j m m is)

  to_met : (range : Range) (past : Trace) (old wide : Instant) → Agrees place count old wide → (equations : List Equation) → list_all (λ (equation : Equation). form_within count equation.form) equations ≡ true
      → AllByRecursion (λ equation. Meets range (remembered (map without past)) old equation.form) equations
      → AllByRecursion (λ equation. Meets range (remembered past) wide equation.form) (map (renumbered_equation place) equations)
  to_met range past old wide agree [] within all = tt
  to_met range past old wide agree (equation ∷ equations) within all =
      let parts = and_parts (form_within count equation.form) (list_all (λ (e : Equation). form_within count e.form) equations) within in (
        meets_to place count old wide agree range (remembered (map without past)) (remembered past) (remember_alike past) equation.form parts.0 all.0,
        to_met range past old wide agree equations parts.1 all.1,
      )

  each_reaction : (range : Range) (past : Trace) (old : Instant) → IsReaction range kernel (remembered (map without past)) old → IsReaction range paced (remembered past) (wider old)
  each_reaction range past old is = record {
    kinds = kinds_joined range (take kernel.inputs kernel.signals) (paces_from kernel 1 least ++ (drop kernel.inputs kernel.signals ++ marks_from kernel 1 least))
        (take kernel.inputs old) (map (paced_seen old) least ++ (drop kernel.inputs old ++ map (marked_seen old) least)) (kinds_taken range kernel.inputs kernel.signals old is.kinds)
        (kinds_joined range (paces_from kernel 1 least) (drop kernel.inputs kernel.signals ++ marks_from kernel 1 least) (map (paced_seen old) least) (drop kernel.inputs old ++ map (marked_seen old) least) (paces_kinds range kernel old 1 least)
        (kinds_joined range (drop kernel.inputs kernel.signals) (marks_from kernel 1 least) (drop kernel.inputs old) (map (marked_seen old) least) (kinds_dropped range kernel.inputs kernel.signals old is.kinds) (marks_kinds range kernel old 1 least)));
    equations = all_both (λ (equation : Equation). Meets range (remembered past) (wider old) equation.form) (map (renumbered_equation place) kernel.equations) (others_together kernel least ++ marked_from kernel place kernel.inputs (count + length least) least)
        (to_met range past old (wider old) (put_in old len) kernel.equations equations_within is.equations)
        (all_both (λ (equation : Equation). Meets range (remembered past) (wider old) equation.form) (others_together kernel least) (marked_from kernel place kernel.inputs (count + length least) least)
        (others_met range kernel (remembered past) (wider old) (not (is_silent old)) least (λ j lt.
        let m = get_or least j 0 in
        ap is_some (pace_at old len j m (slice_get-get_or least j 0 lt)) ∙ pace_speaks (is_silent old) (is_some (seen_at old m))))
        (marked_met range kernel (remembered past) place old (wider old) kernel.inputs (count + length least) least (λ j m found. record {
          told = pace_at old len j m found;
          shown = mark_at old len j m found;
          there = put_in old len m (are m (contains_at least j m found));
        })));
  } where
    len : length old ≡ count
    len = kinds_length range kernel.signals old is.kinds

  restored : (old : Instant) → length old ≡ count → without (wider old) ≡ old
  restored old len = ext_get_or None (without (wider old)) old (omega (arith, same, len)) (λ x lt.
      let within : x < count = omega (arith, same, lt) in
      left_out kernel least (wider old) x within ∙ sym (put_in old len x within)) where
        same : length (without (wider old)) ≡ count
        same = how_many_left count place (wider old)

  each_runs : (range : Range) (past trace : Trace) → Runs range kernel (map without past) trace → Runs range paced past (map wider trace)
  each_runs range past [] runs = tt
  each_runs range past (old ∷ trace) runs = (
    each_reaction range past old runs.0,
    each_runs range (past ++ wider old ∷ []) trace (subst (λ front. Runs range kernel front trace)
        (ap (λ instant. map without past ++ instant ∷ []) (sym (restored old (kinds_length range kernel.signals old runs.0.kinds))) ∙ sym (map-append without past (wider old ∷ []))) runs.1),
  )

  all_restored : (range : Range) (past trace : Trace) → Runs range kernel past trace → map without (map wider trace) ≡ trace
  all_restored range past [] runs = refl
  all_restored range past (old ∷ trace) runs = λ j. restored old (kinds_length range kernel.signals old runs.0.kinds) j ∷ all_restored range (past ++ old ∷ []) trace runs.1 j

  tells : (range : Range) (past trace : Trace) → Runs range kernel past trace → (number j m : ℕ) (instant wide : Instant) → slice_get trace number ≡ Some instant
      → slice_get (map wider trace) number ≡ Some wide → slice_get least j ≡ Some m → seen_at wide (kernel.inputs + j) ≡ paced_seen instant m
  tells range past [] runs number j m instant wide is is_wide found = absurd (let e : None ≡ Some instant = is in cc)
  tells range past (old ∷ trace) runs zero j m instant wide is is_wide found =
      let same : old ≡ instant = cc in
      let same_wide : wider old ≡ wide = cc in
      ap (λ w. seen_at w (kernel.inputs + j)) (sym same_wide) ∙ pace_at old (kinds_length range kernel.signals old runs.0.kinds) j m found ∙ ap (λ w. paced_seen w m) same
  tells range past (old ∷ trace) runs (suc number) j m instant wide is is_wide found = tells range (past ++ old ∷ []) trace runs.1 number j m instant wide is is_wide found

  pub has_traces : HasTracesOf kernel least
  has_traces = record {
    only = λ range wide is. trace_from_runs range kernel (map without wide) (only_runs range [] wide (runs_from_trace range paced wide is));
    each = λ range trace is.
        let runs = runs_from_trace range kernel trace is in (
          map wider trace,
          trace_from_runs range paced (map wider trace) (each_runs range [] trace runs),
          all_restored range [] trace runs,
          (λ number j m instant wide is_old is_wide found. tells range [] trace runs number j m instant wide is_old is_wide found),
        );
  }
