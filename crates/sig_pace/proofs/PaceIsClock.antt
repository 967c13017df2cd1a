-- At each instant of a trace of a paced kernel a clock is present where its pace is true.
use Rattle.sig_pace.proofs.Common.{◌≡◌, ◌+◌, ◌++◌, ◌↔◌, ◌∙◌, ℕ, zero, suc, pos, Bool, true, false, cond, int_eq, List, [], ◌∷◌, length, map, slice_get, refl, sym, ap, subst, None, Some, is_some, AllByRecursion, false≢true, Decides-int_eq, Instant, Range, Seen, Trace, seen_at, IsSignal, IsTraceIn, Meets, Memory, remembered, where_true, Equation, Kernel, Runs, runs_from_trace, marked_from, others_together, paced_kernel, moved, renumbered_equation, without_paces, all_back}
use Rattle.sig_kernel.specs.KernelTraces.{IsReaction}
use Rattle.sig_pace.proofs.Agreement.{what_is_left}
use Rattle.sig_pace.proofs.Rooms.{next_offset, no_offset}

-- what is there where a signal is true tells that it is
only_true : (seen : Seen) → is_some (where_true seen (Some (pos 1))) ≡ true → seen ≡ Some (pos 1)
only_true None there = absurd (false≢true there)
only_true (Some v) there = by (int_eq v (pos 1)) refl there where
  by : (b : Bool) → int_eq v (pos 1) ≡ b → is_some (cond b (Some (pos 1)) None) ≡ true → Some v ≡ Some (pos 1)
  by true is there = ap Some ((Decides-int_eq v (pos 1)).0 is)
  by false is there = absurd (false≢true there)

module _ (range : Range) (kernel : Kernel) (memory : Memory) (wide : Instant) where
  abbrev IsMet : Equation → Type 0
  IsMet equation = Meets range memory wide equation.form

  marked_says : (place : ℕ → ℕ) (pace mark : ℕ) (least : List ℕ) → AllByRecursion IsMet (marked_from kernel place pace mark least) → (j m : ℕ) → slice_get least j ≡ Some m
      → (seen_at wide (pace + j) ≡ Some (pos 1)) ↔ (is_some (seen_at wide (place m)) ≡ true)
  marked_says place pace mark [] met j m is = absurd (let e : None ≡ Some m = is in cc)
  marked_says place pace mark (n ∷ least) met zero m is =
      let same : n ≡ m = cc in
      let shown : is_some (seen_at wide (place n)) ≡ is_some (where_true (seen_at wide pace) (Some (pos 1))) = met.1.0 ∙ ap is_some met.0 in (
        (λ says. ap (λ k. is_some (seen_at wide (place k))) (sym same) ∙ shown ∙ ap (λ seen. is_some (where_true seen (Some (pos 1)))) (ap (seen_at wide) (sym (no_offset pace)) ∙ says)),
        (λ there. ap (seen_at wide) (no_offset pace) ∙ only_true (seen_at wide pace) (sym shown ∙ ap (λ k. is_some (seen_at wide (place k))) same ∙ there)),
      )
  marked_says place pace mark (n ∷ least) met (suc j) m is =
      let rest = marked_says place (suc pace) (suc mark) least met.1.1 j m is in
      ((λ says. rest.0 (ap (seen_at wide) (sym (next_offset pace j)) ∙ says)), (λ there. ap (seen_at wide) (next_offset pace j) ∙ rest.1 there))

module _ (range : Range) (kernel : Kernel) (least : List ℕ) where
  instant_says : (memory : Memory) (wide : Instant) → IsReaction range (paced_kernel kernel least) memory wide → (j m : ℕ) → slice_get least j ≡ Some m → IsSignal kernel m
      → (seen_at wide (kernel.inputs + j) ≡ Some (pos 1)) ↔ (is_some (seen_at (without_paces kernel least wide) m) ≡ true)
  instant_says memory wide is j m found signal =
      let place = moved kernel.inputs (length least) in
      let marked = marked_from kernel place kernel.inputs (length kernel.signals + length least) least in
      let behind = all_back (IsMet range kernel memory wide) (map (renumbered_equation place) kernel.equations) (others_together kernel least ++ marked) is.equations in
      let says = marked_says range kernel memory wide place kernel.inputs (length kernel.signals + length least) least (all_back (IsMet range kernel memory wide) (others_together kernel least) marked behind) j m found in
      let left = what_is_left (length kernel.signals) place wide m signal in
      ((λ is_true. ap is_some left ∙ says.0 is_true), (λ there. says.1 (sym (ap is_some left) ∙ there)))

  run_says : (past wide : Trace) → Runs range (paced_kernel kernel least) past wide → (number j m : ℕ) (instant : Instant) → slice_get wide number ≡ Some instant → slice_get least j ≡ Some m
      → IsSignal kernel m → (seen_at instant (kernel.inputs + j) ≡ Some (pos 1)) ↔ (is_some (seen_at (without_paces kernel least instant) m) ≡ true)
  run_says past [] runs number j m instant is found signal = absurd (let e : None ≡ Some instant = is in cc)
  run_says past (first ∷ wide) runs zero j m instant is found signal =
      let same : first ≡ instant = cc in
      subst (λ (w : Instant). (seen_at w (kernel.inputs + j) ≡ Some (pos 1)) ↔ (is_some (seen_at (without_paces kernel least w) m) ≡ true)) same
      (instant_says (remembered past) first runs.0 j m found signal)
  run_says past (first ∷ wide) runs (suc number) j m instant is found signal = run_says (past ++ first ∷ []) wide runs.1 number j m instant is found signal

pub pace_says : (kernel : Kernel) (least : List ℕ) (range : Range) (wide : Trace) → IsTraceIn range (paced_kernel kernel least) wide → (number j m : ℕ) (instant : Instant)
    → slice_get wide number ≡ Some instant → slice_get least j ≡ Some m → IsSignal kernel m
    → (seen_at instant (kernel.inputs + j) ≡ Some (pos 1)) ↔ (is_some (seen_at (without_paces kernel least instant) m) ≡ true)
pace_says kernel least range wide is = run_says range kernel least [] wide (runs_from_trace range (paced_kernel kernel least) wide is)
