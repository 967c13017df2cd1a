-- A paced kernel has a root: its first pace is present wherever something is.
use Rattle.sig_pace.proofs.Common.{◌≡◌, ◌<◌, ◌≤◌, ◌+◌, ◌++◌, ◌&&◌, ◌∙◌, inl, inr, ℕ, zero, suc, Bool, true, false, List, [], ◌∷◌, length, map, get_or, slice_get, refl, sym, ap, subst, arith, Contains, None, Some, is_some, pos, list_all, and_parts, cases_lt, false≢true, true_from_ne_false, list_all-append, AllPass-from_list_all, list_all-from_AllPass, HasRoot, IsSignal, IsReaction, Reaction, Speaks, Status, constant_truth, is_present, is_silent, is_status_of, meets, same_status, same_truth, status_at, absent_in_silence, statuses_are_same, truths_are_same, Signal, kind_at, IsValid, form_within, Equation, Kernel, GetsPaces, NeedsPaces, marked_from, others_together, paced_kernel, together_from, moved, renumbered_equation, restricted, slice_get-get_or, slice_get_within, someone, statuses_fit, all_statuses}
use Rattle.sig_clock.specs.Reactions.{where_true}
use Rattle.sig_pace.proofs.Agreement.{Agrees, how_many_left, what_is_left}
use Rattle.sig_pace.proofs.ClocksAbove.{maximal_above}
use Rattle.sig_pace.proofs.Places.{paced_count, stand}
use Rattle.sig_pace.proofs.Rooms.{IsPlace, is_last, is_new, is_old, next_offset, no_offset, place_cases}
use Rattle.sig_pace.proofs.RenumberedSignals.{meets_alike, status_fits}

-- ---- what is present

speaks_with : (reaction : Reaction) (signal : ℕ) → is_present reaction signal ≡ true → is_silent reaction ≡ false
speaks_with reaction signal there = at (is_silent reaction) refl where
  at : (b : Bool) → is_silent reaction ≡ b → is_silent reaction ≡ false
  at true e = absurd (false≢true (sym (ap is_some (absent_in_silence reaction signal e)) ∙ there))
  at false e = e

-- what is true where an absent signal is, is absent
absent_where : (y b x : Status) → is_some b ≡ false → same_status y (where_true b x) ≡ true → is_some y ≡ false
absent_where y None x none same = statuses_are_same y None same
absent_where y (Some t) x none same = absurd (false≢true (sym none))

-- ---- what the equations of paces say

module _ (kernel : Kernel) (signals : List Signal) (reaction : Reaction) where
  abbrev Met : List Equation → Type 0
  Met equations = list_all (λ (equation : Equation). meets signals reaction equation.form) equations ≡ true

  together_present : (number : ℕ) (least : List ℕ) → Met (together_from kernel number least) → (j : ℕ) → j < length least → is_present reaction (number + j) ≡ is_present reaction kernel.inputs
  together_present number [] met j lt = absurd (omega (arith, lt))
  together_present number (m ∷ least) met zero lt =
      let parts = and_parts (same_truth (is_present reaction kernel.inputs) (is_present reaction number)) (list_all (λ (e : Equation). meets signals reaction e.form) (together_from kernel (suc number) least)) met in
      ap (is_present reaction) (no_offset number) ∙ sym (truths_are_same (is_present reaction kernel.inputs) (is_present reaction number) parts.0)
  together_present number (m ∷ least) met (suc j) lt =
      let parts = and_parts (same_truth (is_present reaction kernel.inputs) (is_present reaction number)) (list_all (λ (e : Equation). meets signals reaction e.form) (together_from kernel (suc number) least)) met in
      ap (is_present reaction) (next_offset number j) ∙ together_present (suc number) least parts.1 j (omega (arith, lt))

  others_present : (least : List ℕ) → Met (others_together kernel least) → (j : ℕ) → j < length least → is_present reaction (kernel.inputs + j) ≡ is_present reaction kernel.inputs
  others_present [] met j lt = absurd (omega (arith, lt))
  others_present (m ∷ least) met zero lt = ap (is_present reaction) (no_offset kernel.inputs)
  others_present (m ∷ least) met (suc j) lt = ap (is_present reaction) (next_offset kernel.inputs j) ∙ together_present (suc kernel.inputs) least met j (omega (arith, lt))

  -- where a pace is absent, so are its mark and its signal
  marked_absent : (place : ℕ → ℕ) (pace mark : ℕ) (least : List ℕ) → Met (marked_from kernel place pace mark least) → (j m : ℕ) → slice_get least j ≡ Some m
      → is_present reaction (pace + j) ≡ false → (is_present reaction (mark + j) ≡ false) × (is_present reaction (place m) ≡ false)
  marked_absent place pace mark [] met j m is absent = absurd (let e : None ≡ Some m = is in cc)
  marked_absent place pace mark (n ∷ least) met zero m is absent =
      let shown : Status = where_true (status_at reaction pace) (Some (constant_truth (kind_at signals (record { 0 = mark })) (pos 1))) in
      let rest = list_all (λ (e : Equation). meets signals reaction e.form) (marked_from kernel place (suc pace) (suc mark) least) in
      let parts = and_parts (same_status (status_at reaction mark) shown) (same_truth (is_present reaction (place n)) (is_present reaction mark) && rest) met in
      let tie = (and_parts (same_truth (is_present reaction (place n)) (is_present reaction mark)) rest parts.1).0 in
      let off : is_present reaction mark ≡ false = absent_where (status_at reaction mark) (status_at reaction pace) (Some (constant_truth (kind_at signals (record { 0 = mark })) (pos 1))) (ap (is_present reaction) (sym (no_offset pace)) ∙ absent) parts.0 in
      let same : n ≡ m = cc in
      (ap (is_present reaction) (no_offset mark) ∙ off, ap (λ k. is_present reaction (place k)) (sym same) ∙ truths_are_same (is_present reaction (place n)) (is_present reaction mark) tie ∙ off)
  marked_absent place pace mark (n ∷ least) met (suc j) m is absent =
      let shown : Status = where_true (status_at reaction pace) (Some (constant_truth (kind_at signals (record { 0 = mark })) (pos 1))) in
      let rest = list_all (λ (e : Equation). meets signals reaction e.form) (marked_from kernel place (suc pace) (suc mark) least) in
      let parts = and_parts (same_status (status_at reaction mark) shown) (same_truth (is_present reaction (place n)) (is_present reaction mark) && rest) met in
      let later = (and_parts (same_truth (is_present reaction (place n)) (is_present reaction mark)) rest parts.1).1 in
      let found = marked_absent place (suc pace) (suc mark) least later j m is (ap (is_present reaction) (sym (next_offset pace j)) ∙ absent) in
      (ap (is_present reaction) (next_offset mark j) ∙ found.0, found.1)

-- ---- a reaction without the paces

module _ (kernel : Kernel) (least : List ℕ) (valid : IsValid kernel) where
  abbrev count : ℕ
  count = length kernel.signals

  abbrev place : ℕ → ℕ
  place = moved kernel.inputs (length least)

  abbrev paced : Kernel
  paced = paced_kernel kernel least

  abbrev without : Reaction → Reaction
  without wide = restricted count place wide

  inputs_within : kernel.inputs ≤ count
  inputs_within = omega (arith, valid.parts.interface, valid.parts.declared)

  left_out : (wide : Reaction) → Agrees place count (without wide) wide
  left_out wide = what_is_left count place wide

  abbrev AllMeet : List Signal → Reaction → List Equation → Bool
  AllMeet signals reaction equations = list_all (λ (equation : Equation). meets signals reaction equation.form) equations

  all_alike : (wide : Reaction) (equations : List Equation) → list_all (λ (equation : Equation). form_within count equation.form) equations ≡ true
      → AllMeet kernel.signals (without wide) equations ≡ AllMeet paced.signals wide (map (renumbered_equation place) equations)
  all_alike wide [] within = refl
  all_alike wide (equation ∷ equations) within =
      let parts = and_parts (form_within count equation.form) (list_all (λ (e : Equation). form_within count e.form) equations) within in
      λ j. meets_alike place count kernel.signals paced.signals (stand kernel least inputs_within) (without wide) wide (left_out wide) equation.form parts.0 j && all_alike wide equations parts.1 j

  -- the equations of a paced kernel in parts
  record AreMet (wide : Reaction) : Type 0 where
    old_ones : AllMeet paced.signals wide (map (renumbered_equation place) kernel.equations) ≡ true
    others : AllMeet paced.signals wide (others_together kernel least) ≡ true
    marked : AllMeet paced.signals wide (marked_from kernel place kernel.inputs (count + length least) least) ≡ true

  abbrev new_ones : List Equation
  new_ones = others_together kernel least ++ marked_from kernel place kernel.inputs (count + length least) least

  in_parts : (wide : Reaction) → IsReaction paced wide → AreMet wide
  in_parts wide is = record { old_ones = first.0; others = second.0; marked = second.1 } where
    first : (AllMeet paced.signals wide (map (renumbered_equation place) kernel.equations) ≡ true) × (AllMeet paced.signals wide new_ones ≡ true)
    first = and_parts (AllMeet paced.signals wide (map (renumbered_equation place) kernel.equations)) (AllMeet paced.signals wide new_ones)
        (sym (list_all-append (λ (equation : Equation). meets paced.signals wide equation.form) (map (renumbered_equation place) kernel.equations) new_ones)
        ∙ list_all-from_AllPass (λ (equation : Equation). meets paced.signals wide equation.form) paced.equations is.equations)

    second : (AllMeet paced.signals wide (others_together kernel least) ≡ true) × (AllMeet paced.signals wide (marked_from kernel place kernel.inputs (count + length least) least) ≡ true)
    second = and_parts (AllMeet paced.signals wide (others_together kernel least)) (AllMeet paced.signals wide (marked_from kernel place kernel.inputs (count + length least) least))
        (sym (list_all-append (λ (equation : Equation). meets paced.signals wide equation.form) (others_together kernel least) (marked_from kernel place kernel.inputs (count + length least) least)) ∙ first.1)

  pub old_reaction : (wide : Reaction) → IsReaction paced wide → IsReaction kernel (without wide)
  old_reaction wide is = record {
    kinds = statuses_fit kernel.signals (without wide) (how_many_left count place wide) (λ k signal found.
        let lt = slice_get_within kernel.signals k signal found in
        subst (λ status. is_status_of signal.kind status ≡ true) (sym (left_out wide k lt))
        (status_fits paced.signals wide is.kinds (place k) signal (sym (stand kernel least inputs_within k lt) ∙ found)));
    equations = AllPass-from_list_all (λ (equation : Equation). meets kernel.signals (without wide) equation.form) kernel.equations
        (all_alike wide kernel.equations (list_all-from_AllPass (λ (equation : Equation). form_within count equation.form) kernel.equations valid.equations.within) ∙ (in_parts wide is).old_ones);
  }

  -- ---- the root

  module _ (needs : NeedsPaces kernel least) where
    -- some clock is maximal
    some_least : 0 < length least
    some_least = elim (cases_lt 0 (length least)) [
      | inl more ↦ more
      | inr none ↦ absurd (
          let reaction : Reaction = needs.alive.0 in
          let speaks : Speaks kernel reaction = needs.alive.1 in
          let present = someone reaction speaks.some in
          let within : IsSignal kernel present.0 = omega (arith, all_statuses kernel.signals reaction speaks.is.kinds, present.1) in
          maximal_above kernel present.0 within (reaction, speaks, present.2) (λ found.
          let there = (needs.clocks.all found.0).1 found.1 in omega (arith, there.1, none)))
    ]

    module _ (wide : Reaction) (speaks : Speaks paced wide) (absent : is_present wide kernel.inputs ≡ false) where
      met : AreMet wide
      met = in_parts wide speaks.is

      no_pace : (j : ℕ) → j < length least → is_present wide (kernel.inputs + j) ≡ false
      no_pace j lt = others_present kernel paced.signals wide least met.others j lt ∙ absent

      no_mark : (j m : ℕ) → slice_get least j ≡ Some m → (is_present wide (count + length least + j) ≡ false) × (is_present wide (place m) ≡ false)
      no_mark j m is = marked_absent kernel paced.signals wide place kernel.inputs (count + length least) least met.marked j m is (no_pace j (slice_get_within least j m is))

      -- no old signal is present, since some least one would be
      none_old : (x : ℕ) → x < count → is_present wide (place x) ≡ true → ⊥
      none_old x lt there =
          let present : is_present (without wide) x ≡ true = ap is_some (left_out wide x lt) ∙ there in
          let old_speaks : Speaks kernel (without wide) = record { is = old_reaction wide speaks.is; some = speaks_with (without wide) x present } in
          maximal_above kernel x lt (without wide, old_speaks, present) (λ found.
          let m = found.0 in
          let listed : Contains least m = (needs.clocks.all m).1 found.1 in
          let up : is_present (without wide) m ≡ true = found.2 (without wide) old_speaks present in
          let off = (no_mark listed.0 m (slice_get-get_or least listed.0 m listed.1 ∙ ap Some listed.2)).1 in
          false≢true (sym off ∙ sym (ap is_some (left_out wide m found.1.maximal.is)) ∙ up))

      nothing : ⊥
      nothing = by found.0 found.2 (place_cases kernel.inputs count (length least) (length least) found.0 inputs_within within) where
        found : (signal : ℕ) × (signal < length wide) × (is_present wide signal ≡ true)
        found = someone wide speaks.some

        within : found.0 < count + (length least + length least)
        within = omega (arith, found.1, all_statuses paced.signals wide speaks.is.kinds, paced_count kernel least inputs_within)

        by : (k : ℕ) → is_present wide k ≡ true → IsPlace kernel.inputs count (length least) (length least) k → ⊥
        by k there (is_old x lt is) = none_old x lt (ap (is_present wide) is ∙ there)
        by k there (is_new j lt is) = false≢true (sym (no_pace j lt) ∙ ap (is_present wide) is ∙ there)
        by k there (is_last j lt is) = false≢true (sym (no_mark j (get_or least j 0) (slice_get-get_or least j 0 lt)).0 ∙ ap (is_present wide) is ∙ there)

    pub first_pace : HasRoot paced
    first_pace = (
      kernel.inputs,
      record {
        is = omega (arith, paced_count kernel least inputs_within, some_least, inputs_within);
        everywhere = λ reaction speaks. true_from_ne_false (is_present reaction kernel.inputs) (λ absent. nothing reaction speaks absent);
      },
    )

pub has_root : (kernel paced : Kernel) (least : List ℕ) → IsValid kernel → GetsPaces kernel paced least → HasRoot paced
has_root kernel own least valid gets = subst HasRoot (sym gets.is) (first_pace kernel least valid gets.needs)
