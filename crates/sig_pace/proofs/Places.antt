-- Where the signals of a paced kernel stand.
use Rattle.sig_pace.proofs.Common.{◌≡◌, ◌<◌, ◌≤◌, ◌+◌, ◌∙◌, ℕ, zero, suc, List, [], ◌∷◌, length, slice_get, refl, sym, ap, subst, arith, None, Some, Boolean, Event, IsSignal, kind_of, IsValid, Kernel, marks_from, pace_name, paced_kernel, paces_from, place_of, moved, slice_get_within}
use Rattle.sig_pace.proofs.Rooms.{last_found, more_found, next_offset, no_offset, old_found, room_length}
use Rattle.sig_pace.proofs.RenumberedSignals.{StandAt}

pub paces_count : (kernel : Kernel) (number : ℕ) (least : List ℕ) → length (paces_from kernel number least) ≡ length least
paces_count kernel number [] = refl
paces_count kernel number (m ∷ least) = omega (arith, paces_count kernel (suc number) least)

pub marks_count : (kernel : Kernel) (number : ℕ) (least : List ℕ) → length (marks_from kernel number least) ≡ length least
marks_count kernel number [] = refl
marks_count kernel number (m ∷ least) = omega (arith, marks_count kernel (suc number) least)

pace_kind : (kernel : Kernel) (number : ℕ) (least : List ℕ) (j : ℕ) → j < length least → kind_of (slice_get (paces_from kernel number least) j) ≡ Some Boolean
pace_kind kernel number [] j lt = absurd (omega (arith, lt))
pace_kind kernel number (m ∷ least) zero lt = refl
pace_kind kernel number (m ∷ least) (suc j) lt = pace_kind kernel (suc number) least j (omega (arith, lt))

mark_kind : (kernel : Kernel) (number : ℕ) (least : List ℕ) (j : ℕ) → j < length least → kind_of (slice_get (marks_from kernel number least) j) ≡ Some Event
mark_kind kernel number [] j lt = absurd (omega (arith, lt))
mark_kind kernel number (m ∷ least) zero lt = refl
mark_kind kernel number (m ∷ least) (suc j) lt = mark_kind kernel (suc number) least j (omega (arith, lt))

pace_there : (kernel : Kernel) (number : ℕ) (least : List ℕ) (j m : ℕ) → slice_get least j ≡ Some m
    → slice_get (paces_from kernel number least) j ≡ Some (record { name = pace_name (number + j); kind = Boolean; cluster = 0; at = place_of kernel m })
pace_there kernel number [] j m is = absurd (let e : None ≡ Some m = is in cc)
pace_there kernel number (n ∷ least) zero m is =
    let same : n ≡ m = cc in
    λ i. Some (record { name = pace_name (sym (no_offset number) i); kind = Boolean; cluster = 0; at = place_of kernel (same i) })
pace_there kernel number (n ∷ least) (suc j) m is =
    pace_there kernel (suc number) least j m is ∙ (λ i. Some (record { name = pace_name (sym (next_offset number j) i); kind = Boolean; cluster = 0; at = place_of kernel m }))

module _ (kernel : Kernel) (least : List ℕ) (within : kernel.inputs ≤ length kernel.signals) where
  pub paced_count : length (paced_kernel kernel least).signals ≡ length kernel.signals + (length least + length least)
  paced_count = room_length kernel.inputs (paces_from kernel 1 least) (marks_from kernel 1 least) kernel.signals within ∙ omega (arith, paces_count kernel 1 least, marks_count kernel 1 least)

  -- the old signals
  pub stand : StandAt (moved kernel.inputs (length least)) (length kernel.signals) kernel.signals (paced_kernel kernel least).signals
  stand k lt = subst (λ n. slice_get kernel.signals k ≡ slice_get (paced_kernel kernel least).signals (moved kernel.inputs n k)) (paces_count kernel 1 least)
      (old_found kernel.inputs (paces_from kernel 1 least) (marks_from kernel 1 least) kernel.signals within k lt)

  -- a pace is boolean
  pub kind_of_pace : (j : ℕ) → j < length least → kind_of (slice_get (paced_kernel kernel least).signals (kernel.inputs + j)) ≡ Some Boolean
  kind_of_pace j lt =
      ap kind_of (more_found kernel.inputs (paces_from kernel 1 least) (marks_from kernel 1 least) kernel.signals within j (omega (arith, paces_count kernel 1 least, lt))) ∙ pace_kind kernel 1 least j lt

  -- a mark is an event
  pub kind_of_mark : (j : ℕ) → j < length least → kind_of (slice_get (paced_kernel kernel least).signals (length kernel.signals + length least + j)) ≡ Some Event
  kind_of_mark j lt =
      ap (λ n. kind_of (slice_get (paced_kernel kernel least).signals (length kernel.signals + n + j))) (sym (paces_count kernel 1 least))
      ∙ ap kind_of (last_found kernel.inputs (paces_from kernel 1 least) (marks_from kernel 1 least) kernel.signals within j (omega (arith, marks_count kernel 1 least, lt))) ∙ mark_kind kernel 1 least j lt

-- ---- in a valid kernel

pub old_signals : (kernel : Kernel) (least : List ℕ) → IsValid kernel → (signal : ℕ) → IsSignal kernel signal
    → slice_get (paced_kernel kernel least).signals (moved kernel.inputs (length least) signal) ≡ slice_get kernel.signals signal
old_signals kernel least valid signal is = sym (stand kernel least (omega (arith, valid.parts.interface, valid.parts.declared)) signal is)

pub pace_signals : (kernel : Kernel) (least : List ℕ) → IsValid kernel → (j m : ℕ) → slice_get least j ≡ Some m
    → slice_get (paced_kernel kernel least).signals (kernel.inputs + j) ≡ Some (record { name = pace_name (1 + j); kind = Boolean; cluster = 0; at = place_of kernel m })
pace_signals kernel least valid j m is =
    let lt = slice_get_within least j m is in
    more_found kernel.inputs (paces_from kernel 1 least) (marks_from kernel 1 least) kernel.signals (omega (arith, valid.parts.interface, valid.parts.declared)) j (omega (arith, paces_count kernel 1 least, lt))
    ∙ pace_there kernel 1 least j m is
