-- The lines of the last outputs.
use Rattle.sig_values.proofs.Common.{◌≡◌, ◌<◌, ◌≤◌, ◌+◌, ◌-◌, ◌∙◌, ℕ, zero, suc, List, [], ◌∷◌, ◌++◌, length, drop, get_or, ap, sym, arith, drop_more, same_Some, sum_by-cons, refl, None, Some, slice_get, Instant, Seen, Signal, seen_line, seen_lines, longest_line, longest_lines}

-- the lines of the outputs from one on
abbrev pub lines_from : List Signal → Instant → ℕ → List ℕ
lines_from outputs instant place = seen_lines (drop place outputs) (drop place instant)

-- behind the last output there is none
pub none_behind : (outputs : List Signal) (instant : Instant) → [] ≡ lines_from outputs instant (length outputs)
none_behind [] instant = refl
none_behind (s ∷ outputs) [] = none (drop (length outputs) outputs) where
  none : (signals : List Signal) → [] ≡ seen_lines signals []
  none [] = refl
  none (t ∷ signals) = refl
none_behind (s ∷ outputs) (x ∷ instant) = none_behind outputs instant

-- from the first one on they are all
pub whole_text : (outputs : List Signal) (instant : Instant) (place : ℕ) → place ≤ 0 → (text : List ℕ) → text ≡ lines_from outputs instant place → text ≡ seen_lines outputs instant
whole_text outputs instant zero first text is = is
whole_text outputs instant (suc place) first text is = absurd (omega (arith, first))

-- from one on they are its line, and then those behind it
pub one_more_in_front : (outputs : List Signal) (instant : Instant) (place : ℕ) (d : Signal) (seen : Seen) → place < length outputs → slice_get instant place ≡ Some seen
    → lines_from outputs instant place ≡ seen_line (get_or outputs place d) seen ++ lines_from outputs instant (suc place)
one_more_in_front [] instant place d seen below is = absurd (omega (arith, below))
one_more_in_front (s ∷ outputs) [] place d seen below is = absurd (let e : None ≡ Some seen = is in cc)
one_more_in_front (s ∷ outputs) (x ∷ instant) zero d seen below is = ap (λ (t : Seen). seen_line s t ++ seen_lines outputs instant) (same_Some x seen is)
one_more_in_front (s ∷ outputs) (x ∷ instant) (suc place) d seen below is = one_more_in_front outputs instant place d seen (omega (arith, below)) is

-- those are no more than all
longest_within : (outputs : List Signal) (place : ℕ) → longest_lines (drop place outputs) ≤ longest_lines outputs
longest_within outputs zero = omega arith
longest_within [] (suc place) = omega arith
longest_within (s ∷ outputs) (suc place) = omega (arith, sum_by-cons longest_line s outputs, longest_within outputs place)

-- with the line of the output before a place
module _ (outputs : List Signal) (place : ℕ) (after : 0 < place) (within : place ≤ length outputs) (signal : Signal) (is : signal ≡ get_or outputs (place - 1) signal) where
  at : suc (place - 1) ≡ place
  at = omega (arith, after)

  below : place - 1 < length outputs
  below = omega (arith, after, within)

  longest : longest_lines (drop (place - 1) outputs) ≡ longest_line signal + longest_lines (drop place outputs)
  longest =
      ap longest_lines (drop_more outputs (place - 1) signal below) ∙ sum_by-cons longest_line (get_or outputs (place - 1) signal) (drop (place - 1 + 1) outputs)
      ∙ ap (λ (s : Signal). longest_line s + longest_lines (drop (place - 1 + 1) outputs)) (sym is)
      ∙ ap (λ (n : ℕ). longest_line signal + longest_lines (drop n outputs)) (let e : place - 1 + 1 ≡ place = omega (arith, after) in e)

  module _ (text : List ℕ) (short : length text ≤ longest_lines (drop place outputs)) where
    pub room_in_front : length text + longest_line signal ≤ longest_lines outputs
    room_in_front = omega (arith, longest, short, longest_within outputs (place - 1))

    pub short_in_front : (longer : List ℕ) → length longer ≤ length text + longest_line signal → length longer ≤ longest_lines (drop (place - 1) outputs)
    short_in_front longer grown = omega (arith, longest, short, grown)

  pub text_in_front : (instant : Instant) (seen : Seen) → slice_get instant (place - 1) ≡ Some seen
      → seen_line signal seen ++ lines_from outputs instant place ≡ lines_from outputs instant (place - 1)
  text_in_front instant seen sees =
      ap (λ (s : Signal). seen_line s seen ++ lines_from outputs instant place) is
      ∙ ap (λ (n : ℕ). seen_line (get_or outputs (place - 1) signal) seen ++ lines_from outputs instant n) (sym at)
      ∙ sym (one_more_in_front outputs instant (place - 1) signal seen below sees)
