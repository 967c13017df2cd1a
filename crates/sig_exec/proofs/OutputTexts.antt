-- The text of an instant, by the outputs of an image as signals of a program.
use Rattle.sig_exec.proofs.Common.{get_pushed, inl, inr, ◌≡◌, ◌<◌, ◌≤◌, ◌+◌, ◌++◌, ◌∷◌, ◌∙◌, ℕ, zero, suc, List, [], length, length-drop, length-take-le, take, drop, None, Some, refl, sym, ap, subst, arith, slice_get, slice_get_within, slice_get-get_or, same_Some, Instant, Seen, HaveSignals, ImageMachine, ImageSignal, ImageView, IsOutput, cells_in, registers_of, seen_in, Signal, instant_lines, line_of, seen_line, seen_lines}
use Rattle.sig_exec.proofs.CellsLeft.{registers_at, registers_length}
use Rattle.sig_kernel.specs.OutputText.{seen_line as output_line, seen_lines as output_lines}

drop_get : {A : Type 0} (xs : List A) (a n : ℕ) → slice_get (drop a xs) n ≡ slice_get xs (a + n)
drop_get xs zero n = ap (slice_get xs) (let e : n ≡ 0 + n = omega arith in e)
drop_get [] (suc a) n = refl
drop_get (x ∷ xs) (suc a) n = drop_get xs a n ∙ ap (slice_get (x ∷ xs)) (let e : suc (a + n) ≡ suc a + n = omega arith in e)

take_get : {A : Type 0} (xs : List A) (m n : ℕ) → n < m → slice_get (take m xs) n ≡ slice_get xs n
take_get xs zero n below = absurd (omega (arith, below))
take_get [] (suc m) n below = refl
take_get (x ∷ xs) (suc m) zero below = refl
take_get (x ∷ xs) (suc m) (suc n) below = take_get xs m n (omega (arith, below))

same_line : (signal : ImageSignal) (output : Signal) → IsOutput signal output → (seen : Seen) → output_line output seen ≡ seen_line signal seen
same_line signal output is None = refl
same_line signal output is (Some v) = ap (λ (name : List ℕ). line_of name output.kind v) is.name ∙ ap (λ kind. line_of signal.name kind v) is.kind

same_lines : (own : List Signal) (signals : List ImageSignal) → length own ≡ length signals
    → ((place : ℕ) (output : Signal) → slice_get own place ≡ Some output → (signal : ImageSignal) → slice_get signals place ≡ Some signal → IsOutput signal output)
    → (instant : Instant) → output_lines own instant ≡ seen_lines signals instant
same_lines [] [] count each instant = refl
same_lines [] (s ∷ signals) count each instant = absurd (omega (arith, count))
same_lines (o ∷ own) [] count each instant = absurd (omega (arith, count))
same_lines (o ∷ own) (s ∷ signals) count each [] = refl
same_lines (o ∷ own) (s ∷ signals) count each (x ∷ instant) =
    ap (λ (line : List ℕ). line ++ output_lines own instant) (same_line s o (each zero o refl s refl) x)
    ∙ ap (λ (lines : List ℕ). seen_line s x ++ lines) (same_lines own signals (omega (arith, count)) (λ place. each (suc place)) instant)

abbrev pub AreOutputsOfFirst : ImageView → List Signal → Type 0
AreOutputsOfFirst image own = (place : ℕ) (output : Signal) → slice_get own place ≡ Some output → (signal : ImageSignal) → slice_get image.signals (image.inputs + place) ≡ Some signal → IsOutput signal output

module _ (image : ImageView) (fits : image.inputs + image.outputs ≤ length image.signals) where
  -- what an output is stands behind the inputs
  pub output_shown : (m : ImageMachine) → HaveSignals image (cells_in m) → (first : ℕ) → first ≡ image.inputs → (place : ℕ) → place < image.outputs → (seen : Seen) → seen ≡ seen_in m (first + place)
      → slice_get (drop image.inputs (registers_of image m)) place ≡ Some seen
  output_shown m has first is place below seen told =
      let count = registers_length image m.instant (cells_in m) has in
      let sees : seen ≡ seen_in m (image.inputs + place) = told ∙ ap (λ (n : ℕ). seen_in m (n + place)) is in
      drop_get (registers_of image m) image.inputs place ∙ slice_get-get_or (registers_of image m) (image.inputs + place) None (omega (arith, count, fits, below))
      ∙ ap (λ (s : Seen). Some s) (registers_at image m.instant (cells_in m) has (image.inputs + place) (omega (arith, fits, below)) ∙ sym sees)

  -- the lines of the signals are those of the image
  pub lines_of_image : (own : List Signal) → length own ≡ image.outputs → AreOutputsOfFirst image own → (registers : Instant)
      → output_lines own (drop image.inputs registers) ≡ instant_lines image registers
  lines_of_image own count each registers =
      let behind = length-drop image.inputs image.signals in
      let all = length-take-le image.outputs (drop image.inputs image.signals) (omega (arith, behind, fits)) in
      same_lines own (take image.outputs (drop image.inputs image.signals)) (count ∙ sym all) (λ place output here signal there.
      let within = slice_get_within own place output here in
      each place output here signal
      (sym (drop_get image.signals image.inputs place) ∙ sym (take_get (drop image.inputs image.signals) image.outputs place (omega (arith, within, count))) ∙ there)) (drop image.inputs registers)

pub outputs_more : (image : ImageView) (own : List Signal) (n : ℕ) → length own ≡ n → AreOutputsOfFirst image own → (output : Signal) (signal : ImageSignal)
    → slice_get image.signals (image.inputs + n) ≡ Some signal → IsOutput signal output → AreOutputsOfFirst image (own ++ output ∷ [])
outputs_more image own n count are output signal there is = λ place other at found here. elim (get_pushed own output place other at) [
  | inl before ↦ are place other before found here
  | inr (last, same) ↦
      let one : signal ≡ found = same_Some signal found (sym there ∙ ap (λ (k : ℕ). slice_get image.signals (image.inputs + k)) (let e : n ≡ place = omega (arith, count, last) in e) ∙ here) in
      subst (λ (o : Signal). IsOutput found o) same (subst (λ (s : ImageSignal). IsOutput s output) one is)
]
