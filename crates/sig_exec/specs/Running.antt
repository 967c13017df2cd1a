-- What running an image makes.
use Rattle.std.specs.Prelude.{◌≡◌, ◌<◌}
use Rattle.sig_exec.specs.Prelude.{ℕ, ℤ, List, [], length, map, slice_get, slice_index_or, Some, AllPass, AreOfKinds, Bounded, Instant, TookPrefix, value_is, ImageView, ImageSignal, ImageEnd, IsImageRun}

-- Flows fit an image.
pub record AreFlowsOf (image : ImageView) (flows : List (List ℤ)) : Type 0 where
  -- there is one for each input
  pub count : length flows ≡ image.inputs
  -- and each of its values is of the input's kind
  pub kinds : (k : ℕ) (input : ImageSignal) → k < image.inputs → slice_get image.signals k ≡ Some input
      → AllPass (value_is input.kind) (slice_index_or flows k [])

-- between two moments a sink took the text of the run of an image, of which this is the end
abbrev pub TookRun : ImageView → List (List ℤ) → ℕ → {S : Type 0} → (S → List ℕ → S → Type 0) → S → S → ImageEnd → Type 0
TookRun image flows limit took before after end = (text : List ℕ) × IsImageRun image flows limit text end × took before text after

-- between two moments a sink took a prefix of the text of the run of an image
abbrev pub TookSome : ImageView → List (List ℤ) → ℕ → {S : Type 0} → (S → List ℕ → S → Type 0) → S → S → Type 0
TookSome image flows limit took before after =
    (text : List ℕ) (end : ImageEnd) → IsImageRun image flows limit text end → TookPrefix took before text after

-- At an instant each signal of an image is absent, or has a value of its kind.
abbrev pub HaveKinds : ImageView → Instant → Type 0
HaveKinds image instant = AreOfKinds Bounded (map (λ signal. signal.kind) image.signals) instant
