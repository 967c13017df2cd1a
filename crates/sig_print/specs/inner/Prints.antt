-- What a call adds to a text.
use Rattle.std.specs.Prelude.{◌≡◌, ◌++◌}
use Rattle.sig_print.specs.Prelude.{ℕ, List, Result, OnOk, Spaced, spaced_text}

-- where the call succeeded, these words stand at the end of the text, each after its blank
abbrev pub Adds : {T E : Type 0} → List ℕ → List ℕ → Result T E → List Spaced → Type 0
Adds before after result words = OnOk result (after ≡ before ++ spaced_text words)
