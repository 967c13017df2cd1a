-- What refusals say, and when they are given.
use Rattle.std.specs.Prelude.{◌≡◌, ◌++◌}
use Rattle.sig_flat.specs.Prelude.{ℕ, List, Result, Ok, Err, ⊤, codes, decimal, SIGNALS}
use Rattle.sig_flat.specs.declared.answer.FlatAnswer.{FlatAnswer}
use Rattle.sig_flat.specs.declared.answer.FlatAnswer.TheVariants.{TooManySignals, OutOfMemory}

-- the line, without its newline
abbrev pub answer_text : FlatAnswer → List ℕ
answer_text (TooManySignals limit) = codes "error: more than " ++ decimal limit ++ codes " signals"
answer_text OutOfMemory = codes "error: out of memory"

-- what is so where an answer refuses, by the limit of signals, and not for want of memory
abbrev pub IsRefusedBy : FlatAnswer → Type 0 → Type 0
IsRefusedBy (TooManySignals limit) Cause = (limit ≡ SIGNALS) × Cause
IsRefusedBy OutOfMemory Cause = ⊤

abbrev pub IsRefused : {A : Type 0} → Result A FlatAnswer → Type 0 → Type 0
IsRefused (Ok value) Cause = ⊤
IsRefused (Err answer) Cause = IsRefusedBy answer Cause
