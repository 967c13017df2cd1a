-- What reading a file to its end answers.
use Rattle.std.specs.Prelude.{ℕ, ◌<◌, List, length, Option, IsSomeAnd, ⊤, Result, Ok, Err}
use Rattle.sig_text.specs.declared.read.ReadAnswer.{ReadAnswer}
use Rattle.sig_text.specs.declared.read.ReadAnswer.TheVariants.{Missing, ReadFault, TooLong, OutOfMemory}

-- a file is there and has more than so many bytes
abbrev pub IsLongerThan : Option (List ℕ) → ℕ → Type 0
IsLongerThan found limit = IsSomeAnd found (λ bytes. limit < length bytes)

-- a fact for one refusal
abbrev pub OnMissingFile : {T : Type 0} → Result T ReadAnswer → Type 0 → Type 0
OnMissingFile (Ok _) fact = ⊤
OnMissingFile (Err Missing) fact = fact
OnMissingFile (Err ReadFault) fact = ⊤
OnMissingFile (Err (TooLong _)) fact = ⊤
OnMissingFile (Err OutOfMemory) fact = ⊤

abbrev pub OnReadFault : {T : Type 0} → Result T ReadAnswer → Type 0 → Type 0
OnReadFault (Ok _) fact = ⊤
OnReadFault (Err Missing) fact = ⊤
OnReadFault (Err ReadFault) fact = fact
OnReadFault (Err (TooLong _)) fact = ⊤
OnReadFault (Err OutOfMemory) fact = ⊤

abbrev pub IfTooLong : {T : Type 0} → Result T ReadAnswer → (ℕ → Type 0) → Type 0
IfTooLong (Ok _) fact = ⊤
IfTooLong (Err Missing) fact = ⊤
IfTooLong (Err ReadFault) fact = ⊤
IfTooLong (Err (TooLong n)) fact = fact n
IfTooLong (Err OutOfMemory) fact = ⊤
