-- What the calls of a `Files` answer, and what they do to what is told.
use Rattle.std.specs.Prelude.{ℕ, ◌≡◌, ◌<◌, Bool, true, false, List, length, take, ⊤, Option, None, Some}
use Rattle.std.specs.Io.KnownBytes.{Consumes, IsAtEnd}
use Rattle.sig_text.specs.declared.files.Begun.{Begun}
use Rattle.sig_text.specs.declared.files.Begun.TheVariants.{Ready, Missing, Failed}
use Rattle.sig_text.specs.declared.files.ReadStep.{ReadStep}
use Rattle.sig_text.specs.declared.files.ReadStep.TheVariants.{Got, Failed as ReadFailed}

-- the bytes under each name that is there
abbrev pub Contents : Type 0
Contents = List ℕ → Option (List ℕ)

-- a fact for one answer of `begin`
abbrev pub OnReady : Begun → Type 0 → Type 0
OnReady Ready fact = fact
OnReady Missing fact = ⊤
OnReady Failed fact = ⊤

abbrev pub OnMissing : Begun → Type 0 → Type 0
OnMissing Ready fact = ⊤
OnMissing Missing fact = fact
OnMissing Failed fact = ⊤

abbrev pub OnBeginFailed : Begun → Type 0 → Type 0
OnBeginFailed Ready fact = ⊤
OnBeginFailed Missing fact = ⊤
OnBeginFailed Failed fact = fact

-- a fact for the two answers of `begin` that open nothing
abbrev pub UnlessReady : Begun → Type 0 → Type 0
UnlessReady Ready fact = ⊤
UnlessReady Missing fact = fact
UnlessReady Failed fact = fact

-- a fact for the two answers of `begin` that are no failure
abbrev pub UnlessFailed : Begun → Type 0 → Type 0
UnlessFailed Ready fact = fact
UnlessFailed Missing fact = fact
UnlessFailed Failed fact = ⊤

-- which answer it is
abbrev pub begin_failed : Begun → Bool
begin_failed Ready = false
begin_failed Missing = false
begin_failed Failed = true

abbrev pub begin_missed : Begun → Bool
begin_missed Ready = false
begin_missed Missing = true
begin_missed Failed = false

abbrev pub read_failed : ReadStep → Bool
read_failed (Got n) = false
read_failed ReadFailed = true

-- the bytes that were found are there, and they are what is left to be read
abbrev pub IsOpened : Option (List ℕ) → Option (List ℕ) → Type 0
IsOpened found rest = (bytes : List ℕ) × (found ≡ Some bytes) × (rest ≡ Some bytes)

-- a name, where it is among the contents
abbrev pub name_where_there : Contents → List ℕ → Option (List ℕ)
name_where_there held name = elim (held name) [ None ↦ None | Some _ ↦ Some name ]

-- a fact for one answer of `read`
abbrev pub IfGot : ReadStep → (ℕ → Type 0) → Type 0
IfGot (Got n) fact = fact n
IfGot ReadFailed fact = ⊤

abbrev pub OnReadFailed : ReadStep → Type 0 → Type 0
OnReadFailed (Got n) fact = ⊤
OnReadFailed ReadFailed fact = fact

-- `read` took the bytes that it gave from the rest, none of a piece that is not empty only at the
-- end, and nothing where it failed
abbrev pub ReadGives : Option (List ℕ) → Option (List ℕ) → ReadStep → List ℕ → Type 0
ReadGives old new (Got n) piece =
    Consumes old new (take n piece) × (n ≡ 0 → 0 < length piece → IsAtEnd old)
ReadGives old new ReadFailed piece = new ≡ old
