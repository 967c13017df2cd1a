-- A sink in memory.
use Rattle.std.specs.Prelude.{ℕ, ◌≡◌, ◌-◌, ◌<◌, ◌⊎◌, ◌++◌, Bool, List, [], length}
use Rattle.std.proofs.Common.{append_assoc, ap, ◌∙◌, sym}
use Rattle.std.proofs.lemmas.List.{append-nil}
use Rattle.sig_text.specs.Calls.{CallsMade, NextFails}

-- the bytes that it took, how many it has room for, whether it was flushed since, and its calls
pub record SinkInMemory : Type 0 where
  pub bytes : List ℕ
  pub room : ℕ
  pub clean : Bool
  pub calls : CallsMade

-- between two moments a sink in memory took these bytes
abbrev pub Grew : SinkInMemory → List ℕ → SinkInMemory → Type 0
Grew before bytes after = after.bytes ≡ before.bytes ++ bytes

-- how many more bytes it has room for
abbrev pub room_left : SinkInMemory → ℕ
room_left sink = sink.room - length sink.bytes

-- the next call is to fail, or there is no room for a byte of the piece
abbrev pub WriteFails : SinkInMemory → List ℕ → Type 0
WriteFails sink piece = NextFails sink.calls ⊎ ((room_left sink ≡ 0) × (0 < length piece))

pub Grew-nothing : (sink : SinkInMemory) → Grew sink [] sink
Grew-nothing sink = sym (append-nil sink.bytes)

pub Grew-both : (first middle last : SinkInMemory) (bytes more : List ℕ)
    → Grew first bytes middle → Grew middle more last → Grew first (bytes ++ more) last
Grew-both first middle last bytes more before after =
    after ∙ ap (λ xs. xs ++ more) before ∙ append_assoc first.bytes bytes more
