-- What a sink took of a list of bytes, one front after another.
use Rattle.std.proofs.Common.{ℕ, ◌+◌, ◌-◌, List, [], take, drop, length}
use Rattle.std.proofs.Math.Seq.{take-add}
use Rattle.std.proofs.lemmas.List.{take-append-drop, append-nil, take_rest}
use Rattle.sig_text.specs.Sink.{TookPrefix, Joins}

-- a front, and then the first n of all that is left: a longer front
pub took-more : {S : Type 0} (took : S → List ℕ → S → Type 0) → Joins took → (before middle after : S) (bytes : List ℕ) (i n : ℕ)
    → took before (take i bytes) middle → took middle (take n (take (length bytes - i) (drop i bytes))) after
    → took before (take (i + n) bytes) after
took-more took both before middle after bytes i n front next =
    rw (take-add i n bytes)
    (both before middle after (take i bytes) (take n (drop i bytes)) front (rw (take_rest bytes i) at next))

-- a front, and then nothing: a prefix
pub took-front : {S : Type 0} (took : S → List ℕ → S → Type 0) → Joins took → (before middle after : S) (bytes : List ℕ) (i : ℕ)
    → took before (take i bytes) middle → took middle [] after → TookPrefix took before bytes after
took-front took both before middle after bytes i front none = record {
  part = take i bytes;
  left = drop i bytes;
  joined = take-append-drop i bytes;
  taken = rw (append-nil (take i bytes)) at (both before middle after (take i bytes) [] front none);
}

-- a front, and then any first bytes of all that is left: a prefix
pub took-part : {S : Type 0} (took : S → List ℕ → S → Type 0) → Joins took → (before middle after : S) (bytes : List ℕ) (i n : ℕ)
    → took before (take i bytes) middle → took middle (take n (take (length bytes - i) (drop i bytes))) after
    → TookPrefix took before bytes after
took-part took both before middle after bytes i n front next = record {
  part = take (i + n) bytes;
  left = drop (i + n) bytes;
  joined = take-append-drop (i + n) bytes;
  taken = took-more took both before middle after bytes i n front next;
}
