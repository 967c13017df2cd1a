-- What the calls of a `Sink` answer, and what it took.
use Rattle.std.specs.Prelude.{ℕ, ◌≡◌, ◌++◌, Bool, true, false, List, [], take, ⊤}
use Rattle.std.proofs.Common.{append_assoc, ap, ◌∙◌, sym}
use Rattle.std.proofs.lemmas.List.{append-nil}
use Rattle.sig_text.specs.declared.sink.Wrote.{Wrote}
use Rattle.sig_text.specs.declared.sink.Wrote.TheVariants.{Took, Failed}

-- a fact for one answer of `write`
abbrev pub IfTook : Wrote → (ℕ → Type 0) → Type 0
IfTook (Took n) fact = fact n
IfTook Failed fact = ⊤

abbrev pub OnWriteFailed : Wrote → Type 0 → Type 0
OnWriteFailed (Took n) fact = ⊤
OnWriteFailed Failed fact = fact

-- the answer says that nothing was taken
abbrev pub TookNone : Wrote → Type 0
TookNone (Took n) = n ≡ 0
TookNone Failed = Unit {0}

-- the answer is a failure
abbrev pub write_failed : Wrote → Bool
write_failed (Took n) = false
write_failed Failed = true

-- the bytes of the piece that an answer of `write` says were taken
abbrev pub taken_of : Wrote → List ℕ → List ℕ
taken_of (Took n) piece = take n piece
taken_of Failed piece = []

-- a sink took some first bytes of a list
pub record TookPrefix {S : Type 0} (took : S → List ℕ → S → Type 0) (before : S) (bytes : List ℕ) (after : S) : Type 0 where
  pub part : List ℕ
  pub left : List ℕ
  pub joined : part ++ left ≡ bytes
  pub taken : took before part after

-- what a sink took is fixed by the sink before and the sink after: the sink tells its bytes
abbrev pub TellsBytes : {S : Type 0} → (S → List ℕ → S → Type 0) → Type 0
TellsBytes {S} took =
    (before after : S) (bytes others : List ℕ) → took before bytes after → took before others after → bytes ≡ others

-- takings, one after the other, are one taking of both lists joined: the law `took_both` of a sink
abbrev pub Joins : {S : Type 0} → (S → List ℕ → S → Type 0) → Type 0
Joins {S} took =
    (first middle last : S) (bytes more : List ℕ) → took first bytes middle → took middle more last → took first (bytes ++ more) last

-- all of a list is a prefix of it
pub TookPrefix-whole : {S : Type 0} (took : S → List ℕ → S → Type 0) (before after : S) (bytes : List ℕ)
    → took before bytes after → TookPrefix took before bytes after
TookPrefix-whole took before after bytes all =
    record { part = bytes; left = []; joined = append-nil bytes; taken = all }

-- a prefix of a list is one of each longer list
pub TookPrefix-longer : {S : Type 0} (took : S → List ℕ → S → Type 0) (before after : S) (bytes more : List ℕ)
    → TookPrefix took before bytes after → TookPrefix took before (bytes ++ more) after
TookPrefix-longer took before after bytes more prefix = record {
  part = prefix.part;
  left = prefix.left ++ more;
  joined = sym (append_assoc prefix.part prefix.left more) ∙ ap (λ xs. xs ++ more) prefix.joined;
  taken = prefix.taken;
}

-- some bytes, and then a prefix of more: a prefix of both joined
pub TookPrefix-then : {S : Type 0} (took : S → List ℕ → S → Type 0) → Joins took
    → (before middle after : S) (bytes more : List ℕ) → took before bytes middle → TookPrefix took middle more after
    → TookPrefix took before (bytes ++ more) after
TookPrefix-then took joins before middle after bytes more all prefix = record {
  part = bytes ++ prefix.part;
  left = prefix.left;
  joined = append_assoc bytes prefix.part prefix.left ∙ ap (λ xs. bytes ++ xs) prefix.joined;
  taken = joins before middle after bytes prefix.part all prefix.taken;
}
