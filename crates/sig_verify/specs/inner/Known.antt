-- What is known behind the first operations of an image.
use Rattle.std.specs.Prelude.{◌≡◌, ◌≤◌, ◌*◌, ◌^◌, ◌↔◌, ◌||◌, ◌&&◌}
use Rattle.sig_verify.specs.Prelude.{ℕ, Bool, true, false, List, length, slice_get, nat_eq, BTreeMap, Option, None, Some, SigId, NODES, test, Ref, DdAnswer, Budget, OutOfMemory, ImageView, Guarded, IsSoundImage, IsSoundOperation, IsWrittenBefore, guards_of}
use Rattle.sig_verify.specs.inner.Asking.{AreGood, AreOf, AreTold, IsScene, asked, is_written}
use Rattle.sig_verify.specs.Verifying.{IsBeyondBound, IsFirstUnsound}
use Rattle.sig_verify.specs.declared.diagrams.Diagrams.{Diagrams}
use Rattle.sig_verify.specs.declared.verifier.Verifier.{Verifier}

-- the operation of this number is sound
abbrev pub IsSoundAt : ImageView → ℕ → Type 0
IsSoundAt image n = (op : Guarded) → slice_get (guards_of image).ops n ≡ Some op → IsSoundOperation (guards_of image) n op

-- The first n operations were taken in.
pub record IsKnown (image : ImageView) (n : ℕ) (verifier : Verifier) : Type 0 where
  pub scene : IsScene verifier.diagrams image verifier.written
  pub good : AreGood verifier.diagrams image verifier.written verifier.guards
  -- of the nodes that were walked it is told where all that they ask was written, but for what was written since
  pub told : AreTold false verifier.diagrams image (asked verifier.diagrams image verifier.written) verifier.told
  -- the table tells where they wrote
  pub written : (x : SigId) (truths : List Bool) → (is_written verifier.diagrams.store.nodes verifier.written x.0 truths ≡ true) ↔ IsWrittenBefore (guards_of image).ops n truths x
  -- for each there were fewer than ten calls a proposal
  pub calls : verifier.diagrams.calls ≤ n * (10 * 2 ^ length image.conditions)
  -- and at most three comparisons, each of fewer pairs than there are proposals
  pub pairs : verifier.work.pairs ≤ n * (3 * 2 ^ length image.conditions)

-- the signal that is written, if one is, has this number
abbrev pub is_target : Option SigId → ℕ → Bool
is_target None x = false
is_target (Some y) x = nat_eq y.0 x

-- a signal, if one is written, was written where the guard is true, beside all that was written before
pub record IsTakenIn (old : Diagrams) (before : BTreeMap ℕ Ref) (new : Diagrams) (behind : BTreeMap ℕ Ref) (target : Option SigId) (guard : Ref) : Type 0 where
  pub of : AreOf new behind
  pub written : (x : ℕ) (truths : List Bool)
      → is_written new.store.nodes behind x truths ≡ (is_written old.store.nodes before x truths || (is_target target x && test old.store.nodes guard truths))

-- the signal was not written where the guard is true
abbrev pub IsFree : Diagrams → BTreeMap ℕ Ref → SigId → Ref → Type 0
IsFree diagrams written y guard = (truths : List Bool) → is_written diagrams.store.nodes written y.0 truths ≡ true → test diagrams.store.nodes guard truths ≡ true → ⊥

-- no operation is unsound, or this one is the first
abbrev pub IsVerdict : ImageView → Option ℕ → Type 0
IsVerdict image None = IsSoundImage image
IsVerdict image (Some n) = IsFirstUnsound image n

-- an answer for want of memory, or for the number of nodes where these may not suffice
abbrev pub IsWant : ImageView → DdAnswer → Type 0
IsWant image (Budget nodes) = (nodes ≡ NODES) × IsBeyondBound image
IsWant image OutOfMemory = Unit {0}
