-- Where signals were written, and what the walks of guards ask for, as functions of the proposals.
use Rattle.std.specs.Prelude.{◌≡◌, ◌+◌, ◌&&◌, if◌then◌else◌}
use Rattle.sig_verify.specs.Prelude.{nat_cmp, ℕ, Bool, true, false, List, length, slice_get, BTreeMap, get, Option, None, Some, IfSome, SigId, Diagram, Constant, Choice, truth_of, value_at, diagram, test, Node, Ref, ImageView, ImageOpKind, nodes_in}
use Rattle.sig_file.specs.declared.images.ImageOpKind.TheVariants as does
use Rattle.sig_verify.specs.inner.Diagrams.{AreDiagrams, IsFor, IsOf}
use Rattle.sig_verify.specs.declared.diagrams.Diagrams.{Diagrams}
use Rattle.sig_verify.specs.declared.walk.Told.{Told}

-- ---- where signals were written, by a table of diagrams

-- where a diagram is true, if there is one
abbrev pub true_at : List Node → Option Ref → List Bool → Bool
true_at nodes None truths = false
true_at nodes (Some r) truths = test nodes r truths

-- the signal of this number was written
abbrev pub is_written : List Node → BTreeMap ℕ Ref → ℕ → List Bool → Bool
is_written nodes written x truths = true_at nodes (get nat_cmp written x) truths

-- the condition was written; there is nothing to write for a variable that has none
abbrev pub asked_of : List Node → BTreeMap ℕ Ref → Option SigId → List Bool → Bool
asked_of nodes written None truths = true
asked_of nodes written (Some x) truths = is_written nodes written x.0 truths

abbrev pub asked : Diagrams → ImageView → BTreeMap ℕ Ref → ℕ → List Bool → Bool
asked diagrams image written v truths = asked_of diagrams.store.nodes written (slice_get image.conditions v) truths

-- the signal was written wherever the guard is true
abbrev pub IsWrittenWhere : List Node → BTreeMap ℕ Ref → Ref → SigId → Type 0
IsWrittenWhere nodes written guard x = (truths : List Bool) → test nodes guard truths ≡ true → is_written nodes written x.0 truths ≡ true

-- each diagram of the table is one of the conditions alone
abbrev pub AreOf : Diagrams → BTreeMap ℕ Ref → Type 0
AreOf diagrams written = (x : ℕ) → IfSome (get nat_cmp written x) (IsOf diagrams)

-- diagrams over the conditions of an image, with such a table
pub record IsScene (diagrams : Diagrams) (image : ImageView) (written : BTreeMap ℕ Ref) : Type 0 where
  pub right : AreDiagrams diagrams
  pub conditions : diagrams.conditions ≡ length image.conditions
  pub of : AreOf diagrams written

-- ---- what walks ask for

-- all that the walk of a diagram asks for was written
unfoldable pub all_asked : (ℕ → List Bool → Bool) → Diagram → List Bool → Bool
all_asked written (Constant b) truths = true
all_asked written (Choice v low high) truths = written v truths && (if truth_of truths v then all_asked written high truths else all_asked written low truths)

-- the choices of a diagram, written out as a tree
unfoldable pub choices : Diagram → ℕ
choices (Constant b) = 0
choices (Choice v low high) = choices low + choices high + 1

-- the diagram of a guard, numbered as a child is
abbrev pub guard_at : ImageView → ℕ → Diagram
guard_at image n = diagram (nodes_in image.nodes) (record { number = n })

-- What is told of a guard, or of a node below one: its function, and where all that its walk asks for was written. That may be
-- told of fewer proposals than there are, where more was written since; it is exact where it was told by what is written now.
pub record IsTold (exact : Bool) (diagrams : Diagrams) (image : ImageView) (before : ℕ → List Bool → Bool) (n : ℕ) (told : Told) : Type 0 where
  pub function : IsFor diagrams (value_at (guard_at image n)) told.function
  pub of : IsOf diagrams told.written
  pub sure : (truths : List Bool) → test diagrams.store.nodes told.written truths ≡ true → all_asked before (guard_at image n) truths ≡ true
  pub all : exact ≡ true → (truths : List Bool) → all_asked before (guard_at image n) truths ≡ true → test diagrams.store.nodes told.written truths ≡ true

abbrev pub AreTold : Bool → Diagrams → ImageView → (ℕ → List Bool → Bool) → BTreeMap ℕ Told → Type 0
AreTold exact diagrams image before told = (n : ℕ) → IfSome (get nat_cmp told n) (IsTold exact diagrams image before n)

-- a reference to the function of a guard whose walk asks only for what was written
pub record IsGood (diagrams : Diagrams) (image : ImageView) (written : BTreeMap ℕ Ref) (n : ℕ) (r : Ref) : Type 0 where
  pub function : IsFor diagrams (value_at (guard_at image n)) r
  pub asks : (truths : List Bool) → all_asked (asked diagrams image written) (guard_at image n) truths ≡ true

abbrev pub AreGood : Diagrams → ImageView → BTreeMap ℕ Ref → BTreeMap ℕ Ref → Type 0
AreGood diagrams image written guards = (n : ℕ) → IfSome (get nat_cmp guards n) (IsGood diagrams image written n)

-- a reference to the function of such a guard, or none for another guard
abbrev pub IsGuard : Diagrams → ImageView → BTreeMap ℕ Ref → ℕ → Option Ref → Type 0
IsGuard diagrams image written n None = ((truths : List Bool) → all_asked (asked diagrams image written) (guard_at image n) truths ≡ true) → ⊥
IsGuard diagrams image written n (Some r) = IsGood diagrams image written n r

-- ---- what operations write

-- the signal that an operation writes
abbrev pub target_of : ImageOpKind → Option SigId
target_of (does.Read x) = Some x
target_of (does.Fun y op operands) = Some y
target_of (does.Copy y x) = Some y
target_of (does.Const y value) = Some y
target_of (does.DelayRead y memory) = Some y
target_of (does.Store memory x) = None

-- of how many operands it is asked at most whether they were written
abbrev pub operands_of : ImageOpKind → ℕ
operands_of (does.Fun y op operands) = length operands
operands_of kind = 1
