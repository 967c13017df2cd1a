-- The links of signals that are marked for each actor as its imports.
use Rattle.std.specs.Prelude.{◌≡◌, ◌<◌, ◌⊎◌, ◌++◌}
use Rattle.sig_part.specs.Prelude.{ℕ, Bool, true, List, [], length, map, slice_get, slice_index_or, Some, Contains, range_with_len, SigId, Signal, cluster_at, IsEarlierLink, report_link, LinkInfo}
use Rattle.sig_part.specs.inner.Marks.{mark_at}

-- the signal is marked for this actor
abbrev pub IsMarkedFor : List (List Bool) → ℕ → SigId → Type 0
IsMarkedFor marks reader x = mark_at (slice_index_or marks reader []) x.0 ≡ true

-- a signal below n, or the signal n for a reader below this one
abbrev pub IsBefore : ℕ → ℕ → ℕ → SigId → Type 0
IsBefore n reader other x = (x.0 < n) ⊎ ((x.0 ≡ n) × (other < reader))

-- a link carries a signal from its cluster to an actor for which it is marked
pub record IsMarkedLink (signals : List Signal) (marks : List (List Bool)) (link : LinkInfo) (x : SigId) : Type 0 where
  pub signal : link.signal ≡ Some x
  pub writer : link.writer ≡ cluster_at signals x
  pub reader : link.reader < length marks
  pub marked : IsMarkedFor marks link.reader x

-- the links of the signals before n, and of the signal n to the readers before this one
pub record AreLinksBefore (signals : List Signal) (marks : List (List Bool)) (n reader : ℕ) (links : List LinkInfo) : Type 0 where
  pub each : (number : ℕ) (link : LinkInfo) → slice_get links number ≡ Some link
      → (x : SigId) × IsMarkedLink signals marks link x × IsBefore n reader link.reader x
  pub all : (other : ℕ) (x : SigId) → other < length marks → IsMarkedFor marks other x → IsBefore n reader other x
      → (link : LinkInfo) × Contains links link × (link.signal ≡ Some x) × (link.reader ≡ other)
  pub order : (i j : ℕ) (a b : LinkInfo) → i < j → slice_get links i ≡ Some a → slice_get links j ≡ Some b → IsEarlierLink a b

-- behind the links of the signals before x, those of x were added
abbrev pub AddsLinks : SigId → ℕ → List (List Bool) → List LinkInfo → List LinkInfo → Type 0
AddsLinks x writer marks old new =
    (signals : List Signal) → cluster_at signals x ≡ writer → AreLinksBefore signals marks x.0 0 old → AreLinksBefore signals marks x.0 (length marks) new

-- the links of all signals, and then a report link for each cluster
pub record AreLinksOfMarks (signals : List Signal) (clusters : ℕ) (marks : List (List Bool)) (links : List LinkInfo) : Type 0 where
  pub carrying : List LinkInfo
  pub are : AreLinksBefore signals marks (length signals) 0 carrying
  pub joined : links ≡ carrying ++ map (report_link clusters) (range_with_len 0 clusters)
