-- How operations are split: the clusters, what each actor imports, and the links in order.
use Rattle.std.specs.Prelude.{◌≡◌, ◌≢◌, ◌+◌, ◌<◌, ◌≤◌, ◌⊎◌, ◌↔◌, ◌++◌}
use Rattle.sig_plan.specs.Prelude.{ℕ, List, [], length, map, fold, max, slice_get, slice_index_or, None, Some, Contains, range_with_len, SigId, LINKS, Signal, Kernel}
use Rattle.sig_plan.specs.Operations.{Operation}
use Rattle.sig_plan.specs.Order.{Needs, Writes}
use Rattle.sig_plan.specs.declared.parts.LinkInfo.{LinkInfo}

pub record PartsView : Type 0 where
  pub clusters : ℕ
  pub links : List LinkInfo
  -- the imports of each actor
  pub imports : List (List SigId)

-- how many clusters there are: one more than the greatest cluster of a signal
abbrev pub cluster_count : List Signal → ℕ
cluster_count signals = fold max 1 (map (λ signal. signal.cluster + 1) signals)

-- an operation of the list
abbrev pub IsOperation : List Operation → Operation → Type 0
IsOperation operations p = (number : ℕ) × (slice_get operations number ≡ Some p)

-- another actor writes the signal
pub record IsWrittenElsewhere (operations : List Operation) (actor : ℕ) (x : SigId) : Type 0 where
  pub writer : Operation
  pub is : IsOperation operations writer
  pub writes : Writes writer x
  pub other : writer.cluster ≢ actor

-- the signal is an output
abbrev pub IsOutput : Kernel → SigId → Type 0
IsOutput kernel x = (kernel.inputs ≤ x.0) × (x.0 < kernel.inputs + kernel.outputs)

-- an operation of the cluster reads the signal, or its guard needs it
pub record IsUsed (conditions : List SigId) (operations : List Operation) (cluster : ℕ) (x : SigId) : Type 0 where
  pub user : Operation
  pub is : IsOperation operations user
  pub own : user.cluster ≡ cluster
  pub used : Contains user.reads x ⊎ Needs conditions user x

-- a condition that the guard of an operation needs which writes the signal
pub record IsNeededFor (conditions : List SigId) (operations : List Operation) (x condition : SigId) : Type 0 where
  pub writer : Operation
  pub is : IsOperation operations writer
  pub writes : Writes writer x
  pub needs : Needs conditions writer condition

-- What an actor imports: signals that other actors write; a cluster what its operations read and what their guards need;
-- the collector the outputs; and for each import the conditions that the guards of the operations need which write it.
pub data Imports (kernel : Kernel) (conditions : List SigId) (operations : List Operation) (actor : ℕ) : SigId → Type 0 where
  used : (x : SigId) → actor < cluster_count kernel.signals → IsUsed conditions operations actor x → IsWrittenElsewhere operations actor x
      → Imports kernel conditions operations actor x
  output : (x : SigId) → actor ≡ cluster_count kernel.signals → IsOutput kernel x → IsWrittenElsewhere operations actor x
      → Imports kernel conditions operations actor x
  guarded : (x condition : SigId) → Imports kernel conditions operations actor x → IsNeededFor conditions operations x condition
      → IsWrittenElsewhere operations actor condition → Imports kernel conditions operations actor condition

-- the numbers of the signals increase
abbrev pub AreIncreasing : List SigId → Type 0
AreIncreasing signals = (i j : ℕ) (x y : SigId) → i < j → slice_get signals i ≡ Some x → slice_get signals j ≡ Some y → x.0 < y.0

-- the imports of an actor, by number
pub record AreImports (kernel : Kernel) (conditions : List SigId) (operations : List Operation) (actor : ℕ) (imports : List SigId) : Type 0 where
  pub order : AreIncreasing imports
  pub all : (x : SigId) → Contains imports x ↔ Imports kernel conditions operations actor x

-- a link carries a signal that its reader imports, from the cluster that writes it
pub record Carries (signals : List Signal) (imports : List (List SigId)) (link : LinkInfo) (x : SigId) : Type 0 where
  pub signal : link.signal ≡ Some x
  pub writer : (owner : Signal) → slice_get signals x.0 ≡ Some owner → link.writer ≡ owner.cluster
  pub reader : link.reader < length imports
  pub imported : Contains (slice_index_or imports link.reader []) x

-- one link comes before another one: by signal, then by reader
pub record IsEarlierLink (a b : LinkInfo) : Type 0 where
  pub x : SigId
  pub y : SigId
  pub is : a.signal ≡ Some x
  pub other : b.signal ≡ Some y
  pub before : (x.0 < y.0) ⊎ ((x ≡ y) × (a.reader < b.reader))

-- the links of imported signals: one for each of them and each reader, in order
pub record AreSignalLinks (signals : List Signal) (imports : List (List SigId)) (links : List LinkInfo) : Type 0 where
  pub each : (number : ℕ) (link : LinkInfo) → slice_get links number ≡ Some link → (x : SigId) × Carries signals imports link x
  pub all : (reader : ℕ) (x : SigId) → reader < length imports → Contains (slice_index_or imports reader []) x
      → (link : LinkInfo) × Contains links link × (link.signal ≡ Some x) × (link.reader ≡ reader)
  pub order : (i j : ℕ) (a b : LinkInfo) → i < j → slice_get links i ≡ Some a → slice_get links j ≡ Some b → IsEarlierLink a b

-- the link on which a cluster reports to the collector
abbrev pub report_link : ℕ → ℕ → LinkInfo
report_link clusters cluster = record { signal = None; writer = cluster; reader = clusters }

-- the links: those of imported signals, and then one report link for each cluster
pub record AreLinks (signals : List Signal) (clusters : ℕ) (imports : List (List SigId)) (links : List LinkInfo) : Type 0 where
  pub carrying : List LinkInfo
  pub are : AreSignalLinks signals imports carrying
  pub joined : links ≡ carrying ++ map (report_link clusters) (range_with_len 0 clusters)

-- The parts of a kernel with these conditions and operations. The actors are the clusters and then the collector.
pub record AreParts (kernel : Kernel) (conditions : List SigId) (operations : List Operation) (parts : PartsView) : Type 0 where
  pub clusters : parts.clusters ≡ cluster_count kernel.signals
  pub actors : length parts.imports ≡ parts.clusters + 1
  pub imports : (actor : ℕ) → actor ≤ parts.clusters → AreImports kernel conditions operations actor (slice_index_or parts.imports actor [])
  pub links : AreLinks kernel.signals parts.clusters parts.imports parts.links

-- more links are needed than are kept
pub record NeedsTooManyLinks (kernel : Kernel) (conditions : List SigId) (operations : List Operation) : Type 0 where
  pub parts : PartsView
  pub are : AreParts kernel conditions operations parts
  pub many : LINKS < length parts.links
