-- What all shares of a run come to.
use Rattle.std.specs.Prelude.{◌≡◌, ◌<◌, ◌≤◌, ◌-◌, ◌++◌, ◌+◌, ◌*◌, ◌⊎◌}
use Rattle.sig_work.specs.Prelude.{ℕ, ℤ, List, [], length, min, slice_get, slice_index_or, Option, None, Some, sum_by, IsPrefixOf, Trace, Place, halt_parts, parts, Halt, output_text, AreFlowsFor, opening_actor, IsEnd, AllChange, Given, IsFinished, after, opening, reactions_text, reactions_of, Reaction, PlanView, Ended, LinkInfo, AreInOrder, IsLeastFailure, LeadBy, acts_then_looks, opening_own, times_among, actor_of}
use Rattle.sig_work.specs.inner.Among.{Is, IsAmong, times}
use Rattle.sig_work.specs.Ends.{sent_of, taken_of}
use Rattle.sig_work.specs.Members.{commits_of, failure_in, own_of, run_of}
use Rattle.sig_work.specs.inner.Settling.{IsLinked}
use Rattle.sig_work.specs.Shares.{AreServing, HaveDone, HaveEnded, NoneFaulted}
use Rattle.sig_work.specs.declared.member.Member.{Member}
use Rattle.sig_work.specs.declared.share.Share.{Share}

-- each link is one of which its writer and its reader have the ends
abbrev pub AreLinked : List LinkInfo → List Share → Type 0
AreLinked links shares = (link : ℕ) (info : LinkInfo) → slice_get links link ≡ Some info → IsLinked link info shares

-- Shares have all actors of a plan, each once, with both ends of each link, and all parts of the word.
pub record AreAll (given : Given) (word : Halt) (shares : List Share) : Type 0 where
  pub once : (k : ℕ) → k < length given.plan.codes → times k shares ≡ 1
  pub linked : AreLinked given.plan.links shares
  pub parts : sum_by (λ share. parts share.seat) shares ≡ halt_parts word

-- ---- the end of a run

-- The answer of a run is that of the longest trace with its named cause, and these reactions are those of this trace.
abbrev pub IsEndOfRun : Given → List Reaction → Ended → Type 0
IsEndOfRun given committed answer = (trace : Trace) (place : Option Place) (ended : Ended) → IsEnd given.plan given.flows given.limit trace place ended
    → (answer ≡ ended) × (committed ≡ reactions_of given.plan.kernel trace)

-- ---- what is dealt

-- an actor that has done nothing
pub record IsFresh (given : Given) (m : Member) : Type 0 where
  pub opening : actor_of m.state ≡ opening_actor given.plan.kernel
  pub running : m.ending ≡ None
  pub sent : (link : ℕ) → sent_of m.ends link ≡ []
  pub taken : (link : ℕ) → taken_of m.ends link ≡ []

-- how many shares have clusters alone: one for each worker that has a cluster
abbrev pub shares_of_workers : Given → ℕ → ℕ
shares_of_workers given workers = min (length given.plan.codes - 1) workers

-- the share of the cluster k among those of so many workers: that of the worker `k mod workers`, and the last one where there is none
abbrev pub IsShareOf : Given → ℕ → ℕ → ℕ → Type 0
IsShareOf given workers k at =
    ((workers ≡ 0) × (at ≡ 0)) ⊎ ((turns : ℕ) × (at < workers) × (k ≡ at + turns * workers))

-- The actors of a run were dealt to shares, in their opening states: one share for each worker that has a cluster, with these
-- clusters, and one more, the last, with the collector.
pub record AreDealt (given : Given) (workers : ℕ) (word : Halt) (shares : List Share) : Type 0 where
  pub serving : AreServing given word [] shares
  pub fresh : (k : ℕ) (m : Member) → IsAmong shares k m → IsFresh given m
  pub all : AreAll given word shares
  pub count : length shares ≡ shares_of_workers given workers + 1
  pub clusters : (k : ℕ) (m : Member) (among : IsAmong shares k m) → k < length given.plan.codes - 1 → IsShareOf given workers k among.at
  pub collector : (m : Member) (among : IsAmong shares (length given.plan.codes - 1) m) → among.at ≡ shares_of_workers given workers

-- ---- what was served

-- All shares of a run were served to their end.
pub record AreDone (given : Given) (committed : List Reaction) (word : Halt) (shares : List Share) : Type 0 where
  pub fits : AreFlowsFor given.plan.kernel given.flows
  pub room : 1 ≤ given.capacity
  pub all : AreAll given word shares
  pub serving : AreServing given word committed shares
  pub ended : HaveEnded shares
  pub unfaulted : NoneFaulted shares

-- Whatever ended the actors of all shares of a run, each is what its own steps leave.
pub record AreTogether (given : Given) (committed : List Reaction) (word : Halt) (shares : List Share) : Type 0 where
  pub fits : AreFlowsFor given.plan.kernel given.flows
  pub room : 1 ≤ given.capacity
  pub all : AreAll given word shares
  pub done : (at : ℕ) (share : Share) → slice_get shares at ≡ Some share → HaveDone given committed share

-- so is that of some run of a plan over flows
abbrev pub AreTogetherOfSome : PlanView → List (List ℤ) → Halt → List Share → Type 0
AreTogetherOfSome plan flows word shares = (capacity : ℕ) × (limit : ℕ) × (committed : List Reaction) × AreTogether (run_of plan flows capacity limit) committed word shares

-- reactions begin those of the longest trace, and so does their text
abbrev pub BeginsTheRun : Given → List Reaction → Type 0
BeginsTheRun given committed = (trace : Trace) (place : Option Place) (ended : Ended) → IsEnd given.plan given.flows given.limit trace place ended
    → IsPrefixOf (reactions_text given.plan.kernel committed) (output_text given.plan.kernel trace)

-- so are those of some run of a plan over flows
abbrev pub AreOfSomeWhole : PlanView → List (List ℤ) → Halt → List Share → Type 0
AreOfSomeWhole plan flows word shares = (capacity : ℕ) × (limit : ℕ) × (committed : List Reaction) × AreDone (run_of plan flows capacity limit) committed word shares

-- What shares hold is a finished state that a list of events reaches. The list has the own steps of the actors, each of them
-- once and in the order of their places, and then looks; each of its events changes the state. The actors of the state are those
-- of the shares, its links hold what was sent and not taken, its word is the least place at which an actor failed, and the
-- reactions are those that the collector committed.
pub record HoldFinished (given : Given) (committed : List Reaction) (shares : List Share) : Type 0 where
  pub numbers : List ℕ
  pub lookers : List ℕ
  pub order : AreInOrder given numbers
  pub once : (k : ℕ) → k < length given.plan.codes
      → Is shares k (λ m. LeadBy given k (times_among k numbers) (opening_own given.plan.kernel) (own_of m (commits_of given committed m)))
  pub change : AllChange given (opening given.plan) (acts_then_looks numbers lookers)
  pub finished : IsFinished (after given (acts_then_looks numbers lookers))
  pub actors : (k : ℕ) → k < length given.plan.codes → Is shares k (λ m. slice_get (after given (acts_then_looks numbers lookers)).actors k ≡ Some (actor_of m.state))
  pub links : (link : ℕ) (info : LinkInfo) → slice_get given.plan.links link ≡ Some info
      → Is shares info.writer (λ writer. Is shares info.reader (λ reader.
      sent_of writer.ends link ≡ taken_of reader.ends link ++ slice_index_or (after given (acts_then_looks numbers lookers)).links link []))
  pub word : (failures : ℕ → Option Place) → ((k : ℕ) → k < length given.plan.codes → Is shares k (λ m. failures k ≡ failure_in m.ending))
      → IsLeastFailure (length given.plan.codes) failures (after given (acts_then_looks numbers lookers)).word
  pub commits : (after given (acts_then_looks numbers lookers)).committed ≡ committed
