-- Shares of one run, of which some are served on threads of their own.
use Rattle.std.specs.Prelude.{◌≡◌, ◌≢◌, ◌++◌}
use Rattle.sig_work.specs.Prelude.{ℕ, ℤ, List, [], length, slice_get, sum_by, Some, parts, Halt, Given, reactions_text, Reaction, PlanView}
use Rattle.sig_work.specs.inner.Among.{AreSingle, times}
use Rattle.sig_work.specs.Members.{run_of}
use Rattle.sig_work.specs.Shares.{AreServing, HasCollector, HaveDone, IsSameShare, IsServing, NoneFaulted}
use Rattle.sig_work.specs.declared.member.Ending.TheVariants.{Faulted}
use Rattle.sig_work.specs.declared.member.Member.{Member}
use Rattle.sig_work.specs.declared.share.Share.{Share}

-- a share is amid its service, and has no collector
pub record IsOfClusters (given : Given) (word : Halt) (share : Share) : Type 0 where
  pub serving : IsServing given word [] share
  pub none : HasCollector given share → ⊥

-- so it is in some run of a plan over flows
abbrev pub IsOfSomeClusters : PlanView → List (List ℤ) → Halt → Share → Type 0
IsOfSomeClusters plan flows word share = (capacity : ℕ) × (limit : ℕ) × IsOfClusters (run_of plan flows capacity limit) word share

-- no member of a share was ended by a fault of the sink
abbrev pub IsUnfaulted : Share → Type 0
IsUnfaulted share = (number : ℕ) (m : Member) → slice_get share.members.items number ≡ Some m → m.ending ≢ Some Faulted

-- A share of clusters as a service leaves it, whether it was served to its end or came back as it was.
pub record IsServedAs (plan : PlanView) (flows : List (List ℤ)) (word : Halt) (old new : Share) : Type 0 where
  pub same : IsSameShare old new
  pub unfaulted : IsUnfaulted old → IsUnfaulted new
  pub clusters : (capacity limit : ℕ) → IsOfClusters (run_of plan flows capacity limit) word old → IsOfClusters (run_of plan flows capacity limit) word new

-- Shares of one run, of which no number stands twice; those of others have no collector.
pub record AreBegun (given : Given) (word : Halt) (committed : List Reaction) (others mine : List Share) : Type 0 where
  pub serving : AreServing given word committed mine
  pub clusters : (at : ℕ) (share : Share) → slice_get others at ≡ Some share → IsOfClusters given word share
  pub single : AreSingle (others ++ mine)

abbrev pub AreBegunInSome : PlanView → List (List ℤ) → Halt → List Share → List Share → Type 0
AreBegunInSome plan flows word others mine =
    (capacity : ℕ) × (limit : ℕ) × (committed : List Reaction) × AreBegun (run_of plan flows capacity limit) word committed others mine

-- a share is one of a list
abbrev pub IsOneOf : List Share → Share → Type 0
IsOneOf shares share = (at : ℕ) × (slice_get shares at ≡ Some share)

-- Shares are the same as those of a list, in some order.
pub record AreKept (old new : List Share) : Type 0 where
  pub from : (after : Share) → IsOneOf new after → (before : Share) × IsOneOf old before × IsSameShare before after
  pub times_are : (k : ℕ) → times k new ≡ times k old
  pub parts_are : sum_by (λ share. parts share.seat) new ≡ sum_by (λ share. parts share.seat) old
  pub count : length new ≡ length old

-- a sink took the text of reactions that were committed behind others
pub record TookText {S : Type 0} (took : S → List ℕ → S → Type 0) (given : Given) (before after : S) (old new : List Reaction) : Type 0 where
  pub more : List Reaction
  pub joined : new ≡ old ++ more
  pub text : took before (reactions_text given.plan.kernel more) after

-- All shares were served, as far as their threads went, and the sink took the text of what the collector committed.
pub record WereRun {S : Type 0} (took : S → List ℕ → S → Type 0) (given : Given) (word : Halt) (old new : List Share) (before after : S) (committed : List Reaction) : Type 0 where
  pub behind : List Reaction
  pub serving : AreServing given word behind new
  pub unfaulted : NoneFaulted old → NoneFaulted new
  pub text : TookText took given before after committed behind

-- The sink failed: each actor is what its own steps leave, and the sink took as much.
pub record WereHalted {S : Type 0} (took : S → List ℕ → S → Type 0) (given : Given) (new : List Share) (before after : S) (committed : List Reaction) : Type 0 where
  pub behind : List Reaction
  pub done : (share : Share) → IsOneOf new share → HaveDone given behind share
  pub text : TookText took given before after committed behind
