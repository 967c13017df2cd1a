-- What a list of events does to a core and a sink, and what a play does.
use Rattle.std.specs.Prelude.{◌≡◌, ◌++◌}
use Rattle.sig_play_command.specs.Prelude.{ℕ, List, fold, Option, Trace, Place, Shows, TookMore, given_of, output_text, Kernel, IsEnd, Core as ModelCore, Given, after, reactions_text, stepped, Event, Ended}
use Rattle.sig_interleaving.specs.declared.state.Core.{Core}
use Rattle.sig_play_command.specs.inner.StateLines.{state_text}

-- the state behind events
abbrev pub behind : Given → ModelCore → List Event → ModelCore
behind given m events = fold (stepped given) m events

-- The events happened, one after another: of each state in which the core was, it is in the one behind them, and a sink took
-- the text of the reactions that they committed.
abbrev pub AllHappened : {S : Type 0} → (S → List ℕ → S → Type 0) → List Event → Core → Core → S → S → Type 0
AllHappened took events old new before after_it = (m : ModelCore) → Shows m old
    → Shows (behind (given_of old) m events) new
    × TookMore took (given_of old).plan.kernel m (behind (given_of old) m events) before after_it

-- a sink took that text, whatever the core is then in
abbrev pub PartHappened : {S : Type 0} → (S → List ℕ → S → Type 0) → List Event → Core → S → S → Type 0
PartHappened took events old before after_it = (m : ModelCore) → Shows m old
    → TookMore took (given_of old).plan.kernel m (behind (given_of old) m events) before after_it

-- a sink took a text of the state of a core
abbrev pub TookOf : {S : Type 0} → (S → List ℕ → S → Type 0) → Core → (ModelCore → List ℕ) → S → S → Type 0
TookOf took c text before after_it = (m : ModelCore) → Shows m c → took before (text m) after_it

-- the text of a play that leaves this state, with what is missing there of the text of the longest trace
abbrev pub played_text : Kernel → ModelCore → List ℕ → List ℕ
played_text kernel left rest = reactions_text kernel left.committed ++ (state_text left ++ rest)

-- what is missing in a state of the text of a trace
abbrev pub IsRest : Kernel → ModelCore → Trace → List ℕ → Type 0
IsRest kernel left trace rest = reactions_text kernel left.committed ++ rest ≡ output_text kernel trace

-- A sink took the text of a play: what the events committed, the state that they left, and what was missing there of the text
-- of the longest trace.
abbrev pub TookPlay : {S : Type 0} → (S → List ℕ → S → Type 0) → Given → List Event → S → S → Type 0
TookPlay took given events before after_it = (trace : Trace) (place : Option Place) (ended : Ended)
    → IsEnd given.plan given.flows given.limit trace place ended
    → (rest : List ℕ) → IsRest given.plan.kernel (after given events) trace rest
    → took before (played_text given.plan.kernel (after given events) rest) after_it

-- the end of a play is that of the longest trace, with its named cause
abbrev pub IsEndIn : Given → Ended → Type 0
IsEndIn given answer = (trace : Trace) (place : Option Place) (ended : Ended)
    → IsEnd given.plan given.flows given.limit trace place ended → answer ≡ ended
