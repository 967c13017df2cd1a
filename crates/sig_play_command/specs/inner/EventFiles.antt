-- The event file of a play, and the events that its lines stand for.
use Rattle.std.specs.Prelude.{◌≡◌, ◌≢◌, ◌++◌}
use Rattle.sig_play_command.specs.Prelude.{ℕ, List, codes, Option, refusal, Contents, Event, AreEvents, IsFirstBadEvent, event_text, EventAnswer, OutOfMemory, FileEvent, Act, Look, AtData, FindsData, Found, Outcome, IsAboutData, Refusal}
use Rattle.sig_model.specs.declared.event.Event.TheVariants as event

-- the event of the core that an event of a file stands for
abbrev pub happens : FileEvent → Event
happens (Act k) = event.Act k
happens (Look k) = event.Look k

-- the line, without its newline
abbrev pub bad_events : List ℕ → EventAnswer → List ℕ
bad_events name answer = refusal (name ++ (codes ":" ++ event_text answer))

-- such a line tells of a fault of the bytes, and not of memory that was wanting
abbrev pub IsEventLine : (name line : List ℕ) → Type 0
IsEventLine name line = (answer : EventAnswer) × (answer ≢ OutOfMemory) × (line ≡ bad_events name answer)

-- the bytes are refused as events, with this line
pub record RefusesEvents (name bytes line : List ℕ) : Type 0 where
  pub answer : EventAnswer
  pub none : IsFirstBadEvent bytes answer
  pub says : line ≡ bad_events name answer

abbrev pub FindsEvents : Option (List ℕ) → List ℕ → Found (List FileEvent) → Type 0
FindsEvents held name found = FindsData AreEvents (RefusesEvents name) held found

abbrev pub AtEvents : Contents → List ℕ → (List FileEvent → Outcome → Type 0) → Outcome → Type 0
AtEvents held name Next o = AtData AreEvents (RefusesEvents name) held name Next o

-- the refusals that there may be
abbrev pub IsAboutEvents : List ℕ → Refusal → Type 0
IsAboutEvents name r = IsAboutData name (IsEventLine name) r
