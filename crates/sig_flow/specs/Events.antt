-- Event files: a line is an event, or holds nothing but blanks.
use Rattle.std.specs.Prelude.{◌≡◌, ◌∷◌, if◌then◌else◌}
use Rattle.sig_flow.specs.Prelude.{ℕ, List, [], codes, bytes_eq, nat_lt, length, flat_map, Option, None, Some, option_to_list, EVENTS}
use Rattle.sig_flow.specs.Digits.{short_number}
use Rattle.sig_flow.specs.First.{Judge, AllGood, IsFirst}
use Rattle.sig_flow.specs.Lines.{Line, lines_of}
use Rattle.sig_flow.specs.Words.{Word, words_of}
use Rattle.sig_flow.specs.declared.answer.EventAnswer.{EventAnswer}
use Rattle.sig_flow.specs.declared.answer.EventAnswer.TheVariants.{BadEvent, TooMany}
use Rattle.sig_flow.specs.declared.event.FileEvent.{FileEvent}
use Rattle.sig_flow.specs.declared.event.FileEvent.TheVariants.{Act, Look}

-- the event of this name, with this number
abbrev pub event_named : List ℕ → ℕ → Option FileEvent
event_named name number =
    if bytes_eq name (codes "act") then Some (Act number)
    else if bytes_eq name (codes "look") then Some (Look number) else None

-- the event that the words of a line are: `act` or `look`, and 1 to 9 digits
abbrev pub event_of : List Word → Option FileEvent
event_of (name ∷ digits ∷ []) = elim (short_number digits.text) [ None ↦ None | Some number ↦ event_named name.text number ]
event_of _ = None

-- a line with words that are no event is bad, and so is an event behind as many as there may be
abbrev pub event_fault : ℕ → ℕ → List Word → Option EventAnswer
event_fault number before [] = None
event_fault number before (name ∷ words) =
    elim (event_of (name ∷ words)) [ None ↦ Some (BadEvent number) | Some event ↦ if nat_lt before EVENTS then None else Some (TooMany EVENTS) ]

-- how many events it is
abbrev pub event_count : List Word → ℕ
event_count words = length (option_to_list (event_of words))

abbrev pub event_judge : Judge Line EventAnswer
event_judge = record { fault = λ before line. event_fault line.number before (words_of line.text); size = λ line. event_count (words_of line.text) }

-- the events of these lines
abbrev pub events_among : List Line → List FileEvent
events_among lines = flat_map (λ line. option_to_list (event_of (words_of line.text))) lines

-- the bytes are an event file, with these events
pub record AreEvents (bytes : List ℕ) (events : List FileEvent) : Type 0 where
  pub good : AllGood event_judge 0 (lines_of bytes)
  pub each : events ≡ events_among (lines_of bytes)

-- the first offending line of the bytes, and why it offends
abbrev pub IsFirstBadEvent : List ℕ → EventAnswer → Type 0
IsFirstBadEvent bytes fault = IsFirst event_judge 0 (lines_of bytes) fault
