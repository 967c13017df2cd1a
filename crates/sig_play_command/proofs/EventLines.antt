-- The line of an event file that is refused tells of a fault of its bytes, and not of memory that was wanting.
use Rattle.sig_play_command.proofs.Common.{◌≢◌, ◌∙◌, ℕ, Bool, true, false, List, [], ◌∷◌, Option, None, Some, ap, subst, ⊤, nat_lt, if◌then◌else◌, EVENTS, IsFirstBadEvent, event_fault, event_of, Word, words_of, EventAnswer, BadEvent, TooMany, FileEvent, IsEventLine, RefusesEvents}
use Rattle.sig_flow.specs.declared.answer.EventAnswer.TheVariants.{OutOfMemory}

-- a fault, if there is one, is none of memory
abbrev Tells : Option EventAnswer → Type 0
Tells None = ⊤
Tells (Some (BadEvent n)) = ⊤
Tells (Some (TooMany n)) = ⊤
Tells (Some OutOfMemory) = ⊥

few_or_many : (few : Bool) → Tells (if few then None else Some (TooMany EVENTS))
few_or_many true = tt
few_or_many false = tt

-- the words of a line are no event, or one behind so many
words_tell : (number before : ℕ) (o : Option FileEvent) → Tells (elim o [ None ↦ Some (BadEvent number) | Some event ↦ if nat_lt before EVENTS then None else Some (TooMany EVENTS) ])
words_tell number before None = tt
words_tell number before (Some event) = few_or_many (nat_lt before EVENTS)

line_tells : (number before : ℕ) (words : List Word) → Tells (event_fault number before words)
line_tells number before [] = tt
line_tells number before (name ∷ words) = words_tell number before (event_of (name ∷ words))

event_told : (bytes : List ℕ) (fault : EventAnswer) → IsFirstBadEvent bytes fault → fault ≢ OutOfMemory
event_told bytes fault first memory = subst Tells (first.wrong ∙ ap Some memory) (line_tells first.here.number _ (words_of first.here.text))

pub event_line : (name bytes line : List ℕ) → RefusesEvents name bytes line → IsEventLine name line
event_line name bytes line refuses = (refuses.answer, event_told bytes refuses.answer refuses.none, refuses.says)
