-- The events of a file, read line by line.
use Rattle.sig_flow.proofs.Common.{◌≡◌, ℕ, ◌+◌, List, [], ◌∷◌, ◌++◌, length, Option, None, Some, Result, Ok, Err, refl, sym, ap, ◌∙◌, arith, inl, inr, ⊎_elim, ◌⊎◌, append-nil, IfOk, IfErr, MatchResult, IsErrAnd, lines, EventAnswer, FileEvent, AreEvents, IsFirstBadEvent, event_fault, event_judge, events_among, first_fault, Line, lines_of, numbered, words_of}
use Rattle.sig_flow.specs.declared.answer.EventAnswer.TheVariants.{OutOfMemory}
use Rattle.sig_flow.proofs.FirstLemmas.{at_wrong, good_from_none, first_from_some, not_both, one_first}

-- what is wrong with the lines from here on
abbrev pub wrong_from : ℕ → ℕ → List ℕ → Option EventAnswer
wrong_from before number rest = first_fault event_judge before (numbered number (lines rest))

abbrev pub events_from : ℕ → List ℕ → List FileEvent
events_from number rest = events_among (numbered number (lines rest))

-- the line of this number
abbrev line_at : ℕ → List ℕ → Line
line_at number text = record { number = number; text = text }

module _ (bytes rest line after : List ℕ) (number : ℕ) (first : lines rest ≡ line ∷ lines after) where
  -- at a wrong line
  pub wrong_here : (before : ℕ) (fault : EventAnswer) → event_fault number before (words_of line) ≡ Some fault → wrong_from before number rest ≡ wrong_from 0 1 bytes → IsFirstBadEvent bytes fault
  wrong_here before fault wrong so_far =
      first_from_some event_judge 0 (lines_of bytes) fault
      (sym so_far
      ∙ ap (λ (ls : List (List ℕ)). first_fault event_judge before (numbered number ls)) first
      ∙ at_wrong event_judge before (line_at number line) (numbered (number + 1) (lines after)) fault wrong)

-- behind the last line
pub all_read : (bytes rest : List ℕ) (number : ℕ) (events : List FileEvent) → length rest ≡ 0 → wrong_from (length events) number rest ≡ wrong_from 0 1 bytes → events ++ events_from number rest ≡ events_from 1 bytes → AreEvents bytes events
all_read bytes [] number events none judged read = record {
  good = good_from_none event_judge 0 (lines_of bytes) (sym judged);
  each = sym (append-nil events) ∙ read;
}
all_read bytes (b ∷ rest) number events none judged read = absurd (omega arith)

-- what is given is the one list, or the one fault
module _ {V : Type 0} (items : V → List FileEvent) (bytes : List ℕ) where
  pub given : (result : Result V EventAnswer) → IfOk result (λ v. AreEvents bytes (items v)) → IfErr result (λ answer. (answer ≡ OutOfMemory) ⊎ IsFirstBadEvent bytes answer) → (events : List FileEvent) → AreEvents bytes events → MatchResult result (λ v. items v ≡ events) (λ answer. answer ≡ OutOfMemory)
  given (Ok v) is fault events are = is.each ∙ sym are.each
  given (Err answer) is fault events are = ⊎_elim (λ memory. memory) (λ first. absurd (not_both event_judge 0 (lines_of bytes) answer are.good first)) fault

  pub refused : (result : Result V EventAnswer) → IfOk result (λ v. AreEvents bytes (items v)) → IfErr result (λ answer. (answer ≡ OutOfMemory) ⊎ IsFirstBadEvent bytes answer) → (fault : EventAnswer) → IsFirstBadEvent bytes fault → IsErrAnd result (λ answer. (answer ≡ OutOfMemory) ⊎ (answer ≡ fault))
  refused (Ok v) is begins fault first = not_both event_judge 0 (lines_of bytes) fault is.good first
  refused (Err answer) is begins fault first = ⊎_elim (λ memory. inl memory) (λ also. inr (one_first event_judge 0 (lines_of bytes) answer fault also first)) begins

-- a file has events, or a first offending line
pub events_or_fault : (bytes : List ℕ) (o : Option EventAnswer) → first_fault event_judge 0 (lines_of bytes) ≡ o → ((events : List FileEvent) × AreEvents bytes events) ⊎ ((fault : EventAnswer) × IsFirstBadEvent bytes fault)
events_or_fault bytes None is = inl (events_among (lines_of bytes), record { good = good_from_none event_judge 0 (lines_of bytes) is; each = refl })
events_or_fault bytes (Some fault) is = inr (fault, first_from_some event_judge 0 (lines_of bytes) fault is)
