-- The lines of refusals, each without its newline.
use Rattle.std.specs.Prelude.{◌++◌}
use Rattle.sig_back.specs.Prelude.{ℕ, List, [], codes, slice_index_or, Option, None, Some, decimal, flat_map, encode_utf8, refusal, refusal_at, LINKS, Span}
use Rattle.sig_back.specs.Faults.{FaultView}
use Rattle.sig_back.specs.declared.answer.BackAnswer.{BackAnswer}
use Rattle.sig_back.specs.declared.answer.BackAnswer.TheVariants.{Refused, Budget, OutOfMemory}
use Rattle.sig_back.specs.declared.fault.BackKind.{BackKind}
use Rattle.sig_back.specs.declared.fault.BackKind.TheVariants.{Dead, MissingRoot, Unsolved, Pinned, Cycle, TooManyLinks}

-- the text of a name as it is shown: a byte as the character of its number. ASCII is shown as it is.
abbrev pub shown : List ℕ → List ℕ
shown text = flat_map encode_utf8 text

abbrev pub shown_at : List (List ℕ) → ℕ → List ℕ
shown_at names place = shown (slice_index_or names place [])

-- what is said of a kernel and these signals
abbrev pub said : BackKind → List (List ℕ) → List ℕ
said Dead names = codes "no reaction is possible"
said MissingRoot names = codes "no root: " ++ (shown_at names 0 ++ (codes " and " ++ (shown_at names 1 ++ codes " are independent")))
said Unsolved names = codes "clock of " ++ (shown_at names 0 ++ codes " is not determined")
said Pinned names = codes "condition " ++ (shown_at names 0 ++ codes " is forced")
said Cycle names = codes "cycle through " ++ shown_at names 0
said TooManyLinks names = codes "more than " ++ (decimal LINKS ++ codes " links")

abbrev pub at_place : Option Span → List ℕ → List ℕ
at_place None text = refusal text
at_place (Some at) text = refusal_at at text

abbrev pub fault_line : FaultView → List ℕ
fault_line fault = at_place fault.at (said fault.kind fault.names)

abbrev pub back_line : BackAnswer → List ℕ
back_line (Refused fault) = fault_line fault
back_line (Budget nodes) = refusal (decimal nodes ++ codes " diagram nodes")
back_line OutOfMemory = refusal (codes "out of memory")
