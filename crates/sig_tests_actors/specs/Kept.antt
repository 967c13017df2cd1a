-- Items that were sent, each with the number of its link.
use Rattle.std.specs.Prelude.{◌==◌, ◌++◌, ◌∷◌, [], ℕ, ℤ, List, if◌then◌else◌}
use Rattle.sig_step.specs.LinkEnds.{Past}

abbrev pub item_on : ℕ → ℕ × ℤ → List ℤ
item_on link item = if item.0 == link then item.1 ∷ [] else []

abbrev pub sent_on : ℕ → List (ℕ × ℤ) → List ℤ
sent_on link [] = []
sent_on link (item ∷ items) = item_on link item ++ sent_on link items

-- what was sent on each link, where nothing was taken
abbrev pub past_of : List (ℕ × ℤ) → Past
past_of items link = record { sent = sent_on link items; taken = [] }
