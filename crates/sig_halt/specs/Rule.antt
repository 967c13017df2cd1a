-- What a seat of the failure word knows, and the rule between the word and what all seats know.
use Rattle.std.specs.Prelude.{◌≡◌, ◌+◌, ◌-◌, ◌≤◌, ℕ, min, List, [], ◌∷◌}
use mathlib.Core.Option.{some}
use lib.ListN.{get_elem?}
use Rattle.atomic_table.specs.Table.{State}
use Rattle.sig_base.specs.Places.{no_place}
use Rattle.sig_halt.specs.declared.rule.Sight.{Sight}

-- what a seat knows: its parts, the least word that it recorded, and the least that it has seen
abbrev pub sight : ℕ → ℕ → ℕ → Sight
sight parts recorded seen = record { parts = parts; recorded = recorded; seen = seen }

-- the least word that some seat recorded, or none
abbrev pub least_recorded : List Sight → ℕ
least_recorded [] = no_place
least_recorded (v ∷ vs) = min v.recorded (least_recorded vs)

-- the parts of all seats
abbrev pub all_parts : List Sight → ℕ
all_parts [] = 0
all_parts (v ∷ vs) = v.parts + all_parts vs

-- every seat has seen no less than the word
abbrev pub IsAtMostSeen : ℕ → List Sight → Type 0
IsAtMostSeen word sights =
    (number : ℕ) (v : Sight) → get_elem? sights number ≡ some v → word ≤ v.seen

-- a seat without parts has recorded none
abbrev pub IdleHasNone : List Sight → Type 0
IdleHasNone sights =
    (number : ℕ) (v : Sight) → get_elem? sights number ≡ some v → v.parts ≡ 0 → v.recorded ≡ no_place

-- The word is the least that was recorded, and is at most each seat's least seen. The parts of all
-- seats add up to those that the word was made for, and a seat without parts has recorded none
abbrev pub IsLeast : ℕ → State (Unit {0}) Sight → Type 0
IsLeast parts s =
    (word : ℕ) × (s.words ≡ word ∷ []) × (word ≡ least_recorded s.views) × IsAtMostSeen word s.views
    × (all_parts s.views ≡ parts) × IdleHasNone s.views

-- after a load that found the word, it is the least seen
abbrev pub looked : Sight → ℕ → Sight
looked v found = sight v.parts v.recorded found

-- after a word was recorded where another was found, the lesser of both is the least seen
abbrev pub failed : Sight → ℕ → ℕ → Sight
failed v place found = sight v.parts (min v.recorded place) (min found place)

-- the seat that gives up a part, and the one that gets it
abbrev pub kept : Sight → Sight
kept v = sight (v.parts - 1) v.recorded v.seen

abbrev pub given : Sight → Sight
given v = sight 1 no_place v.seen

-- the seat that takes in another, and the other, which is spent
abbrev pub joined : Sight → Sight → Sight
joined v w = sight (v.parts + w.parts) (min v.recorded w.recorded) (min v.seen w.seen)

abbrev pub spent : Sight
spent = sight 0 no_place no_place

-- a word that is found is at most all that the seat had seen or recorded
abbrev pub IsBelow : ℕ → Sight → Type 0
IsBelow found v = (found ≤ v.seen) × (found ≤ v.recorded)
