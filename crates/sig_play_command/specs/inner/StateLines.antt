-- The text of a state: a line for each actor and each link, and one for the failure word.
use Rattle.std.specs.Prelude.{◌+◌, ◌++◌, ◌∷◌}
use Rattle.sig_play_command.specs.Prelude.{decimal, ℕ, ℤ, Bool, true, false, List, [], codes, flat_map, length, Option, None, Some, Place, Actor, Core}

-- whether an actor has ended
abbrev pub end_word : Bool → List ℕ
end_word true = codes " ended\n"
end_word false = codes " running\n"

-- the pieces of the line of the actor k, at a step of an instant
abbrev pub actor_pieces : (k instant step : ℕ) → Bool → List (List ℕ)
actor_pieces k instant step ended =
    codes "actor " ∷ decimal k ∷ codes " " ∷ decimal instant ∷ codes " " ∷ decimal step ∷ end_word ended ∷ []

-- and of the link j, which holds so many items
abbrev pub link_pieces : (j count : ℕ) → List (List ℕ)
link_pieces j count = codes "link " ∷ decimal j ∷ codes " " ∷ decimal count ∷ codes "\n" ∷ []

-- and of a failure word that is a place
abbrev pub place_pieces : Place → List (List ℕ)
place_pieces place = codes "word " ∷ decimal place.instant ∷ codes " " ∷ decimal place.pos ∷ codes "\n" ∷ []

-- those lines
abbrev pub actor_line : ℕ → Actor → List ℕ
actor_line k actor = flat_map (λ piece. piece) (actor_pieces k actor.instant actor.step actor.ended)

abbrev pub link_line : ℕ → List ℤ → List ℕ
link_line j items = flat_map (λ piece. piece) (link_pieces j (length items))

abbrev pub word_line : Option Place → List ℕ
word_line None = codes "word none\n"
word_line (Some place) = flat_map (λ piece. piece) (place_pieces place)

-- a line for each thing of a list, the first of which has this number
abbrev pub lines_from : {A : Type 0} → (ℕ → A → List ℕ) → ℕ → List A → List ℕ
lines_from line number [] = []
lines_from line number (x ∷ xs) = line number x ++ lines_from line (number + 1) xs

-- The text of a state, between the line that says that the events are done and the one behind which the run is finished.
abbrev pub state_text : Core → List ℕ
state_text core =
    codes "events done\n"
    ++ (lines_from actor_line 0 core.actors ++ (lines_from link_line 0 core.links ++ (word_line core.word ++ codes "finish\n")))
