-- What the whole walk of `clap` comes to, and what our steps come to.
use Rattle.sig_words.proofs.Common.{◌≡◌, ◌≢◌, ◌⊎◌, inl, inr, Bool, true, false, ◌||◌, List, [], ◌∷◌, refl, sym, ◌∙◌, Option, Some, None, subst, fold, option_and_then, AllByRecursion, IsUtf8, settle_fault, turn_fault, walk_fault, Kinds, or_else, Row, Text, Waiting, Walk, settled, walked, Word, Said}
use Rattle.sig_words.proofs.Steps as step
use Rattle.sig_words.proofs.Steps.{Next, State, run}
use Rattle.sig_words.proofs.Built.{at, pending_fault, rules, top}
use Rattle.sig_words.proofs.Follows.{Follows, Lost, Stands, faulty_flag, faulty_option, follows, or_left, or_more, or_none, pending_none}
use Rattle.sig_words.proofs.Holds.{Holds}
use Rattle.sig_words.proofs.Turns.{behind_fault, closing_walk, is_free, plain_fault, strange_fault}
use Rattle.sig_words.proofs.WordKinds.{WordKind, word_kind}
use Rattle.sig_words.proofs.WordKinds as kind

-- ---- what is lost stays lost

open_lost : (waiting : Waiting) (pending : Option (Text × List Text)) (rows : List Row) (word : Word) → is_free waiting ≡ true
    → pending_fault pending rows ≢ [] → WordKind word
    → (turn_fault top [] (at false waiting pending rows) word ≢ []) ⊎ Lost (walked rules [] (at false waiting pending rows) word)
open_lost waiting pending rows word free faulty (kind.closing is) =
    rw is (inr record {
      trailing = true;
      waiting = waiting;
      free = refl;
      pending = pending;
      rows = rows;
      is = closing_walk waiting pending rows;
      faulty = faulty;
    })
open_lost waiting pending rows word free faulty (kind.plain_word plain unlike long short) =
    inl (λ none. faulty (sym (plain_fault waiting pending rows word free unlike long short) ∙ none))
open_lost waiting pending rows word free faulty (kind.option name value is) = inl (rw is (faulty_option waiting pending rows faulty name value))
open_lost waiting pending rows word free faulty (kind.flag value is) = inl (rw is (faulty_flag waiting pending rows faulty value))
open_lost waiting pending rows word free faulty (kind.strange unlike not_plain not_flag no_option fault) =
    inl (strange_fault waiting pending rows word (fault pending rows))

lost_at : (trailing : Bool) (waiting : Waiting) (pending : Option (Text × List Text)) (rows : List Row) (word : Word)
    → (trailing || is_free waiting) ≡ true → pending_fault pending rows ≢ [] → IsUtf8 word
    → (turn_fault top [] (at trailing waiting pending rows) word ≢ []) ⊎ Lost (walked rules [] (at trailing waiting pending rows) word)
lost_at false waiting pending rows word free faulty text = open_lost waiting pending rows word free faulty (word_kind word text)
lost_at true waiting pending rows word free faulty text = inl (λ none. faulty (sym (behind_fault waiting pending rows word) ∙ none))

lost_turn : (w : Walk) (word : Word) → Lost w → IsUtf8 word → (turn_fault top [] w word ≢ []) ⊎ Lost (walked rules [] w word)
lost_turn w word lost text =
    subst (λ (v : Walk). (turn_fault top [] v word ≢ []) ⊎ Lost (walked rules [] v word)) (sym lost.is)
    (lost_at lost.trailing lost.waiting lost.pending lost.rows word lost.free lost.faulty text)

-- ---- the whole walk

abbrev pub walk_end : Walk → List Word → Walk
walk_end w words = fold (walked rules []) w words

-- what comes of the words, and of what is pending behind them
abbrev pub fault_from : Walk → List Word → Kinds
fault_from w words = or_else (walk_fault top [] w words) (settle_fault rules false (walk_end w words).held)

-- what comes of one more word in front
abbrev first_fault : Walk → Word → Kinds
first_fault w word = turn_fault top [] w word

abbrev rest_fault : Walk → Word → List Word → Kinds
rest_fault w word words = walk_fault top [] (walked rules [] w word) words

abbrev end_fault : Walk → List Word → Kinds
end_fault w words = settle_fault rules false (walk_end w words).held

first_more : (w : Walk) (word : Word) (words : List Word) → first_fault w word ≢ [] → fault_from w (word ∷ words) ≢ []
unfolding walk_fault
first_more w word words faulty =
    or_left (or_else (first_fault w word) (rest_fault w word words)) (end_fault (walked rules [] w word) words)
    (or_left (first_fault w word) (rest_fault w word words) faulty)

rest_more : (w : Walk) (word : Word) (words : List Word) → fault_from (walked rules [] w word) words ≢ [] → fault_from w (word ∷ words) ≢ []
unfolding walk_fault
rest_more w word words faulty =
    or_more (first_fault w word) (rest_fault w word words) (end_fault (walked rules [] w word) words) faulty

lost_ends : (words : List Word) (w : Walk) → AllByRecursion IsUtf8 words → Lost w → fault_from w words ≢ []
unfolding walk_fault
lost_ends [] w texts lost = subst (λ (v : Walk). settle_fault rules false v.held ≢ []) (sym lost.is) lost.faulty
lost_ends (word ∷ words) w texts lost = at_turn (lost_turn w word lost texts.0) (lost_ends words (walked rules [] w word) texts.1)
  where
    at_turn : (turn_fault top [] w word ≢ []) ⊎ Lost (walked rules [] w word) → (Lost (walked rules [] w word) → fault_from (walked rules [] w word) words ≢ [])
        → fault_from w (word ∷ words) ≢ []
    at_turn (inl faulty) go = first_more w word words faulty
    at_turn (inr lost) go = rest_more w word words (go lost)

-- the walk passes, and leaves rows that hold what was said
pub record Passes (w : Walk) (words : List Word) (s : Said) : Type 0 where
  pub walk : walk_fault top [] w words ≡ []
  pub settle : settle_fault rules false (walk_end w words).held ≡ []
  pub stopped : (walk_end w words).stopped ≡ None
  pub holds : Holds (settled rules (walk_end w words).held).rows s

abbrev pub Ends : Walk → List Word → Option Said → Type 0
Ends w words None = fault_from w words ≢ []
Ends w words (Some s) = Passes w words s

-- one more word in front
ends_more : (w : Walk) (word : Word) (words : List Word) (o : Option Said) → turn_fault top [] w word ≡ []
    → Ends (walked rules [] w word) words o → Ends w (word ∷ words) o
unfolding walk_fault
ends_more w word words None turn ends = rest_more w word words ends
ends_more w word words (Some s) turn ends = record {
  walk = or_none (first_fault w word) (rest_fault w word words) turn ends.walk;
  settle = ends.settle;
  stopped = ends.stopped;
  holds = ends.holds;
}

no_word : (next : Next) (s : Said) (w : Walk) → Stands next s w → Ends w [] (step.ended next s)
unfolding walk_fault
no_word (step.Value name) s w stands = subst (λ (v : Walk). Ends v [] None) (sym stands.is) (pending_none name stands.rows)
no_word _ s w stands = subst (λ (v : Walk). Passes v [] s) (sym stands.is) record {
  walk = refl;
  settle = stands.faultless;
  stopped = refl;
  holds = stands.holds;
}

-- the walk ends as our steps do
pub ends : (words : List Word) (next : Next) (s : Said) (w : Walk) → AllByRecursion IsUtf8 words → Stands next s w → Ends w words (run next words s)
unfolding run walk_fault
ends [] next s w texts stands = no_word next s w stands
ends (word ∷ words) next s w texts stands =
    at_step (step.step next word s) (follows next s w word stands texts.0) (λ n t. ends words n t (walked rules [] w word) texts.1)
  where
    at_step : (o : Option State) → Follows w word o
        → ((n : Next) → (t : Said) → Stands n t (walked rules [] w word) → Ends (walked rules [] w word) words (run n words t))
        → Ends w (word ∷ words) (option_and_then (λ p. run p.0 words p.1) o)
    at_step None (inl faulty) go = first_more w word words faulty
    at_step None (inr lost) go = rest_more w word words (lost_ends words (walked rules [] w word) texts.1 lost)
    at_step (Some p) follow go = ends_more w word words (run p.0 words p.1) follow.0 (go p.0 p.1 follow.1)
