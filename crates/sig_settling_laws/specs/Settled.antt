-- What actors that did their own steps by themselves have in common in the end.
use Rattle.std.specs.Prelude.{◌≡◌, ◌<◌, ◌≤◌, ◌⊎◌, ◌-◌, ◌==◌, ◌++◌, ◌∷◌}
use Rattle.sig_settling_laws.specs.Prelude.{ℕ, ℤ, Bool, true, false, List, [], length, map, count_by, slice_get, slice_index_or, Option, None, Some, Place, Actor, code_of, ended_at, next_place, Core, Given, IsFinished, after, opening, is_before, word_before, Event, Act, Look, AllChange, CodeView, Step, StepKind, Send, Receive, Report, Collect, LinkInfo}
use Rattle.sig_settling_laws.specs.OwnSteps.{IsOwn, LeadBy, Own, opening_own}

-- a word is the least place at which one of so many actors failed, or none
abbrev pub IsLeastFailure : ℕ → (ℕ → Option Place) → Option Place → Type 0
IsLeastFailure count failed None = (k : ℕ) → k < count → failed k ≡ None
IsLeastFailure count failed (Some word) =
    ((k : ℕ) × (k < count) × (failed k ≡ Some word)) × ((k : ℕ) (place : Place) → k < count → failed k ≡ Some place → is_before place word ≡ false)

-- All actors of a plan, each by its own steps; what was taken from a link, followed by what it holds, is what was sent on it,
-- and no link holds more than its capacity.
pub record AreBalanced (given : Given) (own : ℕ → Own) (links : List (List ℤ)) : Type 0 where
  pub each : (k : ℕ) → k < length given.plan.codes → IsOwn given k (own k)
  pub count : length links ≡ length given.plan.links
  pub balance : (j : ℕ) (link : LinkInfo) → slice_get given.plan.links j ≡ Some link
      → (own link.writer).sent j ≡ (own link.reader).taken j ++ slice_index_or links j []
  pub room : (j : ℕ) → j < length links → length (slice_index_or links j []) ≤ given.capacity

-- the number of the collector, which has the last code
abbrev pub collector_of : Given → ℕ
collector_of given = length given.plan.codes - 1

-- steps of actors alone, by the numbers of the actors
abbrev pub acts : List ℕ → List Event
acts numbers = map (λ k. Act k) numbers

-- looks of actors alone, by the numbers of the actors
abbrev pub looks : List ℕ → List Event
looks numbers = map (λ k. Look k) numbers

-- steps of actors, and then looks
abbrev pub acts_then_looks : List ℕ → List ℕ → List Event
acts_then_looks numbers lookers = acts numbers ++ looks lookers

-- how often a number stands among numbers
abbrev pub times_among : ℕ → List ℕ → ℕ
times_among k numbers = count_by (λ m. m == k) numbers

-- a step that puts an item on a link
abbrev pub puts_item : StepKind → Bool
puts_item (Send l) = true
puts_item (Report l) = true
puts_item _ = false

-- a step that takes an item from a link
abbrev pub takes_item : StepKind → Bool
takes_item (Receive l) = true
takes_item (Collect l) = true
takes_item _ = false

-- there is a step, and it is such a one
abbrev pub is_such : (StepKind → Bool) → Option Step → Bool
is_such such None = false
is_such such (Some step) = such step.kind

-- the next step of an actor is such a one
abbrev pub is_next : (StepKind → Bool) → CodeView → Actor → Bool
is_next such code actor = is_such such (slice_get code.steps actor.step)

-- The next step of one actor is no later than that of another one: its place is not after, and at one place it does not take
-- where the other one puts.
pub record IsNoLater (code : CodeView) (actor : Actor) (other_code : CodeView) (other : Actor) : Type 0 where
  pub place : is_before (next_place other_code other) (next_place code actor) ≡ false
  pub puts_first : next_place other_code other ≡ next_place code actor → is_next takes_item code actor ≡ true → is_next puts_item other_code other ≡ false

-- Steps of actors are in order: of any two of them the first one is no later. Each is the next step of its actor in the state
-- behind those before it.
abbrev pub AreInOrder : Given → List ℕ → Type 0
AreInOrder given numbers = (before : List ℕ) (k : ℕ) (between : List ℕ) (m : ℕ) (later : List ℕ) → numbers ≡ before ++ k ∷ between ++ m ∷ later
    → (actor other : Actor) → slice_get (after given (acts before)).actors k ≡ Some actor → slice_get (after given (acts (before ++ k ∷ between))).actors m ≡ Some other
    → IsNoLater (code_of given.plan k) actor (code_of given.plan m) other

-- A state has what these actors have, whether they ended or not.
pub record HasActed (given : Given) (own : ℕ → Own) (links : List (List ℤ)) (core : Core) : Type 0 where
  pub actors : (k : ℕ) → k < length given.plan.codes → slice_get core.actors k ≡ Some (own k).actor
  pub items : core.links ≡ links
  pub word : IsLeastFailure (length given.plan.codes) (λ k. (own k).failed) core.word
  pub committed : core.committed ≡ (own (collector_of given)).committed

-- An actor has ended by itself, or by a look at the word, which is before its next place.
abbrev pub HasEndedBy : Option Place → CodeView → Own → Actor → Type 0
HasEndedBy word code own actor =
    ((own.actor.ended ≡ true) × (actor ≡ own.actor))
    ⊎ ((own.actor.ended ≡ false) × (word_before word (next_place code own.actor) ≡ true) × (actor ≡ ended_at own.actor))

-- And all actors have ended.
pub record AreSettled (given : Given) (own : ℕ → Own) (links : List (List ℤ)) (word : Option Place) (actors : List Actor) : Type 0 where
  pub balanced : AreBalanced given own links
  pub least : IsLeastFailure (length given.plan.codes) (λ k. (own k).failed) word
  pub count : length actors ≡ length given.plan.codes
  pub each : (k : ℕ) (actor : Actor) → slice_get actors k ≡ Some actor → HasEndedBy word (code_of given.plan k) (own k) actor

-- ---- one list of events

-- Steps of actors that come to what each of them did. They are in the order of their places, each own step of an actor is
-- among them once, and each changes the state.
pub record ActInOrder (given : Given) (own : ℕ → Own) (links : List (List ℤ)) (numbers : List ℕ) : Type 0 where
  pub order : AreInOrder given numbers
  pub once : (k : ℕ) → k < length given.plan.codes → LeadBy given k (times_among k numbers) (opening_own given.plan.kernel) (own k)
  pub change : AllChange given (opening given.plan) (acts numbers)
  pub come : HasActed given own links (after given (acts numbers))

-- Looks of actors behind such steps. Each of the steps and of the looks changes the state; behind them all actors have ended,
-- and the state is exactly this.
pub record LookBehind (given : Given) (own : ℕ → Own) (links : List (List ℤ)) (word : Option Place) (actors : List Actor) (numbers lookers : List ℕ) : Type 0 where
  pub change : AllChange given (opening given.plan) (acts_then_looks numbers lookers)
  pub leave : after given (acts_then_looks numbers lookers) ≡ record { actors = actors; links = links; word = word; committed = (own (collector_of given)).committed }
  pub finished : IsFinished (after given (acts_then_looks numbers lookers))
