-- All actors of a plan, their links and the failure word; events, and what a list of events leaves.
use Rattle.std.specs.Prelude.{◌≡◌, ◌≢◌, ◌/◌, ◌==◌, ◌&&◌, ◌||◌, ◌∷◌, ◌++◌, if◌then◌else◌}
use Rattle.sig_model.specs.Prelude.{ℕ, ℤ, Bool, true, false, nat_lt, List, [], length, replicate, fold, flat_map, All, slice_get, slice_index_or, slice_set, Option, None, Some, option_and_then, Place, outputs_of, seen_lines, Kernel, PlanView, Cause, Limit, Op}
use Rattle.sig_model.specs.Actors.{Actor, code_of, ended_at, next_place, opening_actor}
use Rattle.sig_model.specs.Operating.{Faults, Gives, Outcome, outcome}
use Rattle.sig_model.specs.Turns.{AtLimit, Commits, Fails, Goes, Puts, Reaction, Stopped, Takes, Turn, turn}
use Rattle.sig_model.specs.declared.event.Event.{Event}
use Rattle.sig_model.specs.declared.event.Event.TheVariants.{Act, Look}

-- what a run is given
pub record Given : Type 0 where
  pub plan : PlanView
  pub flows : List (List ℤ)
  -- how many items a link holds
  pub capacity : ℕ
  -- how many instants are run
  pub limit : ℕ

pub record Core : Type 0 where
  pub actors : List Actor
  -- the items that each link holds, the first one sent first
  pub links : List (List ℤ)
  -- the failure word: the least place that was recorded
  pub word : Option Place
  pub committed : List Reaction

-- the opening state
abbrev pub opening : PlanView → Core
opening plan = record {
  actors = replicate (length plan.codes) (opening_actor plan.kernel);
  links = replicate (length plan.links) [];
  word = None;
  committed = [];
}

-- one place is before another one: by instant, then by position
abbrev pub is_before : Place → Place → Bool
is_before a b = nat_lt a.instant b.instant || ((a.instant == b.instant) && nat_lt a.pos b.pos)

-- the failure word, once a place is recorded
abbrev pub lesser : Option Place → Place → Place
lesser None place = place
lesser (Some word) place = if is_before place word then place else word

-- the word is before a place
abbrev pub word_before : Option Place → Place → Bool
word_before None place = false
word_before (Some word) place = is_before word place

abbrev pub with_actor : ℕ → Actor → Core → Core
with_actor k actor core = record core { actors = slice_set core.actors k actor }

-- the items of a link
abbrev pub items_on : Core → ℕ → List ℤ
items_on core j = slice_index_or core.links j []

abbrev pub with_items : ℕ → List ℤ → Core → Core
with_items j items core = record core { links = slice_set core.links j items }

-- the actor k takes the first item of the link j, where there is one
abbrev pub take_first : ℕ → ℕ → (ℤ → Actor) → Core → List ℤ → Core
take_first k j next core [] = core
take_first k j next core (item ∷ items) = with_items j items (with_actor k (next item) core)

-- the state behind a turn of the actor k
abbrev pub turned : Given → ℕ → Actor → Turn → Core → Core
turned given k actor Stopped core = core
turned given k actor AtLimit core = with_actor k (ended_at actor) core
turned given k actor (Fails place) core = record (with_actor k (ended_at actor) core) { word = Some (lesser core.word place) }
turned given k actor (Goes next) core = with_actor k next core
turned given k actor (Commits reaction next) core = record (with_actor k next core) { committed = core.committed ++ reaction ∷ [] }
turned given k actor (Puts j item next) core =
    if nat_lt (length (items_on core j)) given.capacity then with_items j (items_on core j ++ item ∷ []) (with_actor k next core) else core
turned given k actor (Takes j next) core = take_first k j next core (items_on core j)

-- the actor k does its turn
abbrev pub acted : Given → ℕ → Core → Option Actor → Core
acted given k core None = core
acted given k core (Some actor) = turned given k actor (turn given.plan given.flows given.limit k actor) core

-- the actor k ends, where it runs and the word is before its next place
abbrev pub looked : PlanView → ℕ → Core → Option Actor → Core
looked plan k core None = core
looked plan k core (Some actor) =
    if actor.ended then core
    else if word_before core.word (next_place (code_of plan k) actor) then with_actor k (ended_at actor) core else core

-- The state behind an event. An event that cannot happen leaves it as it is.
abbrev pub stepped : Given → Core → Event → Core
stepped given core (Act k) = acted given k core (slice_get core.actors k)
stepped given core (Look k) = looked given.plan k core (slice_get core.actors k)

-- a step of the core
abbrev pub IsStep : Given → Core → Event → Core → Type 0
IsStep given before event after = after ≡ stepped given before event

-- The state behind an interleaving: a list of events, one after another, from the opening state.
abbrev pub after : Given → List Event → Core
after given events = fold (stepped given) (opening given.plan) events

-- the event changes the state
abbrev pub IsEnabled : Given → Core → Event → Type 0
IsEnabled given core event = stepped given core event ≢ core

-- every actor has ended
abbrev pub IsFinished : Core → Type 0
IsFinished core = All (λ actor. actor.ended ≡ true) core.actors

-- the text of reactions
abbrev pub reactions_text : Kernel → List Reaction → List ℕ
reactions_text kernel reactions = flat_map (λ reaction. seen_lines (outputs_of kernel) reaction) reactions

abbrev pub cause_in : Outcome → Cause
cause_in (Gives v) = Limit
cause_in (Faults cause) = cause

-- the operation at a position
abbrev pub op_at : PlanView → ℕ → Option Op
op_at plan position = option_and_then (λ number. slice_get plan.ops number.0) (slice_get plan.order (position / 2))

-- why the operation has no value at the actor that does it
abbrev pub cause_at : PlanView → List (List ℤ) → Op → Option Actor → Cause
cause_at plan flows op None = Limit
cause_at plan flows op (Some actor) = cause_in (outcome plan.kernel flows actor op)

abbrev pub cause_of_op : PlanView → List (List ℤ) → Core → Option Op → Cause
cause_of_op plan flows core None = Limit
cause_of_op plan flows core (Some op) = cause_at plan flows op (slice_get core.actors op.actor)

-- The cause that a word names: why the operation at its position had no value. Without a word it is the limit.
abbrev pub cause_of : PlanView → List (List ℤ) → Core → Option Place → Cause
cause_of plan flows core None = Limit
cause_of plan flows core (Some place) = cause_of_op plan flows core (op_at plan place.pos)
