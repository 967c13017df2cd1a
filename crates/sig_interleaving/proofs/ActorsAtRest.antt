-- An actor for which no event changes anything rests as long as its own state, its link and the word stay.
use Rattle.sig_interleaving.proofs.Common.{◌≡◌, ◌<◌, ◌++◌, ◌∙◌, ℕ, ℤ, Bool, true, false, cond, List, [], ◌∷◌, length, set, refl, sym, ap, arith, None, Option, Some, nat_lt, slice_get, Place, left_at, link_at, link_of, Actor, code_of, ended_at, guard_holds, moved_on, next_place, ModelCore, Given, acted, items_on, looked, stepped, take_first, turned, with_actor, with_items, word_before, Faults, Gives, Outcome, outcome, AtLimit, Commits, Fails, Goes, Puts, Stopped, Takes, Turn, turn, turn_at, turn_by, turn_of_op, turn_with, Act, Look, IsAccepted, PlanView, Step, StepKind, Do, Commit, Op, same_Some, set_here}
use Rattle.sig_interleaving.proofs.WhatIsLeft.{Falls, end_falls}
use Rattle.sig_interleaving.proofs.ActorTurns.{IsTurnOf, turn_is}

-- the turn asks no link but the one that is named
abbrev pub UsesLink : Option ℕ → Turn → Type 0
UsesLink named (Puts j item next) = named ≡ Some j
UsesLink named (Takes j next) = named ≡ Some j
UsesLink named other = Unit {0}

module _ (given : Given) (k : ℕ) (a : Actor) where
  abbrev plan : PlanView
  plan = given.plan

  abbrev named : Option ℕ
  named = link_at (slice_get (code_of plan k).steps a.step)

  some_op : (link : Option ℕ) (found : Option Op) → UsesLink link (turn_of_op plan given.flows (code_of plan k) a found)
  some_op link None = tt
  some_op link (Some op) = by (outcome plan.kernel given.flows a op) where
    by : (r : Outcome) → UsesLink link (turn_with plan (code_of plan k) a op r)
    by (Gives v) = tt
    by (Faults cause) = tt

  kind_uses : (kind : StepKind) → UsesLink (link_of kind) (turn_by plan given.flows (code_of plan k) a kind)
  kind_uses (Do o) = some_op None (slice_get plan.ops o.0)
  kind_uses Commit = tt
  kind_uses other = refl

  step_uses : (step : Option Step) → UsesLink (link_at step) (turn_at plan given.flows (code_of plan k) a step)
  step_uses None = tt
  step_uses (Some step) = by (guard_holds plan (code_of plan k) a.registers step) where
    by : (b : Bool) → UsesLink (link_of step.kind) (cond b (turn_by plan given.flows (code_of plan k) a step.kind) (Goes (moved_on (length (code_of plan k).steps) a)))
    by true = kind_uses step.kind
    by false = tt

  pub turn_uses : UsesLink named (turn plan given.flows given.limit k a)
  turn_uses = by a.ended where
    going : (b : Bool) → UsesLink named (cond b AtLimit (turn_at plan given.flows (code_of plan k) a (slice_get (code_of plan k).steps a.step)))
    going true = tt
    going false = step_uses (slice_get (code_of plan k).steps a.step)

    by : (b : Bool) → UsesLink named (cond b Stopped (cond (nat_lt given.limit a.instant) AtLimit (turn_at plan given.flows (code_of plan k) a (slice_get (code_of plan k).steps a.step))))
    by true = tt
    by false = going (nat_lt given.limit a.instant)

-- an actor rests in one state as in another one
module _ (given : Given) (accepted : IsAccepted given.plan) (i : ℕ) (a : Actor) (inside : a.step < length (code_of given.plan i).steps) (m n : ModelCore)
    (at_m : slice_get m.actors i ≡ Some a) (at_n : slice_get n.actors i ≡ Some a) (word : n.word ≡ m.word)
    (links : (j : ℕ) → link_at (slice_get (code_of given.plan i).steps a.step) ≡ Some j → items_on n j ≡ items_on m j) where
  abbrev count : ℕ
  count = length (code_of given.plan i).steps

  -- a change of the actor is one of the state
  moves : (next : Actor) (z : ModelCore) → z.actors ≡ set m.actors i next → Falls given.limit count a next → z ≡ m → ⊥
  moves next z is less same =
      let at : Some next ≡ Some a = sym (set_here m.actors i next a at_m) ∙ ap (λ xs. slice_get xs i) (sym is ∙ ap (λ (c : ModelCore). c.actors) same) ∙ at_m in
      let e : left_at given.limit count next ≡ left_at given.limit count a = ap (left_at given.limit count) (same_Some next a at) in
      omega (arith, less, e)

  turn_rests : (t : Turn) → IsTurnOf given accepted i a inside t → UsesLink (link_at (slice_get (code_of given.plan i).steps a.step)) t
      → turned given i a t m ≡ m → turned given i a t n ≡ n
  turn_rests Stopped of uses same = refl
  turn_rests AtLimit of uses same = absurd (moves (ended_at a) (turned given i a AtLimit m) refl of same)
  turn_rests (Fails place) of uses same = absurd (moves (ended_at a) (turned given i a (Fails place) m) refl of.0 same)
  turn_rests (Goes next) of uses same = absurd (moves next (turned given i a (Goes next) m) refl of same)
  turn_rests (Commits reaction next) of uses same = absurd (moves next (turned given i a (Commits reaction next) m) refl of same)
  turn_rests (Puts j item next) of uses same = by (nat_lt (length (items_on m j)) given.capacity) refl same where
    by : (b : Bool) → nat_lt (length (items_on m j)) given.capacity ≡ b → cond b (with_items j (items_on m j ++ item ∷ []) (with_actor i next m)) m ≡ m
        → cond (nat_lt (length (items_on n j)) given.capacity) (with_items j (items_on n j ++ item ∷ []) (with_actor i next n)) n ≡ n
    by true test moved = absurd (moves next (with_items j (items_on m j ++ item ∷ []) (with_actor i next m)) refl of.0 moved)
    by false test moved = ap (λ b. cond b (with_items j (items_on n j ++ item ∷ []) (with_actor i next n)) n)
        (ap (λ (xs : List ℤ). nat_lt (length xs) given.capacity) (links j uses) ∙ test)
  turn_rests (Takes j next) of uses same = by (items_on m j) refl same where
    by : (xs : List ℤ) → items_on m j ≡ xs → take_first i j next m xs ≡ m → take_first i j next n (items_on n j) ≡ n
    by [] held moved = ap (take_first i j next n) (links j uses ∙ held)
    by (x ∷ xs) held moved = absurd (moves (next x) (with_items j xs (with_actor i (next x) m)) refl (of.0 x) moved)

  pub act_rests : stepped given m (Act i) ≡ m → stepped given n (Act i) ≡ n
  act_rests same = ap (acted given i n) at_n
      ∙ turn_rests (turn given.plan given.flows given.limit i a) (turn_is given accepted i a inside) (turn_uses given i a) (sym (ap (acted given i m) at_m) ∙ same)

  abbrev place : Place
  place = next_place (code_of given.plan i) a

  pub look_rests : stepped given m (Look i) ≡ m → stepped given n (Look i) ≡ n
  look_rests same = ap (looked given.plan i n) at_n ∙ by a.ended refl (word_before m.word place) refl (sym (ap (looked given.plan i m) at_m) ∙ same) where
    by : (ended : Bool) → a.ended ≡ ended → (before : Bool) → word_before m.word place ≡ before → cond ended m (cond before (with_actor i (ended_at a) m) m) ≡ m
        → cond ended n (cond (word_before n.word place) (with_actor i (ended_at a) n) n) ≡ n
    by true ended before test moved = refl
    by false ended true test moved = absurd (moves (ended_at a) (with_actor i (ended_at a) m) refl (end_falls given.limit count a ended) moved)
    by false ended false test moved = ap (λ b. cond b (with_actor i (ended_at a) n) n) (ap (λ w. word_before w place) word ∙ test)
