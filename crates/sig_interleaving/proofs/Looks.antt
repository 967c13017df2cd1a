-- What a look of an actor does to a core.
use Rattle.sig_interleaving.proofs.Common.{◌≡◌, ◌<◌, ◌≤◌, ◌+◌, ◌^◌, ◌↔◌, ◌∙◌, inl, inr, ℕ, Bool, true, false, cond, List, length, map, set, if◌then◌else◌, refl, sym, ap, subst, arith, length-set, None, Option, Some, IsTrue, slice_get, no_place, packed, Place, IsActorState, IsCore, Keeps, LeavesLess, Shows, TellsChange, given_of, left_from, Core, Actor, code_of, ended_at, next_place, position_of, ModelCore, Given, looked, stepped, with_actor, word_before, Look, PlanView, put_elsewhere, put_here, set_get, IsStateOf, actor_of, place_of, ClusterState, same_Some, instant_of, cases_eq, set_here, get_map}
use Rattle.sig_interleaving.proofs.WhatIsLeft.{Falls, end_falls, left_falls, map_set, set_there}
use Rattle.sig_interleaving.proofs.FailureWord.{no_word_told, word_before_is}

-- where no failure is recorded, a look changes nothing
module _ (c : Core) (k : ℕ) (none : c.word ≡ no_place) where
  pub no_word_looks : (m : ModelCore) → Shows m c → stepped (given_of c) m (Look k) ≡ m
  no_word_looks m shows = by (slice_get m.actors k) where
    before : (place : Place) → word_before m.word place ≡ false
    before place = ap (λ w. word_before w place) (sym (no_word_told m.word c.word shows.word none))

    by_end : (a : Actor) (ended : Bool) → cond ended m (cond (word_before m.word (next_place (code_of c.plan.now k) a)) (with_actor k (ended_at a) m) m) ≡ m
    by_end a true = refl
    by_end a false = ap (λ b. cond b (with_actor k (ended_at a) m) m) (before (next_place (code_of c.plan.now k) a))

    by : (o : Option Actor) → looked c.plan.now k m o ≡ m
    by None = refl
    by (Some a) = by_end a a.ended

  pub no_word_keeps : Keeps (Look k) c c
  no_word_keeps m shows = (subst (λ n. Shows n c) (sym (no_word_looks m shows)) shows, ap (λ (n : ModelCore). n.committed) (no_word_looks m shows))

  pub no_word_tells : TellsChange c (Look k) false
  no_word_tells m shows = no_word_looks m shows

module _ (old : Core) (is : IsCore old) (k : ℕ) (s next : ClusterState) (at : slice_get old.states.items k ≡ Some s) (fits : s.pos < 2 ^ 32) (below : packed (place_of s) ≤ no_place)
    (answer : Bool) (answers : IsTrue answer ↔ ((s.ended ≡ false) × (old.word < packed (place_of s)))) (next_is : next ≡ (if answer then record s { ended = true } else s))
    (kept : IsStateOf old.plan.now old.inputs.now next) (behind : Core) (stays : behind ≡ record old { states = behind.states }) (states_are : behind.states.items ≡ set old.states.items k next) where
  abbrev given : Given
  given = given_of old

  abbrev plan : PlanView
  plan = old.plan.now

  abbrev a : Actor
  a = actor_of s

  abbrev count : ℕ
  count = length (code_of plan k).steps

  mine : IsActorState given k s
  mine = is.states k s at

  the_place : next_place (code_of plan k) a ≡ place_of s
  the_place =
      let position : s.pos ≡ position_of (slice_get (code_of plan k).steps s.step) =
      subst (λ n. s.pos ≡ position_of (slice_get (code_of plan n).steps s.step)) mine.number mine.state.position in
      ap (λ n. let p : Place = record { instant = instant_of s.values; pos = n } in p) (sym position)

  next_as : (b : Bool) → answer ≡ b → next ≡ (if b then record s { ended = true } else s)
  next_as b same = subst (λ t. next ≡ (if t then record s { ended = true } else s)) same next_is

  actors_are : map actor_of behind.states.items ≡ set (map actor_of old.states.items) k (actor_of next)
  actors_are = ap (map actor_of) states_are ∙ map_set actor_of old.states.items k next

  at_k : slice_get (map actor_of old.states.items) k ≡ Some a
  at_k = get_map actor_of old.states.items k s at

  actors_as : (b : Bool) → answer ≡ b → map actor_of behind.states.items ≡ (if b then set (map actor_of old.states.items) k (ended_at a) else map actor_of old.states.items)
  actors_as true does = actors_are ∙ ap (λ (t : ClusterState). set (map actor_of old.states.items) k (actor_of t)) (next_as true does)
  actors_as false not_so = actors_are ∙ ap (λ (t : ClusterState). set (map actor_of old.states.items) k (actor_of t)) (next_as false not_so) ∙ set_there (map actor_of old.states.items) k a at_k

  runs : answer ≡ true → a.ended ≡ false
  runs does = (answers.0 does).0

  module _ (m : ModelCore) (shows : Shows m old) where
    there : slice_get m.actors k ≡ Some a
    there = ap (λ xs. slice_get xs k) shows.actors ∙ at_k

    before_is : (b : Bool) → word_before m.word (next_place (code_of plan k) a) ≡ b → (b ≡ true) ↔ (old.word < packed (place_of s))
    before_is b test = word_before_is m.word old.word shows.word (place_of s) fits below b (ap (word_before m.word) (sym the_place) ∙ test)

    looks : (b : Bool) → answer ≡ b → (ended : Bool) → a.ended ≡ ended → (before : Bool) → word_before m.word (next_place (code_of plan k) a) ≡ before
        → cond ended m (cond before (with_actor k (ended_at a) m) m) ≡ (if b then with_actor k (ended_at a) m else m)
    looks true does true ended before test = absurd (let clash : true ≡ false = sym ended ∙ runs does in cc)
    looks true does false ended true test = refl
    looks true does false ended false test = absurd (let clash : false ≡ true = (before_is false test).1 (answers.0 does).1 in cc)
    looks false not_so true ended before test = refl
    looks false not_so false ended true test = absurd (let clash : false ≡ true = sym not_so ∙ answers.1 (ended, (before_is true test).0 refl) in cc)
    looks false not_so false ended false test = refl

    looked_as : (b : Bool) → answer ≡ b → stepped given m (Look k) ≡ (if b then with_actor k (ended_at a) m else m)
    looked_as b same = ap (looked plan k m) there ∙ looks b same a.ended refl (word_before m.word (next_place (code_of plan k) a)) refl

    shown_as : (b : Bool) → answer ≡ b → Shows (if b then with_actor k (ended_at a) m else m) (record old { states = behind.states })
    shown_as true does = record {
      actors = ap (λ xs. set xs k (ended_at a)) shows.actors ∙ sym (actors_as true does);
      count = shows.count;
      links = shows.links;
      word = shows.word;
    }
    shown_as false not_so = record { actors = shows.actors ∙ sym (actors_as false not_so); count = shows.count; links = shows.links; word = shows.word }

    committed_as : (b : Bool) → (if b then with_actor k (ended_at a) m else m).committed ≡ m.committed
    committed_as true = refl
    committed_as false = refl

  pub look_keeps : Keeps (Look k) old behind
  look_keeps m shows = (
    subst (λ n. Shows n behind) (sym (looked_as m shows answer refl)) (subst (λ c. Shows (if answer then with_actor k (ended_at a) m else m) c) (sym stays) (shown_as m shows answer refl)),
    ap (λ (n : ModelCore). n.committed) (looked_as m shows answer refl) ∙ committed_as m shows answer,
  )

  differs : (m : ModelCore) → Shows m old → answer ≡ true → stepped given m (Look k) ≡ m → ⊥
  differs m shows does same =
      let ends : with_actor k (ended_at a) m ≡ m = sym (looked_as m shows true does) ∙ same in
      let first : Some (ended_at a) ≡ Some a = sym (set_here m.actors k (ended_at a) a (there m shows)) ∙ ap (λ (n : ModelCore). slice_get n.actors k) ends ∙ there m shows in
      let clash : true ≡ false = ap (λ (x : Actor). x.ended) (same_Some (ended_at a) a first) ∙ runs does in
      cc

  pub look_tells : TellsChange old (Look k) answer
  look_tells = by answer refl where
    by : (b : Bool) → answer ≡ b → TellsChange old (Look k) b
    by true does = λ m shows same. differs m shows does same
    by false not_so = λ m shows. looked_as m shows false not_so

  pub look_leaves : LeavesLess old behind answer
  look_leaves = subst (λ c. LeavesLess old c answer) (sym stays) (by answer refl) where
    by : (b : Bool) → answer ≡ b → LeavesLess old (record old { states = behind.states }) b
    by true does = subst (λ xs. left_from plan given.limit 0 xs < left_from plan given.limit 0 (map actor_of old.states.items)) (sym (actors_as true does))
        (left_falls plan given.limit 0 (map actor_of old.states.items) k a (ended_at a) at_k
        (subst (λ n. Falls given.limit (length (code_of plan n).steps) a (ended_at a)) (let e : k ≡ 0 + k = omega arith in e) (end_falls given.limit count a (runs does))))
    by false not_so = ap (left_from plan given.limit 0) (actors_as false not_so)

  state_there : (i : ℕ) (t : ClusterState) → slice_get behind.states.items i ≡ Some t → IsActorState given i t
  state_there i t at_i =
      let found = set_get old.states.items k next i t (subst (λ (xs : List ClusterState). slice_get xs i ≡ Some t) states_are at_i) in
      subst (IsActorState given i) (sym found.2) (elim (cases_eq i k) [
        | inl same ↦ subst (IsActorState given i) (sym (put_here k next i found.0 same)) (subst (λ n. IsActorState given n next) (sym same) (record {
          state = kept;
          number = numbers answer refl ∙ mine.number;
          limit = limits answer refl ∙ mine.limit;
        }))
        | inr apart ↦ subst (IsActorState given i) (sym (put_elsewhere k next i found.0 apart)) (is.states i found.0 found.1)
      ]) where
        numbers : (b : Bool) → answer ≡ b → next.actor ≡ s.actor
        numbers true does = ap (λ (t : ClusterState). t.actor) (next_as true does)
        numbers false not_so = ap (λ (t : ClusterState). t.actor) (next_as false not_so)

        limits : (b : Bool) → answer ≡ b → next.limit ≡ s.limit
        limits true does = ap (λ (t : ClusterState). t.limit) (next_as true does)
        limits false not_so = ap (λ (t : ClusterState). t.limit) (next_as false not_so)

  pub look_core : IsCore behind
  look_core = subst IsCore (sym stays) (let c : IsCore (record old { states = behind.states }) = record {
    fits = is.fits;
    limit = is.limit;
    capacity = is.capacity;
    small = is.small;
    actors = ap length states_are ∙ length-set old.states.items k next ∙ is.actors;
    few = (let count : length behind.states.items ≡ length old.states.items = ap length states_are ∙ length-set old.states.items k next in let few = is.few in omega (arith, count, few));
    states = state_there;
    links = is.links;
    room = is.room;
    held = is.held;
    word = is.word;
    lines = is.lines;
  } in c)
