-- What a step of an actor does to a core.
use Rattle.sig_interleaving.proofs.Common.{◌≡◌, ◌<◌, ◌+◌, ◌++◌, ◌∙◌, inl, inr, ℕ, Bool, true, false, cond, List, [], ◌∷◌, length, map, set, refl, sym, ap, subst, arith, length-set, Option, Some, nat_lt, slice_get, slice_index_or, lt-ltb, ltb-true, Place, CommitsAs, CommitsBy, IsStepped, TakesTurnAt, changes, IsActorState, IsCore, IsWord, LeavesLess, Shows, TellsChange, given_of, left_from, left_at, queues_of, Core, Kernel, Actor, code_of, ended_at, ModelCore, Given, acted as acted_in, items_on, lesser, stepped, take_first, turned, with_actor, with_items, AtLimit, Commits, Fails, Goes, Puts, Reaction, Stopped, Takes, Turn, turn, Act, IsAccepted, PlanView, put_elsewhere, put_here, set_get, Acts, Asked, FoundEmpty, FoundFull, LinkQueue, Popped, Pushed, Queues, QueuesGoOn, actor_of, last_reaction, Acted, Done, Empty, Full, Failed, AtTheLimit, HasStopped, ClusterState, same_Some, cases_eq, set_here, get_map}
use Rattle.sig_interleaving.proofs.WhatIsLeft.{Falls, left_falls, map_set, set_there}
use Rattle.sig_interleaving.proofs.LinkItems.{links_put, links_stay, room_stays}
use Rattle.sig_interleaving.proofs.ActorTurns.{IsFailure, IsTurnOf, turn_is}
use Rattle.sig_step.specs.declared.answer.Acted.TheVariants.{Commit}

-- the word behind a step that answers this
abbrev pub word_by : Acted → Option Place → Option Place
word_by (Failed place) word = Some (lesser word place)
word_by other word = word

-- a place that a step of the actor leaves
abbrev pub PlaceOf : Given → ℕ → Actor → Acted → Type 0
PlaceOf given k a (Failed place) = IsFailure given k a place
PlaceOf given k a other = Unit {0}

-- what a step commits that leaves this state
abbrev CommitOf : Kernel → ClusterState → Acted → ModelCore → ModelCore → Type 0
CommitOf kernel s Commit m n = n.committed ≡ m.committed ++ last_reaction kernel s ∷ []
CommitOf kernel s other m n = n.committed ≡ m.committed

module _ (old mid : Core) (is : IsCore old) (accepted : IsAccepted old.plan.now) (k : ℕ) (acted : Acted) (took : TakesTurnAt k acted old mid) where
  abbrev given : Given
  given = given_of old

  abbrev plan : PlanView
  plan = old.plan.now

  abbrev kernel : Kernel
  kernel = old.plan.now.kernel

  abbrev a : Actor
  a = actor_of took.before

  abbrev b : Actor
  b = actor_of took.next

  abbrev q : Queues
  q = queues_of old.lists

  abbrev r : Queues
  r = queues_of mid.lists

  abbrev count : ℕ
  count = length (code_of plan k).steps

  mine : IsActorState given k took.before
  mine = is.states k took.before took.at

  inside : a.step < length (code_of given.plan k).steps
  inside = subst (λ n. took.before.step < length (code_of plan n).steps) mine.number mine.state.step

  abbrev the_turn : Turn
  the_turn = turn given.plan given.flows given.limit k a

  pub acts : Acts kernel the_turn acted took.before took.next took.turn_is.asked
  acts = subst (λ n. Acts kernel (turn given.plan given.flows given.limit n a) acted took.before took.next took.turn_is.asked) mine.number
      (subst (λ n. Acts kernel (turn given.plan given.flows n took.before.actor a) acted took.before took.next took.turn_is.asked) mine.limit took.turn_is.acts)

  pub goes : QueuesGoOn took.turn_is.asked q r
  goes = took.turn_is.asks.tells_queues

  -- ---- what becomes of the actor

  abbrev ChangeOf : Bool → Type 0
  ChangeOf true = Falls given.limit count a b
  ChangeOf false = b ≡ a

  record Did (answer : Acted) : Type 0 where
    place : PlaceOf given k a answer
    change : ChangeOf (changes answer)

  falls : (next : Actor) → b ≡ next → Falls given.limit count a next → Falls given.limit count a b
  falls next same less = subst (Falls given.limit count a) (sym same) less

  did_by : (t : Turn) → IsTurnOf given accepted k a inside t → (asked : Asked) → Acts kernel t acted took.before took.next asked → Did acted
  did_by Stopped of asked acts = subst Did (sym acts.answers) (record { place = tt; change = acts.is })
  did_by AtLimit of asked acts = subst Did (sym acts.answers) (record { place = tt; change = falls (ended_at a) acts.is of })
  did_by (Fails place) of asked acts = subst Did (sym acts.answers) (record { place = of.1; change = falls (ended_at a) acts.is of.0 })
  did_by (Goes next) of asked acts = subst Did (sym acts.answers) (record { place = tt; change = falls next acts.is of })
  did_by (Commits reaction next) of asked acts = subst Did (sym acts.0.answers) (record { place = tt; change = falls next acts.0.is of })
  did_by (Puts j item next) of asked (inl done) = subst Did (sym done.answers) (record { place = tt; change = falls next done.is of.0 })
  did_by (Puts j item next) of asked (inr full) = subst Did (sym full.answers) (record { place = tt; change = full.is })
  did_by (Takes j next) of asked (inl (item, done)) = subst Did (sym done.answers) (record { place = tt; change = falls (next item) done.is (of.0 item) })
  did_by (Takes j next) of asked (inr empty) = subst Did (sym empty.answers) (record { place = tt; change = empty.is })

  did : Did acted
  did = did_by the_turn (turn_is given accepted k a inside) took.turn_is.asked acts

  pub place_of_step : PlaceOf given k a acted
  place_of_step = did.place

  actors_are : map actor_of mid.states.items ≡ set (map actor_of old.states.items) k b
  actors_are = ap (map actor_of) took.is ∙ map_set actor_of old.states.items k took.next

  at_k : slice_get (map actor_of old.states.items) k ≡ Some a
  at_k = get_map actor_of old.states.items k took.before took.at

  leaves_by : (answer : Bool) → ChangeOf answer → LeavesLess old (record old { states = mid.states; lists = mid.lists }) answer
  leaves_by true less = subst (λ xs. left_from plan given.limit 0 xs < left_from plan given.limit 0 (map actor_of old.states.items)) (sym actors_are)
      (left_falls plan given.limit 0 (map actor_of old.states.items) k a b at_k (subst (λ n. Falls given.limit (length (code_of plan n).steps) a b) (let e : k ≡ 0 + k = omega arith in e) less))
  leaves_by false same = ap (left_from plan given.limit 0) (actors_are ∙ ap (set (map actor_of old.states.items) k) same ∙ set_there (map actor_of old.states.items) k a at_k)

  -- ---- what becomes of a state in which the core was

  module _ (m : ModelCore) (shows : Shows m old) where
    record Outcome (n : ModelCore) (answer : Acted) : Type 0 where
      actors : n.actors ≡ set m.actors k b
      count : length n.links ≡ length m.links
      links : (j : ℕ) → slice_index_or n.links j [] ≡ (r j).items
      word : n.word ≡ word_by answer m.word
      commits : CommitOf kernel took.next answer m n
      stays : changes answer ≡ false → n ≡ m

    there : slice_get m.actors k ≡ Some a
    there = ap (λ xs. slice_get xs k) shows.actors ∙ at_k

    same_actors : b ≡ a → m.actors ≡ set m.actors k b
    same_actors same = sym (ap (set m.actors k) same ∙ set_there m.actors k a there)

    link_there : (j : ℕ) → j < length plan.links → j < length m.links
    link_there j lt = let one = shows.count in let two = is.links in omega (arith, lt, one, two)

    -- a step that leaves the core as it is
    stayed : (answer : Acted) → b ≡ a → ((j : ℕ) → slice_index_or m.links j [] ≡ (r j).items) → word_by answer m.word ≡ m.word → CommitOf kernel took.next answer m m → Outcome m answer
    stayed answer same links word commits = record {
      actors = same_actors same;
      count = refl;
      links = links;
      word = sym word;
      commits = commits;
      stays = λ none. refl;
    }

    -- and one that changes the actor
    moved : (n : ModelCore) (answer : Acted) → n.actors ≡ set m.actors k b → length n.links ≡ length m.links → ((j : ℕ) → slice_index_or n.links j [] ≡ (r j).items) → n.word ≡ word_by answer m.word
        → CommitOf kernel took.next answer m n → changes answer ≡ true → Outcome n answer
    moved n answer actors count links word commits does = record {
      actors = actors;
      count = count;
      links = links;
      word = word;
      commits = commits;
      stays = λ none. absurd (let e : true ≡ false = sym does ∙ none in cc);
    }

    outcome : (t : Turn) → IsTurnOf given accepted k a inside t → (asked : Asked) → Acts kernel t acted took.before took.next asked → QueuesGoOn asked q r → Outcome (turned given k a t m) acted
    outcome Stopped of asked acts go = subst (Outcome m) (sym acts.answers)
        (stayed HasStopped acts.is (links_stay q r m.links shows.links (subst (λ z. QueuesGoOn z q r) acts.asks go)) refl refl)
    outcome AtLimit of asked acts go = subst (Outcome (turned given k a AtLimit m)) (sym acts.answers)
        (moved (turned given k a AtLimit m) AtTheLimit (ap (set m.actors k) (sym acts.is)) refl (links_stay q r m.links shows.links (subst (λ z. QueuesGoOn z q r) acts.asks go)) refl refl refl)
    outcome (Fails place) of asked acts go = subst (Outcome (turned given k a (Fails place) m)) (sym acts.answers)
        (moved (turned given k a (Fails place) m) (Failed place) (ap (set m.actors k) (sym acts.is)) refl (links_stay q r m.links shows.links (subst (λ z. QueuesGoOn z q r) acts.asks go)) refl refl refl)
    outcome (Goes next) of asked acts go = subst (Outcome (turned given k a (Goes next) m)) (sym acts.answers)
        (moved (turned given k a (Goes next) m) Done (ap (set m.actors k) (sym acts.is)) refl (links_stay q r m.links shows.links (subst (λ z. QueuesGoOn z q r) acts.asks go)) refl refl refl)
    outcome (Commits reaction next) of asked acts go = subst (Outcome (turned given k a (Commits reaction next) m)) (sym acts.0.answers)
        (moved (turned given k a (Commits reaction next) m) Commit (ap (set m.actors k) (sym acts.0.is)) refl (links_stay q r m.links shows.links (subst (λ z. QueuesGoOn z q r) acts.0.asks go)) refl (ap (λ (x : Reaction). m.committed ++ x ∷ []) (sym acts.1)) refl)
    outcome (Puts j item next) of asked (inl done) go = by (nat_lt (length (items_on m j)) given.capacity) refl where
      put : QueuesGoOn (Pushed j item) q r
      put = subst (λ z. QueuesGoOn z q r) done.asks go

      room : length (items_on m j) < given.capacity
      room =
          let less = put.0 in
          let held = ap length (shows.links j) in
          let capacity = is.room j of.1 in
          omega (arith, less, held, capacity)

      by : (test : Bool) → nat_lt (length (items_on m j)) given.capacity ≡ test
          → Outcome (cond test (with_items j (items_on m j ++ item ∷ []) (with_actor k next m)) m) acted
      by false fails = absurd (let e : true ≡ false = sym (lt-ltb (length (items_on m j)) given.capacity room) ∙ fails in cc)
      by true holds = subst (Outcome (with_items j (items_on m j ++ item ∷ []) (with_actor k next m))) (sym done.answers)
          (moved (with_items j (items_on m j ++ item ∷ []) (with_actor k next m)) Done (ap (set m.actors k) (sym done.is)) (length-set m.links j (items_on m j ++ item ∷ []))
          (links_put q r m.links shows.links j (link_there j of.1) (items_on m j ++ item ∷ []) (ap (λ (l : LinkQueue). l.items) put.1 ∙ ap (λ xs. xs ++ item ∷ []) (sym (shows.links j))) put.2) refl refl refl)
    outcome (Puts j item next) of asked (inr full) go = by (nat_lt (length (items_on m j)) given.capacity) refl where
      found : QueuesGoOn (FoundFull j) q r
      found = subst (λ z. QueuesGoOn z q r) full.asks go

      by : (test : Bool) → nat_lt (length (items_on m j)) given.capacity ≡ test
          → Outcome (cond test (with_items j (items_on m j ++ item ∷ []) (with_actor k next m)) m) acted
      by true holds =
          let less = ltb-true (length (items_on m j)) given.capacity holds in
          let none = found.0 in
          let held = ap length (shows.links j) in
          let capacity = is.room j of.1 in
          absurd (omega (arith, less, none, held, capacity))
      by false fails = subst (Outcome m) (sym full.answers) (stayed (Full j) full.is (links_stay q r m.links shows.links found.1) refl refl)
    outcome (Takes j next) of asked (inl (item, done)) go =
        subst (λ xs. Outcome (take_first k j next m xs) acted) (sym held) (subst (Outcome (with_items j (r j).items (with_actor k (next item) m))) (sym done.answers)
        (moved (with_items j (r j).items (with_actor k (next item) m)) Done (ap (set m.actors k) (sym done.is)) (length-set m.links j (r j).items)
        (links_put q r m.links shows.links j (link_there j of.1) (r j).items refl taken.1) refl refl refl)) where
          taken : QueuesGoOn (Popped j item) q r
          taken = subst (λ z. QueuesGoOn z q r) done.asks go

          held : items_on m j ≡ item ∷ (r j).items
          held = shows.links j ∙ ap (λ (l : LinkQueue). l.items) taken.0
    outcome (Takes j next) of asked (inr empty) go =
        subst (λ xs. Outcome (take_first k j next m xs) acted) (sym (shows.links j ∙ found.0)) (subst (Outcome m) (sym empty.answers)
        (stayed (Empty j) empty.is (links_stay q r m.links shows.links found.1) refl refl)) where
          found : QueuesGoOn (FoundEmpty j) q r
          found = subst (λ z. QueuesGoOn z q r) empty.asks go

    done : Outcome (stepped given m (Act k)) acted
    done = subst (λ o. Outcome (acted_in given k m o) acted) (sym there) (outcome the_turn (turn_is given accepted k a inside) took.turn_is.asked acts goes)

    -- a change is seen in the actor
    differs : ChangeOf (changes acted) → changes acted ≡ true → stepped given m (Act k) ≡ m → ⊥
    differs change does same =
        let less : Falls given.limit count a b = subst ChangeOf does change in
        let at : Some b ≡ Some a = sym (set_here m.actors k b a there) ∙ ap (λ xs. slice_get xs k) (sym done.actors ∙ ap (λ (n : ModelCore). n.actors) same) ∙ there in
        let e : left_at given.limit count b ≡ left_at given.limit count a = ap (left_at given.limit count) (same_Some b a at) in
        omega (arith, less, e)

  module _ (w : ℕ) (words : (word : Option Place) → IsWord word old.word → IsWord (word_by acted word) w) where
    abbrev pub behind : Core
    behind = record old { states = mid.states; lists = mid.lists; word = w }

    state_there : (i : ℕ) (s : ClusterState) → slice_get mid.states.items i ≡ Some s → IsActorState given i s
    state_there i s at =
        let found = set_get old.states.items k took.next i s (subst (λ (xs : List ClusterState). slice_get xs i ≡ Some s) took.is at) in
        subst (IsActorState given i) (sym found.2) (elim (cases_eq i k) [
          | inl same ↦ subst (IsActorState given i) (sym (put_here k took.next i found.0 same)) (subst (λ n. IsActorState given n took.next) (sym same) (record {
            state = took.state;
            number = took.same.actor ∙ mine.number;
            limit = took.same.limit ∙ mine.limit;
          }))
          | inr apart ↦ subst (IsActorState given i) (sym (put_elsewhere k took.next i found.0 apart)) (is.states i found.0 found.1)
        ])

    pub core_behind : IsCore behind
    core_behind = record {
      fits = is.fits;
      limit = is.limit;
      capacity = is.capacity;
      small = is.small;
      actors = ap length took.is ∙ length-set old.states.items k took.next ∙ is.actors;
      few = (let count : length mid.states.items ≡ length old.states.items = ap length took.is ∙ length-set old.states.items k took.next in let few = is.few in omega (arith, count, few));
      states = state_there;
      links = took.count ∙ is.links;
      room = λ j lt. (room_stays q r took.turn_is.asked goes j).0 ∙ is.room j lt;
      held = λ j lt.
          let capacity = is.room j lt in
          let held = is.held j lt in
          let stays = room_stays q r took.turn_is.asked goes j in
          let now = stays.1 (omega (arith, held, capacity)) in
          let same = stays.0 in
          omega (arith, now, same, capacity);
      word = (word_by acted is.word.0, words is.word.0 is.word.1);
      lines = is.lines;
    }

    pub stepped_behind : IsStepped (Act k) old behind
    stepped_behind m shows = record {
      actors = (done m shows).actors ∙ ap (λ xs. set xs k b) shows.actors ∙ sym actors_are;
      count = (done m shows).count ∙ shows.count ∙ sym took.count;
      links = (done m shows).links;
      word = subst (λ word. IsWord word w) (sym (done m shows).word) (words m.word shows.word);
    }

    commits_as : (answer : Acted) (m n : ModelCore) → CommitOf kernel took.next answer m n → CommitsAs k behind answer m n
    commits_as Commit m n commits = λ s at.
        let here : slice_get mid.states.items k ≡ Some took.next = ap (λ xs. slice_get xs k) took.is ∙ set_here old.states.items k took.next took.before took.at in
        commits ∙ ap (λ (z : ClusterState). m.committed ++ last_reaction kernel z ∷ []) (same_Some took.next s (sym here ∙ at))
    commits_as other m n commits = commits

    pub commits_behind : CommitsBy k acted old behind
    commits_behind m shows = commits_as acted m (stepped given m (Act k)) (done m shows).commits

    pub tells_behind : TellsChange old (Act k) (changes acted)
    tells_behind = tells_by (changes acted) refl where
      tells_by : (answer : Bool) → changes acted ≡ answer → TellsChange old (Act k) answer
      tells_by true does = λ m shows same. differs m shows did.change does same
      tells_by false not_so = λ m shows. (done m shows).stays not_so

    pub leaves_behind : LeavesLess old behind (changes acted)
    leaves_behind = leaves_at (changes acted) did.change where
      leaves_at : (answer : Bool) → ChangeOf answer → LeavesLess old behind answer
      leaves_at true less = leaves_by true less
      leaves_at false same = leaves_by false same

    -- the same of a core that is this one
    module _ (new : Core) (new_is : new ≡ record old { states = mid.states; lists = mid.lists; word = w }) where
      pub step_core : IsCore new
      step_core = subst IsCore (sym new_is) core_behind

      pub step_stepped : IsStepped (Act k) old new
      step_stepped = subst (IsStepped (Act k) old) (sym new_is) stepped_behind

      pub step_commits : CommitsBy k acted old new
      step_commits = subst (CommitsBy k acted old) (sym new_is) commits_behind

      pub step_tells : TellsChange old (Act k) (changes acted)
      step_tells = tells_behind

      pub step_leaves : LeavesLess old new (changes acted)
      step_leaves = subst (λ c. LeavesLess old c (changes acted)) (sym new_is) leaves_behind

-- a step that leaves no place leaves the word as it is
pub word_stays : (acted : Acted) → ((place : Place) → acted ≡ Failed place → ⊥) → (w : ℕ) (word : Option Place) → IsWord word w → IsWord (word_by acted word) w
word_stays (Failed place) other w word is = absurd (other place refl)
word_stays any other w word is = is
