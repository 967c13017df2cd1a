-- Actors of a core that rest.
use Rattle.sig_interleaving.proofs.Common.{◌≡◌, ◌≢◌, ◌<◌, ◌≤◌, ◌-◌, ◌+◌, ◌*◌, ◌∙◌, inl, inr, false, ℕ, zero, suc, List, [], ◌∷◌, length, map, refl, sym, ap, subst, arith, None, Option, Some, slice_get, mul-le-mul_right, suc-mul, Happened, IsCore, IsReached, IsSameRun, IsWord, Shows, TellsChange, given_of, left_in, IsStill, after_of, queues_of, RestBelow, Rests, SeesNothing, Serves, Touches, left_behind, link_at, link_by, next_link, Core, at_most_or, Actor, code_of, ModelCore, Given, acted, items_on, looked, stepped, Act, Look, IsAccepted, LinkQueue, actor_of, ClusterState, get_map}
use Rattle.sig_interleaving.proofs.ActorsAtRest.{act_rests, look_rests}
use Rattle.sig_interleaving.proofs.FailureWord.{word_once}

get_map_none : {X Y : Type 0} (f : X → Y) (xs : List X) (k : ℕ) → slice_get xs k ≡ None → slice_get (map f xs) k ≡ None
get_map_none f [] k none = refl
get_map_none f (x ∷ xs) zero none = absurd (let e : Some x ≡ None = none in cc)
get_map_none f (x ∷ xs) (suc k) none = get_map_none f xs k none

-- An actor that rests in a state of one core rests in each state of another one, where its own state, its link and the word
-- are the same.
module _ (old new : Core) (is : IsCore old) (same : IsSameRun old new) (accepted : IsAccepted old.plan.now) (m : ModelCore) (shows : Shows m old) (word : new.word ≡ old.word)
    (i : ℕ) (own : slice_get new.states.items i ≡ slice_get old.states.items i) (link : (j : ℕ) → next_link old i ≡ Some j → queues_of new.lists j ≡ queues_of old.lists j)
    (n : ModelCore) (shows_n : Shows n new) where
  abbrev given : Given
  given = given_of old

  there_none : slice_get old.states.items i ≡ None → slice_get n.actors i ≡ None
  there_none none = ap (λ (xs : List Actor). slice_get xs i) shows_n.actors ∙ get_map_none actor_of new.states.items i (own ∙ none)

  module _ (s : ClusterState) (at : slice_get old.states.items i ≡ Some s) where
    inside : (actor_of s).step < length (code_of given.plan i).steps
    inside = subst (λ x. s.step < length (code_of given.plan x).steps) (is.states i s at).number (is.states i s at).state.step

    at_m : slice_get m.actors i ≡ Some (actor_of s)
    at_m = ap (λ (xs : List Actor). slice_get xs i) shows.actors ∙ get_map actor_of old.states.items i s at

    at_n : slice_get n.actors i ≡ Some (actor_of s)
    at_n = ap (λ (xs : List Actor). slice_get xs i) shows_n.actors ∙ get_map actor_of new.states.items i s (own ∙ at)

    words : n.word ≡ m.word
    words = word_once n.word m.word old.word (subst (IsWord n.word) word shows_n.word) shows.word

    links : (j : ℕ) → link_at (slice_get (code_of given.plan i).steps s.step) ≡ Some j → items_on n j ≡ items_on m j
    links j names = shows_n.links j ∙ ap (λ (q : LinkQueue). q.items) (link j (ap (link_by given.plan i) at ∙ names)) ∙ sym (shows.links j)

    look_some : stepped given m (Look i) ≡ m → stepped given n (Look i) ≡ n
    look_some before = look_rests given accepted i (actor_of s) inside m n at_m at_n words links before

    act_some : stepped given m (Act i) ≡ m → stepped given n (Act i) ≡ n
    act_some before = act_rests given accepted i (actor_of s) inside m n at_m at_n words links before

  pub look_on : stepped given m (Look i) ≡ m → stepped (given_of new) n (Look i) ≡ n
  look_on before = subst (λ (g : Given). stepped g n (Look i) ≡ n) (sym same) (by (slice_get old.states.items i) refl) where
    by : (o : Option ClusterState) → slice_get old.states.items i ≡ o → stepped given n (Look i) ≡ n
    by None at = ap (looked given.plan i n) (there_none at)
    by (Some s) at = look_some s at before

  act_on : stepped given m (Act i) ≡ m → stepped (given_of new) n (Act i) ≡ n
  act_on before = subst (λ (g : Given). stepped g n (Act i) ≡ n) (sym same) (by (slice_get old.states.items i) refl) where
    by : (o : Option ClusterState) → slice_get old.states.items i ≡ o → stepped given n (Act i) ≡ n
    by None at = ap (acted given i n) (there_none at)
    by (Some s) at = act_some s at before

  pub still_on : IsStill old m i → IsStill new n i
  still_on before = (look_on before.0, act_on before.1)

-- what rests in one state of a core rests in each
pub rests_in : (c : Core) → IsCore c → IsAccepted c.plan.now → (m : ModelCore) → Shows m c → (i : ℕ) → IsStill c m i → Rests c i
rests_in c is accepted m shows i before n shows_n = still_on c c is refl accepted m shows refl i refl (λ j names. refl) n shows_n before

-- an actor that an event of another one does not touch rests on
pub rests_on : (old new : Core) → IsCore old → IsSameRun old new → IsAccepted old.plan.now → (m : ModelCore) → Shows m old → (k : ℕ) (link : Option ℕ) → Touches k link old new → new.word ≡ old.word
    → (i : ℕ) → i ≢ k → ((j : ℕ) → link ≡ Some j → next_link old i ≡ Some j → ⊥) → IsStill old m i → Rests new i
rests_on old new is same accepted m shows k link touches word i other apart before n shows_n =
    still_on old new is same accepted m shows word i (touches.states i other) (λ j names. touches.links j (λ here. apart j here names)) n shows_n before

suc-mul' : (a n : ℕ) → (a + 1) * n ≡ a * n + n
suc-mul' a n = ap (λ x. x * n) (let e : a + 1 ≡ suc a = omega arith in e) ∙ suc-mul a n

-- less is left where less was, or one more actor rests
pub left_falls_by : (old new : Core) (k next : ℕ) → length new.states.items ≡ length old.states.items → left_in new < left_in old → left_behind new next < left_behind old k
left_falls_by old new k next count less = by (left_in new) (left_in old) (length new.states.items) (length old.states.items) count less where
  by : (a b n n2 : ℕ) → n ≡ n2 → a < b → a * (n + 1) + (n - next) < b * (n2 + 1) + (n2 - k)
  by a b n n2 same lt =
      let over : (a + 1) * (n + 1) ≤ b * (n + 1) = mul-le-mul_right (n + 1) (omega (arith, lt)) in
      let row : (a + 1) * (n + 1) ≡ a * (n + 1) + (n + 1) = suc-mul' a (n + 1) in
      let rows : b * (n + 1) ≡ b * (n2 + 1) = ap (λ x. b * (x + 1)) same in
      omega (arith, over, row, rows)

-- ---- an actor that was served

module _ {S : Type 0} (took : S → List ℕ → S → Type 0) (old new : Core) (is_old : IsCore old) (is_new : IsCore new) (same : IsSameRun old new) (accepted : IsAccepted old.plan.now)
    (reached : IsReached old) (k : ℕ) (there : k < length old.states.items) (rest : RestBelow k old) where
  abbrev m : ModelCore
  m = after_of old reached.0

  shows : Shows m old
  shows = reached.1

  count : length new.states.items ≡ length old.states.items
  count =
      let before = is_old.actors in
      let behind = is_new.actors in
      let codes = ap (λ (given : Given). length given.plan.codes) same in
      omega (arith, before, behind, codes)

  pub none_rest : (less : left_in new < left_in old) → Serves k old new 0
  none_rest less = record { within = omega arith; rest = λ i lt. absurd (omega (arith, lt)); less = left_falls_by old new k 0 count less }

  -- it looked, and ended
  pub looked_serves : Touches k None old new → new.word ≡ old.word → left_in new < left_in old → Serves k old new k
  looked_serves touches word less = record {
    within = (let c = count in omega (arith, c, there));
    rest = λ i lt. rests_on old new is_old same accepted m shows k None touches word i (λ e. omega (arith, e, lt)) (λ j names names_i. let e : None ≡ Some j = names in cc) (rest i lt m shows);
    less = left_falls_by old new k k count less;
  }

  -- it has no event that changes something
  module _ (looks : SeesNothing k old) (tells : TellsChange old (Act k) false) (before after_it : S) (happened : Happened took (Act k) old new before after_it) where
    shows_new : Shows m new
    shows_new = subst (λ n. Shows n new) (tells m shows) (happened m shows).0

    accepted_new : IsAccepted new.plan.now
    accepted_new = subst (λ (given : Given). IsAccepted given.plan) (sym same) accepted

    still : (i : ℕ) → i < k + 1 → IsStill old m i
    still i lt = elim (at_most_or k i) [
      | inl le ↦ subst (IsStill old m) (let e : k ≡ i = omega (arith, le, lt) in e) (looks m shows, tells m shows)
      | inr below ↦ rest i below m shows
    ]

    pub resting_serves : left_in new ≡ left_in old → Serves k old new (k + 1)
    resting_serves stays = record {
      within = (let c = count in omega (arith, c, there));
      rest = λ i lt. rests_in new is_new accepted_new m shows_new i (subst (λ (given : Given). (stepped given m (Look i) ≡ m) × (stepped given m (Act i) ≡ m)) (sym same) (still i lt));
      less =
          let c = count in
          let rows : left_in new * (length new.states.items + 1) ≡ left_in old * (length old.states.items + 1) = ap (λ n. n * (length new.states.items + 1)) stays ∙ ap (λ n. left_in old * (n + 1)) c in
          omega (arith, rows, c, there);
    }
