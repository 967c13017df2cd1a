-- Shares that were served to their end hold a finished state.
use Rattle.sig_work.proofs.Common.{◌≡◌, ◌<◌, ◌≤◌, ◌-◌, ◌+◌, ◌++◌, ◌^◌, ◌∙◌, ◌⊎◌, inl, inr, ℕ, suc, ℤ, true, false, List, [], ◌∷◌, length, take, refl, ap, sym, subst, arith, None, Option, Some, min, slice_get, slice_index_or, length-map, length-take, no_place, packed, Instant, Trace, seen_at, Place, seen, Halt, fitting, at_most_or, some_reference, Actor, code_of, ended_at, next_place, position_of, Core, Given, IsFinished, after, cause_of, word_before, IsOnReference, reactions_of, IsReference, Reaction, reaction_in, Event, IsAccepted, Cause, after_has_end, after_on, Own, ActInOrder, AreSettled, HasEndedBy, LeadBy, LookBehind, acts_then_looks, opening_own, times_among, IsLeastFailure, collector_of, actor_of, place_of, same_Some, instant_of, IsAmong, taken_of, AreDone, AreTogether, HoldFinished, IsEndOfRun, EndsWith, HasDone, IsBehindSeen, before_stop, commits_of, failure_in, own_of, word_of, AreSettledBelow, least_failed, HasActors, IsClosed, IsLeastWord, IsWord, NamesCause, Ending, Failed, Looked, AtLimit, Faulted, Member, Share, slice_get_within, some_at}
use Rattle.sig_plan.specs.declared.ended.Ended.{Ended}
use Rattle.sig_work.proofs.ChoicesBelow.{chosen}
use Rattle.sig_work.proofs.FailedActors.{not_before, own_failed, packed_before}
use Rattle.sig_work.proofs.Settled.{SettledInOrder, least_same}
use Rattle.sig_work.proofs.ItemInPlace.{get_past}
use Rattle.sig_work.proofs.Together.{balanced, done_of, links, one_among, own, own_commits, own_is, there, within}

-- where all were served, each is what its own steps leave
pub done_run : (given : Given) (committed : List Reaction) (word : Halt) (shares : List Share) → AreDone given committed word shares → AreTogether given committed word shares
done_run given committed word shares done = record {
  fits = done.fits;
  room = done.room;
  all = done.all;
  done = λ at share there. (done.serving at share there).done;
}

-- a word that is at most those of all members of a list is at most the least
at_most_least : (ms : List Member) (w : ℕ) → w ≤ no_place → ((number : ℕ) (m : Member) → slice_get ms number ≡ Some m → w ≤ word_of (failure_in m.ending)) → w ≤ least_failed ms
at_most_least [] w within each = within
at_most_least (m ∷ ms) w within each =
    let here = each 0 m refl in
    let rest = at_most_least ms w within (λ number n at. each (suc number) n at) in
    at_most_min w (word_of (failure_in m.ending)) (least_failed ms) here rest
  where
    at_most_min : (a b c : ℕ) → a ≤ b → a ≤ c → a ≤ min b c
    at_most_min a b c one two = omega (arith, one, two)

failed_ending : (e : Option Ending) (p : Place) → failure_in e ≡ Some p → e ≡ Some (Failed p)
failed_ending (Some (Failed q)) p is = ap (λ r. Some (Failed r)) (same_Some q p is)
failed_ending e p is = absurd (let clash : None ≡ Some p = is in cc)

ended_is : (i j : ℕ) (c d : Cause) → i ≡ j → c ≡ d → (let e : Ended = record { instants = i; cause = c } in e) ≡ (let f : Ended = record { instants = j; cause = d } in f)
ended_is i j c d one two =
    ap (λ n. let e : Ended = record { instants = n; cause = c } in e) one ∙ ap (λ x. let e : Ended = record { instants = j; cause = x } in e) two

module _ (given : Given) (accepted : IsAccepted given.plan) (committed : List Reaction) (halt : Halt) (shares : List Share) (done : AreDone given committed halt shares)
    (settled : AreSettledBelow (length given.plan.links) given.plan.links shares) (word : ℕ) (least : IsLeastWord shares word) (closed : ℕ) (close : IsClosed shares closed) (law : SettledInOrder) where
  abbrev run : AreTogether given committed halt shares
  run = done_run given committed halt shares done

  abbrev count : ℕ
  count = length given.plan.codes

  abbrev mine : ℕ → Own
  mine = own given accepted committed halt shares run

  failure_is : (k : ℕ) (m : Member) → IsAmong shares k m → (mine k).failed ≡ failure_in m.ending
  failure_is k m one = ap (λ (o : Own). o.failed) (own_is given accepted committed halt shares run k m one)

  found : (k : ℕ) → k < count → (m : Member) × IsAmong shares k m
  found k lt = let f = there given accepted committed halt shares run k lt in (f.0, f.2)

  is_done : (k : ℕ) (m : Member) → IsAmong shares k m → HasDone given (commits_of given committed m) m
  is_done k m one = done_of given accepted committed halt shares run k m one

  small : given.limit + 1 < 2 ^ 32
  small =
      let some = accepted.codes.actors in
      let f = found (count - 1) (omega (arith, some)) in
      let d = is_done (count - 1) f.0 f.1 in
      let limit = d.member.limit in
      let fits = d.member.state.limit in
      omega (arith, limit, fits)

  behind_seen : (k : ℕ) (m : Member) (one : IsAmong shares k m) → IsBehindSeen (seen one.share.seat) m.ending (place_of m.state)
  behind_seen k m one = (done.serving one.at one.share one.there).seat.behind one.number m one.is

  itself : (k : ℕ) (m : Member) → IsAmong shares k m → IsAmong shares m.number m
  itself k m one = record { at = one.at; number = one.number; share = one.share; there = one.there; is = one.is; numbered = refl }

  -- an actor failed at the place of its next step
  module _ (k : ℕ) (m : Member) (one : IsAmong shares k m) (p : Place) (is : failure_in m.ending ≡ Some p) where
    failed_at : p ≡ place_of m.state
    failed_at = subst (λ e. IsBehindSeen (seen one.share.seat) e (place_of m.state)) (failed_ending m.ending p is) (behind_seen k m one)

    failed_position : p.pos < 2 ^ 32
    failed_position = subst (λ (q : Place). q.pos < 2 ^ 32) (sym failed_at) (least.positions m (itself k m one))

    failed_below : packed p < no_place
    failed_below =
        let instant : p.instant ≤ given.limit = own_failed given m.number (own_of m (commits_of given committed m)) (is_done k m one).own p is in
        let position = failed_position in
        omega (arith, instant, position, small)

    failed_least : word ≤ packed p
    failed_least = subst (λ o. word ≤ word_of o) is (least.below m (itself k m one))

  -- ---- the failure word

  record TheWord : Type 0 where
    pub place : Option Place
    pub is : IsWord place word
    pub least_is : IsLeastFailure count (λ k. (mine k).failed) place

  none_failed : word ≡ no_place → TheWord
  none_failed none = record {
    place = None;
    is = none;
    least_is = λ k lt. (let f = found k lt in failure_is k f.0 f.1 ∙ by k f.0 f.1 (failure_in f.0.ending) refl);
  } where
    by : (k : ℕ) (m : Member) → IsAmong shares k m → (failure : Option Place) → failure_in m.ending ≡ failure → failure_in m.ending ≡ None
    by k m one None is = is
    by k m one (Some p) is =
        let below = failed_below k m one p is in
        let most = failed_least k m one p is in
        absurd (omega (arith, below, most, none))

  some_failed : (k : ℕ) (m : Member) → IsAmong shares k m → (p : Place) → failure_in m.ending ≡ Some p → packed p ≡ word → TheWord
  some_failed k m one p is same = record {
    place = Some p;
    is = (same, failed_position k m one p is, (let below = failed_below k m one p is in omega (arith, below, same)));
    least_is = (
      (k, within given accepted committed halt shares run k m one, failure_is k m one ∙ is),
      λ j q lt failed. (
          let f = found j lt in
          let theirs : failure_in f.0.ending ≡ Some q = sym (failure_is j f.0 f.1) ∙ failed in
          let most = failed_least j f.0 f.1 q theirs in
          not_before q p (failed_position j f.0 f.1 q theirs) (omega (arith, most, same))),
    );
  }

  the_word : TheWord
  the_word = elim least.met [
    | inl none ↦ none_failed none
    | inr met ↦ by met.0.number met.0 met.1 (failure_in met.0.ending) refl met.2
  ] where
    by : (k : ℕ) (m : Member) → IsAmong shares k m → (failure : Option Place) → failure_in m.ending ≡ failure → word_of (failure_in m.ending) ≡ word → TheWord
    by k m one None is same = none_failed (sym same ∙ ap word_of is)
    by k m one (Some p) is same = some_failed k m one p is (ap word_of (sym is) ∙ same)

  -- it is at most all that a seat has seen
  word_seen : (at : ℕ) (share : Share) → slice_get shares at ≡ Some share → word ≤ seen share.seat
  word_seen at share there =
      let met = close.met in
      let seat = (done.serving met.0 met.1 met.2).seat.recorded in
      let most : word ≤ least_failed met.1.members.items = at_most_least met.1.members.items word least.within (λ number m is.
      least.below m (record { at = met.0; number = number; share = met.1; there = met.2; is = is; numbered = refl })) in
      let same = met.3 in
      let theirs = close.seen at share there in
      omega (arith, most, seat, same, theirs)

  -- ---- how each ended

  abbrev place : Option Place
  place = the_word.place

  word_is_before : (w : Option Place) → IsWord w word → (p : Place) → p.pos < 2 ^ 32 → word < packed p → packed p ≤ no_place → word_before w p ≡ true
  word_is_before None is p position less most = absurd (omega (arith, is, less, most))
  word_is_before (Some w) is p position less most =
      let same = is.0 in
      packed_before w p position (omega (arith, same, less))

  module _ (k : ℕ) (m : Member) (one : IsAmong shares k m) where
    abbrev d : HasDone given (commits_of given committed m) m
    d = is_done k m one

    abbrev a : Actor
    a = actor_of m.state

    is_ended : a.ended ≡ true
    is_ended = done.ended one.at one.share one.there one.number m one.is

    -- how it ended, where its own steps leave this
    abbrev EndedFrom : Actor → Type 0
    EndedFrom b = ((b.ended ≡ true) × (a ≡ b)) ⊎ ((b.ended ≡ false) × (word_before place (next_place (code_of given.plan k) b) ≡ true) × (a ≡ ended_at b))

    position_is : position_of (slice_get (code_of given.plan k).steps m.state.step) ≡ m.state.pos
    position_is = ap (λ j. position_of (slice_get (code_of given.plan j).steps m.state.step)) (sym (d.member.actor ∙ one.numbered)) ∙ sym d.member.state.position

    place_is : (let p : Place = record { instant = instant_of m.state.values; pos = position_of (slice_get (code_of given.plan k).steps m.state.step) } in p) ≡ place_of m.state
    place_is = ap (λ n. let p : Place = record { instant = instant_of m.state.values; pos = n } in p) position_is

    is_before_it : m.ending ≡ Some Looked → word_before place (place_of m.state) ≡ true
    is_before_it is =
        let past : seen one.share.seat < packed (place_of m.state) = subst (λ e. IsBehindSeen (seen one.share.seat) e (place_of m.state)) is (behind_seen k m one) in
        let most = word_seen one.at one.share one.there in
        let position = least.positions m (itself k m one) in
        let instant = d.member.state.within in
        let limit = d.member.limit in
        let fits = d.member.state.limit in
        word_is_before place the_word.is (place_of m.state) position (omega (arith, past, most)) (omega (arith, position, instant, fits))

    ended_from : (e : Option Ending) → m.ending ≡ e → EndedFrom (before_stop e a)
    ended_from None is =
        let runs : m.state.ended ≡ false = subst (λ e. EndsWith e m.state.ended) is d.member.ending in
        let clash : true ≡ false = sym is_ended ∙ runs in
        absurd cc
    ended_from (Some (Failed p)) is = inl (is_ended, refl)
    ended_from (Some AtLimit) is = inl (is_ended, refl)
    ended_from (Some Looked) is = inr (
      refl,
      subst (λ p. word_before place p ≡ true) (sym place_is) (is_before_it is),
      λ i. record a { ended = is_ended i },
    )
    ended_from (Some Faulted) is = absurd (done.unfaulted one.at one.share one.there one.number m one.is is)

    has_ended_by : HasEndedBy place (code_of given.plan k) (mine k) a
    has_ended_by = subst (λ (o : Own). HasEndedBy place (code_of given.plan k) o a) (sym (own_is given accepted committed halt shares run k m one)) (ended_from m.ending refl)

  -- ---- the finished state

  abbrev all_actors : (xs : List Actor) × (length xs ≡ count) × ((k : ℕ) (b : Actor) → slice_get xs k ≡ Some b → (m : Member) → IsAmong shares k m → b ≡ actor_of m.state)
  all_actors = chosen (λ k b. (m : Member) → IsAmong shares k m → b ≡ actor_of m.state) count
      (λ k lt. let f = found k lt in (actor_of f.0.state, λ m one. ap (λ (n : Member). actor_of n.state) (one_among given halt shares done.all k lt f.0 m f.1 one)))

  abbrev held : List (List ℤ)
  held = links given accepted committed halt shares run settled

  are_settled : AreSettled given mine held place all_actors.0
  are_settled = record {
    balanced = balanced given accepted committed halt shares run settled;
    least = the_word.least_is;
    count = all_actors.1;
    each = λ k b at. (
        let same = all_actors.1 in
        let lt = slice_get_within all_actors.0 k b at in
        let f = found k (omega (arith, lt, same)) in
        subst (λ (x : Actor). HasEndedBy place (code_of given.plan k) (mine k) x) (sym (all_actors.2 k b at f.0 f.1)) (has_ended_by k f.0 f.1));
  }

  abbrev state : Core
  state = record { actors = all_actors.0; links = held; word = place; committed = (mine (collector_of given)).committed }

  abbrev acted : (numbers : List ℕ) × ActInOrder given mine held numbers × ((w : Option Place) (actors : List Actor) → AreSettled given mine held w actors → (lookers : List ℕ) × LookBehind given mine held w actors numbers lookers)
  acted = law given accepted done.fits done.room mine held are_settled.balanced

  abbrev looked : (lookers : List ℕ) × LookBehind given mine held place all_actors.0 acted.0 lookers
  looked = acted.2 place all_actors.0 are_settled

  abbrev reached : (events : List Event) × (after given events ≡ state) × IsFinished (after given events)
  reached = (acts_then_looks acted.0 looked.0, looked.1.leave, looked.1.finished)

  abbrev behind : Core
  behind = after given reached.0

  actor_at_state : (k : ℕ) (m : Member) → IsAmong shares k m → slice_get behind.actors k ≡ Some (actor_of m.state)
  actor_at_state k m one =
      let same = all_actors.1 in
      let lt = within given accepted committed halt shares run k m one in
      let x = some_at all_actors.0 k (omega (arith, lt, same)) in
      ap (λ (c : Core). slice_get c.actors k) reached.1 ∙ x.1 ∙ ap Some (all_actors.2 k x.0 x.1 m one)

  commits : behind.committed ≡ committed
  commits = ap (λ (c : Core). c.committed) reached.1 ∙ own_commits given accepted committed halt shares run

  pub holds_finished : HoldFinished given committed shares
  holds_finished = record {
    numbers = acted.0;
    lookers = looked.0;
    order = acted.1.order;
    once = λ k lt m one. subst (LeadBy given k (times_among k acted.0) (opening_own given.plan.kernel)) (own_is given accepted committed halt shares run k m one) (acted.1.once k lt);
    change = looked.1.change;
    finished = reached.2;
    actors = λ k lt m one. actor_at_state k m one;
    links = λ link info at w one r two. (
        sym (ap (λ (o : Own). o.sent link) (own_is given accepted committed halt shares run info.writer w one))
        ∙ are_settled.balanced.balance link info at
        ∙ ap (λ (xs : List ℤ). xs ++ slice_index_or held link []) (ap (λ (o : Own). o.taken link) (own_is given accepted committed halt shares run info.reader r two))
        ∙ ap (λ (c : Core). taken_of r.ends link ++ slice_index_or c.links link []) (sym reached.1));
    word = λ failures same. subst (λ (c : Core). IsLeastFailure count failures c.word) (sym reached.1)
        (least_same count (λ k. (mine k).failed) failures place (λ k lt. let f = found k lt in same k lt f.0 f.1 ∙ sym (failure_is k f.0 f.1)) the_word.least_is);
    commits = commits;
  }

  -- ---- its end

  has_actors : HasActors shares behind
  has_actors = record {
    there = actor_at_state;
    none = λ k missing. (
        let same = all_actors.1 in
        ap (λ (c : Core). slice_get c.actors k) reached.1
        ∙ get_past all_actors.0 k (elim (at_most_or count k) [
          | inl past ↦ omega (arith, past, same)
          | inr lt ↦ absurd (let f = found k lt in missing f.0 f.1)
        ]));
  }

  abbrev reference : Trace
  reference = (some_reference (fitting given.plan accepted given.flows done.fits) (given.limit + 1)).0

  exact : length reference ≡ given.limit + 1
  exact = (some_reference (fitting given.plan accepted given.flows done.fits) (given.limit + 1)).1.instants

  reference_is : IsReference given.plan.kernel given.flows (length reference) reference
  reference_is = subst (λ n. IsReference given.plan.kernel given.flows n reference) (sym exact)
      (some_reference (fitting given.plan accepted given.flows done.fits) (given.limit + 1)).1

  on : IsOnReference given reference behind
  on = after_on given accepted done.fits reference reference_is (let e = exact in omega (arith, e)) reached.0

  -- the collector has as many instants behind it as are committed
  instants_are : (m : Member) → IsAmong shares (count - 1) m → (trace : Trace) → behind.committed ≡ reactions_of given.plan.kernel trace → length trace ≡ instant_of m.state.values - 1
  instants_are m one trace is =
      let begun : reactions_of given.plan.kernel trace ≡ reactions_of given.plan.kernel (take (instant_of m.state.values - 1) reference) = sym is ∙ on.committed (actor_of m.state) (actor_at_state (count - 1) m one) in
      let first = length-map trace (λ (instant : Instant). reaction_in given.plan.kernel (seen_at instant)) in
      let second = length-map (take (instant_of m.state.values - 1) reference) (λ (instant : Instant). reaction_in given.plan.kernel (seen_at instant)) in
      let both : length (reactions_of given.plan.kernel trace) ≡ length (reactions_of given.plan.kernel (take (instant_of m.state.values - 1) reference)) = ap length begun in
      let third = length-take (instant_of m.state.values - 1) reference in
      let most = (is_done (count - 1) m one).member.state.within in
      let limit = (is_done (count - 1) m one).member.limit in
      let e = exact in
      omega (arith, first, second, both, third, most, limit, e)

  pub is_end : (answer : Ended) → ((m : Member) → IsAmong shares (count - 1) m → answer.instants ≡ (actor_of m.state).instant - 1)
      → NamesCause given.plan given.flows shares word answer.cause → IsEndOfRun given committed answer
  is_end answer instants cause trace at ended end =
      let has = after_has_end given accepted done.fits reached.0 reached.2 trace at ended end in
      let some = accepted.codes.actors in
      let last = found (count - 1) (omega (arith, some)) in
      let named : answer.cause ≡ cause_of given.plan given.flows behind behind.word =
      cause behind place has_actors the_word.is ∙ ap (λ (c : Core). cause_of given.plan given.flows behind c.word) (sym reached.1) in (
        ended_is answer.instants ended.instants answer.cause ended.cause
            (instants last.0 last.1 ∙ sym (instants_are last.0 last.1 trace has.committed) ∙ sym end.instants)
            (named ∙ has.cause),
        sym commits ∙ has.committed,
      )
