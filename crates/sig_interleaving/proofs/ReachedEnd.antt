-- The end of a run that was reached.
use Rattle.sig_interleaving.proofs.Common.{◌≡◌, ◌<◌, ◌≤◌, ◌-◌, ◌+◌, ◌++◌, ◌∙◌, inl, inr, ℕ, true, false, List, length, map, take, refl, sym, ap, subst, arith, append_assoc, None, Option, Some, fold, slice_get, length-map, length-take, Instant, Trace, seen_at, Place, IsCore, IsSameRun, Shows, given_of, HasEnded, IsEndOf, IsStill, LeadsTo, Led, TookBehind, TookRest, after_of, instants_by, instants_of, Core, output_text, fitting, at_most_or, some_reference, Actor, code_of, next_place, IsEnd, ModelCore, Given, IsEnabled, IsFinished, acted, after, cause_of, looked, reactions_text, stepped, IsOnReference, reactions_of, IsReference, reaction_in, Event, Act, Look, IsAccepted, Cause, Ended, some_enabled, after_begins, after_has_end, after_on, some_least, text_is, HasEnd, actor_of, ClusterState, TookPrefix, TookPrefix-longer, same_Some, instant_of, slice_get-get_or, slice_get_past, slice_get_within, get_map, map_get, some_at, fold-append}
use Rattle.sig_interleaving.proofs.EventsToTheEnd.{text_append}

ended_is : (i j : ℕ) (c d : Cause) → i ≡ j → c ≡ d → (let e : Ended = record { instants = i; cause = c } in e) ≡ (let f : Ended = record { instants = j; cause = d } in f)
ended_is i j c d one two =
    ap (λ n. let e : Ended = record { instants = n; cause = c } in e) one ∙ ap (λ x. let e : Ended = record { instants = j; cause = x } in e) two

module _ (c : Core) (is : IsCore c) (accepted : IsAccepted c.plan.now) (events : List Event) (shows : Shows (after_of c events) c) where
  abbrev given : Given
  given = given_of c

  abbrev n : ModelCore
  n = after_of c events

  abbrev reference : Trace
  reference = (some_reference (fitting given.plan accepted given.flows is.fits) (given.limit + 1)).0

  exact : length reference ≡ given.limit + 1
  exact = (some_reference (fitting given.plan accepted given.flows is.fits) (given.limit + 1)).1.instants

  reference_is : IsReference given.plan.kernel given.flows (length reference) reference
  reference_is = subst (λ count. IsReference given.plan.kernel given.flows count reference) (sym exact)
      (some_reference (fitting given.plan accepted given.flows is.fits) (given.limit + 1)).1

  long : given.limit + 1 ≤ length reference
  long = let e = exact in omega (arith, e)

  on : IsOnReference given reference n
  on = after_on given accepted is.fits reference reference_is long events

  -- an actor of the state is that of a state of the core
  state_of : (k : ℕ) (a : Actor) → slice_get n.actors k ≡ Some a → (s : ClusterState) × (slice_get c.states.items k ≡ Some s) × (actor_of s ≡ a)
  state_of k a at = map_get actor_of c.states.items k a (subst (λ (xs : List Actor). slice_get xs k ≡ Some a) shows.actors at)

  pub finished : HasEnded c → IsFinished n
  finished ended k d lt =
      let (s, at, same) = state_of k _ (slice_get-get_or n.actors k d lt) in
      sym (ap (λ (a : Actor). a.ended) same) ∙ ended k s at

  -- ---- where no event changes anything

  module _ (still : (k : ℕ) → k < length c.states.items → IsStill c n k) where
    none_past : (k : ℕ) → length c.states.items ≤ k → slice_get n.actors k ≡ None
    none_past k past = ap (λ (xs : List Actor). slice_get xs k) shows.actors ∙ slice_get_past (map actor_of c.states.items) k (let same = length-map c.states.items actor_of in omega (arith, past, same))

    no_event : (e : Event) → IsEnabled given n e → ⊥
    no_event (Act k) enabled = elim (at_most_or (length c.states.items) k) [
      | inl past ↦ enabled (ap (acted given k n) (none_past k past))
      | inr lt ↦ enabled (still k lt).1
    ]
    no_event (Look k) enabled = elim (at_most_or (length c.states.items) k) [
      | inl past ↦ enabled (ap (looked given.plan k n) (none_past k past))
      | inr lt ↦ enabled (still k lt).0
    ]

    pub all_ended : HasEnded c
    all_ended k s at = elim (some_least (λ m a. next_place (code_of given.plan m) a) n.actors) [
      | inl all ↦ all k (actor_of s) (ap (λ (xs : List Actor). slice_get xs k) shows.actors ∙ get_map actor_of c.states.items k s at)
      | inr l ↦
          let lt = slice_get_within n.actors l.k l.actor l.at in
          let (e, enabled) = some_enabled given accepted is.fits reference long is.capacity n on (λ all.
          let same = same_Some _ l.actor (sym (slice_get-get_or n.actors l.k l.actor lt) ∙ l.at) in
          let clash : true ≡ false = sym (all l.k l.actor lt) ∙ ap (λ (a : Actor). a.ended) same ∙ l.runs in
          cc) in
          absurd (no_event e enabled)
    ]

  -- ---- where all actors have ended

  module _ (ended : HasEnded c) where
    pub has_end : (trace : Trace) (place : Option Place) (end : Ended) → IsEnd given.plan given.flows given.limit trace place end → HasEnd given n trace place end
    has_end = after_has_end given accepted is.fits events (finished ended)

    abbrev last : ℕ
    last = length c.states.items - 1

    -- the collector has the last code
    collector : (s : ClusterState) × (slice_get c.states.items last ≡ Some s)
    collector = some_at c.states.items last (let some = accepted.codes.actors in let count = is.actors in omega (arith, some, count))

    count_is : (trace : Trace) → n.committed ≡ reactions_of given.plan.kernel trace → length trace ≡ instant_of collector.0.values - 1
    count_is trace committed =
        let s = collector.0 in
        let same : last ≡ length given.plan.codes - 1 = ap (λ m. m - 1) is.actors in
        let at : slice_get n.actors (length given.plan.codes - 1) ≡ Some (actor_of s) =
        ap (λ (xs : List Actor). slice_get xs (length given.plan.codes - 1)) shows.actors ∙ get_map actor_of c.states.items (length given.plan.codes - 1) s (ap (slice_get c.states.items) (sym same) ∙ collector.1) in
        let begun : reactions_of given.plan.kernel trace ≡ reactions_of given.plan.kernel (take (instant_of s.values - 1) reference) = sym committed ∙ on.committed (actor_of s) at in
        let one = length-map trace (λ (instant : Instant). reaction_in given.plan.kernel (seen_at instant)) in
        let two = length-map (take (instant_of s.values - 1) reference) (λ (instant : Instant). reaction_in given.plan.kernel (seen_at instant)) in
        let both : length (reactions_of given.plan.kernel trace) ≡ length (reactions_of given.plan.kernel (take (instant_of s.values - 1) reference)) = ap length begun in
        let three = length-take (instant_of s.values - 1) reference in
        let within = (is.states last s collector.1).state.within in
        let limit = (is.states last s collector.1).limit in
        let e = exact in
        omega (arith, one, two, both, three, within, limit, e)

    pub end_is : (answer : Ended) → answer.instants ≡ instants_of c → answer.cause ≡ cause_of given.plan given.flows n n.word → IsEndOf c answer
    end_is answer instants cause trace place end is_end =
        let has = has_end trace place end is_end in
        let count = count_is trace has.committed in
        let mine : instants_of c ≡ instant_of collector.0.values - 1 = ap instants_by collector.1 in
        let theirs = is_end.instants in
        ended_is answer.instants end.instants answer.cause end.cause (instants ∙ mine ∙ sym count ∙ sym theirs) (cause ∙ has.cause)

-- ---- the text of a run

module _ {S : Type 0} (took : S → List ℕ → S → Type 0) (old new : Core) (same : IsSameRun old new) (before after_it : S) (is : IsCore new) (accepted : IsAccepted new.plan.now) where
  -- events that led on lead from the opening
  module _ (events : List Event) (m : ModelCore) (m_is : m ≡ after_of old events) (led : Led took m old new before after_it) where
    abbrev all : List Event
    all = events ++ led.events

    abbrev behind : ModelCore
    behind = fold (stepped (given_of old)) m led.events

    reached_is : behind ≡ after_of new all
    reached_is = ap (λ z. fold (stepped (given_of old)) z led.events) m_is ∙ sym (fold-append (stepped (given_of old)) _ events led.events) ∙ ap (λ (g : Given). after g all) (sym same)

    pub reached_shows : Shows (after_of new all) new
    reached_shows = subst (λ z. Shows z new) reached_is led.shows

    committed_is : (after_of new all).committed ≡ m.committed ++ led.text.more
    committed_is = ap (λ (z : ModelCore). z.committed) (sym reached_is) ∙ led.text.committed

    kernel_is : new.plan.now.kernel ≡ old.plan.now.kernel
    kernel_is = ap (λ (g : Given). g.plan.kernel) same

    texts : reactions_text old.plan.now.kernel m.committed ++ reactions_text old.plan.now.kernel led.text.more ≡ reactions_text old.plan.now.kernel (after_of new all).committed
    texts = sym (text_append old.plan.now.kernel m.committed led.text.more) ∙ ap (reactions_text old.plan.now.kernel) (sym committed_is)

    pub whole_text : (trace : Trace) → (after_of new all).committed ≡ reactions_of new.plan.now.kernel trace → TookBehind took m old trace before after_it
    whole_text trace committed = record {
      rest = reactions_text old.plan.now.kernel led.text.more;
      joined = texts ∙ ap (reactions_text old.plan.now.kernel) committed ∙ subst (λ k. reactions_text k (reactions_of new.plan.now.kernel trace) ≡ output_text k trace) kernel_is (text_is new.plan.now.kernel accepted.valid trace);
      taken = led.text.taken;
    }

pub took_whole : {S : Type 0} (took : S → List ℕ → S → Type 0) (old new : Core) → IsSameRun old new → (before after_it : S) → IsCore new → IsAccepted new.plan.now
    → HasEnded new → LeadsTo took old new before after_it → TookRest took old before after_it
took_whole took old new same before after_it is accepted ended leads events shows trace place end is_end =
    let led = leads (after_of old events) shows in
    let there = reached_shows took old new same before after_it is accepted events (after_of old events) refl led in
    let is_end_new : IsEnd new.plan.now new.inputs.now new.limit trace place end = subst (λ (g : Given). IsEnd g.plan g.flows g.limit trace place end) (sym same) is_end in
    whole_text took old new same before after_it is accepted events (after_of old events) refl led trace (has_end new is accepted (events ++ led.events) there ended trace place end is_end_new).committed

pub took_part : {S : Type 0} (took : S → List ℕ → S → Type 0) (old new : Core) → IsSameRun old new → (before after_it : S) → IsCore new → IsAccepted new.plan.now
    → LeadsTo (TookPrefix took) old new before after_it → TookRest (TookPrefix took) old before after_it
took_part took old new same before after_it is accepted leads events shows trace place end is_end =
    let led = leads (after_of old events) shows in
    let is_end_new : IsEnd new.plan.now new.inputs.now new.limit trace place end = subst (λ (g : Given). IsEnd g.plan g.flows g.limit trace place end) (sym same) is_end in
    let begins = (after_begins (given_of new) accepted is.fits (events ++ led.events) trace place end is_end_new).0 in
    let kernel = kernel_is (TookPrefix took) old new same before after_it is accepted events (after_of old events) refl led in
    let text : List ℕ = reactions_text old.plan.now.kernel led.text.more in
    let so_far : output_text old.plan.now.kernel trace ≡ reactions_text old.plan.now.kernel (after_of new (events ++ led.events)).committed ++ begins.0 =
    subst (λ k. output_text k trace ≡ reactions_text k (after_of new (events ++ led.events)).committed ++ begins.0) kernel begins.1 in
    record {
      rest = text ++ begins.0;
      joined = sym (append_assoc (reactions_text old.plan.now.kernel (after_of old events).committed) text begins.0)
          ∙ ap (λ xs. xs ++ begins.0) (texts (TookPrefix took) old new same before after_it is accepted events (after_of old events) refl led) ∙ sym so_far;
      taken = TookPrefix-longer took before after_it text begins.0 led.text.taken;
    }
