-- Events one after another, to the end of a run.
use Rattle.sig_interleaving.proofs.Common.{◌≡◌, ◌++◌, ◌∙◌, ℕ, Bool, true, false, List, [], ◌∷◌, sym, ap, subst, append_assoc, fold, bounded_behind, AllFirst, Happened, IsReached, IsSameRun, Shows, TellsChange, TookMore, given_of, LeadsTo, LeadsWithin, RestBelow, SeesNothing, after_of, Core, IsAccepted, outputs_of, seen_lines, Kernel, ModelCore, Given, after, opening, reactions_text, stepped, Reaction, Event, Act, fold-append, flat_map-append}
use Rattle.sig_interleaving.proofs.Firsts.{ComesFirst, act_first, first_behind, first_change}

pub text_append : (kernel : Kernel) (xs ys : List Reaction) → reactions_text kernel (xs ++ ys) ≡ reactions_text kernel xs ++ reactions_text kernel ys
text_append kernel xs ys = flat_map-append (λ (reaction : Reaction). seen_lines (outputs_of kernel) reaction) xs ys

-- takings that are one
abbrev pub Join : {S : Type 0} → (S → List ℕ → S → Type 0) → (S → List ℕ → S → Type 0) → Type 0
Join {S} took also = (first middle last : S) (bytes more : List ℕ) → took first bytes middle → also middle more last → also first (bytes ++ more) last

pub more_then : {S : Type 0} (took also : S → List ℕ → S → Type 0) → Join took also → (kernel : Kernel) (l m n : ModelCore) (first middle last : S)
    → TookMore took kernel l m first middle → TookMore also kernel m n middle last → TookMore also kernel l n first last
more_then took also join kernel l m n first middle last one two = record {
  more = one.more ++ two.more;
  committed = two.committed ∙ ap (λ xs. xs ++ two.more) one.committed ∙ append_assoc l.committed one.more two.more;
  taken = subst (λ bytes. also first bytes last) (sym (text_append kernel one.more two.more))
      (join first middle last (reactions_text kernel one.more) (reactions_text kernel two.more) one.taken two.taken);
}

-- one event that is the first leads to the next state
pub event_leads : {S : Type 0} (took : S → List ℕ → S → Type 0) (e : Event) (old new : Core) (before after : S) → ComesFirst old e → Happened took e old new before after → LeadsTo took old new before after
event_leads took e old new before after first happened m shows = record {
  events = e ∷ [];
  first = (first m shows, tt);
  shows = (happened m shows).0;
  text = (happened m shows).1;
}

-- one that changes nothing leads nowhere
pub still_leads : {S : Type 0} (took : S → List ℕ → S → Type 0) (e : Event) (old new : Core) (before after : S) → TellsChange old e false → Happened took e old new before after → LeadsTo took old new before after
still_leads took e old new before after tells happened m shows = record {
  events = [];
  first = tt;
  shows = subst (λ n. Shows n new) (tells m shows) (happened m shows).0;
  text = subst (λ n. TookMore took old.plan.now.kernel m n before after) (tells m shows) (happened m shows).1;
}

-- a step of an actor, where lesser ones rest and its look changes nothing
pub act_leads : {S : Type 0} (took : S → List ℕ → S → Type 0) (k : ℕ) (old new : Core) (before after : S) → RestBelow k old → SeesNothing k old
    → (changed : Bool) → TellsChange old (Act k) changed → Happened took (Act k) old new before after → LeadsTo took old new before after
act_leads took k old new before after rest sees true tells happened = event_leads took (Act k) old new before after (act_first old k rest sees tells) happened
act_leads took k old new before after rest sees false tells happened = still_leads took (Act k) old new before after tells happened

-- events that lead on
pub leads_then : {S : Type 0} (took also : S → List ℕ → S → Type 0) → Join took also → (old mid new : Core) (first middle last : S) → IsSameRun old mid
    → LeadsTo took old mid first middle → LeadsTo also mid new middle last → LeadsTo also old new first last
leads_then {S} took also join old mid new first middle last same one two m shows =
    let led = one m shows in
    let there : ModelCore = fold (stepped (given_of old)) m led.events in
    let on = two there led.shows in
    let end_is : fold (stepped (given_of mid)) there on.events ≡ fold (stepped (given_of old)) m (led.events ++ on.events) =
    ap (λ (g : Given). fold (stepped g) there on.events) same ∙ sym (fold-append (stepped (given_of old)) m led.events on.events) in
    let kernel : mid.plan.now.kernel ≡ old.plan.now.kernel = ap (λ (g : Given). g.plan.kernel) same in
    record {
      events = led.events ++ on.events;
      first = first_behind (given_of old) led.events on.events m led.first (subst (λ (g : Given). AllFirst g there on.events) same on.first);
      shows = subst (λ n. Shows n new) end_is on.shows;
      text = subst (λ n. TookMore also old.plan.now.kernel m n first last) end_is
          (more_then took also join old.plan.now.kernel m there (fold (stepped (given_of mid)) there on.events) first middle last led.text
          (subst (λ k. TookMore also k there (fold (stepped (given_of mid)) there on.events) middle last) kernel on.text));
    }

-- nothing happened

-- a core that was reached leads to one that is
pub leads_reached : {S : Type 0} (took : S → List ℕ → S → Type 0) (old new : Core) (first last : S) → IsSameRun old new → LeadsTo took old new first last → IsReached old → IsReached new
leads_reached took old new first last same leads (events, shows) =
    let led = leads (after_of old events) shows in
    let is : fold (stepped (given_of old)) (after_of old events) led.events ≡ after_of new (events ++ led.events) =
    sym (fold-append (stepped (given_of old)) (opening old.plan.now) events led.events) ∙ ap (λ (g : Given). after g (events ++ led.events)) (sym same) in
    (events ++ led.events, subst (λ n. Shows n new) is led.shows)

-- behind an event of a core that was reached so is the next one
pub event_reached : {S : Type 0} (took : S → List ℕ → S → Type 0) (e : Event) (old new : Core) (before after_it : S) → IsSameRun old new → Happened took e old new before after_it → IsReached old → IsReached new
event_reached took e old new before after_it same happened (events, shows) =
    let is : stepped (given_of old) (after_of old events) e ≡ after_of new (events ++ e ∷ []) =
    sym (fold-append (stepped (given_of old)) (opening old.plan.now) events (e ∷ [])) ∙ ap (λ (g : Given). after g (events ++ e ∷ [])) (sym same) in
    (events ++ e ∷ [], subst (λ n. Shows n new) is (happened (after_of old events) shows).0)

-- from a core that was reached no more events lead on than there are steps, times the limit, and actors
pub leads_within : {S : Type 0} (took : S → List ℕ → S → Type 0) (old new : Core) (first last : S) → IsAccepted old.plan.now → IsReached old → LeadsTo took old new first last → LeadsWithin took old new first last
leads_within took old new first last accepted (before, shown) leads m shows =
    let led = leads m shows in
    let actors : m.actors ≡ (after_of old before).actors = shows.actors ∙ sym shown.actors in
    (led, bounded_behind (given_of old) accepted before m actors led.events (first_change (given_of old) led.events m led.first))
