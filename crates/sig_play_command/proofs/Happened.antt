-- Events one after another, and what a sink took of them.
use Rattle.sig_play_command.proofs.Common.{◌≡◌, ◌<◌, ◌+◌, ◌++◌, ◌∙◌, ℕ, List, [], ◌∷◌, length, map, take, drop, get_or, sym, ap, subst, append_assoc, map-append, take-append-drop, take_more, Join, more_then, text_append, Happened, IsSameRun, Shows, TookMore, given_of, FileEvent, Kernel, Core as ModelCore, Given, reactions_text, stepped, Event, happens, AllHappened, PartHappened, behind, TookPrefix, TookPrefix-longer, fold-append}
use Rattle.sig_interleaving.specs.declared.state.Core.{Core}
use Rattle.sig_play_command.proofs.StaysCommitted.{grows}

-- ---- the events of a file

-- one more of them
pub one_more : (es : List FileEvent) (i : ℕ) (d : FileEvent) → i < length es → map happens (take i es) ++ happens (get_or es i d) ∷ [] ≡ map happens (take (i + 1) es)
one_more es i d lt = sym (map-append happens (take i es) (get_or es i d ∷ [])) ∙ ap (map happens) (sym (take_more es i d lt))

-- and those behind it
pub with_rest : (es : List FileEvent) (i : ℕ) → map happens (take i es) ++ map happens (drop i es) ≡ map happens es
with_rest es i = sym (map-append happens (take i es) (drop i es)) ∙ ap (map happens) (take-append-drop i es)

-- ---- what happened

-- one more event
pub happened_more : {S : Type 0} (took also : S → List ℕ → S → Type 0) → Join took also → (old mid new : Core) (first middle last : S) → IsSameRun old mid
    → (events : List Event) (e : Event) → AllHappened took events old mid first middle → Happened also e mid new middle last → AllHappened also (events ++ e ∷ []) old new first last
happened_more {S} took also join old mid new first middle last same events e all next m shows =
    let before = all m shows in
    let there : ModelCore = behind (given_of old) m events in
    let on = next there before.0 in
    let end_is : stepped (given_of mid) there e ≡ behind (given_of old) m (events ++ e ∷ []) =
    ap (λ (g : Given). stepped g there e) same ∙ sym (fold-append (stepped (given_of old)) m events (e ∷ [])) in
    let kernel : mid.plan.now.kernel ≡ old.plan.now.kernel = ap (λ (g : Given). g.plan.kernel) same in (
      subst (λ n. Shows n new) end_is on.0,
      subst (λ n. TookMore also old.plan.now.kernel m n first last) end_is
          (more_then took also join old.plan.now.kernel m there (stepped (given_of mid) there e) first middle last before.1
          (subst (λ k. TookMore also k there (stepped (given_of mid) there e) middle last) kernel on.1)),
    )

-- a prefix of what some events commit is one of what they commit with others behind them
pub part_longer : {S : Type 0} (took : S → List ℕ → S → Type 0) (old new : Core) (first last : S) (events rest : List Event)
    → AllHappened (TookPrefix took) events old new first last → PartHappened (TookPrefix took) (events ++ rest) old first last
part_longer took old new first last events rest part m shows =
    let so_far = (part m shows).1 in
    let n : ModelCore = behind (given_of old) m events in
    let more = grows (given_of old) rest n in
    let kernel : Kernel = old.plan.now.kernel in
    subst (λ k. TookMore (TookPrefix took) old.plan.now.kernel m k first last) (sym (fold-append (stepped (given_of old)) m events rest))
    (record {
      more = so_far.more ++ more.0;
      committed = more.1 ∙ ap (λ rs. rs ++ more.0) so_far.committed ∙ append_assoc m.committed so_far.more more.0;
      taken = subst (λ bytes. TookPrefix took first bytes last) (sym (text_append kernel so_far.more more.0))
          (TookPrefix-longer took first last (reactions_text kernel so_far.more) (reactions_text kernel more.0) so_far.taken);
    })

-- the next event of a file
pub next_happened : {S : Type 0} (took also : S → List ℕ → S → Type 0) → Join took also → (old mid new : Core) (first middle last : S) → IsSameRun old mid
    → (es : List FileEvent) (i : ℕ) (d : FileEvent) → i < length es → (e : Event) → e ≡ happens (get_or es i d)
    → AllHappened took (map happens (take i es)) old mid first middle → Happened also e mid new middle last → AllHappened also (map happens (take (i + 1) es)) old new first last
next_happened took also join old mid new first middle last same es i d lt e is all next =
    subst (λ (events : List Event). AllHappened also events old new first last) (one_more es i d lt)
    (happened_more took also join old mid new first middle last same (map happens (take i es)) (happens (get_or es i d)) all
    (subst (λ (f : Event). Happened also f mid new middle last) is next))

-- a prefix of what the first events of a file commit
pub first_part : {S : Type 0} (took : S → List ℕ → S → Type 0) (old new : Core) (first last : S) (es : List FileEvent) (i : ℕ)
    → AllHappened (TookPrefix took) (map happens (take i es)) old new first last → PartHappened (TookPrefix took) (map happens es) old first last
first_part took old new first last es i part =
    subst (λ (events : List Event). PartHappened (TookPrefix took) events old first last) (with_rest es i)
    (part_longer took old new first last (map happens (take i es)) (map happens (drop i es)) part)
