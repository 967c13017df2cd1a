-- A state in which one actor, the items of links, the word or what is committed changed, is on the reference.
use Rattle.sig_schedule_laws.proofs.Common.{◌≡◌, ◌<◌, ◌≤◌, ◌-◌, ◌++◌, inl, inr, ℕ, ℤ, true, List, [], length, get_or, set, take, ap, sym, subst, ◌∙◌, arith, Option, Some, slice_get, length-set, Trace, Place, Actor, code_of, Core, Given, HasReason, IsActorOn, IsLinkOn, IsOnReference, IsWordOn, Yield, reactions_of, yielded_before, Reaction, CodeView, LinkInfo, cases_eq}
use Rattle.sig_schedule_laws.proofs.Lists.{put, put_elsewhere, put_here, set_get}

module _ (given : Given) (reference : Trace) (core : Core) (on : IsOnReference given reference core) (k : ℕ) (actor : Actor) (at_k : slice_get core.actors k ≡ Some actor) where
  abbrev last : ℕ
  last = length given.plan.codes - 1

  -- what the steps of the actor m give before the next step of an actor
  abbrev pub yields : Yield → ℕ → Actor → List ℤ
  yields yield m a = yielded_before given.plan (code_of given.plan m) yield reference a.instant a.step

  pub record IsChange (next : Actor) (links : List (List ℤ)) (word : Option Place) (committed : List Reaction) : Type 0 where
    pub next_on : IsActorOn given.plan reference (code_of given.plan k) next
    pub reason : next.ended ≡ true → HasReason given reference word (code_of given.plan k) next
    pub reasons : (code : CodeView) (a : Actor) → HasReason given reference core.word code a → HasReason given reference word code a
    pub count : length links ≡ length core.links
    pub carried : (j : ℕ) (link : LinkInfo) (writer reader : Actor) → slice_get given.plan.links j ≡ Some link → slice_get core.actors link.writer ≡ Some writer → slice_get core.actors link.reader ≡ Some reader
        → IsLinkOn given.plan reference j link (put k next link.writer writer) (put k next link.reader reader) (get_or links j [])
    pub room : (j : ℕ) → j < length core.links → length (get_or links j []) ≤ given.capacity
    pub word_on : IsWordOn given reference word
    pub commits : (collector : Actor) → slice_get core.actors last ≡ Some collector → committed ≡ reactions_of given.plan.kernel (take ((put k next last collector).instant - 1) reference)

  pub changed_on : (next : Actor) (links : List (List ℤ)) (word : Option Place) (committed : List Reaction) → IsChange next links word committed
      → IsOnReference given reference (record { actors = set core.actors k next; links = links; word = word; committed = committed })
  changed_on next links word committed change = record {
    is = on.is;
    actors = length-set core.actors k next ∙ on.actors;
    links = change.count ∙ on.links;
    each = λ m a at. let s = set_get core.actors k next m a at in subst (IsActorOn given.plan reference (code_of given.plan m)) (sym s.2) (one m s.0 s.1);
    ended = λ m a at. let s = set_get core.actors k next m a at in
        subst (λ (b : Actor). b.ended ≡ true → HasReason given reference word (code_of given.plan m) b) (sym s.2) (ended m s.0 s.1);
    carried = λ j link w r at at_w at_r.
        let sw = set_get core.actors k next link.writer w at_w in
        let sr = set_get core.actors k next link.reader r at_r in
        subst (λ (a : Actor). IsLinkOn given.plan reference j link a r (get_or links j [])) (sym sw.2)
        (subst (λ (a : Actor). IsLinkOn given.plan reference j link (put k next link.writer sw.0) a (get_or links j [])) (sym sr.2) (change.carried j link sw.0 sr.0 at sw.1 sr.1));
    room = λ j lt. let count = change.count in change.room j (omega (arith, lt, count));
    word = change.word_on;
    committed = λ collector at.
        let s = set_get core.actors k next last collector at in
        change.commits s.0 s.1 ∙ ap (λ (a : Actor). reactions_of given.plan.kernel (take (a.instant - 1) reference)) (sym s.2);
  } where
    put_cases : (P : ℕ → Actor → Type 0) (m : ℕ) (old : Actor) → P k next → P m old → P m (put k next m old)
    put_cases P m old here there = elim (cases_eq m k) [
      | inl same ↦ subst (P m) (sym (put_here k next m old same)) (subst (λ n. P n next) (sym same) here)
      | inr apart ↦ subst (P m) (sym (put_elsewhere k next m old apart)) there
    ]

    one : (m : ℕ) (old : Actor) → slice_get core.actors m ≡ Some old → IsActorOn given.plan reference (code_of given.plan m) (put k next m old)
    one m old at = put_cases (λ n a. IsActorOn given.plan reference (code_of given.plan n) a) m old change.next_on (on.each m old at)

    ended : (m : ℕ) (old : Actor) → slice_get core.actors m ≡ Some old → (put k next m old).ended ≡ true → HasReason given reference word (code_of given.plan m) (put k next m old)
    ended m old at = put_cases (λ n a. a.ended ≡ true → HasReason given reference word (code_of given.plan n) a) m old change.reason (λ is. change.reasons (code_of given.plan m) old (on.ended m old at is))

  -- ---- what is given before the next step

  pub same_actor : (m : ℕ) (old : Actor) → slice_get core.actors m ≡ Some old → m ≡ k → old ≡ actor
  same_actor m old at same = let e : Some old ≡ Some actor = sym at ∙ ap (slice_get core.actors) same ∙ at_k in cc

  -- it grows for the actor that goes on
  pub yields_grow : (next : Actor) (yield : Yield) (more : List ℤ) → yields yield k next ≡ yields yield k actor ++ more → (m : ℕ) (old : Actor) → slice_get core.actors m ≡ Some old → m ≡ k
      → yields yield m (put k next m old) ≡ yields yield m old ++ more
  yields_grow next yield more grown m old at same =
      ap (yields yield m) (put_here k next m old same) ∙ ap (λ n. yields yield n next) same ∙ grown
      ∙ ap (λ n. yields yield n actor ++ more) (sym same) ∙ ap (λ (a : Actor). yields yield m a ++ more) (sym (same_actor m old at same))

  -- and stays for all others, or where the step gives nothing
  pub yields_stay : (next : Actor) (yield : Yield) → yields yield k next ≡ yields yield k actor → (m : ℕ) (old : Actor) → slice_get core.actors m ≡ Some old
      → yields yield m (put k next m old) ≡ yields yield m old
  yields_stay next yield stays m old at = elim (cases_eq m k) [
    | inl same ↦
        ap (yields yield m) (put_here k next m old same) ∙ ap (λ n. yields yield n next) same ∙ stays
        ∙ ap (λ n. yields yield n actor) (sym same) ∙ ap (yields yield m) (sym (same_actor m old at same))
    | inr apart ↦ ap (yields yield m) (put_elsewhere k next m old apart)
  ]

  -- what is committed, where the collector's instant stays
  pub commits_stay : (next : Actor) → (k ≡ last → next.instant ≡ actor.instant) → (collector : Actor) → slice_get core.actors last ≡ Some collector
      → core.committed ≡ reactions_of given.plan.kernel (take ((put k next last collector).instant - 1) reference)
  commits_stay next stays collector at =
      on.committed collector at ∙ ap (λ n. reactions_of given.plan.kernel (take (n - 1) reference)) (elim (cases_eq last k) [
        | inl same ↦ ap (λ (a : Actor). a.instant) (same_actor last collector at same) ∙ sym (stays (sym same)) ∙ ap (λ (a : Actor). a.instant) (sym (put_here k next last collector same))
        | inr apart ↦ ap (λ (a : Actor). a.instant) (sym (put_elsewhere k next last collector apart))
      ])
