-- The opening state is on the reference.
use Rattle.sig_schedule_laws.proofs.Common.{◌≡◌, ◌<◌, ◌≤◌, ◌-◌, ℕ, zero, suc, ℤ, true, false, List, [], length, get_or, replicate, take, refl, ap, sym, subst, ◌∙◌, arith, length-replicate, Trace, Actor, code_of, opening_actor, Given, opening, IsActorOn, IsLinkOn, IsOnReference, reactions_of, IsReference, IsAccepted, LinkInfo, repeated}
use Rattle.sig_schedule_laws.proofs.Runnables.{is_runnable}

nothing_there : {A : Type 0} (n k : ℕ) → get_or (replicate n (let none : List A = [] in none)) k [] ≡ []
nothing_there {A} zero k = refl
nothing_there {A} (suc n) zero = refl
nothing_there {A} (suc n) (suc k) = nothing_there n k

module _ (given : Given) (accepted : IsAccepted given.plan) (reference : Trace) (is : IsReference given.plan.kernel given.flows (length reference) reference) (long : 1 ≤ length reference) where
  abbrev first : Actor
  first = opening_actor given.plan.kernel

  one_on : (k : ℕ) → k < length given.plan.codes → IsActorOn given.plan reference (code_of given.plan k) first
  one_on k lt = record {
    from = omega arith;
    within = long;
    step = (is_runnable given.plan accepted).begins k lt;
    registers = λ signal. refl;
    memories = λ signal. refl;
    taken = λ input. refl;
  }

  link_on : (j : ℕ) (link : LinkInfo) (writer reader : Actor) → writer ≡ first → reader ≡ first → IsLinkOn given.plan reference j link writer reader (get_or (opening given.plan).links j [])
  link_on j link writer reader is_writer is_reader =
      subst (λ (w : Actor). IsLinkOn given.plan reference j link w reader (get_or (opening given.plan).links j [])) (sym is_writer)
      (subst (λ (r : Actor). IsLinkOn given.plan reference j link first r (get_or (opening given.plan).links j [])) (sym is_reader) (sym (nothing_there (length given.plan.links) j)))

  pub opening_on : IsOnReference given reference (opening given.plan)
  opening_on = record {
    is = is;
    actors = length-replicate (length given.plan.codes) first;
    links = length-replicate (length given.plan.links) [];
    each = λ k actor at. let there = repeated (length given.plan.codes) k first actor at in subst (λ (a : Actor). IsActorOn given.plan reference (code_of given.plan k) a) (sym there.1) (one_on k there.0);
    ended = λ k actor at ends.
        let there = repeated (length given.plan.codes) k first actor at in
        absurd (let clash : false ≡ true = sym (ap (λ (a : Actor). a.ended) there.1) ∙ ends in cc);
    carried = λ j link writer reader at is_writer is_reader.
        link_on j link writer reader (repeated (length given.plan.codes) link.writer first writer is_writer).1 (repeated (length given.plan.codes) link.reader first reader is_reader).1;
    room = λ j lt. let none : length (get_or (opening given.plan).links j []) ≡ 0 = ap (λ (items : List ℤ). length items) (nothing_there (length given.plan.links) j) in omega (arith, none);
    word = tt;
    committed = λ collector at.
        sym (ap (λ (a : Actor). reactions_of given.plan.kernel (take (a.instant - 1) reference)) (repeated (length given.plan.codes) (length given.plan.codes - 1) first collector at).1);
  }
