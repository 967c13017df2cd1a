-- The actors do all their own steps, one at a time.
use Rattle.sig_settling_laws.proofs.Common.{◌≡◌, ◌<◌, ◌≤◌, ◌+◌, ◌++◌, ◌⊎◌, inl, inr, ℕ, zero, suc, ℤ, Bool, true, false, cond, eq-eqb, ne_eqb, sum_by-cons, ◌==◌, List, [], ◌∷◌, length, get_or, replicate, refl, ap, sym, subst, ◌∙◌, arith, Some, fold, slice_get, cases_lt, append_cancel_left, ext_get_or, length-replicate, Trace, AreFlowsFor, fitting, some_reference, Place, Actor, code_of, opening_actor, with_at, AllChange, IsEnabled, Core, Given, after, opening, stepped, IsOnReference, IsReference, Act, CodeView, IsAccepted, stepped_on, opening_on, coded, NotAfter, not_after_onward, LeadBy, Own, opening_own, ActInOrder, AreBalanced, HasActed, acts, collector_of, times_among, repeated, some_at, cases_eq}
use Rattle.sig_settling_laws.proofs.Amid.{IsAmid, amid_next, at_here, at_other, ends_there}
use Rattle.sig_settling_laws.proofs.Failures.{least_same}
use Rattle.sig_settling_laws.proofs.NextOwnStep.{CanAct, lead, rank, runs, some_acts}
use Rattle.sig_settling_laws.proofs.Least.{LeastLeft, some_left}
use Rattle.sig_settling_laws.proofs.RanksOfSteps.{left_runs, own_step_moves, rank_rises}
use Rattle.sig_settling_laws.proofs.OrderOfSteps.{InOrderFrom, NoneBelow, in_order, rank_of}
use Rattle.sig_settling_laws.proofs.Tells.{turn_tells}

abbrev one_if : Bool → ℕ
one_if b = cond b 1 0

-- how many steps are left of so many actors
abbrev pub total : (ℕ → ℕ) → ℕ → ℕ
total more zero = 0
total more (suc n) = total more n + more n

total_same : (f g : ℕ → ℕ) (n : ℕ) → ((k : ℕ) → k < n → f k ≡ g k) → total f n ≡ total g n
total_same f g zero same = refl
total_same f g (suc n) same =
    let rest = total_same f g n (λ k lt. same k (omega (arith, lt))) in
    let last = same n (omega arith) in
    omega (arith, rest, last)

-- one step less is left
total_less : (k left : ℕ) (more : ℕ → ℕ) (g : ℕ → ℕ) (n : ℕ) → k < n → more k ≡ suc left → g k ≡ left → ((m : ℕ) → ((m ≡ k) → ⊥) → g m ≡ more m) → total more n ≡ suc (total g n)
total_less k left more g zero lt is here others = absurd (omega (arith, lt))
total_less k left more g (suc n) lt is here others = elim (cases_eq n k) [
  | inl same ↦
      let rest = total_same more g n (λ m before. sym (others m (λ e. omega (arith, e, same, before)))) in
      let old : more n ≡ suc left = ap more same ∙ is in
      let new : g n ≡ left = ap g same ∙ here in
      omega (arith, rest, old, new)
  | inr apart ↦
      let rest = total_less k left more g n (omega (arith, lt, apart)) is here others in
      let last = others n apart in
      omega (arith, rest, last)
]

module _ (given : Given) (accepted : IsAccepted given.plan) (fit : AreFlowsFor given.plan.kernel given.flows) (reference : Trace) (long : given.limit + 1 ≤ length reference) (room : 1 ≤ given.capacity)
    (final : ℕ → Own) (links : List (List ℤ)) (balanced : AreBalanced given final links) where
  -- no actor that has a step left is of a rank below this one
  abbrev NoneLower : Place → (ℕ → Own) → (ℕ → ℕ) → Type 0
  NoneLower low start left = (m : ℕ) → m < length given.plan.codes → ((left m ≡ 0) → ⊥) → NotAfter low (rank_of (code_of given.plan m) (start m).actor)

  -- all have done theirs, behind some steps
  pub record HaveDone (core : Core) (start : ℕ → Own) (left : ℕ → ℕ) : Type 0 where
    pub numbers : List ℕ
    -- in order, and of ranks that are not below those at which the actors stood that had steps left
    pub order : InOrderFrom given core numbers
    pub below : (low : Place) → NoneLower low start left → NoneBelow given low core numbers
    -- each changes the state, and each actor does as many as it had left
    pub change : AllChange given core (acts numbers)
    pub once : (k : ℕ) → k < length given.plan.codes → times_among k numbers ≡ left k
    pub now : ℕ → Own
    pub more : ℕ → ℕ
    pub amid : IsAmid given final (fold (stepped given) core (acts numbers)) now more
    pub on : IsOnReference given reference (fold (stepped given) core (acts numbers))
    pub all : (k : ℕ) → k < length given.plan.codes → more k ≡ 0

  module _ (core : Core) (on : IsOnReference given reference core) (now : ℕ → Own) (more : ℕ → ℕ) (amid : IsAmid given final core now more)
      (can : CanAct given accepted fit reference long room final links balanced core on now more amid) where
    abbrev path : LeadBy given can.k (suc can.left) (now can.k) (final can.k)
    path = lead given accepted fit reference long room final links balanced core on now more amid can.k can.lt can.left can.is

    abbrev running : (now can.k).actor.ended ≡ false
    running = runs given accepted fit reference long room final links balanced core on now more amid can.k can.lt can.left can.is

    abbrev now_later : ℕ → Own
    now_later = with_at can.k path.0 now

    abbrev more_later : ℕ → ℕ
    more_later = with_at can.k can.left more

    abbrev next : Core
    next = stepped given core (Act can.k)

    fewer : total more (length given.plan.codes) ≡ suc (total more_later (length given.plan.codes))
    fewer = total_less can.k can.left more more_later (length given.plan.codes) can.lt can.is (at_here can.k can.left more can.k refl) (at_other can.k can.left more)

    next_on : IsOnReference given reference next
    next_on = stepped_on given accepted fit reference long core on (Act can.k)

    next_amid : IsAmid given final next now_later more_later
    next_amid = amid_next given accepted fit reference long final links balanced core on now more amid can.k can.lt path.0 can.left path.1 path.2 running
        (turn_tells given accepted fit reference long core on can.k (now can.k).actor (amid.actors can.k can.lt) running) can.can

  module _ (core : Core) (on : IsOnReference given reference core) (now : ℕ → Own) (more : ℕ → ℕ) (amid : IsAmid given final core now more)
      (can : CanAct given accepted fit reference long room final links balanced core on now more amid) where
    abbrev code : CodeView
    code = code_of given.plan can.k

    still_left : more can.k ≡ 0 → ⊥
    still_left none = let clash : suc can.left ≡ 0 = sym can.is ∙ none in omega (arith, clash)

    is_mine : (actor : Actor) → slice_get core.actors can.k ≡ Some actor → (now can.k).actor ≡ actor
    is_mine actor at = let e : Some (now can.k).actor ≡ Some actor = sym (amid.actors can.k can.lt) ∙ at in cc

    acts_first : (actor : Actor) → slice_get core.actors can.k ≡ Some actor → NoneLower (rank_of code actor) now more
    acts_first actor at = λ m lt some. subst (λ (a : Actor). NotAfter (rank_of code a) (rank_of (code_of given.plan m) (now m).actor)) (is_mine actor at) (can.first m lt some)

    acts_no_lower : (low : Place) → NoneLower low now more → (actor : Actor) → slice_get core.actors can.k ≡ Some actor → NotAfter low (rank_of code actor)
    acts_no_lower low all actor at = subst (λ (a : Actor). NotAfter low (rank_of code a)) (is_mine actor at) (all can.k can.lt still_left)

    at_next : slice_get (next core on now more amid can).actors can.k ≡ Some (path core on now more amid can).0.actor
    at_next = (next_amid core on now more amid can).actors can.k can.lt ∙ ap (λ (o : Own). Some o.actor) (at_here can.k (path core on now more amid can).0 now can.k refl)

    -- the state is another one
    changes : IsEnabled given core (Act can.k)
    changes same = by (path core on now more amid can).0.actor.ended refl where
      stays : (now can.k).actor ≡ (path core on now more amid can).0.actor
      stays =
          let e : Some (now can.k).actor ≡ Some (path core on now more amid can).0.actor =
          sym (amid.actors can.k can.lt) ∙ sym (ap (λ (c : Core). slice_get c.actors can.k) same) ∙ at_next in
          cc

      by : (b : Bool) → (path core on now more amid can).0.actor.ended ≡ b → ⊥
      by true ended = let clash : false ≡ true = sym (running core on now more amid can) ∙ ap (λ (a : Actor). a.ended) stays ∙ ended in cc
      by false runs_on = elim (own_step_moves given can.k (now can.k) (path core on now more amid can).0 (path core on now more amid can).1 runs_on) [
        | inl both ↦ let step = ap (λ (a : Actor). a.step) stays in let next_step = both.1 in omega (arith, step, next_step)
        | inr next_instant ↦ let instant = ap (λ (a : Actor). a.instant) stays in omega (arith, instant, next_instant)
      ]

    -- each step is done once
    once_more : (numbers : List ℕ) → ((m : ℕ) → m < length given.plan.codes → times_among m numbers ≡ more_later core on now more amid can m)
        → (m : ℕ) → m < length given.plan.codes → times_among m (can.k ∷ numbers) ≡ more m
    once_more numbers rest m lt =
        let first = sum_by-cons (λ (n : ℕ). one_if (n == m)) can.k numbers in
        let others = rest m lt in
        elim (cases_eq m can.k) [
          | inl same ↦
              let one : one_if (can.k == m) ≡ 1 = ap one_if (eq-eqb can.k m (sym same)) in
              let here : more_later core on now more amid can m ≡ can.left = at_here can.k can.left more m same in
              let had : more m ≡ suc can.left = ap more same ∙ can.is in
              omega (arith, first, others, one, here, had)
          | inr apart ↦
              let none : one_if (can.k == m) ≡ 0 = ap one_if (ne_eqb can.k m (λ e. apart (sym e))) in
              let there : more_later core on now more amid can m ≡ more m = at_other can.k can.left more m apart in
              omega (arith, first, others, none, there)
        ]

    -- its own rank does not fall
    mine_rises : ((can.left ≡ 0) → ⊥) → NotAfter (rank_of code (now can.k).actor) (rank_of code (path core on now more amid can).0.actor)
    mine_rises some =
        let a = (now can.k).actor in
        let b = (path core on now more amid can).0.actor in
        rank_rises given.plan accepted can.k code (coded given accepted fit reference core on can.k a (amid.actors can.k can.lt)) a b
        (on.each can.k a (amid.actors can.k can.lt)).step ((next_on core on now more amid can).each can.k b at_next).step
        (own_step_moves given can.k (now can.k) (path core on now more amid can).0 (path core on now more amid can).1
        (left_runs given can.k can.left (path core on now more amid can).0 (final can.k) (path core on now more amid can).2 some))

    lower_later : (low : Place) → NoneLower low now more → NoneLower low (now_later core on now more amid can) (more_later core on now more amid can)
    lower_later low all = λ m lt some. elim (cases_eq m can.k) [
      | inl same ↦
          subst (λ (o : Own). NotAfter low (rank_of (code_of given.plan m) o.actor)) (sym (at_here can.k (path core on now more amid can).0 now m same))
          (subst (λ i. NotAfter low (rank_of (code_of given.plan i) (path core on now more amid can).0.actor)) (sym same)
          (not_after_onward low (rank_of code (now can.k).actor) (rank_of code (path core on now more amid can).0.actor) (all can.k can.lt still_left)
          (mine_rises (λ none. some (at_here can.k can.left more m same ∙ none)))))
      | inr apart ↦
          subst (λ (o : Own). NotAfter low (rank_of (code_of given.plan m) o.actor)) (sym (at_other can.k (path core on now more amid can).0 now m apart))
          (all m lt (λ none. some (at_other can.k can.left more m apart ∙ none)))
    ]

  abbrev some : (core : Core) (on : IsOnReference given reference core) (now : ℕ → Own) (more : ℕ → ℕ) (amid : IsAmid given final core now more)
      → LeastLeft (rank given accepted fit reference long room final links balanced core on now more amid) more (length given.plan.codes) → CanAct given accepted fit reference long room final links balanced core on now more amid
  some core on now more amid least = some_acts given accepted fit reference long room final links balanced core on now more amid least

  pub all_act : (steps : ℕ) (core : Core) (on : IsOnReference given reference core) (now : ℕ → Own) (more : ℕ → ℕ) → IsAmid given final core now more → total more (length given.plan.codes) ≡ steps → HaveDone core now more
  all_act zero core on now more amid none = elim (some_left (rank given accepted fit reference long room final links balanced core on now more amid) more (length given.plan.codes)) [
    | inl all ↦ record { numbers = []; order = tt; below = λ low all. tt; change = tt; once = λ k lt. sym (all k lt); now = now; more = more; amid = amid; on = on; all = all }
    | inr least ↦ absurd (let f = fewer core on now more amid (some core on now more amid least) in omega (arith, none, f))
  ]
  all_act (suc n) core on now more amid count = elim (some_left (rank given accepted fit reference long room final links balanced core on now more amid) more (length given.plan.codes)) [
    | inl all ↦ record { numbers = []; order = tt; below = λ low all. tt; change = tt; once = λ k lt. sym (all k lt); now = now; more = more; amid = amid; on = on; all = all }
    | inr least ↦
        let can = some core on now more amid least in
        let done = all_act n (next core on now more amid can) (next_on core on now more amid can) (now_later core on now more amid can) (more_later core on now more amid can) (next_amid core on now more amid can)
        (let f = fewer core on now more amid can in omega (arith, count, f)) in
        record {
          numbers = can.k ∷ done.numbers;
          order = (
            λ actor at. done.below (rank_of (code_of given.plan can.k) actor)
                (lower_later core on now more amid can (rank_of (code_of given.plan can.k) actor) (acts_first core on now more amid can actor at)),
            done.order,
          );
          below = λ low all. (λ actor at. acts_no_lower core on now more amid can low all actor at, done.below low (lower_later core on now more amid can low all));
          change = (changes core on now more amid can, done.change);
          once = once_more core on now more amid can done.numbers done.once;
          now = done.now;
          more = done.more;
          amid = done.amid;
          on = done.on;
          all = done.all;
        }
  ]

  -- ---- from the opening

  -- how many own steps an actor does
  abbrev steps_by : (k : ℕ) → (k < length given.plan.codes) ⊎ (length given.plan.codes ≤ k) → ℕ
  steps_by k (inl lt) = (balanced.each k lt).0
  steps_by k (inr ge) = 0

  abbrev steps_of : ℕ → ℕ
  steps_of k = steps_by k (cases_lt k (length given.plan.codes))

  lead_by : (k : ℕ) (side : (k < length given.plan.codes) ⊎ (length given.plan.codes ≤ k)) → k < length given.plan.codes → LeadBy given k (steps_by k side) (opening_own given.plan.kernel) (final k)
  lead_by k (inl there) lt = (balanced.each k there).1
  lead_by k (inr ge) lt = absurd (omega (arith, lt, ge))

  no_items : (n j : ℕ) → get_or (replicate n (let none : List ℤ = [] in none)) j [] ≡ []
  no_items (suc n) (suc j) = no_items n j
  no_items _ _ = refl

  opening_there : (k : ℕ) → k < length given.plan.codes → slice_get (opening given.plan).actors k ≡ Some (opening_actor given.plan.kernel)
  opening_there k lt =
      let found = some_at (replicate (length given.plan.codes) (opening_actor given.plan.kernel)) k (omega (arith, lt, length-replicate (length given.plan.codes) (opening_actor given.plan.kernel))) in
      found.1 ∙ ap Some (repeated (length given.plan.codes) k (opening_actor given.plan.kernel) found.0 found.1).1

  opening_amid : IsAmid given final (opening given.plan) (λ k. opening_own given.plan.kernel) steps_of
  opening_amid = record {
    actors = opening_there;
    lead = λ k lt. lead_by k (cases_lt k (length given.plan.codes)) lt;
    items = λ j link at. sym (no_items (length given.plan.links) j);
    word = λ k lt. refl;
    quiet = λ k lt going. refl;
    committed = refl;
  }

  -- ---- where all have done their steps

  module _ (core : Core) (on : IsOnReference given reference core) (now : ℕ → Own) (more : ℕ → ℕ) (amid : IsAmid given final core now more) (all : (k : ℕ) → k < length given.plan.codes → more k ≡ 0) where
    done : (k : ℕ) → k < length given.plan.codes → now k ≡ final k
    done k lt = subst (λ n. LeadBy given k n (now k) (final k)) (all k lt) (amid.lead k lt)

    same_link : (j : ℕ) → j < length core.links → get_or core.links j [] ≡ get_or links j []
    same_link j lt =
        let count_links = on.links in
        let link = some_at given.plan.links j (omega (arith, lt, count_links)) in
        let there = ends_there given accepted fit reference long final links balanced core on now more amid j link.0 link.1 in
        append_cancel_left ((final link.0.reader).taken j) (get_or core.links j []) (get_or links j [])
        (ap (λ (o : Own). o.taken j ++ get_or core.links j []) (sym (done link.0.reader there.1)) ∙ sym (amid.items j link.0 link.1)
        ∙ ap (λ (o : Own). o.sent j) (done link.0.writer there.0) ∙ balanced.balance j link.0 link.1)

    acted_all : HasActed given final links core
    acted_all = record {
      actors = λ k lt. amid.actors k lt ∙ ap (λ (o : Own). Some o.actor) (done k lt);
      items = ext_get_or [] core.links links (let a = on.links in let b = balanced.count in omega (arith, a, b)) same_link;
      word = least_same (length given.plan.codes) (λ k. (now k).failed) (λ k. (final k).failed) core.word (λ k lt. ap (λ (o : Own). o.failed) (sym (done k lt))) amid.word;
      committed = amid.committed ∙ ap (λ (o : Own). o.committed) (done (collector_of given) (let actors = accepted.codes.actors in omega (arith, actors)));
    }

  pub acted : IsReference given.plan.kernel given.flows (length reference) reference → (numbers : List ℕ) × ActInOrder given final links numbers × IsOnReference given reference (after given (acts numbers))
  acted is =
      let opened = opening_on given accepted reference is (omega (arith, long)) in
      let end = all_act (total steps_of (length given.plan.codes)) (opening given.plan) opened (λ k. opening_own given.plan.kernel) steps_of opening_amid refl in (
        end.numbers,
        record {
          order = in_order given end.numbers end.order;
          once = λ k lt. subst (λ n. LeadBy given k n (opening_own given.plan.kernel) (final k)) (sym (end.once k lt)) (lead_by k (cases_lt k (length given.plan.codes)) lt);
          change = end.change;
          come = acted_all (fold (stepped given) (opening given.plan) (acts end.numbers)) end.on end.now end.more end.amid end.all;
        },
        end.on,
      )

-- over a reference that is long enough
pub own_acted : (given : Given) → IsAccepted given.plan → AreFlowsFor given.plan.kernel given.flows → 1 ≤ given.capacity → (own : ℕ → Own) (links : List (List ℤ)) → AreBalanced given own links
    → (numbers : List ℕ) × ActInOrder given own links numbers × (length (after given (acts numbers)).actors ≡ length given.plan.codes)
own_acted given accepted fit room own links balanced =
    let r = some_reference (fitting given.plan accepted given.flows fit) (given.limit + 1) in
    let exact = r.1.instants in
    let is : IsReference given.plan.kernel given.flows (length r.0) r.0 = subst (λ n. IsReference given.plan.kernel given.flows n r.0) (sym exact) r.1 in
    let found = acted given accepted fit r.0 (omega (arith, exact)) room own links balanced is in
    (found.0, found.1, found.2.actors)
