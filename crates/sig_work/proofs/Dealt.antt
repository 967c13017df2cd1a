-- Actors that were dealt to shares.
use Rattle.sig_work.proofs.Common.{◌≡◌, ◌<◌, ◌≤◌, ◌+◌, ◌-◌, ◌*◌, ◌/◌, ◌%◌, ◌++◌, ◌∙◌, inl, inr, ℕ, zero, suc, ℤ, Bool, true, false, cond, List, [], ◌∷◌, length, refl, ap, sym, subst, arith, None, Option, Some, min, slice_get, sum_by, vec_capacity, ◌==◌, ◌||◌, eq-eqb, eqb-true, mod-eq_of_lt, mul_comm, length-append, sum_by-cons, sum_by_push, no_place, IsSeatOf, halt_parts, parts, recorded, seen, Halt, HaltSeat, OfOneLink, Inlet, Outlet, Actor, opening_actor, Given, Reaction, IsAccepted, PlanView, opening_own, IsStateOf, actor_of, place_of, ClusterState, same_Some, IsAmong, times, times_in, AreHandedFrom, AreJoined, AreNumbered, AreOpened, AreSeated, HasGiven, IsOpened, IsSameBare, share_for, HasEnds, HasNoEnds, sent_by, sent_of, taken_by, taken_of, AreDealt, IsFresh, IsShareOf, is_collector, EndsWith, HasDone, IsBehindSeen, IsMember, before_stop, commits_of, failure_in, own_of, word_of, AreServing, least_failed, Member, Share, slice_get_within, some_at, cases_eq}
use Rattle.sig_work.proofs.GivenMembers.{placed_here, seats_here, times_here, times_others}
use Rattle.sig_work.proofs.WhatIsLeft.{same_sums}
use Rattle.sig_work.proofs.ItemInPlace.{get_more}

-- ---- opening

pub opened_more : (plan : PlanView) (flows : List (List ℤ)) (limit n : ℕ) (members : List Member) (m : Member) → AreOpened plan flows limit n members
    → IsOpened plan flows limit n m → HasNoEnds (length plan.links) m.ends → AreOpened plan flows limit (n + 1) (members ++ m ∷ [])
opened_more plan flows limit n members m opened one none = record {
  count_is = (let longer = length-append members (m ∷ []) in let count = opened.count_is in omega (arith, longer, count));
  each = λ k x is. elim (get_more members m k x is) [
    | inl front ↦ opened.each k x front
    | inr last ↦ (let e : n ≡ k = sym opened.count_is ∙ sym last.1 in subst (λ i. IsOpened plan flows limit i x) e (subst (λ (y : Member). IsOpened plan flows limit n y) last.0 one))
  ];
  ends = λ k x is. elim (get_more members m k x is) [
    | inl front ↦ opened.ends k x front
    | inr last ↦ subst (λ (y : Member). HasNoEnds (length plan.links) y.ends) last.0 none
  ];
}

-- no link is joined yet
pub joined_none : (plan : PlanView) (flows : List (List ℤ)) (limit count capacity : ℕ) (members : List Member) → AreOpened plan flows limit count members → AreJoined plan.links capacity 0 members members
joined_none plan flows limit count capacity members opened = record {
  count = refl;
  each = λ k m is. (
    m,
    is,
    (
        let none = opened.ends k m is in
        record {
          number = refl;
          state = refl;
          ending = refl;
          puts = none.puts;
          takes = none.takes;
          sent_none = λ j. sent_nothing (slice_get m.ends.puts.items j) (λ put at. (
              let lt = slice_get_within m.ends.puts.items j (Some put) at in
              let count_puts = none.puts in
              let e : Some (Some put) ≡ Some None = sym at ∙ none.no_put j (omega (arith, lt, count_puts)) in
              let clash : Some put ≡ None = same_Some (Some put) None e in
              cc));
          taken_none = λ j. taken_nothing (slice_get m.ends.takes.items j) (λ take at. (
              let lt = slice_get_within m.ends.takes.items j (Some take) at in
              let count_takes = none.takes in
              let e : Some (Some take) ≡ Some None = sym at ∙ none.no_take j (omega (arith, lt, count_takes)) in
              let clash : Some take ≡ None = same_Some (Some take) None e in
              cc));
        }),
  );
  joined = λ link info below is. absurd (omega (arith, below));
} where
  sent_nothing : (o : Option (Option Inlet)) → ((put : Inlet) → o ≡ Some (Some put) → ⊥) → sent_by o ≡ []
  sent_nothing None none = refl
  sent_nothing (Some None) none = refl
  sent_nothing (Some (Some put)) none = absurd (none put refl)

  taken_nothing : (o : Option (Option Outlet)) → ((take : Outlet) → o ≡ Some (Some take) → ⊥) → taken_by o ≡ []
  taken_nothing None none = refl
  taken_nothing (Some None) none = refl
  taken_nothing (Some (Some take)) none = absurd (none take refl)

-- ---- seats

pub seated_more : (word : Halt) (n room : ℕ) (shares : List Share) (share : Share) → AreSeated word n room shares → share.members.items ≡ [] → room ≤ vec_capacity share.members
    → IsSeatOf word share.seat → recorded share.seat ≡ no_place → parts share.seat ≡ 1 → AreSeated word (n + 1) room (shares ++ share ∷ [])
seated_more word n room shares share seated none fits seat recorded_is part = record {
  count_is = (let longer = length-append shares (share ∷ []) in let count = seated.count_is in omega (arith, longer, count));
  none = λ at s there. elim (get_more shares share at s there) [ inl front ↦ seated.none at s front | inr last ↦ subst (λ (x : Share). x.members.items ≡ []) last.0 none ];
  room_is = λ at s there. elim (get_more shares share at s there) [ inl front ↦ seated.room_is at s front | inr last ↦ subst (λ (x : Share). room ≤ vec_capacity x.members) last.0 fits ];
  seat = λ at s there. elim (get_more shares share at s there) [ inl front ↦ seated.seat at s front | inr last ↦ subst (λ (x : Share). IsSeatOf word x.seat × (recorded x.seat ≡ no_place)) last.0 (seat, recorded_is) ];
  parts_are = (let all = sum_by_push (λ (s : Share). parts s.seat) shares share in let before = seated.parts_are in omega (arith, all, before, part));
}

-- ---- handing out

pub handed_none : (members : List Member) (shares : List Share) → AreHandedFrom (length members) members shares shares
handed_none members shares = record {
  seats = record { count = refl; each = λ at share there. (share, there, refl) };
  once = λ k from below. absurd (omega (arith, from, below));
  others = λ k is. refl;
  placed = λ at number share m there is. inl (share, there, is);
}

module _ (members : List Member) (numbered : AreNumbered members) (old now new : List Share) (n : ℕ) (handed : AreHandedFrom (n + 1) members old now) (m : Member) (at_m : slice_get members n ≡ Some m)
    (within : n + 1 ≤ length members) (at : ℕ) (at_is : at ≡ share_for (length old - 1) (length members - 1) n) (lt : at < length now) (given : HasGiven now new at m) where
  number_is : m.number ≡ n
  number_is = numbered n m at_m

  pub handed_more : AreHandedFrom n members old new
  handed_more = record {
    seats = (
        let first = handed.seats in
        let second = seats_here now new at m given lt in
        record {
          count = second.count ∙ first.count;
          each = λ i before there. (
              let x = first.each i before there in
              let y = second.each i x.0 x.1 in
              (y.0, y.1, y.2 ∙ x.2));
        });
    once = λ k from below. elim (cases_eq k n) [
      | inl same ↦ times_here now new at m given lt k (number_is ∙ sym same) ∙ ap (λ i. i + 1) (handed.others k (inl (omega (arith, same))))
      | inr apart ↦ times_others now new at m given lt k (λ is. apart (sym is ∙ number_is)) ∙ handed.once k (omega (arith, from, apart)) below
    ];
    others = λ k is. (
        let apart : (k ≡ n) → ⊥ = λ same. elim is [ inl below ↦ omega (arith, below, same) | inr above ↦ omega (arith, above, same, within) ] in
        times_others now new at m given lt k (λ e. apart (sym e ∙ number_is))
        ∙ handed.others k (elim is [ inl below ↦ inl (omega (arith, below)) | inr above ↦ inr above ]));
    placed = λ i number share x there is. elim (placed_here now new at m given lt i number share x there is) [
      | inl before ↦ handed.placed i number before.0 x before.1 before.2
      | inr here ↦
          let number_x : x.number ≡ n = ap (λ (y : Member). y.number) (sym here.0) ∙ number_is in
          inr (
            ap (slice_get members) number_x ∙ at_m ∙ ap Some here.0,
            here.1 ∙ at_is ∙ ap (share_for (length old - 1) (length members - 1)) (sym number_x),
          )
    ];
  }

-- ---- where each stands

pub share_of_last : (served last : ℕ) → share_for served last last ≡ served
share_of_last served last = ap (λ b. cond (b || (served == 0)) served (last % served)) (eq-eqb last last refl)

share_of_none : (last k : ℕ) → share_for 0 last k ≡ 0
share_of_none last k = by (k == last) where
  by : (b : Bool) → cond (b || true) 0 (k % 0) ≡ 0
  by true = refl
  by false = refl

share_of_some : (s last k : ℕ) → ((k ≡ last) → ⊥) → share_for (suc s) last k ≡ k % suc s
share_of_some s last k apart = by (k == last) refl (suc s == 0) refl where
  by : (b : Bool) → (k == last) ≡ b → (d : Bool) → (suc s == 0) ≡ d → cond (b || d) (suc s) (k % suc s) ≡ k % suc s
  by true is d none = absurd (apart (eqb-true k last is))
  by false is true none = absurd (let e = eqb-true (suc s) 0 none in omega (arith, e))
  by false is false none = refl

pub cluster_stands : (given : Given) (workers k served : ℕ) → served ≡ min (length given.plan.codes - 1) workers → k < length given.plan.codes - 1
    → (at : ℕ) → at ≡ share_for served (length given.plan.codes - 1) k → IsShareOf given workers k at
cluster_stands given workers k zero is below at at_is =
    inl (omega (arith, is, below), at_is ∙ share_of_none (length given.plan.codes - 1) k)
cluster_stands given workers k (suc s) is below at at_is =
    let rest : at ≡ k % suc s = at_is ∙ share_of_some s (length given.plan.codes - 1) k (λ e. omega (arith, e, below)) in
    elim (cases_eq (suc s) workers) [
      | inl same ↦ inr (
        k / suc s,
        omega (arith, rest, same),
        (let turns = turned k s in subst (λ w. k ≡ at + (k / suc s) * w) same (omega (arith, turns, rest))),
      )
      | inr apart ↦
          let most : suc s ≡ length given.plan.codes - 1 = omega (arith, is, apart) in
          let first : k % suc s ≡ k = small_rest k (suc s) (omega (arith, most, below)) in
          inr (0, omega (arith, rest, first, is, below, most), omega (arith, rest, first))
    ]
  where
    turned : (k s : ℕ) → k ≡ k % suc s + (k / suc s) * suc s
    turned k s =
        let e : suc s * (k / suc s) + k % suc s ≡ k = omega arith in
        let m = mul_comm (suc s) (k / suc s) in
        omega (arith, e, m)

    small_rest : (k n : ℕ) → k < n → k % n ≡ k
    small_rest k n lt = mod-eq_of_lt lt

-- ---- no member so far

times_in_none : (k : ℕ) (share : Share) → share.members.items ≡ [] → times_in k share ≡ 0
times_in_none k share none = ap (λ (ms : List Member). sum_by (λ m. cond (m.number == k) 1 0) ms) none

times_none : (k : ℕ) (shares : List Share) → ((at : ℕ) (share : Share) → slice_get shares at ≡ Some share → share.members.items ≡ []) → times k shares ≡ 0
times_none k [] none = refl
times_none k (share ∷ shares) none =
    let first = times_in_none k share (none 0 share refl) in
    let rest = times_none k shares (λ at s there. none (suc at) s there) in
    let all = sum_by-cons (λ s. times_in k s) share shares in
    omega (arith, first, rest, all)

least_none : (ms : List Member) → ((number : ℕ) (m : Member) → slice_get ms number ≡ Some m → m.ending ≡ None) → least_failed ms ≡ no_place
least_none [] none = refl
least_none (m ∷ ms) none =
    let first : word_of (failure_in m.ending) ≡ no_place = ap (λ e. word_of (failure_in e)) (none 0 m refl) in
    let rest = least_none ms (λ number x is. none (suc number) x is) in
    omega (arith, first, rest)

commits_none : (given : Given) (m : Member) → commits_of given [] m ≡ []
commits_none given m = by (is_collector given m) where
  by : (b : Bool) → (let none : List Reaction = [] in cond b none none) ≡ []
  by true = refl
  by false = refl

-- ---- all of it

module _ (given : Given) (accepted : IsAccepted given.plan) (zeroth members : List Member)
    (opened : AreOpened given.plan given.flows given.limit (length given.plan.codes) zeroth)
    (joined : AreJoined given.plan.links given.capacity (length given.plan.links) zeroth members) where
  abbrev count : ℕ
  count = length given.plan.codes

  count_is : length members ≡ count
  count_is = joined.count ∙ opened.count_is

  -- a member is the actor of its number at the opening
  bare_of : (k : ℕ) (m : Member) → slice_get members k ≡ Some m → (b : Member) × IsOpened given.plan given.flows given.limit k b × IsSameBare (length given.plan.links) b m
  bare_of k m is =
      let many = joined.count in
      let b = some_at zeroth k (let lt = slice_get_within members k m is in omega (arith, lt, many)) in
      let found = joined.each k b.0 b.1 in
      (b.0, opened.each k b.0 b.1, subst (λ (x : Member). IsSameBare (length given.plan.links) b.0 x) (same_Some found.0 m (sym found.1 ∙ is)) found.2)

  pub numbered : AreNumbered members
  numbered k m is = let b = bare_of k m is in b.2.number ∙ b.1.number

  module _ (k : ℕ) (m : Member) (is : slice_get members k ≡ Some m) where
    abbrev b : (b : Member) × IsOpened given.plan given.flows given.limit k b × IsSameBare (length given.plan.links) b m
    b = bare_of k m is

    state_is : m.state ≡ b.0.state
    state_is = b.2.state

    running : m.ending ≡ None
    running = b.2.ending ∙ b.1.running

    opening : actor_of m.state ≡ opening_actor given.plan.kernel
    opening = ap actor_of state_is ∙ b.1.opening

    pub fresh : IsFresh given m
    fresh = record { opening = opening; running = running; sent = b.2.sent_none; taken = b.2.taken_none }

    its_number : m.number ≡ k
    its_number = numbered k m is

    ends_are : HasEnds given.plan given.capacity k m.ends
    ends_are = record {
      puts = b.2.puts;
      takes = b.2.takes;
      writes = λ link info at writer. (
          let j = joined.joined link info (slice_get_within given.plan.links link info at) at in
          let same : j.writer ≡ m = same_Some j.writer m (sym j.writes ∙ ap (slice_get members) writer ∙ is) in
          (j.put, ap (λ (x : Member). slice_get x.ends.puts.items link) (sym same) ∙ j.has_put, j.capacity_is));
      reads = λ link info at reader. (
          let j = joined.joined link info (slice_get_within given.plan.links link info at) at in
          let same : j.reader ≡ m = same_Some j.reader m (sym j.reads ∙ ap (slice_get members) reader ∙ is) in
          (j.take, ap (λ (x : Member). slice_get x.ends.takes.items link) (sym same) ∙ j.has_take));
    }

    runs : m.state.ended ≡ false
    runs = ap (λ (a : Actor). a.ended) opening

    is_member : IsMember given m.number m
    is_member = record {
      numbered = refl;
      there = (let lt = slice_get_within members k m is in let same = count_is in let number = its_number in omega (arith, lt, same, number));
      state = subst (λ (s : ClusterState). IsStateOf given.plan given.flows s) (sym state_is) b.1.state;
      actor = ap (λ (s : ClusterState). s.actor) state_is ∙ b.1.actor ∙ sym its_number;
      limit = ap (λ (s : ClusterState). s.limit) state_is ∙ b.1.limit_is;
      ends = subst (λ i. HasEnds given.plan given.capacity i m.ends) (sym its_number) ends_are;
      ending = subst (λ e. EndsWith e m.state.ended) (sym running) runs;
    }

    act : opening_actor given.plan.kernel ≡ before_stop m.ending (actor_of m.state)
    act = sym opening ∙ ap (λ e. before_stop e (actor_of m.state)) (sym running)

    sent_is : (link : ℕ) → [] ≡ sent_of m.ends link
    sent_is link = sym (b.2.sent_none link)

    taken_is : (link : ℕ) → [] ≡ taken_of m.ends link
    taken_is link = sym (b.2.taken_none link)

    failed_is : None ≡ failure_in m.ending
    failed_is = ap failure_in (sym running)

    own_is : opening_own given.plan.kernel ≡ own_of m []
    own_is = λ i. record { actor = act i; sent = λ link. sent_is link i; taken = λ link. taken_is link i; committed = []; failed = failed_is i }

    pub has_done : HasDone given (commits_of given [] m) m
    has_done = subst (λ rs. HasDone given rs m) (sym (commits_none given m)) (record { member = is_member; own = (0, own_is) })

  -- ---- in their shares

  module _ (workers : ℕ) (word : Halt) (served : ℕ) (served_is : served ≡ min (length given.plan.codes - 1) workers)
      (all_parts : halt_parts word ≡ served + 1) (empty shares : List Share) (seated : AreSeated word (served + 1) (length members) empty) (handed : AreHandedFrom 0 members empty shares) where
    -- a member of a share stands by its number, in its share
    stands : (at number : ℕ) (share : Share) (m : Member) → slice_get shares at ≡ Some share → slice_get share.members.items number ≡ Some m
        → (slice_get members m.number ≡ Some m) × (at ≡ share_for served (count - 1) m.number)
    stands at number share m there is = elim (handed.placed at number share m there is) [
      | inl before ↦
          let none = seated.none at before.0 before.1 in
          let e : None ≡ Some m = ap (λ (ms : List Member). slice_get ms number) (sym none) ∙ before.2 in
          absurd cc
      | inr here ↦
          let shares_count = seated.count_is in
          (here.0, here.1 ∙ ap (λ n. share_for n (length members - 1) m.number) (omega (arith, shares_count)) ∙ ap (λ n. share_for served n m.number) (ap (λ n. n - 1) count_is))
    ]

    among_is : (k : ℕ) (m : Member) → IsAmong shares k m → slice_get members k ≡ Some m
    among_is k m one = ap (slice_get members) (sym one.numbered) ∙ (stands one.at one.number one.share m one.there one.is).0

    seat_of : (at : ℕ) (share : Share) → slice_get shares at ≡ Some share → (e : Share) × (slice_get empty at ≡ Some e) × (share.seat ≡ e.seat)
    seat_of at share there =
        let many = handed.seats.count in
        let e = some_at empty at (let lt = slice_get_within shares at share there in omega (arith, lt, many)) in
        let found = handed.seats.each at e.0 e.1 in
        (e.0, e.1, ap (λ (s : Share). s.seat) (same_Some share found.0 (sym there ∙ found.1)) ∙ found.2)

    pub serving : AreServing given word [] shares
    serving at share there =
        let e = seat_of at share there in
        let seat = seated.seat at e.0 e.1 in
        record {
          done = λ number m is. has_done m.number m (stands at number share m there is).0;
          seat = record {
            seat = subst (λ (s : HaltSeat). IsSeatOf word s) (sym e.2) seat.0;
            recorded = ap recorded e.2 ∙ seat.1 ∙ sym (least_none share.members.items (λ number m is. running m.number m (stands at number share m there is).0));
            behind = λ number m is. subst (λ x. IsBehindSeen (seen share.seat) x (place_of m.state)) (sym (running m.number m (stands at number share m there is).0)) tt;
          };
        }

    pub dealt : AreDealt given workers word shares
    dealt = record {
      serving = serving;
      fresh = λ k m one. fresh k m (among_is k m one);
      all = record {
        once = λ k lt. (
            let more = handed.once k (omega arith) (let same = count_is in omega (arith, lt, same)) in
            let none = times_none k empty seated.none in
            omega (arith, more, none));
        linked = λ link info at w one r two put take is_put is_take. (
            let j = joined.joined link info (slice_get_within given.plan.links link info at) at in
            let w_is : j.writer ≡ w = same_Some j.writer w (sym j.writes ∙ among_is info.writer w one) in
            let r_is : j.reader ≡ r = same_Some j.reader r (sym j.reads ∙ among_is info.reader r two) in
            let put_is : Some j.put ≡ Some put = same_Some (Some j.put) (Some put) (sym j.has_put ∙ ap (λ (x : Member). slice_get x.ends.puts.items link) w_is ∙ is_put) in
            let take_is : Some j.take ≡ Some take = same_Some (Some j.take) (Some take) (sym j.has_take ∙ ap (λ (x : Member). slice_get x.ends.takes.items link) r_is ∙ is_take) in
            subst (λ p. OfOneLink p take) (same_Some j.put put put_is) (subst (λ t. OfOneLink j.put t) (same_Some j.take take take_is) j.one));
        parts = same_sums (λ (share : Share). parts share.seat) empty shares handed.seats.count (λ at e there. (
            let found = handed.seats.each at e there in
            (found.0, found.1, ap parts found.2))) ∙ seated.parts_are ∙ sym all_parts;
      };
      count = (let one = handed.seats.count in let two = seated.count_is in let three = served_is in omega (arith, one, two, three));
      clusters = λ k m one lt. cluster_stands given workers k served served_is lt one.at
          ((stands one.at one.number one.share m one.there one.is).1 ∙ ap (share_for served (count - 1)) one.numbered);
      collector = λ m one. (stands one.at one.number one.share m one.there one.is).1 ∙ ap (share_for served (count - 1)) one.numbered ∙ share_of_last served (count - 1) ∙ served_is;
    }
