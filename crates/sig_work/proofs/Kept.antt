-- Shares of one run that change hands, and what their services come to together.
use Rattle.sig_work.proofs.Common.{◌≡◌, ◌+◌, ◌++◌, ◌∙◌, ◌⊎◌, inl, inr, ℕ, zero, suc, Bool, true, false, cond, List, [], ◌∷◌, length, refl, ap, sym, subst, arith, append_assoc, None, Some, slice_get, sum_by, ◌==◌, eqb-true, length-append, flat_map-append, sum_by-append, sum_by_push, parts, Halt, outputs_of, seen_lines, Kernel, Given, reactions_text, Reaction, Joins, TookPrefix, TookPrefix-then, same_Some, AreSingle, times_in, HasDone, commits_of, is_collector, AreBegun, AreKept, IsOfClusters, IsOneOf, IsUnfaulted, WereHalted, WereRun, AreOfRun, AreSameShares, HasCollector, HaveDone, HaveOneCollector, IsSameShare, IsServing, WereServed, WereStopped, Member, Share, slice_get_within, some_at}
use Rattle.sig_work.proofs.CountedMembers.{same_number, same_share}
use Rattle.sig_work.proofs.WhatStays.{same_member, same_member_then, same_seat_then}
use Rattle.sig_work.proofs.WhatIsLeft.{same_sums}
use Rattle.sig_work.proofs.ItemInPlace.{get_back, get_either, get_front}

-- ---- one of a list

pub one_front : (xs ys : List Share) (x : Share) → IsOneOf xs x → IsOneOf (xs ++ ys) x
one_front xs ys x one = (one.0, get_front xs ys one.0 x one.1)

pub one_back : (xs ys : List Share) (x : Share) → IsOneOf ys x → IsOneOf (xs ++ ys) x
one_back xs ys x one = (length xs + one.0, get_back xs ys one.0 x one.1)

pub one_either : (xs ys : List Share) (x : Share) → IsOneOf (xs ++ ys) x → IsOneOf xs x ⊎ IsOneOf ys x
one_either xs ys x one = elim (get_either xs ys one.0 x one.1) [ inl front ↦ inl (one.0, front) | inr back ↦ inr (back.0, back.1) ]

pub one_single : (x : Share) → IsOneOf (x ∷ []) x
one_single x = (0, refl)

pub is_single : (x y : Share) → IsOneOf (x ∷ []) y → x ≡ y
is_single x y one = by one.0 one.1 where
  by : (at : ℕ) → slice_get (x ∷ []) at ≡ Some y → x ≡ y
  by zero is = same_Some x y is
  by (suc at) is = absurd (let e : None ≡ Some y = is in cc)

-- ---- the same share

pub same_itself : (x : Share) → IsSameShare x x
same_itself x = record {
  count = refl;
  members = λ number m is. (m, is, same_member m);
  seats = (refl, refl);
}

pub same_then : (a b c : Share) → IsSameShare a b → IsSameShare b c → IsSameShare a c
same_then a b c one two = record {
  count = two.count ∙ one.count;
  members = λ number m is. (
      let mid = one.members number m is in
      let last = two.members number mid.0 mid.1 in
      (last.0, last.1, same_member_then m mid.0 last.0 mid.2 last.2));
  seats = same_seat_then a.seat b.seat c.seat one.seats two.seats;
}

pub same_times : (a b : Share) → IsSameShare a b → (k : ℕ) → times_in k b ≡ times_in k a
same_times a b same k = same_sums (λ (m : Member). cond (m.number == k) 1 0) a.members.items b.members.items same.count (λ number m is. (
    let found = same.members number m is in
    (found.0, found.1, ap (λ i. cond (i == k) 1 0) found.2.number)))

-- ---- the same shares

pub kept_same : (old new : List Share) → AreSameShares old new → AreKept old new
kept_same old new same = record {
  from = λ after one. (
      let count = same.count in
      let before = some_at old one.0 (let lt = slice_get_within new one.0 after one.1 in omega (arith, lt, count)) in
      let found = same.each one.0 before.0 before.1 in
      let is : found.0 ≡ after = same_Some found.0 after (sym found.1 ∙ one.1) in
      (before.0, (one.0, before.1), subst (λ (s : Share). IsSameShare before.0 s) is found.2));
  times_are = λ k. same_sums (λ (s : Share). times_in k s) old new same.count (λ at before there. (
      let found = same.each at before there in
      (found.0, found.1, same_times before found.0 found.2 k)));
  parts_are = same_sums (λ (s : Share). parts s.seat) old new same.count (λ at before there. (
      let found = same.each at before there in
      (found.0, found.1, found.2.seats.1)));
  count = same.count;
}

pub kept_then : (a b c : List Share) → AreKept a b → AreKept b c → AreKept a c
kept_then a b c one two = record {
  from = λ after is. (
      let mid = two.from after is in
      let first = one.from mid.0 mid.1 in
      (first.0, first.1, same_then first.0 mid.0 after first.2 mid.2));
  times_are = λ k. two.times_are k ∙ one.times_are k;
  parts_are = two.parts_are ∙ one.parts_are;
  count = two.count ∙ one.count;
}

module _ (others mine : List Share) (s t : Share) (same : IsSameShare s t) where
  abbrev whole : List Share
  whole = (others ++ s ∷ []) ++ mine

  in_others : (x : Share) → IsOneOf others x → IsOneOf whole x
  in_others x one = one_front (others ++ s ∷ []) mine x (one_front others (s ∷ []) x one)

  in_mine : (x : Share) → IsOneOf mine x → IsOneOf whole x
  in_mine x one = one_back (others ++ s ∷ []) mine x one

  in_middle : IsOneOf whole s
  in_middle = one_front (others ++ s ∷ []) mine s (one_back others (s ∷ []) s (one_single s))

  -- sums over both lists
  sums : (f : Share → ℕ) → sum_by f whole ≡ sum_by f others + f s + sum_by f mine
  sums f =
      let one = sum_by-append f (others ++ s ∷ []) mine in
      let two = sum_by_push f others s in
      omega (arith, one, two)

  -- a share that a thread gave back
  pub kept_pushed : (new : List Share) → AreKept (others ++ mine) new → AreKept whole (new ++ t ∷ [])
  kept_pushed new kept = record {
    from = λ after one. elim (one_either new (t ∷ []) after one) [
      | inl front ↦
          let before = kept.from after front in (
            before.0,
            elim (one_either others mine before.0 before.1) [ inl o ↦ in_others before.0 o | inr m ↦ in_mine before.0 m ],
            before.2,
          )
      | inr last ↦ (s, in_middle, subst (λ (x : Share). IsSameShare s x) (is_single t after last) same)
    ];
    times_are = λ k. (
        let all = sums (λ x. times_in k x) in
        let rest = sum_by-append (λ x. times_in k x) others mine in
        let more = sum_by_push (λ x. times_in k x) new t in
        let was = kept.times_are k in
        let one = same_times s t same k in
        omega (arith, all, rest, more, was, one));
    parts_are = (
        let all = sums (λ x. parts x.seat) in
        let rest = sum_by-append (λ (x : Share). parts x.seat) others mine in
        let more = sum_by_push (λ (x : Share). parts x.seat) new t in
        let was = kept.parts_are in
        let one = same.seats.1 in
        omega (arith, all, rest, more, was, one));
    count = (
        let all = length-append (others ++ s ∷ []) mine in
        let first = length-append others (s ∷ []) in
        let rest = length-append others mine in
        let more = length-append new (t ∷ []) in
        let was = kept.count in
        omega (arith, all, first, rest, more, was));
  }

  -- a share that came back unserved is served beside the caller's
  pub kept_moved : AreKept whole (others ++ (mine ++ t ∷ []))
  kept_moved = record {
    from = λ after one. elim (one_either others (mine ++ t ∷ []) after one) [
      | inl front ↦ (after, in_others after front, same_itself after)
      | inr back ↦ elim (one_either mine (t ∷ []) after back) [
        | inl m ↦ (after, in_mine after m, same_itself after)
        | inr last ↦ (s, in_middle, subst (λ (x : Share). IsSameShare s x) (is_single t after last) same)
      ]
    ];
    times_are = λ k. (
        let all = sums (λ x. times_in k x) in
        let rest = sum_by-append (λ x. times_in k x) others (mine ++ t ∷ []) in
        let more = sum_by_push (λ x. times_in k x) mine t in
        let one = same_times s t same k in
        omega (arith, all, rest, more, one));
    parts_are = (
        let all = sums (λ x. parts x.seat) in
        let rest = sum_by-append (λ (x : Share). parts x.seat) others (mine ++ t ∷ []) in
        let more = sum_by_push (λ (x : Share). parts x.seat) mine t in
        let one = same.seats.1 in
        omega (arith, all, rest, more, one));
    count = (
        let all = length-append (others ++ s ∷ []) mine in
        let first = length-append others (s ∷ []) in
        let rest = length-append others (mine ++ t ∷ []) in
        let more = length-append mine (t ∷ []) in
        omega (arith, all, first, rest, more));
  }

-- ---- shares without a collector

clusters_commit : (given : Given) (committed : List Reaction) (share : Share) → (HasCollector given share → ⊥) → (number : ℕ) (m : Member) → slice_get share.members.items number ≡ Some m
    → commits_of given [] m ≡ commits_of given committed m
clusters_commit given committed share none number m is = by (is_collector given m) refl where
  by : (b : Bool) → is_collector given m ≡ b → cond b (let e : List Reaction = [] in e) [] ≡ cond b committed []
  by true it = absurd (none (number, m, is, it))
  by false other = refl

pub clusters_serve : (given : Given) (word : Halt) (committed : List Reaction) (share : Share) → IsOfClusters given word share → IsServing given word committed share
clusters_serve given word committed share of = record {
  done = λ number m is. subst (λ rs. HasDone given rs m) (clusters_commit given committed share of.none number m is) (of.serving.done number m is);
  seat = of.serving.seat;
}

-- what serves with any commits serves with none
pub serves_clusters : (given : Given) (word : Halt) (committed : List Reaction) (share : Share) → (HasCollector given share → ⊥) → IsServing given word committed share → IsOfClusters given word share
serves_clusters given word committed share none serving = record {
  serving = record {
    done = λ number m is. subst (λ rs. HasDone given rs m) (sym (clusters_commit given committed share none number m is)) (serving.done number m is);
    seat = serving.seat;
  };
  none = none;
}

-- ---- shares at the start of a service

collectors_are : (given : Given) (a b : Member) → is_collector given a ≡ true → is_collector given b ≡ true → b.number ≡ a.number
collectors_are given a b one two =
    let first = eqb-true (a.number + 1) (length given.plan.codes) one in
    let second = eqb-true (b.number + 1) (length given.plan.codes) two in
    omega (arith, first, second)

pub one_collector : (given : Given) (shares : List Share) → AreSingle shares → HaveOneCollector given shares
one_collector given shares single = record {
  within = λ at share there number other m n is_m is_n one two.
      same_number shares m.number (single m.number) m n
      (record { at = at; number = number; share = share; there = there; is = is_m; numbered = refl })
      (record { at = at; number = other; share = share; there = there; is = is_n; numbered = collectors_are given m n one two });
  across = λ at other a b there_a there_b has_a has_b.
      same_share shares has_a.1.number (single has_a.1.number) has_a.1 has_b.1
      (record { at = at; number = has_a.0; share = a; there = there_a; is = has_a.2; numbered = refl })
      (record { at = other; number = has_b.0; share = b; there = there_b; is = has_b.2; numbered = collectors_are given has_a.1 has_b.1 has_a.3 has_b.3 });
}

pub begun_run : (given : Given) (word : Halt) (committed : List Reaction) (mine : List Share) → AreBegun given word committed [] mine → AreOfRun given word committed mine
begun_run given word committed mine begun = record { serving = begun.serving; one = one_collector given mine begun.single }

module _ (given : Given) (word : Halt) (committed : List Reaction) (others mine : List Share) (s : Share) (begun : AreBegun given word committed (others ++ s ∷ []) mine) where
  pub middle_is : IsOfClusters given word s
  middle_is = let one = one_back others (s ∷ []) s (one_single s) in begun.clusters one.0 s one.1

  pub begun_less : AreBegun given word committed others mine
  begun_less = record {
    serving = begun.serving;
    clusters = λ at share there. (let one = one_front others (s ∷ []) share (at, there) in begun.clusters one.0 share one.1);
    single = λ k. (
        let most = begun.single k in
        let all = sum_by-append (λ (x : Share). times_in k x) (others ++ s ∷ []) mine in
        let first = sum_by_push (λ (x : Share). times_in k x) others s in
        let rest = sum_by-append (λ (x : Share). times_in k x) others mine in
        omega (arith, most, all, first, rest));
  }

  pub begun_moved : (t : Share) → IsSameShare s t → IsOfClusters given word t → AreBegun given word committed others (mine ++ t ∷ [])
  begun_moved t same of = record {
    serving = λ at share there. elim (one_either mine (t ∷ []) share (at, there)) [
      | inl m ↦ begun.serving m.0 share m.1
      | inr last ↦ subst (λ (x : Share). IsServing given word committed x) (is_single t share last) (clusters_serve given word committed t of)
    ];
    clusters = begun_less.clusters;
    single = λ k. (let most = begun.single k in let kept = (kept_moved others mine s t same).times_are k in omega (arith, most, kept));
  }

-- ---- what services come to

module _ {S : Type 0} (took : S → List ℕ → S → Type 0) (given : Given) (word : Halt) where
  pub run_base : (old new : List Share) (before after : S) (committed : List Reaction) → WereServed took given word old new before after committed → WereRun took given word old new before after committed
  run_base old new before after committed were = record {
    behind = were.behind;
    serving = were.serving;
    unfaulted = were.unfaulted;
    text = record { more = were.commits.more; joined = were.commits.joined; text = were.commits.text };
  }

  pub halted_base : (new : List Share) (before after : S) (committed : List Reaction) → WereStopped took given word new before after committed → WereHalted took given new before after committed
  halted_base new before after committed were = record {
    behind = were.behind;
    done = λ share one. were.done one.0 share one.1;
    text = record { more = were.commits.more; joined = were.commits.joined; text = were.commits.text };
  }

  module _ (others mine : List Share) (s t : Share) (keeps : IsUnfaulted s → IsUnfaulted t) (of : IsOfClusters given word t) (before after : S) (committed : List Reaction) where
    pub run_pushed : (new : List Share) → WereRun took given word (others ++ mine) new before after committed → WereRun took given word ((others ++ s ∷ []) ++ mine) (new ++ t ∷ []) before after committed
    run_pushed new were = record {
      behind = were.behind;
      serving = λ at share there. elim (one_either new (t ∷ []) share (at, there)) [
        | inl front ↦ were.serving front.0 share front.1
        | inr last ↦ subst (λ (x : Share). IsServing given word were.behind x) (is_single t share last) (clusters_serve given word were.behind t of)
      ];
      unfaulted = λ none at share there. elim (one_either new (t ∷ []) share (at, there)) [
        | inl front ↦ were.unfaulted (λ i x is. elim (one_either others mine x (i, is)) [
          | inl o ↦ (let w = one_front (others ++ s ∷ []) mine x (one_front others (s ∷ []) x o) in none w.0 x w.1)
          | inr m ↦ (let w = one_back (others ++ s ∷ []) mine x m in none w.0 x w.1)
        ]) front.0 share front.1
        | inr last ↦ subst (λ (x : Share). IsUnfaulted x) (is_single t share last)
            (keeps (let w = one_front (others ++ s ∷ []) mine s (one_back others (s ∷ []) s (one_single s)) in none w.0 s w.1))
      ];
      text = were.text;
    }

    pub run_moved : (new : List Share) → WereRun took given word (others ++ (mine ++ t ∷ [])) new before after committed → WereRun took given word ((others ++ s ∷ []) ++ mine) new before after committed
    run_moved new were = record {
      behind = were.behind;
      serving = were.serving;
      unfaulted = λ none. were.unfaulted (λ i x is. elim (one_either others (mine ++ t ∷ []) x (i, is)) [
        | inl o ↦ (let w = one_front (others ++ s ∷ []) mine x (one_front others (s ∷ []) x o) in none w.0 x w.1)
        | inr back ↦ elim (one_either mine (t ∷ []) x back) [
          | inl m ↦ (let w = one_back (others ++ s ∷ []) mine x m in none w.0 x w.1)
          | inr last ↦ subst (λ (y : Share). IsUnfaulted y) (is_single t x last)
              (keeps (let w = one_front (others ++ s ∷ []) mine s (one_back others (s ∷ []) s (one_single s)) in none w.0 s w.1))
        ]
      ]);
      text = were.text;
    }

    pub halted_pushed : (new : List Share) → WereHalted took given new before after committed → WereHalted took given (new ++ t ∷ []) before after committed
    halted_pushed new were = record {
      behind = were.behind;
      done = λ share one. elim (one_either new (t ∷ []) share one) [
        | inl front ↦ were.done share front
        | inr last ↦ subst (λ (x : Share). HaveDone given were.behind x) (is_single t share last) ((clusters_serve given word were.behind t of).done)
      ];
      text = were.text;
    }

-- ---- a second service

text_append : (kernel : Kernel) (xs ys : List Reaction) → reactions_text kernel (xs ++ ys) ≡ reactions_text kernel xs ++ reactions_text kernel ys
text_append kernel xs ys = flat_map-append (λ (reaction : Reaction). seen_lines (outputs_of kernel) reaction) xs ys

module _ {S : Type 0} (took : S → List ℕ → S → Type 0) (joins : Joins took) (given : Given) (word : Halt) (old mid new : List Share) (first second last : S) (committed : List Reaction)
    (were : WereRun took given word old mid first second committed) where
  pub run_again : WereServed took given word mid new second last were.behind → WereRun took given word old new first last committed
  run_again served = record {
    behind = served.behind;
    serving = served.serving;
    unfaulted = λ none. served.unfaulted (were.unfaulted none);
    text = record {
      more = were.text.more ++ served.commits.more;
      joined = served.commits.joined ∙ ap (λ (rs : List Reaction). rs ++ served.commits.more) were.text.joined ∙ append_assoc committed were.text.more served.commits.more;
      text = subst (λ bytes. took first bytes last) (sym (text_append given.plan.kernel were.text.more served.commits.more))
          (joins first second last (reactions_text given.plan.kernel were.text.more) (reactions_text given.plan.kernel served.commits.more) were.text.text served.commits.text);
    };
  }

  pub halted_again : WereStopped (TookPrefix took) given word new second last were.behind → WereHalted (TookPrefix took) given new first last committed
  halted_again stopped = record {
    behind = stopped.behind;
    done = λ share one. stopped.done one.0 share one.1;
    text = record {
      more = were.text.more ++ stopped.commits.more;
      joined = stopped.commits.joined ∙ ap (λ (rs : List Reaction). rs ++ stopped.commits.more) were.text.joined ∙ append_assoc committed were.text.more stopped.commits.more;
      text = subst (λ bytes. TookPrefix took first bytes last) (sym (text_append given.plan.kernel were.text.more stopped.commits.more))
          (TookPrefix-then took joins first second last (reactions_text given.plan.kernel were.text.more) (reactions_text given.plan.kernel stopped.commits.more) were.text.text stopped.commits.text);
    };
  }

-- shares of a run that were kept are those of it still
pub kept_single : (old new : List Share) → AreKept old new → AreSingle old → AreSingle new
kept_single old new kept single k = let most = single k in let same = kept.times_are k in omega (arith, most, same)
