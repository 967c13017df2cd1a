-- The actors of all shares, put together: their links are balanced.
use Rattle.sig_work.proofs.Common.{◌≡◌, ◌<◌, ◌≤◌, ◌+◌, ◌++◌, ◌∙◌, inl, inr, ℕ, ℤ, cond, List, [], length, ap, sym, subst, arith, None, Option, Some, slice_get, slice_index_or, eq-eqb, IsPrefixOf, Halt, output_text, at_most_or, Given, reactions_text, Reaction, plan_operations, ends_within, operations_in, IsAccepted, PlanView, LinkInfo, after_begins, IsOwn, Own, opening_own, AreBalanced, acts, collector_of, same_Some, AreSingle, IsAmong, times, sent_by, taken_by, AreAll, AreTogether, BeginsTheRun, HasDone, commits_of, own_of, AreSettledBelow, HaveRoomFor, Member, Share, slice_get-get_or, slice_get_within, some_at}
use Rattle.sig_work.proofs.ChoicesBelow.{chosen}
use Rattle.sig_work.proofs.CountedMembers.{same_member, some_member}
use Rattle.sig_work.proofs.Settled.{StepsInterleave}

-- a number has one member
pub one_among : (given : Given) (word : Halt) (shares : List Share) → AreAll given word shares → (k : ℕ) → k < length given.plan.codes
    → (a b : Member) → IsAmong shares k a → IsAmong shares k b → a ≡ b
one_among given word shares all k lt a b one other = same_member shares k (let once = all.once k lt in omega (arith, once)) a b one other

-- the actors of a link are there
pub link_within : (plan : PlanView) → IsAccepted plan → (j : ℕ) (info : LinkInfo) → slice_get plan.links j ≡ Some info → (info.writer < length plan.codes) × (info.reader < length plan.codes)
link_within plan accepted j info at =
    let operations = operations_in plan.store.nodes plan.ops in
    let ends = ends_within plan.kernel accepted.valid plan.clocks.conditions operations (plan_operations plan accepted) accepted.parts accepted.split j info (subst (λ (ls : List LinkInfo). slice_get ls j ≡ Some info) (sym accepted.links) at) in
    let count = accepted.codes.actors in
    (omega (arith, ends.0, count), omega (arith, ends.1, count))

-- what a member is by itself
abbrev pub own_in : Given → List Reaction → Option Member → Own
own_in given committed None = opening_own given.plan.kernel
own_in given committed (Some m) = own_of m (commits_of given committed m)

module _ (given : Given) (accepted : IsAccepted given.plan) (committed : List Reaction) (word : Halt) (shares : List Share) (run : AreTogether given committed word shares) where
  abbrev pub actors : ℕ
  actors = length given.plan.codes

  abbrev pub picked : (ms : List Member) × (length ms ≡ actors) × ((k : ℕ) (m : Member) → slice_get ms k ≡ Some m → IsAmong shares k m)
  picked = chosen (λ k m. IsAmong shares k m) actors (λ k lt. some_member shares k (let once = run.all.once k lt in omega (arith, once)))

  abbrev pub members : List Member
  members = picked.0

  pub there : (k : ℕ) → k < actors → (m : Member) × (slice_get members k ≡ Some m) × IsAmong shares k m
  there k lt =
      let count = picked.1 in
      let found = some_at members k (omega (arith, lt, count)) in
      (found.0, found.1, picked.2 k found.0 found.1)

  pub done_of : (k : ℕ) (m : Member) → IsAmong shares k m → HasDone given (commits_of given committed m) m
  done_of k m one = run.done one.at one.share one.there one.number m one.is

  pub within : (k : ℕ) (m : Member) → IsAmong shares k m → k < actors
  within k m one = subst (λ i. i < actors) one.numbered (done_of k m one).member.there

  -- each by itself
  abbrev pub own : ℕ → Own
  own k = own_in given committed (slice_get members k)

  pub own_is : (k : ℕ) (m : Member) → IsAmong shares k m → own k ≡ own_of m (commits_of given committed m)
  own_is k m one =
      let found = there k (within k m one) in
      ap (own_in given committed) found.1
      ∙ ap (λ n. own_of n (commits_of given committed n)) (one_among given word shares run.all k (within k m one) found.0 m found.2 one)

  own_each : (k : ℕ) → k < actors → IsOwn given k (own k)
  own_each k lt =
      let found = there k lt in
      let m = found.0 in
      subst (λ (o : Own). IsOwn given k o) (sym (own_is k m found.2))
      (subst (λ i. IsOwn given i (own_of m (commits_of given committed m))) found.2.numbered (done_of k m found.2).own)

  -- no number stands twice
  pub all_single : AreSingle shares
  all_single k = elim (at_most_or 1 (times k shares)) [
    | inl some ↦
        let found = some_member shares k some in
        let once = run.all.once k (within k found.0 found.1) in
        omega (arith, once)
    | inr none ↦ omega (arith, none)
  ]

  -- each has room for the ends of all links
  pub all_room : (link : ℕ) → link < length given.plan.links → HaveRoomFor link shares
  all_room link lt at number share m inside is =
      let ends = (run.done at share inside number m is).member.ends in
      let puts = ends.puts in
      let takes = ends.takes in
      (omega (arith, puts, lt), omega (arith, takes, lt))

  -- the collector's commits
  pub own_commits : (own (collector_of given)).committed ≡ committed
  own_commits =
      let some = accepted.codes.actors in
      let found = there (collector_of given) (omega (arith, some)) in
      let m = found.0 in
      let numbered = found.2.numbered in
      let last : m.number + 1 ≡ actors = omega (arith, some, numbered) in
      ap (λ (o : Own). o.committed) (own_is (collector_of given) m found.2) ∙ ap (λ b. cond b committed []) (eq-eqb (m.number + 1) actors last)

  module _ (settled : AreSettledBelow (length given.plan.links) given.plan.links shares) where
    -- items that a link may have held
    abbrev pub HeldBy : ℕ → List ℤ → Type 0
    HeldBy j items = (info : LinkInfo) → slice_get given.plan.links j ≡ Some info
        → ((own info.writer).sent j ≡ (own info.reader).taken j ++ items) × (length items ≤ given.capacity)

    pub ends_there : (j : ℕ) (info : LinkInfo) → slice_get given.plan.links j ≡ Some info → (info.writer < actors) × (info.reader < actors)
    ends_there = link_within given.plan accepted

    module _ (j : ℕ) (info : LinkInfo) (at : slice_get given.plan.links j ≡ Some info) (lt : j < length given.plan.links) where
      abbrev pub writer : (m : Member) × (slice_get members info.writer ≡ Some m) × IsAmong shares info.writer m
      writer = there info.writer (ends_there j info at).0

      abbrev pub reader : (m : Member) × (slice_get members info.reader ≡ Some m) × IsAmong shares info.reader m
      reader = there info.reader (ends_there j info at).1

      pub held_here : (items : List ℤ) × ((own info.writer).sent j ≡ (own info.reader).taken j ++ items) × (length items ≤ given.capacity)
      held_here =
          let w = writer.0 in
          let r = reader.0 in
          let put = (done_of info.writer w writer.2).member.ends.writes j info at (sym writer.2.numbered) in
          let take = (done_of info.reader r reader.2).member.ends.reads j info at (sym reader.2.numbered) in
          let found = settled j info lt at w writer.2 r reader.2 put.0 take.0 put.1 take.1 in
          let room = found.2 in
          let capacity = put.2 in (
            found.0,
            ap (λ (o : Own). o.sent j) (own_is info.writer w writer.2) ∙ ap sent_by put.1 ∙ found.1
                ∙ ap (λ (xs : List ℤ). xs ++ found.0) (sym (ap (λ (o : Own). o.taken j) (own_is info.reader r reader.2) ∙ ap taken_by take.1)),
            omega (arith, room, capacity),
          )

    pub held_by : (j : ℕ) → j < length given.plan.links → (items : List ℤ) × HeldBy j items
    held_by j lt =
        let link = some_at given.plan.links j lt in
        let held = held_here j link.0 link.1 lt in
        (held.0, λ info at. subst (λ (i : LinkInfo). ((own i.writer).sent j ≡ (own i.reader).taken j ++ held.0) × (length held.0 ≤ given.capacity)) (same_Some link.0 info (sym link.1 ∙ at)) (held.1, held.2))

    abbrev pub all_held : (ls : List (List ℤ)) × (length ls ≡ length given.plan.links) × ((j : ℕ) (items : List ℤ) → slice_get ls j ≡ Some items → HeldBy j items)
    all_held = chosen HeldBy (length given.plan.links) held_by

    abbrev pub links : List (List ℤ)
    links = all_held.0

    pub held_at : (j : ℕ) (info : LinkInfo) → slice_get given.plan.links j ≡ Some info
        → ((own info.writer).sent j ≡ (own info.reader).taken j ++ slice_index_or links j []) × (length (slice_index_or links j []) ≤ given.capacity)
    held_at j info at =
        let count = all_held.1 in
        let lt = slice_get_within given.plan.links j info at in
        all_held.2 j (slice_index_or links j []) (slice_get-get_or links j [] (omega (arith, count, lt))) info at

    pub balanced : AreBalanced given own links
    balanced = record {
      each = own_each;
      count = all_held.1;
      balance = λ j info at. (held_at j info at).0;
      room = λ j lt. (
          let count = all_held.1 in
          let link = some_at given.plan.links j (omega (arith, count, lt)) in
          (held_at j link.0 link.1).1);
    }

    -- what was committed begins the run
    pub begins_run : StepsInterleave → BeginsTheRun given committed
    begins_run law trace place ended end =
        let found = law given accepted run.fits run.room own links balanced in
        let commits = found.1.committed ∙ own_commits in
        subst (λ rs. IsPrefixOf (reactions_text given.plan.kernel rs) (output_text given.plan.kernel trace)) commits
        (after_begins given accepted run.fits (acts found.0) trace place ended end).0
