use Rattle.sig_work.proofs.{◌≡◌, ◌+◌, ◌-◌, ◌++◌, ap, sym, subst, drop, length, take, List, arith, min, halt_parts, dealt, joined_none, numbered, written_back, AreHandedFrom, AreJoined, AreSeated, AreDealt, run_of, Member, Share}
use Rattle.sig_work.proofs.dealing.deal.Goals as goal

pub join_all-requires-clause-none : goal.join_all-requires-clause-none
join_all-requires-clause-none c =
    subst (λ (xs : List Member). AreJoined c.args.plan.now.links c.args.capacity 0 xs xs) (sym c.deref_mut.ensures.value)
    (joined_none c.args.plan.now c.args.inputs.now c.args.limit (length c.args.plan.now.codes) c.args.capacity c.in_ok-members.members.items c.in_ok-members.ensures)

pub hand_out-requires-clause-numbered : goal.hand_out-requires-clause-numbered
hand_out-requires-clause-numbered c =
    let zeroth = c.in_ok-members.members.items in
    let one = c.join_all.new.members in
    let joined : AreJoined c.args.plan.now.links c.args.capacity (length c.args.plan.now.links) zeroth one =
    subst (λ (xs : List Member). AreJoined c.args.plan.now.links c.args.capacity (length c.args.plan.now.links) xs one) c.deref_mut.ensures.value c.in_ok-join_all.ensures in
    let same : take c.in_ok-members.members.len (one ++ drop (length one) zeroth) ≡ one =
    written_back one (drop (length one) zeroth) c.in_ok-members.members.len (let a = joined.count in let b = c.in_ok-members.members.ok.0 in omega (arith, a, b)) in
    numbered (run_of c.args.plan.now c.args.inputs.now c.args.capacity c.args.limit) c.plans_are_accepted.ensures zeroth (take c.in_ok-members.members.len (one ++ drop (length one) zeroth)) c.in_ok-members.ensures
    (subst (λ (xs : List Member). AreJoined c.args.plan.now.links c.args.capacity (length c.args.plan.now.links) zeroth xs) (sym same) joined)

pub returns : goal.returns
returns c =
    let given = run_of c.args.plan.now c.args.inputs.now c.args.capacity c.args.limit in
    let zeroth = c.in_ok-members.members.items in
    let one = c.join_all.new.members in
    let joined : AreJoined c.args.plan.now.links c.args.capacity (length c.args.plan.now.links) zeroth one =
    subst (λ (xs : List Member). AreJoined c.args.plan.now.links c.args.capacity (length c.args.plan.now.links) xs one) c.deref_mut.ensures.value c.in_ok-join_all.ensures in
    let members : List Member = take c.in_ok-members.members.len (one ++ drop (length one) zeroth) in
    let same : members ≡ one =
    written_back one (drop (length one) zeroth) c.in_ok-members.members.len (let a = joined.count in let b = c.in_ok-members.members.ok.0 in omega (arith, a, b)) in
    let all : AreJoined c.args.plan.now.links c.args.capacity (length c.args.plan.now.links) zeroth members =
    subst (λ (xs : List Member). AreJoined c.args.plan.now.links c.args.capacity (length c.args.plan.now.links) zeroth xs) (sym same) joined in
    let many : length members ≡ c.in_ok-members.members.len = (let a = joined.count in let b = c.in_ok-members.members.ok.0 in let d = ap (λ (xs : List Member). length xs) same in omega (arith, a, b, d)) in
    let empty = c.in_ok-shares.shares.items in
    let room_is : c.len.result ≡ length members = (let a = c.len.ensures in omega (arith, a, many)) in
    let seated : AreSeated c.in_ok-halt.halt (c.min-served.result + 1) (length members) empty =
    subst (λ n. AreSeated c.in_ok-halt.halt (c.min-served.result + 1) n empty) room_is c.in_ok-shares.ensures in
    let handed : AreHandedFrom 0 members empty c.hand_out.new.shares = subst (λ (xs : List Share). AreHandedFrom 0 members xs c.hand_out.new.shares) c.deref_mut-2.ensures.value c.hand_out.ensures in
    let served_is : c.min-served.result ≡ min (length c.args.plan.now.codes - 1) c.args.workers =
    (let a = c.min-served.ensures in let b = c.len-clusters.ensures in let d = c.in_ok-members.ensures.count_is in let e = c.in_ok-members.members.ok.0 in omega (arith, a, b, d, e)) in
    let halt_is : halt_parts c.in_ok-halt.halt ≡ c.min-served.result + 1 = c.in_ok-halt.ensures.word.1 in
    let back : take c.in_ok-shares.shares.len (c.hand_out.new.shares ++ drop (length c.hand_out.new.shares) empty) ≡ c.hand_out.new.shares =
    written_back c.hand_out.new.shares (drop (length c.hand_out.new.shares) empty) c.in_ok-shares.shares.len (let a = handed.seats.count in let b = c.in_ok-shares.shares.ok.0 in omega (arith, a, b)) in
    record {
      dealt = subst (λ (xs : List Share). AreDealt given c.args.workers c.in_ok-halt.halt xs) (sym back)
          (dealt given c.plans_are_accepted.ensures zeroth members c.in_ok-members.ensures all c.args.workers c.in_ok-halt.halt c.min-served.result served_is halt_is empty c.hand_out.new.shares seated handed);
    }
