use Rattle.sig_work.proofs.{◌≡◌, ◌≤◌, ◌<◌, ◌+◌, ◌-◌, ◌++◌, ◌∷◌, [], ◌∙◌, ap, sym, subst, length, List, arith, rules, Some, slice_get, length-append, handed_more, handed_none, room_here, get_front, get_last, AreHandedFrom, HaveRoom, share_for, Member}
use Rattle.sig_work.proofs.handing.hand_out.Goals as goal

pub loop-member-init : goal.loop-member-init
loop-member-init c = record {
  front = λ k m is. is;
  within = omega arith;
  handed = handed_none c.args.members.items c.args.shares.now;
  room = c.requires.room;
}

pub loop-member-preserved : goal.loop-member-preserved
loop-member-preserved c =
    let rest = c.pop.new.self.items in
    let m = c.in-Some.member in
    let popped : c.loop-member.members.items ≡ rest ++ m ∷ [] = search rules in
    let longer = length-append rest (m ∷ []) in
    let count : length c.loop-member.members.items ≡ length rest + 1 = ap (λ (xs : List Member). length xs) popped ∙ longer in
    let here : slice_get c.args.members.items (length rest) ≡ Some m =
    c.loop-member.invariant.front (length rest) m (subst (λ (xs : List Member). slice_get xs (length rest) ≡ Some m) (sym popped) (get_last rest m)) in
    let handed : AreHandedFrom (length rest + 1) c.args.members.items c.args.shares.now c.loop-member.shares =
    subst (λ n. AreHandedFrom n c.args.members.items c.args.shares.now c.loop-member.shares) count c.loop-member.invariant.handed in
    let room : HaveRoom (length rest + 1) c.loop-member.shares = subst (λ n. HaveRoom n c.loop-member.shares) count c.loop-member.invariant.room in
    let within : length rest + 1 ≤ length c.args.members.items = (let w = c.loop-member.invariant.within in omega (arith, w, count)) in
    let last_is : c.saturating_sub-last.result ≡ length c.args.members.items - 1 =
    (let a = c.saturating_sub-last.ensures in let b = c.len.ensures in let d = c.args.members.ok.0 in omega (arith, a, b, d)) in
    let number_is : c.len-in-Some.result ≡ length rest = (let a = c.len-in-Some.ensures in let d = c.pop.new.self.ok.0 in omega (arith, a, d)) in
    let at_is : c.share_for.result ≡ share_for (length c.args.shares.now - 1) (length c.args.members.items - 1) (length rest) =
    c.share_for.ensures.is ∙ ap (λ n. share_for (length c.args.shares.now - 1) n c.len-in-Some.result) last_is
    ∙ ap (share_for (length c.args.shares.now - 1) (length c.args.members.items - 1)) number_is in
    let shares_count : length c.loop-member.shares ≡ length c.args.shares.now = handed.seats.count in
    let lt : c.share_for.result < length c.loop-member.shares =
    (let a = c.share_for.ensures.within in let some = c.requires.some in omega (arith, a, some, shares_count)) in
    record {
      front = λ k x is. c.loop-member.invariant.front k x (subst (λ (xs : List Member). slice_get xs k ≡ Some x) (sym popped) (get_front rest (m ∷ []) k x is));
      within = omega (arith, within);
      handed = handed_more c.args.members.items c.requires.numbered c.args.shares.now c.loop-member.shares c.give.new.shares (length rest) handed m here within c.share_for.result at_is lt c.give.ensures;
      room = room_here c.loop-member.shares c.give.new.shares c.share_for.result m c.give.ensures lt (length rest) (subst (λ n. HaveRoom n c.loop-member.shares) (omega arith) room);
    }
