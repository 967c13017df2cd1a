use Rattle.sig_work.proofs.{◌≡◌, ◌<◌, ◌++◌, ◌∙◌, ℕ, List, ap, arith, drop, get_or, length, refl, set, take, slice_get, all_changed, one_changed, HasStopped, Member, slice_get-get_or, written}
use Rattle.sig_work.proofs.share.Share.stop.Goals as goal

pub loop-member-preserved : goal.loop-member-preserved
loop-member-preserved c =
    let lt : c.loop-member.member-index < length c.loop-member.member-items = omega (arith, c.loop-member-test.true) in
    one_changed HasStopped c.args.self.now.members.items c.loop-member.member-index c.loop-member.member-items (set c.loop-member.member-items c.loop-member.member-index c.stop.new.self)
    (get_or c.loop-member.member-items c.loop-member.member-index c.member-item.result) c.stop.new.self c.loop-member.invariant (slice_get-get_or c.loop-member.member-items c.loop-member.member-index c.member-item.result lt) refl c.stop.ensures

-- the members are those of the loop
after : (len : ℕ) (new items : List Member) → length new ≡ length items → len ≡ length items → take len (new ++ drop (length new) items) ≡ new
after len new items stays whole = written len new items stays whole

pub returns : goal.returns
returns c =
    let stays = c.loop-member.invariant.length_stays in
    let whole : c.args.self.now.members.len ≡ length c.args.self.now.members.items = (let ok = c.args.self.now.members.ok.0 in omega (arith, ok)) in
    let same = after c.args.self.now.members.len c.loop-member.member-items c.args.self.now.members.items stays whole in record {
      count = ap (λ (xs : List Member). length xs) same ∙ stays;
      members = λ j before at.
          let p = all_changed HasStopped c.args.self.now.members.items c.loop-member.member-index c.loop-member.member-items c.loop-member.invariant (let past = c.loop-member-test.false in omega (arith, past, stays)) j before at in
          (p.0, ap (λ (xs : List Member). slice_get xs j) same ∙ p.1, p.2);
      seats = c.fail.ensures.seat;
      recorded = (let least = c.fail.ensures.recorded in omega (arith, least));
    }
