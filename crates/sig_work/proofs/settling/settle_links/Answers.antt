use Rattle.sig_work.proofs.{◌<◌, ℕ, List, length, drop, sym, subst, arith, LinkInfo, written_back, AreSingle, AreLinked, AreLeft, AreSettledBelow, From, HaveRoomFor, Share}
use Rattle.sig_work.proofs.settling.settle_links.Goals as goal

pub settle_all-requires-clause-linked : goal.settle_all-requires-clause-linked
settle_all-requires-clause-linked g c =
    subst (λ (ls : List LinkInfo). AreLinked ls c.deref_mut.result.now) (sym c.links_in.ensures)
    (subst (λ (xs : List Share). AreLinked c.args.plan.now.links xs) (sym c.deref_mut.ensures.value) c.requires.linked)

pub settle_all-requires-clause-single : goal.settle_all-requires-clause-single
settle_all-requires-clause-single g c = subst (λ (xs : List Share). AreSingle xs) (sym c.deref_mut.ensures.value) c.requires.single

pub settle_all-requires-clause-room : goal.settle_all-requires-clause-room
settle_all-requires-clause-room g c =
    subst (λ (ls : List LinkInfo). (link : ℕ) → link < length ls → HaveRoomFor link c.deref_mut.result.now) (sym c.links_in.ensures)
    (subst (λ (xs : List Share). (link : ℕ) → link < length c.args.plan.now.links → HaveRoomFor link xs) (sym c.deref_mut.ensures.value) c.requires.room)

pub returns-clause-left : goal.returns-clause-left
returns-clause-left g c =
    let left : AreLeft (From (length c.args.plan.now.links)) (From (length c.args.plan.now.links)) c.args.shares.items c.settle_all.new.shares =
    subst (λ (ls : List LinkInfo). AreLeft (From (length ls)) (From (length ls)) c.args.shares.items c.settle_all.new.shares) c.links_in.ensures
    (subst (λ (xs : List Share). AreLeft (From (length c.links_in.result.now)) (From (length c.links_in.result.now)) xs c.settle_all.new.shares) c.deref_mut.ensures.value c.settle_all.ensures.left) in
    let count = left.count in
    let fits = c.args.shares.ok.0 in
    subst (λ (xs : List Share). AreLeft (From (length c.args.plan.now.links)) (From (length c.args.plan.now.links)) c.args.shares.items xs)
    (sym (written_back c.settle_all.new.shares (drop (length c.settle_all.new.shares) c.args.shares.items) c.args.shares.len (omega (arith, count, fits)))) left

pub returns-clause-settled : goal.returns-clause-settled
returns-clause-settled g c =
    subst (λ (ls : List LinkInfo). AreSettledBelow (length ls) ls c.args.shares.items) c.links_in.ensures
    (subst (λ (xs : List Share). AreSettledBelow (length c.links_in.result.now) c.links_in.result.now xs) c.deref_mut.ensures.value c.settle_all.ensures.settled)
