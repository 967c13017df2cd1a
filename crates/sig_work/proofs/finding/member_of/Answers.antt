use Rattle.sig_work.proofs.{◌≡◌, get_or, sym, subst, ◌∙◌, Some, slice_get, same_Some, among_at, member_at, member_within, item_at, IsAmong, Member}
use Rattle.sig_work.proofs.finding.member_of.Goals as goal

pub returns-clause-some : goal.returns-clause-some
returns-clause-some c =
    let spot = c.in_ok-share.field-0 in
    let stands = c.in_ok-share.ensures.some in
    let d = c.index-shares-share.result in
    let read : slice_get (get_or c.args.shares.now spot.share d).members.items spot.member ≡ Some c.index.result.now =
    item_at (get_or c.args.shares.now spot.share d).members.items spot.member c.index.result.now (member_within c.args.shares.now c.args.number spot stands d) c.index.ensures in
    subst (λ (m : Member). IsAmong c.args.shares.now c.args.number m)
    (same_Some stands.member c.index.result.now (sym (member_at c.args.shares.now c.args.number spot stands d) ∙ read))
    (among_at c.args.shares.now c.args.number spot stands d)
