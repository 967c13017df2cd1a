use Rattle.sig_work.proofs.{refl, sym, ap, ◌≡◌, ◌∙◌, slice_get, same_Some, left_share, item_at, But, Each, Member}
use Rattle.sig_work.proofs.share.Share.take_put.Goals as goal

pub returns-clause-left : goal.returns-clause-left
returns-clause-left c =
    left_share (But c.args.link) Each c.args.self.now c.args.number c.index_mut.result.now _
    (item_at c.args.self.now.members.items c.args.number c.index_mut.result.now c.requires.there c.index_mut.ensures.value)
    (record { number = refl; state = refl; ending = refl; ends = c.take_put.ensures.left })
    _ refl refl

pub returns-clause-put : goal.returns-clause-put
returns-clause-put c = λ m is. (
    let here = item_at c.args.self.now.members.items c.args.number c.index_mut.result.now c.requires.there c.index_mut.ensures.value in
    let same : c.index_mut.result.now ≡ m = same_Some c.index_mut.result.now m (sym here ∙ is) in
    ap (λ (n : Member). slice_get n.ends.puts.items c.args.link) (sym same) ∙ c.take_put.ensures.put)
