use Rattle.sig_part.proofs.{◌∙◌, ℕ, Bool, List, [], length, get_or, ap, subst, arith, get_or_read, length_push, SigId, AreMarked, each_more}
use Rattle.sig_part.proofs.marks.lists_of.Goals as goal

pub loop-of_actor-preserved : goal.loop-of_actor-preserved
loop-of_actor-preserved c =
    let inv = c.loop-of_actor.invariant in
    let marks = c.args.marks.now in
    let n = c.loop-of_actor.of_actor-index in
    let list = c.in_ok-list_of.field-0 in
    let read = get_or_read marks n c.of_actor-item.result c.loop-of_actor-test.true c.of_actor-item.is [] in
    record {
      count = ap length c.in_ok-push.ensures.items ∙ length_push c.loop-of_actor.lists.items list ∙ (let count = inv.count in omega (arith, count));
      each = each_more (λ (actor : ℕ) (signals : List SigId). AreMarked c.args.count (get_or marks actor []) signals) c.loop-of_actor.lists.items c.push.new.self.items list [] n inv.count inv.each
          (subst (λ (of_actor : List Bool). AreMarked c.args.count of_actor list) read c.in_ok-list_of.ensures) c.in_ok-push.ensures.items;
    }
