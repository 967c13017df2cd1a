use Rattle.sig_part.proofs.{◌≡◌, ◌↔◌, ◌∙◌, ℕ, List, [], length, refl, sym, ap, subst, arith, Contains, length_push, SigId, IsNeededWithin, each_more, signal_same}
use Rattle.sig_part.proofs.uses.needed_for_each.Goals as goal

pub loop-number-preserved : goal.loop-number-preserved
loop-number-preserved c =
    let ops = c.args.ops.now in
    let needs = c.args.needs.now in
    let n = c.loop-number.number in
    let inv = c.loop-number.invariant in
    let list = c.in_ok-needed_for.field-0 in
    let here : SigId = record { 0 = n } in
    record {
      count = ap length c.in_ok-push.ensures.items ∙ length_push c.loop-number.needed.items list ∙ (let count = inv.count in omega (arith, count));
      each = each_more (λ (k : ℕ) (needed : List SigId). (x : SigId) → x.0 ≡ k → (condition : SigId) → Contains needed condition ↔ IsNeededWithin ops needs x (length ops) condition)
          c.loop-number.needed.items c.push.new.self.items list [] n inv.count inv.each
          (λ x same. subst (λ (y : SigId). (condition : SigId) → Contains list condition ↔ IsNeededWithin ops needs y (length ops) condition) (signal_same here x (sym same)) c.in_ok-needed_for.ensures)
          c.in_ok-push.ensures.items;
    }

pub returns : goal.returns
returns c =
    let inv = c.loop-number.invariant in
    let n = inv.count in
    let last = c.loop-number-test.false in
    let most = c.loop-number.auto.number-end in
    record {
      count = omega (arith, n, last, most);
      each = λ x below. inv.each x.0 (omega (arith, below, last)) x refl;
    }
