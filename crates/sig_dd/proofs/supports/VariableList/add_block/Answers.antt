use Rattle.sig_dd.proofs.{◌≡◌, ◌+◌, ◌*◌, ℕ, sym, subst, arith, IsTestedBelow, tested_more}
use Rattle.sig_dd.proofs.supports.VariableList.add_block.Goals as goal

pub loop-place-preserved : goal.loop-place-preserved
loop-place-preserved c = λ nodes r mask before.
    let place = c.loop-place.place in
    let b : ℕ = c.args.block * 64 + place in
    let next : b + 1 ≡ c.args.block * 64 + (place + 1) = omega arith in
    let tells = mask place c.loop-place-test.true in
    subst (λ (bound : ℕ). IsTestedBelow nodes bound r c.add.new.self) next
    (subst (IsTestedBelow nodes (b + 1) r) (sym c.in_ok-add.ensures)
    (tested_more nodes b r c.loop-place.self c.has_bit.result (c.loop-place.invariant nodes r mask before)
    ((λ is. tells.0 (c.has_bit.ensures.0 is)), (λ tests. c.has_bit.ensures.1 (tells.1 tests)))))

pub returns : goal.returns
returns c = λ nodes r mask before.
    let most = c.loop-place.auto.place-end in
    let last = c.loop-place-test.false in
    let end : c.loop-place.place ≡ 64 = omega (arith, most, last) in
    subst (λ (place : ℕ). IsTestedBelow nodes (c.args.block * 64 + place) r c.loop-place.self) end (c.loop-place.invariant nodes r mask before)
