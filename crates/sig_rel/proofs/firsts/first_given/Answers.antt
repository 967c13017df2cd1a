use Rattle.sig_rel.proofs.{◌≡◌, ◌<◌, ◌+◌, ◌∙◌, get_or, first_or, ℕ, List, Option, None, Some, length, replicate, refl, sym, ap, subst, arith, slice_get, slice_get_read, written, gives, Equation, Signal, AreFirstsSoFar, rows_none, rows_more, rows_whole}
use Rattle.sig_rel.proofs.firsts.first_given.Goals as goal

pub loop-number-init : goal.loop-number-init
loop-number-init c =
    let kernel = c.args.kernel.now in
    subst (AreFirstsSoFar (gives c.args.least.now) kernel.equations (length kernel.signals) 0)
    (sym (c.in_ok-firsts.ensures ∙ ap (λ (xs : List Signal). replicate (length xs) (let o : Option ℕ = None in o)) c.as_slice.ensures))
    (rows_none (gives c.args.least.now) kernel.equations (length kernel.signals))

pub loop-number-preserved : goal.loop-number-preserved
loop-number-preserved c =
    let kernel = c.args.kernel.now in
    let at = c.loop-number in
    let equation = c.index-equations-number.result in
    let value = c.deref_mut.ensures.value in
    let new = c.note_given.new.firsts in
    let count : length new ≡ length at.firsts.items = c.note_given.ensures.count ∙ ap length value in
    let whole = written at.firsts.len new at.firsts.items count (sym c.deref_mut.ensures.len ∙ ap length value) in
    let there : slice_get kernel.equations at.number ≡ Some equation =
    subst (λ (xs : List Equation). slice_get xs at.number ≡ Some equation) c.as_slice-equations.ensures
    (slice_get_read c.as_slice-equations.result.now (length c.as_slice-equations.result.now) at.number equation refl c.loop-number-test.true c.index-equations-number.is) in
    subst (AreFirstsSoFar (gives c.args.least.now) kernel.equations (length kernel.signals) (at.number + 1)) (sym whole)
    (rows_more (gives c.args.least.now) kernel.equations (length kernel.signals) at.number equation at.firsts.items new there at.invariant count
    (subst (λ (old : List (Option ℕ)). (x : ℕ) → x < length old → get_or new x None ≡ first_or (get_or old x None) (gives c.args.least.now x equation) at.number) value c.note_given.ensures.each))

pub returns : goal.returns
returns c =
    let kernel = c.args.kernel.now in
    rows_whole (gives c.args.least.now) kernel c.loop-number.number c.loop-number.firsts.items (let long = ap length c.as_slice-equations.ensures in let t = c.loop-number-test.false in omega (arith, long, t)) c.loop-number.invariant
