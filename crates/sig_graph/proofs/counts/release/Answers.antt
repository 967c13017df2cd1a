use Rattle.sig_graph.proofs.{ℕ, List, sym, subst, take, get_or, ◌∷◌, [], take_more, Releases, releases_then, some_left}
use Rattle.sig_graph.proofs.counts.release.Goals as goal

pub lower-requires-clause-enough : goal.lower-requires-clause-enough
lower-requires-clause-enough c =
    some_left c.args.numbers.now c.loop-number.number-index c.args.counts.now c.loop-number.counts c.args.ready.now c.loop-number.ready c.loop-number-test.true c.requires.enough c.loop-number.invariant

pub loop-number-preserved : goal.loop-number-preserved
loop-number-preserved c =
    let numbers = c.args.numbers.now in
    let i = c.loop-number.number-index in
    subst (λ (xs : List ℕ). Releases xs c.args.counts.now c.lower.new.counts c.args.ready.now c.lower.new.ready) (sym (take_more numbers i 0 c.loop-number-test.true))
    (releases_then (take i numbers) (get_or numbers i 0 ∷ []) c.args.counts.now c.loop-number.counts c.lower.new.counts c.args.ready.now c.loop-number.ready c.lower.new.ready c.loop-number.invariant c.in_ok-lower.ensures)
