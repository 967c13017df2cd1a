use Rattle.sig_pace.proofs.{get_or, arith, Contains-get_or}
use Rattle.sig_pace.proofs.ties.add_marked.Goals as goal

pub add_mark-requires-clause-within : goal.add_mark-requires-clause-within
add_mark-requires-clause-within c =
    let lt = c.requires.within (get_or c.args.least.now c.loop-number.number 0) (Contains-get_or c.args.least.now c.loop-number.number 0 c.loop-number-test.true) in
    let same = c.requires.room in
    omega (arith, lt, same)
