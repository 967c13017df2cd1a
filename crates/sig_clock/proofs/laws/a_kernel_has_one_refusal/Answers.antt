use Rattle.sig_clock.proofs.{IsOpen, dead_has_none, one_least, same_pinned, same_roots}
use Rattle.sig_clock.proofs.laws.a_kernel_has_one_refusal.Goals as goal

pub returns-clause-dead : goal.returns-clause-dead
returns-clause-dead c = dead_has_none

pub returns-clause-no_root : goal.returns-clause-no_root
returns-clause-no_root c = λ kernel x y missing has. missing.none has.root.0 has.root.1

pub returns-clause-unsolved : goal.returns-clause-unsolved
returns-clause-unsolved c = λ kernel x unsolved has. let solved = has.solved x unsolved.first.holds.0 in unsolved.first.holds.1 solved.0 solved.1.enters

pub returns-clause-pinned : goal.returns-clause-pinned
returns-clause-pinned c = λ kernel b first has.
    let pinned = first.pinned in
    let other = has.free b pinned.is pinned.reaction pinned.truth pinned.possible pinned.present in
    pinned.forced other.0 other.1 other.2 other.3

pub returns-clause-same_roots : goal.returns-clause-same_roots
returns-clause-same_roots c = same_roots

pub returns-clause-same_unsolved : goal.returns-clause-same_unsolved
returns-clause-same_unsolved c = λ kernel x y a b. one_least (IsOpen kernel) x y a.first b.first

pub returns-clause-same_pinned : goal.returns-clause-same_pinned
returns-clause-same_pinned c = same_pinned

pub returns-clause-one_by_one : goal.returns-clause-one_by_one
returns-clause-one_by_one c = λ kernel x y u missing unsolved. missing.none unsolved.root.0 unsolved.root.1
