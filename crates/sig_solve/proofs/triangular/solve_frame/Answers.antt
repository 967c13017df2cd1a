use Rattle.sig_solve.proofs.{◌+◌, sym, subst, arith, HasClocks, AreClocks, Keeps-trans, HasNoRoom, within_then, within_more, within_passed, solved, with_clocks}
use Rattle.sig_solve.proofs.triangular.solve_frame.Goals as goal
use Rattle.sig_solve.proofs.triangular.solve_frame.Goals.{In_ok-ordered}

has : (c : In_ok-ordered) → HasClocks c.args.frame.now.kernel.now
has c = record {
  alive = c.in_ok-numbers.ensures.free.0;
  root = (c.args.root.0, c.requires.root);
  solved = solved c.args.frame.now c.requires.frame c.in_ok-numbers.field-0.numbers.items c.in_ok-numbers.ensures.value;
  free = c.in_ok-numbers.ensures.free.1;
}

pub clocks_in-requires-clause-has : goal.clocks_in-requires-clause-has
clocks_in-requires-clause-has c = has (goal.at.clocks_in-requires-clause-has c).In_ok-ordered

pub returns-in_err-numbers-clause-share : goal.returns-in_err-numbers-clause-share
returns-in_err-numbers-clause-share c room is =
    within_more room (room + room) c.args.store.now c.triangular_layers.new.store c.from_residual.result (omega arith)
    (within_passed room c.args.store.now c.triangular_layers.new.store c.from_residual.result c.in_err-numbers.field-0.0 c.from_residual.ensures.1 (c.in_err-numbers.ensures.share room is).added (c.in_err-numbers.ensures.share room is).refused)

pub returns-in_err-ordered-clause-share : goal.returns-in_err-ordered-clause-share
returns-in_err-ordered-clause-share c room is =
    let added = (c.in_ok-numbers.ensures.share room is).added in
    within_passed (room + room) c.args.store.now c.triangular_layers.new.store c.from_residual-in_err-ordered.result c.in_err-ordered.field-0.0 c.from_residual-in_err-ordered.ensures.1 (omega (arith, added))
    (subst (HasNoRoom c.args.store.now c.triangular_layers.new.store (room + room)) (sym c.in_err-ordered.ensures.err) tt)

pub returns-clause-kept : goal.returns-clause-kept
returns-clause-kept c = Keeps-trans c.args.store.now c.triangular_layers.new.store c.clocks_in.new.store c.in_ok-numbers.ensures.kept c.clocks_in.ensures.kept

pub returns-clause-clocks : goal.returns-clause-clocks
returns-clause-clocks c =
    with_clocks (HasClocks c.args.frame.now.kernel.now) (AreClocks c.args.frame.now.kernel.now c.clocks_in.new.store.nodes) c.clocks_in.result (has (goal.at.returns-clause-clocks c).In_ok-ordered) c.clocks_in.ensures.value

pub returns-clause-share : goal.returns-clause-share
returns-clause-share c room is =
    within_then room room c.args.store.now c.triangular_layers.new.store c.clocks_in.new.store c.clocks_in.result (c.in_ok-numbers.ensures.share room is).added (c.clocks_in.ensures.share room is)
