use Rattle.sig_solve.proofs.{◌≡◌, ◌+◌, sym, ◌∙◌, subst, IfOk, arith, IfErr, Some, IsRoot, HasClocks, AreClocks, IsTriangular, IsRefusalOf, IsSystemRoom, within_memory, first_is_root, is_triangular}
use Rattle.sig_solve.proofs.triangular.solve_triangular.Goals as goal

pub solve_frame-requires-clause-triangular : goal.solve_frame-requires-clause-triangular
solve_frame-requires-clause-triangular c = subst IsTriangular (sym c.in_ok-frame.ensures.0) (is_triangular c.args.kernel.now c.args.classes.now c.requires.classes)

pub solve_frame-requires-clause-root : goal.solve_frame-requires-clause-root
solve_frame-requires-clause-root c =
    let top = first_is_root c.args.kernel.now c.requires.valid c.args.classes.now c.requires.classes in
    let both : Some c.in-Some.root.now ≡ Some top.0 = c.in-Some.ensures.value ∙ top.1 in
    let same : c.in-Some.root.now ≡ top.0 = cc in
    subst (λ k. IsRoot k c.in-Some.root.now) (sym c.in_ok-frame.ensures.0) (subst (IsRoot c.args.kernel.now) (sym same) top.2)

pub returns-clause-clocks : goal.returns-clause-clocks
returns-clause-clocks c = subst (λ k. IfOk c.solve_frame.result (λ clocks. HasClocks k × AreClocks k c.solve_frame.new.store.nodes clocks)) c.in_ok-frame.ensures.0 c.solve_frame.ensures.clocks

pub returns-clause-refused : goal.returns-clause-refused
returns-clause-refused c = subst (λ k. IfErr c.solve_frame.result (IsRefusalOf k)) c.in_ok-frame.ensures.0 c.solve_frame.ensures.refused

pub returns-clause-share : goal.returns-clause-share
returns-clause-share c room is = c.solve_frame.ensures.share room (subst (λ k. IsSystemRoom k room) (sym c.in_ok-frame.ensures.0) is)

pub returns-in_err-frame-clause-share : goal.returns-in_err-frame-clause-share
returns-in_err-frame-clause-share c room is = within_memory (room + room) c.args.store.now c.args.store.now c.from_residual.result (omega arith) c.from_residual.ensures.1
