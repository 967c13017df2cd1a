use Rattle.sig_pace.proofs.{subst, MatchOption, AreClassesInOrder, IsTriangular, first_is_root}
use Rattle.sig_pace.proofs.needing.is_triangular.Goals as goal

pub returns-in-Some-clause-root : goal.returns-in-Some-clause-root
returns-in-Some-clause-root c = λ _.
    let list = subst (λ o. MatchOption o (IsTriangular c.args.kernel.now → ⊥) (λ classes. AreClassesInOrder c.args.kernel.now classes.items)) c.in-Some.is c.in_ok-found.ensures.list in
    let root = first_is_root c.args.kernel.now c.requires c.in-Some._classes.items list in
    (root.0, root.2)
