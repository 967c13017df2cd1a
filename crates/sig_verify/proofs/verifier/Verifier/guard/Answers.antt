use Rattle.sig_verify.proofs.{◌*◌, sym, subst, AreGood, AreOf, IsGuard, choices, guard_at, good_added, are_good_kept}
use Rattle.sig_verify.proofs.verifier.Verifier.guard.Goals as goal

pub returns-in_default-found-clause-good : goal.returns-in_default-found-clause-good
returns-in_default-found-clause-good c =
    let kept = are_good_kept (10 * choices (guard_at c.args.image.now c.args.n)) c.args.self.now.diagrams c.find.new.self.diagrams c.in_ok-found.ensures.next c.args.image.now c.args.self.now.written c.requires.scene.of
    c.args.self.now.guards c.requires.good in
    subst (λ g. AreGood c.find.new.self.diagrams c.args.image.now c.find.new.self.written g) (sym c.in_ok-found.ensures.guards)
    (subst (λ w. AreGood c.find.new.self.diagrams c.args.image.now w c.args.self.now.guards) (sym c.in_ok-found.ensures.written) kept)

pub returns-clause-good : goal.returns-clause-good
returns-clause-good c =
    let good = subst (λ o. IsGuard c.find.new.self.diagrams c.args.image.now c.find.new.self.written c.args.n o) c.in-Some-found.is c.in_ok-found.ensures.value in
    let of = subst (λ w. AreOf c.args.self.now.diagrams w) (sym c.in_ok-found.ensures.written) c.requires.scene.of in
    let was = subst (λ g. AreGood c.args.self.now.diagrams c.args.image.now c.find.new.self.written g) (sym c.in_ok-found.ensures.guards)
    (subst (λ w. AreGood c.args.self.now.diagrams c.args.image.now w c.args.self.now.guards) (sym c.in_ok-found.ensures.written) c.requires.good) in
    good_added (10 * choices (guard_at c.args.image.now c.args.n)) c.args.self.now.diagrams c.find.new.self.diagrams c.in_ok-found.ensures.next c.args.image.now c.find.new.self.written of
    c.find.new.self.guards c.keep.new.table was c.args.n c.in-Some-found.function good c.in_ok-keep.ensures.here c.in_ok-keep.ensures.others
