use Rattle.sig_verify.proofs.{◌*◌, sym, subst, IsScene, choices, guard_at, IsRefusal, err_weaker, again_refused, scene_kept}
use Rattle.sig_verify.proofs.verifier.Verifier.find.Goals as goal

pub tell-requires-2-clause-scene : goal.tell-requires-2-clause-scene
tell-requires-2-clause-scene c =
    subst (λ w. IsScene c.tell.new.self.diagrams c.args.image.now w) (sym c.in_ok-found.ensures.written)
    (scene_kept (5 * choices (guard_at c.args.image.now c.args.n)) c.args.self.now.diagrams c.tell.new.self.diagrams c.in_ok-found.ensures.next c.args.image.now c.args.self.now.written c.requires.scene)

pub returns-clause-refused : goal.returns-clause-refused
returns-clause-refused c =
    err_weaker (IsRefusal c.tell.new.self.diagrams (5 * choices (guard_at c.args.image.now c.args.n))) (IsRefusal c.args.self.now.diagrams (10 * choices (guard_at c.args.image.now c.args.n))) c.tell-2.result
    (again_refused (choices (guard_at c.args.image.now c.args.n)) c.args.self.now.diagrams c.tell.new.self.diagrams c.in_ok-found.ensures.next) c.tell-2.ensures.refused
