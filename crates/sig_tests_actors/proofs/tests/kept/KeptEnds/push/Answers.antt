use Rattle.std.proofs.Common.{◌++◌, ◌∷◌, ◌∙◌, [], ℤ, ap, w64}
use Rattle.std.proofs.lemmas.Int.{to_z-of_z}
use Rattle.sig_tests_actors.proofs.SentItems.{pushed}
use Rattle.sig_tests_actors.proofs.tests.kept.KeptEnds.push.Goals as goal

pub returns-clause-asked : goal.returns-clause-asked
returns-clause-asked c = record {
  tells_past = pushed c.args.self.now.items.items c.push_reserved.new.self.items c.args.link c.args.item
      (c.push_reserved.ensures.items ∙ ap (λ (item : ℤ). c.args.self.now.items.items ++ (c.args.link, item) ∷ []) (to_z-of_z w64 c.args.item c.ranges.item));
  tells_queues = tt;
}
