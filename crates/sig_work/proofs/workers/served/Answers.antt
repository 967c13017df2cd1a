use Rattle.sig_work.proofs.{[], List, sym, subst, run_single, served_as, run_of, AreOfRun, Share}
use Rattle.sig_work.proofs.workers.served.Goals as goal

pub serve-quiet-requires : goal.serve-quiet-requires
serve-quiet-requires g c = record {
  run = (
    c.requires.0,
    c.requires.1,
    [],
    subst (λ (xs : List Share). AreOfRun (run_of c.args.plan.now c.args.inputs.now c.requires.0 c.requires.1) c.args.word.now [] xs) (sym c.from_mut.ensures.value)
        (run_single (run_of c.args.plan.now c.args.inputs.now c.requires.0 c.requires.1) c.args.word.now c.args.share c.requires.2),
  );
}

pub returns : goal.returns
returns g c =
    served_as c.args.plan.now c.args.inputs.now c.args.word.now c.args.share c.from_mut.result.now c.serve-quiet.new.shares c.from_mut.ensures.value c.serve-quiet.ensures.same
    _ _ _ c.serve-quiet.result c.serve-quiet.ensures.failed c.requires c.serve-quiet.ensures.served
