use Rattle.sig_verify.proofs.{all_few, all_tired}
use Rattle.sig_verify.proofs.diagrams.Diagrams.meets.Goals as goal

pub returns-clause-counted : goal.returns-clause-counted
returns-clause-counted c =
    all_few c.args.self.now c.meets_in.ensures.store.reduced (record { first = c.args.first; second = c.args.second }) c.requires.first c.requires.second c.args.work.now c.meets_in.new.work c.meets_in.ensures.counted

pub returns-clause-refused : goal.returns-clause-refused
returns-clause-refused c =
    all_tired c.args.self.now c.meets_in.ensures.store.reduced (record { first = c.args.first; second = c.args.second }) c.requires.first c.requires.second c.args.work.now c.meets_in.result c.meets_in.ensures.refused
