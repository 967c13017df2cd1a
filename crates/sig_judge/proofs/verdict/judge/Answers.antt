use Rattle.sig_judge.proofs.{flat_body_of, accepted_exactly, broken_exactly}
use Rattle.sig_judge.proofs.verdict.judge.Goals as goal

pub returns-clause-accepted : goal.returns-clause-accepted
returns-clause-accepted c = accepted_exactly (flat_body_of c.args.flat.now) c.args.trace.now.rows.items c.in_ok-verdict.verdict c.in_ok-verdict.ensures

pub returns-clause-broken : goal.returns-clause-broken
returns-clause-broken c = broken_exactly c.meaning_up_to_an_instant.ensures.holds (flat_body_of c.args.flat.now) c.args.trace.now.rows.items c.in_ok-verdict.verdict c.in_ok-verdict.ensures
