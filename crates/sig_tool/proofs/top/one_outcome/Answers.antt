use Rattle.sig_tool.proofs.OneOutcome as outcomes
use Rattle.sig_tool.proofs.top.one_outcome.Goals as goal

pub returns-clause-one : goal.returns-clause-one
returns-clause-one c = outcomes.one_outcome

pub returns-clause-some : goal.returns-clause-some
returns-clause-some c = outcomes.some_outcome

pub returns-clause-every : goal.returns-clause-every
returns-clause-every c =
    outcomes.every_outcome c.programs_have_an_outcome.ensures.compiled c.programs_have_an_outcome.ensures.printed c.runs_have_one_outcome.ensures.every c.plays_have_one_outcome.ensures.every
    c.loads_have_one_outcome.ensures.every c.builds_have_one_outcome.ensures.every c.execs_have_one_outcome.ensures.every c.judges_have_one_outcome.ensures.every
