use Rattle.sig_parse.proofs.{map, subst, sym, codes, declared_of, params_between, handed, covered, params_missing, params_inside, params_settled, State, Settles, InParams, ContinuesOptional, mark}
use Rattle.sig_parse.proofs.process.params.Goals as goal

pub returns-clause-reads : goal.returns-clause-reads
returns-clause-reads c = params_between (map declared_of c.in_ok-all.all.items) c.in-Some._opened c.in_ok-_closed._closed c.in-Some.ensures.0 c.in_ok-all.ensures.reads c.in_ok-_closed.ensures.reads

pub returns-in_default-clause-settles : goal.returns-in_default-clause-settles
returns-in_default-clause-settles c = subst (λ (x : State). Settles InParams (ContinuesOptional (mark (codes "{"))) c.args.parser.now.leaves x.leaves) (sym c.in_default.ensures.0) (params_missing c.in_default.ensures.1)

pub returns-in_err-all-clause-refuses : goal.returns-in_err-all-clause-refuses
returns-in_err-all-clause-refuses c = handed _ _ _ c.from_residual.ensures (λ text. params_inside c.in-Some._opened (covered c.in-Some.ensures.0) (c.in_err-all.ensures.refuses text))

pub returns-in_err-_closed-clause-refuses : goal.returns-in_err-_closed-clause-refuses
returns-in_err-_closed-clause-refuses c = handed _ _ _ c.from_residual-in_err-_closed.ensures (λ text. params_inside c.in-Some._opened (covered c.in-Some.ensures.0) (c.in_ok-all.ensures.closes _ _ (c.in_err-_closed.ensures.refuses text)))

pub returns-clause-settles : goal.returns-clause-settles
returns-clause-settles c = params_settled c.in-Some._opened (map declared_of c.in_ok-all.all.items) c.in_ok-_closed._closed (covered c.in-Some.ensures.0) (covered c.in_ok-all.ensures.reads) (covered c.in_ok-_closed.ensures.reads)
