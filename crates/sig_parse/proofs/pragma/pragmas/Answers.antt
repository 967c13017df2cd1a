use Rattle.sig_parse.proofs.{map, subst, sym, codes, placement_of, pragmas_between, handed, covered, pragmas_missing, pragmas_inside, pragmas_last, pragmas_settled, State, Settles, InPragmas, ContinuesOptional, word}
use Rattle.sig_parse.proofs.pragma.pragmas.Goals as goal

pub returns-clause-reads : goal.returns-clause-reads
returns-clause-reads c = pragmas_between (map placement_of c.in_ok-all.all.items) c.in-Some._first c.in_ok-_ended._ended c.in_ok-_last._last c.in-Some.ensures.0 c.in_ok-all.ensures.reads c.in_ok-_ended.ensures.reads c.in_ok-_last.ensures.reads

pub returns-in_default-clause-settles : goal.returns-in_default-clause-settles
returns-in_default-clause-settles c = subst (λ (x : State). Settles InPragmas (ContinuesOptional (word (codes "pragmas"))) c.args.parser.now.leaves x.leaves) (sym c.in_default.ensures.0) (pragmas_missing c.in_default.ensures.1)

pub returns-in_err-all-clause-refuses : goal.returns-in_err-all-clause-refuses
returns-in_err-all-clause-refuses c = handed _ _ _ c.from_residual.ensures (λ text. pragmas_inside c.in-Some._first (covered c.in-Some.ensures.0) (c.in_err-all.ensures.refuses text))

pub returns-in_err-_ended-clause-refuses : goal.returns-in_err-_ended-clause-refuses
returns-in_err-_ended-clause-refuses c = handed _ _ _ c.from_residual-in_err-_ended.ensures (λ text. pragmas_inside c.in-Some._first (covered c.in-Some.ensures.0) (c.in_ok-all.ensures.closes _ _ (c.in_err-_ended.ensures.refuses text)))

pub returns-in_err-_last-clause-refuses : goal.returns-in_err-_last-clause-refuses
returns-in_err-_last-clause-refuses c = handed _ _ _ c.from_residual-in_err-_last.ensures (λ text. pragmas_last c.in-Some._first (map placement_of c.in_ok-all.all.items) c.in_ok-_ended._ended (covered c.in-Some.ensures.0) (covered c.in_ok-all.ensures.reads) (covered c.in_ok-_ended.ensures.reads) (c.in_err-_last.ensures.refuses text))

pub returns-clause-settles : goal.returns-clause-settles
returns-clause-settles c = pragmas_settled c.in-Some._first (map placement_of c.in_ok-all.all.items) c.in_ok-_ended._ended c.in_ok-_last._last (covered c.in-Some.ensures.0) (covered c.in_ok-all.ensures.reads) (covered c.in_ok-_ended.ensures.reads) (covered c.in_ok-_last.ensures.reads)
