use Rattle.sig_parse.proofs.{codes, map, arith, mark, expression_of, handed, clock_equation, apart, expressions_so_far, last_stops, clock_refused, clock_alone, clock_stops, two_mapped}
use Rattle.sig_parse.proofs.bodies.operands.Goals as goal

pub returns-in_err-all-clause-refuses : goal.returns-in_err-all-clause-refuses
returns-in_err-all-clause-refuses c = handed _ _ _ c.from_residual.ensures (λ text. clock_refused c.args.depth expression_of _ c.args.parser.now c.separated.new.parser c.requires c.in_err-all.ensures.refuses text)

pub returns-then-len-lt2-clause-refuses : goal.returns-then-len-lt2-clause-refuses
returns-then-len-lt2-clause-refuses c = λ text. clock_alone c.args.depth expression_of c.in_ok-all.all.items c.args.parser.now c.separated.new.parser c.requires (omega arith) c.in_ok-all.ensures.reads

pub returns-clause-reads : goal.returns-clause-reads
returns-clause-reads c = clock_equation c.args.depth (map expression_of c.in_ok-all.all.items) c.requires (two_mapped expression_of c.in_ok-all.all.items (omega arith))
    (expressions_so_far expression_of c.args.depth (mark (codes "^=")) (apart c.args.depth) c.args.parser.now c.in_ok-all.all.items c.separated.new.parser c.in_ok-all.ensures.reads.0).0

pub returns-clause-stops : goal.returns-clause-stops
returns-clause-stops c = let r = c.in_ok-all.ensures.reads in
    clock_stops c.args.depth _ (last_stops expression_of c.args.depth (mark (codes "^=")) (apart c.args.depth) c.args.parser.now c.in_ok-all.all.items c.separated.new.parser r.0) r.1
