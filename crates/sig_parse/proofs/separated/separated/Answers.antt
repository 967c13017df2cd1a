use Rattle.sig_parse.proofs.{inl, inr, terminal_of, first_pushed, handed, parts_one, parts_more}
use Rattle.sig_parse.proofs.separated.separated.Goals as goal

pub loop-all-init : goal.loop-all-init
loop-all-init g c = parts_one (g.P.Part.reads_as c.args.part.now) (terminal_of c.args.separator) _ c.in_ok-read.field-0 (first_pushed c.new-all.ensures.items c.in_ok-push.ensures.items) c.in_ok-read.ensures.reads

pub loop-all-preserved : goal.loop-all-preserved
loop-all-preserved g c = parts_more (g.P.Part.reads_as c.args.part.now) (terminal_of c.args.separator) c.loop-all.all.items _ c.in_ok-read-2.field-0 c.in-Some.field-0 c.args.parser.now _ _ _ c.in_ok-push-2.ensures.items
    c.loop-all.invariant c.in-Some.ensures.0 c.in_ok-read-2.ensures.reads

pub returns-in_err-read-clause-refuses : goal.returns-in_err-read-clause-refuses
returns-in_err-read-clause-refuses g c = handed _ _ _ c.from_residual.ensures (λ text. inl c.in_err-read.ensures.refuses)

pub returns-in_err-read-2-clause-refuses : goal.returns-in_err-read-2-clause-refuses
returns-in_err-read-2-clause-refuses g c = handed _ _ _ c.from_residual-in_err-read-2.ensures (λ text. inr (c.loop-all.all.items, c.in-Some.field-0, _, _, c.loop-all.invariant, c.in-Some.ensures.0, c.in_err-read-2.ensures.refuses))
