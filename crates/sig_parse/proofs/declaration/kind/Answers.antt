use Rattle.sig_parse.proofs.{rules, sym, ◌∙◌, the_type, handed, no_parameter, no_event}
use denote.Enum.Bare.{same_true, same_false}
use Rattle.sig_parse.proofs.declaration.kind.Goals as goal

pub returns-then-eq-clause-refuses : goal.returns-then-eq-clause-refuses
returns-then-eq-clause-refuses c = no_parameter c.args.declares (same_true the_type (search rules) _ _ (sym c.eq.ensures ∙ c.if-eq.true)) c.in_default.ensures c.in_default-take.ensures

pub returns-in_err-expect-clause-refuses : goal.returns-in_err-expect-clause-refuses
returns-in_err-expect-clause-refuses c = handed _ _ _ c.from_residual.ensures (no_event c.args.declares (same_false the_type _ _ (sym c.eq.ensures ∙ c.if-eq.false)) _ c.expect.new.self c.in_default.ensures c.in_default-take.ensures c.in_err-expect.ensures.refuses)
