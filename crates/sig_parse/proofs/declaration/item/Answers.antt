use Rattle.sig_parse.proofs.{rules, sym, ◌∙◌, the_type, item_with_init, plain_item, handed, covered, item_from_name, item_from_init, item_settled, plain_settled}
use denote.Enum.Bare.{same_true, same_false}
use Rattle.sig_parse.proofs.declaration.item.Goals as goal

pub returns-in_ok-init-clause-reads : goal.returns-in_ok-init-clause-reads
returns-in_ok-init-clause-reads c = item_with_init c.args.declares c.in_ok-name.name c.in_ok-init.init (same_true the_type (search rules) _ _ (sym c.eq.ensures ∙ c.if-eq.true)) c.in_ok-name.ensures.reads c.in_ok-init.ensures.reads

pub returns-else-eq-clause-reads : goal.returns-else-eq-clause-reads
returns-else-eq-clause-reads c = plain_item c.args.declares c.in_ok-name.name (same_false the_type _ _ (sym c.eq.ensures ∙ c.if-eq.false)) c.in_ok-name.ensures.reads

pub returns-in_err-name-clause-refuses : goal.returns-in_err-name-clause-refuses
returns-in_err-name-clause-refuses c = handed _ _ _ c.from_residual.ensures (λ text. item_from_name c.args.declares (c.in_err-name.ensures.refuses text))

pub returns-in_err-init-clause-refuses : goal.returns-in_err-init-clause-refuses
returns-in_err-init-clause-refuses c = handed _ _ _ c.from_residual-in_err-init.ensures (λ text. item_from_init c.args.declares (same_true the_type (search rules) _ _ (sym c.eq.ensures ∙ c.if-eq.true)) c.in_ok-name.name (covered c.in_ok-name.ensures.reads) (c.in_err-init.ensures.refuses text))

pub returns-in_ok-init-clause-settles : goal.returns-in_ok-init-clause-settles
returns-in_ok-init-clause-settles c = item_settled c.args.declares (same_true the_type (search rules) _ _ (sym c.eq.ensures ∙ c.if-eq.true)) c.in_ok-name.name (covered c.in_ok-name.ensures.reads) c.in_ok-init.ensures.settles

pub returns-else-eq-clause-settles : goal.returns-else-eq-clause-settles
returns-else-eq-clause-settles c = plain_settled c.args.declares (same_false the_type _ _ (sym c.eq.ensures ∙ c.if-eq.false)) c.in_ok-name.name (covered c.in_ok-name.ensures.reads)
