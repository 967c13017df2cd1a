use Rattle.sig_rel.proofs.{subst, sym, Spans, Ref}
use Rattle.sig_rel.proofs.substitution.Columns.operand.Goals as goal

pub returns-in-Sig-clause-spans : goal.returns-in-Sig-clause-spans
returns-in-Sig-clause-spans c = λ vs span. subst (λ (r : Ref). Spans c.args.store.now.nodes r vs) (sym c.truth_of.ensures) (span.truth c.in-Sig.x.0)
