use Rattle.sig_kernel.proofs.{sym, refl, ◌∙◌, ap, not, false≢true, differ_more, none_differ, same_named}
use Rattle.sig_kernel.proofs.valid.+names_differ.Goals as goal

pub returns-then-not-has_named : goal.returns-then-not-has_named
returns-then-not-has_named t c = differ_more c.names_differ.result c.as_bytes.result.now c.args.signals.now c.in-Some.first.now c.in-Some.others.now
    c.in-Some.ensures.cases.0 c.as_bytes.ensures (sym c.has_named.ensures ∙ c.if-not-has_named.true) c.names_differ.ensures

pub returns-else-not-has_named : goal.returns-else-not-has_named
returns-else-not-has_named t c = (
  (λ yes. absurd (false≢true (sym (ap not c.if-not-has_named.false) ∙ yes))),
  (λ distinct. absurd (same_named c.as_bytes.result.now c.args.signals.now c.in-Some.first.now c.in-Some.others.now
      c.in-Some.ensures.cases.0 c.as_bytes.ensures (sym c.has_named.ensures ∙ c.if-not-has_named.false) distinct)),
)

pub returns-in-None : goal.returns-in-None
returns-in-None t c = ((λ _. none_differ c.args.signals.now c.in-None.ensures.cases), (λ _. refl))
