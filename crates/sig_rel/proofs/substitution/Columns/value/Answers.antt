use Rattle.sig_rel.proofs.{arith, IfOk-weaker, itself, SpanColumns, makes_wider, presence_gives, truth_gives}
use Rattle.sig_rel.proofs.substitution.Columns.value.Goals as goal

pub returns-in-Presence-clause-made : goal.returns-in-Presence-clause-made
returns-in-Presence-clause-made c =
    let wide = SpanColumns c.args.store.now.nodes c.args.self.now in
    makes_wider 2 3 wide wide c.args.store.now c.presence.new.store itself c.presence.result c.presence.ensures.made (omega arith) (λ vs has. has)

pub returns-in-Presence-clause-value : goal.returns-in-Presence-clause-value
returns-in-Presence-clause-value c =
    IfOk-weaker c.presence.result _ _ (λ h is. presence_gives c.args.store.now.nodes c.presence.new.store.nodes c.args.self.now c.args.signals.now c.args.least.now c.args.form.now c.args.element _ h c.in-Presence.is is)
    c.presence.ensures.value

pub returns-in-Truth-clause-made : goal.returns-in-Truth-clause-made
returns-in-Truth-clause-made c = c.truth.ensures.made

pub returns-in-Truth-clause-value : goal.returns-in-Truth-clause-value
returns-in-Truth-clause-value c =
    IfOk-weaker c.truth.result _ _ (λ h is. truth_gives c.args.store.now.nodes c.truth.new.store.nodes c.args.self.now c.args.signals.now c.args.least.now c.args.form.now c.args.element _ h c.in-Truth.is is)
    c.truth.ensures.value
