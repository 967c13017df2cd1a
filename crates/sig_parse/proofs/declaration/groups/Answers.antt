use Rattle.sig_parse.proofs.{codes, map, arith, subst, sym, mark, declared_of, IsGroupOf, views_more, views_one, first_pushed, ends_at, groups_plain, groups_marked, handed, covered, leads_refuses, leads_on, groups_first, groups_next, groups_end, groups_over, groups_begun, terminal_of, State, Closes, InGroups}
use Rattle.sig_parse.proofs.declaration.groups.Goals as goal

pub returns-in_default-clause-reads : goal.returns-in_default-clause-reads
returns-in_default-clause-reads c = let none = rw c.in_default.is at c.take.ensures in
    groups_plain (IsGroupOf c.args.declares) (map declared_of c.loop-all.all.items) (ends_at none.0 c.loop-all.invariant.0)

pub returns-then-is-2-clause-reads : goal.returns-then-is-2-clause-reads
returns-then-is-2-clause-reads c = groups_marked (IsGroupOf c.args.declares) (map declared_of c.loop-all.all.items) c.in-Some.field-0 c.loop-all.invariant.0 c.in-Some.ensures.0

pub loop-all-init : goal.loop-all-init
loop-all-init c = (
  views_one declared_of (IsGroupOf c.args.declares) (mark (codes ";")) _ c.in_ok-group.field-0 0 (first_pushed c.new-all.ensures.items c.in_ok-push.ensures.items) c.in_ok-group.ensures.reads,
  groups_begun c.args.declares (terminal_of c.args.closing) c.requires.ends (declared_of c.in_ok-group.field-0) c.if-is.ensures (covered c.in_ok-group.ensures.reads) c.in_ok-group.ensures.settles,
)

pub loop-all-preserved : goal.loop-all-preserved
loop-all-preserved c = (
  views_more declared_of (IsGroupOf c.args.declares) (mark (codes ";")) c.loop-all.all.items _ c.in_ok-group-2.field-0 0 0 0 c.in-Some.field-0 c.in_ok-push-2.ensures.items (omega arith) c.loop-all.invariant.0 c.in-Some.ensures.0 c.in_ok-group-2.ensures.reads,
  leads_on (groups_next c.args.declares (terminal_of c.args.closing) c.requires.ends c.in-Some.field-0 c.loop-all.invariant.1 (covered c.in-Some.ensures.0)) (groups_begun c.args.declares (terminal_of c.args.closing) c.requires.ends (declared_of c.in_ok-group-2.field-0) c.if-is-2.ensures (covered c.in_ok-group-2.ensures.reads) c.in_ok-group-2.ensures.settles),
)

pub returns-then-is-clause-closes : goal.returns-then-is-clause-closes
returns-then-is-clause-closes c = groups_end c.args.declares (terminal_of c.args.closing) c.requires.ends c.if-is.ensures

pub returns-in_err-group-clause-refuses : goal.returns-in_err-group-clause-refuses
returns-in_err-group-clause-refuses c = handed _ _ _ c.from_residual.ensures (λ text. groups_first c.args.declares (terminal_of c.args.closing) c.requires.ends c.if-is.ensures (c.in_err-group.ensures.refuses text))

pub returns-in_default-clause-closes : goal.returns-in_default-clause-closes
returns-in_default-clause-closes c = subst (λ (x : State). (Closes (InGroups c.args.declares (terminal_of c.args.closing)) (terminal_of c.args.closing) c.args.parser.now.leaves x.leaves)) (sym c.in_default.ensures.0) (groups_over c.args.declares (terminal_of c.args.closing) c.requires.ends c.loop-all.invariant.1 c.in_default.ensures.1)

pub returns-then-is-2-clause-closes : goal.returns-then-is-2-clause-closes
returns-then-is-2-clause-closes c = λ cause stopped r. leads_refuses (groups_next c.args.declares (terminal_of c.args.closing) c.requires.ends c.in-Some.field-0 c.loop-all.invariant.1 (covered c.in-Some.ensures.0)) (groups_end c.args.declares (terminal_of c.args.closing) c.requires.ends c.if-is-2.ensures cause stopped r)

pub returns-in_err-group-2-clause-refuses : goal.returns-in_err-group-2-clause-refuses
returns-in_err-group-2-clause-refuses c = handed _ _ _ c.from_residual-in_err-group-2.ensures (λ text. leads_refuses (groups_next c.args.declares (terminal_of c.args.closing) c.requires.ends c.in-Some.field-0 c.loop-all.invariant.1 (covered c.in-Some.ensures.0)) (groups_first c.args.declares (terminal_of c.args.closing) c.requires.ends c.if-is-2.ensures (c.in_err-group-2.ensures.refuses text)))
