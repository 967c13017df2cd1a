use Rattle.sig_parse.proofs.{codes, map, inr, subst, sym, arith, word, declared_of, model_of, AreDeclared, AreBehindWhere, covered, seen_as, between_marks, ended, one_group_more, one_process_more, in_parts, modelled, nothing_begun, handed, since_refused, closes_next, leads_on, leads_refuses, leads_nowhere, InDeclared, InWhere, ContinuesNothing, ContinuesOptional, process_where, process_end, inner_too_deep, inner_refused, declared_group, group_declared, process_declared, where_missing, where_inside, where_settled, State, Settles, no_more}
use Rattle.sig_parse.proofs.ProcessLemmas.{whole}
use Rattle.sig_parse.proofs.process.+process.Goals as goal

pub process-returns-clause-reads : goal.process-returns-clause-reads
process-returns-clause-reads t c = let b = c.in_ok-begun.ensures.reads in
    modelled c.args.depth _ c.whole.result c.whole.ensures
    (whole c.args.depth c.in_ok-begun.begun.name c.in_ok-begun.begun.params c.in_ok-begun.begun.inputs c.in_ok-begun.begun.outputs c.in_ok-begun.begun.run_on c.in_ok-begun.begun.body
    c.in_ok-declared.declared.groups c.in_ok-declared.declared.processes c.in_ok-_ended._ended
    (in_parts c.args.depth c.in_ok-begun.begun.name _ _ _ _ _ _ _ c.in_ok-_ended._ended b.title b.params_are b.interface b.pragmas_are b.body_is c.in_ok-declared.ensures.reads (covered c.in_ok-_ended.ensures.reads)))

pub process-returns-clause-shorter : goal.process-returns-clause-shorter
process-returns-clause-shorter t c = omega (arith, c.in_ok-begun.ensures.shorter, no_more c.in_ok-declared.ensures.reads, c.in_ok-_ended.ensures.shorter)

pub process-returns-in_err-begun-clause-refuses : goal.process-returns-in_err-begun-clause-refuses
process-returns-in_err-begun-clause-refuses t c = handed _ _ _ c.from_residual.ensures c.in_err-begun.ensures.refuses

pub process-returns-in_err-declared-clause-refuses : goal.process-returns-in_err-declared-clause-refuses
process-returns-in_err-declared-clause-refuses t c = let b = c.in_ok-begun.ensures.reads in
    handed _ _ _ c.from_residual-in_err-declared.ensures (λ text. process_where c.args.depth c.in_ok-begun.begun.name b.title _ b.params_are b.params_settled _ _ b.interface _ b.pragmas_are b.pragmas_settled _ b.body_is b.body_settled (c.in_err-declared.ensures.refuses text))

pub process-returns-in_err-_ended-clause-refuses : goal.process-returns-in_err-_ended-clause-refuses
process-returns-in_err-_ended-clause-refuses t c = let b = c.in_ok-begun.ensures.reads in
    handed _ _ _ c.from_residual-in_err-_ended.ensures (λ text. process_end c.args.depth c.in_ok-begun.begun.name b.title _ b.params_are b.params_settled _ _ b.interface _ b.pragmas_are b.pragmas_settled _ b.body_is b.body_settled
    (map model_of c.in_ok-declared.declared.processes.items) (map declared_of c.in_ok-declared.declared.groups.items) c.in_ok-declared.ensures.reads c.in_ok-declared.ensures.settles (c.in_err-_ended.ensures.refuses text))

pub where_part-returns-clause-reads : goal.where_part-returns-clause-reads
where_part-returns-clause-reads t c =
    let models = map model_of c.in_ok-all.all.processes.items in
    let groups = map declared_of c.in_ok-all.all.groups.items in
    seen_as (AreBehindWhere c.args.depth models groups) (λ front is. inr is)
    (between_marks (word (codes "where")) (word (codes "end")) (AreDeclared c.args.depth models groups) c.in-Some._opened c.in_ok-_closed._closed
    (covered c.in-Some.ensures.0) c.in_ok-all.ensures.reads (covered c.in_ok-_closed.ensures.reads))

pub entries-returns-then-is-clause-reads : goal.entries-returns-then-is-clause-reads
entries-returns-then-is-clause-reads t c = ended c.args.depth (map model_of c.loop-alloc.processes.items) (map declared_of c.loop-alloc.groups.items) c.loop-alloc.invariant.0

pub where_part-returns-in_default-clause-settles : goal.where_part-returns-in_default-clause-settles
where_part-returns-in_default-clause-settles t c = subst (λ (x : State). Settles (InWhere c.args.depth) (ContinuesOptional (word (codes "where"))) c.args.parser.now.leaves x.leaves) (sym c.in_default.ensures.0) (where_missing c.args.depth c.in_default.ensures.1)

pub where_part-returns-in_err-all-clause-refuses : goal.where_part-returns-in_err-all-clause-refuses
where_part-returns-in_err-all-clause-refuses t c = handed _ _ _ c.from_residual.ensures (λ text. where_inside c.args.depth c.in-Some._opened (covered c.in-Some.ensures.0) (c.in_err-all.ensures.refuses text))

pub where_part-returns-in_err-_closed-clause-refuses : goal.where_part-returns-in_err-_closed-clause-refuses
where_part-returns-in_err-_closed-clause-refuses t c = handed _ _ _ c.from_residual-in_err-_closed.ensures (λ text. where_inside c.args.depth c.in-Some._opened (covered c.in-Some.ensures.0) (c.in_ok-all.ensures.closes _ _ (c.in_err-_closed.ensures.refuses text)))

pub where_part-returns-clause-settles : goal.where_part-returns-clause-settles
where_part-returns-clause-settles t c = where_settled c.args.depth c.in-Some._opened (map model_of c.in_ok-all.all.processes.items) (map declared_of c.in_ok-all.all.groups.items) c.in_ok-_closed._closed (covered c.in-Some.ensures.0) c.in_ok-all.ensures.reads (covered c.in_ok-_closed.ensures.reads)

pub entries-loop-alloc-preserved-in_ok-push : goal.entries-loop-alloc-preserved-in_ok-push
entries-loop-alloc-preserved-in_ok-push t c = (
  one_process_more c.args.depth (map declared_of c.loop-alloc.groups.items) c.loop-alloc.processes.items _ c.in_ok-inner_process.field-0 c.in_ok-push.ensures.items c.loop-alloc.invariant.0 c.in_ok-inner_process.ensures.reads,
  leads_on c.loop-alloc.invariant.1 (process_declared c.args.depth (model_of c.in_ok-inner_process.field-0) c.if-is-2.ensures c.in_ok-inner_process.ensures.reads),
)

pub entries-loop-alloc-preserved : goal.entries-loop-alloc-preserved
entries-loop-alloc-preserved t c = (
  one_group_more c.args.depth (map model_of c.loop-alloc.processes.items) c.loop-alloc.groups.items _ c.in_ok-local_group.field-0 c.in_ok-push-2.ensures.items c.loop-alloc.invariant.0 (covered c.in_ok-local_group.ensures.reads),
  leads_on c.loop-alloc.invariant.1 (group_declared c.args.depth (declared_of c.in_ok-local_group.field-0) c.if-is.ensures c.if-is-2.ensures (covered c.in_ok-local_group.ensures.reads)),
)

pub entries-returns-then-is-clause-closes : goal.entries-returns-then-is-clause-closes
entries-returns-then-is-clause-closes t c = λ cause stopped r. leads_refuses c.loop-alloc.invariant.1 (closes_next (InDeclared c.args.depth) (word (codes "end")) c.if-is.ensures cause stopped r)

pub entries-returns-in_err-inner_process-clause-refuses : goal.entries-returns-in_err-inner_process-clause-refuses
entries-returns-in_err-inner_process-clause-refuses t c = handed _ _ _ c.from_residual.ensures (λ text. leads_refuses c.loop-alloc.invariant.1 (c.in_err-inner_process.ensures.refuses text))

pub entries-returns-in_err-local_group-clause-refuses : goal.entries-returns-in_err-local_group-clause-refuses
entries-returns-in_err-local_group-clause-refuses t c = handed _ _ _ c.from_residual-in_err-local_group.ensures (λ text. leads_refuses c.loop-alloc.invariant.1 (declared_group c.args.depth c.if-is.ensures c.if-is-2.ensures (c.in_err-local_group.ensures.refuses text)))

pub entries-loop-alloc-init : goal.entries-loop-alloc-init
entries-loop-alloc-init t c = (nothing_begun c.args.depth _ _ c.args.parser.now c.new-processes.ensures.items c.new-groups.ensures.items, leads_nowhere (InDeclared c.args.depth) ContinuesNothing c.args.parser.now.leaves)

pub inner_process-returns-in_err-inner-clause-refuses : goal.inner_process-returns-in_err-inner-clause-refuses
inner_process-returns-in_err-inner-clause-refuses t c = handed _ _ _ c.from_residual.ensures (inner_too_deep c.args.depth _ c.args.parser.now c.in_err-inner.ensures.too_deep c.requires.next)

pub inner_process-returns-clause-refuses : goal.inner_process-returns-clause-refuses
inner_process-returns-clause-refuses t c = since_refused _ _ c.process.result c.process.ensures.refuses (λ why r text. inner_refused c.args.depth c.in_ok-inner.inner c.in_ok-inner.ensures.deeper c.requires.next (r text))
