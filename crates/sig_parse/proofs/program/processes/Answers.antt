use Rattle.sig_parse.proofs.{model_of, both_limits, IsModel, one_each_more, all_read, stays, more_items, first_pushed, length, ap, refl, arith, [], handed, program_first, program_next, program_more, program_begun, Each}
use Rattle.sig_parse.proofs.program.processes.Goals as goal

pub loop-alloc-preserved : goal.loop-alloc-preserved
loop-alloc-preserved c = (
  one_each_more model_of (λ process leaves. IsModel both_limits process 0 leaves) c.loop-alloc.all.items _ c.in_ok-process-2.field-0 c.in_ok-push-2.ensures.items c.loop-alloc.invariant.0 c.in_ok-process-2.ensures.reads,
  more_items 1 c.loop-alloc.all.items _ c.in_ok-process-2.field-0 c.in_ok-push-2.ensures.items c.loop-alloc.invariant.1,
  program_more (model_of c.in_ok-process-2.field-0) c.loop-alloc.invariant.2 c.if-is_done.ensures c.in_ok-process-2.ensures.reads,
)

pub returns-then-is_done-clause-reads : goal.returns-then-is_done-clause-reads
returns-then-is_done-clause-reads c = all_read model_of (λ process leaves. IsModel both_limits process 0 leaves) c.loop-alloc.all.items c.loop-alloc.invariant.1 c.if-is_done.ensures c.loop-alloc.invariant.0

pub returns-in_err-process-clause-refuses : goal.returns-in_err-process-clause-refuses
returns-in_err-process-clause-refuses c = handed _ _ _ c.from_residual.ensures (λ text. program_first (c.in_err-process.ensures.refuses text))

pub returns-in_err-process-2-clause-refuses : goal.returns-in_err-process-2-clause-refuses
returns-in_err-process-2-clause-refuses c = handed _ _ _ c.from_residual-in_err-process-2.ensures (λ text. program_next c.loop-alloc.invariant.2 c.if-is_done.ensures (c.in_err-process-2.ensures.refuses text))

pub loop-alloc-init : goal.loop-alloc-init
loop-alloc-init c = (
  one_each_more model_of (λ process leaves. IsModel both_limits process 0 leaves) [] _ c.in_ok-process.field-0 (first_pushed c.new-all.ensures.items c.in_ok-push.ensures.items) (stays (Each (λ process leaves. IsModel both_limits process 0 leaves) []) c.args.parser.now c.args.parser.now refl refl) c.in_ok-process.ensures.reads,
  omega (arith, ap length (first_pushed c.new-all.ensures.items c.in_ok-push.ensures.items)),
  program_begun (model_of c.in_ok-process.field-0) c.in_ok-process.ensures.reads,
)
