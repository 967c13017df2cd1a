use Rattle.sig_file.proofs.{err_from_is_err_and, refl, goes_on, is_done, stops_too, memory_from}
use Rattle.sig_file.proofs.parts.memories_at.Goals as goal

pub returns-in_err-memory : goal.returns-in_err-memory
returns-in_err-memory c =
    let p = err_from_is_err_and c.from_residual.result c.from_residual.ensures.1 in
    rw (p.1, p.2) (stops_too (λ before. memory_from) c.in_err-memory.field-0.0 c.args.count c.loop.counter c.loop.memories.items c.loop.memories.items c.loop.rest.now _ refl c.loop-test.true c.in_err-memory.ensures c.loop.invariant)

pub loop-preserved : goal.loop-preserved
loop-preserved c =
    rw c.in_ok-push.ensures.items (goes_on (λ before. memory_from) c.args.count c.loop.counter c.loop.memories.items c.loop.memories.items c.loop.rest.now c.in_ok-memory.memory c.in_ok-memory.after.now _ refl c.loop-test.true c.in_ok-memory.ensures c.loop.invariant)

pub returns : goal.returns
returns c = is_done (λ before. memory_from) c.args.count c.loop.counter c.loop.memories.items c.loop.rest.now _ c.loop-test.false c.loop.invariant
