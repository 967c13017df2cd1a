use Rattle.sig_parse.proofs.{◌≤◌, length, map, model_of, both_limits, Each, IsModel, Covers, LeadsProgram}
use Rattle.sig_parse.proofs.program.processes.Given as goal

abbrev pub decreases-loop-alloc : goal.decreases-loop-alloc
decreases-loop-alloc l = length l.parser.leaves

abbrev pub invariant-loop-alloc : goal.invariant-loop-alloc
invariant-loop-alloc l = Covers (Each (λ process leaves. IsModel both_limits process 0 leaves) (map model_of l.all.items)) l.fn.parser l.parser
    × (1 ≤ length l.all.items)
    × LeadsProgram l.fn.parser.leaves l.parser.leaves
