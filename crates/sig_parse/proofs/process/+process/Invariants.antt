use Rattle.sig_parse.proofs.{◌+◌, ◌*◌, ◌-◌, length, map, declared_of, model_of, Begun, LeadsDeclared}
use Rattle.sig_parse.proofs.process.+process.Given as goal

abbrev pub decreases-entries-loop-alloc : goal.decreases-entries-loop-alloc
decreases-entries-loop-alloc l = length l.parser.leaves

abbrev pub decreases-process : goal.decreases-process
decreases-process l = (64 - l.depth) * 4 + 3

abbrev pub decreases-where_part : goal.decreases-where_part
decreases-where_part l = (64 - l.depth) * 4 + 2

abbrev pub decreases-entries : goal.decreases-entries
decreases-entries l = (64 - l.depth) * 4 + 1

abbrev pub decreases-inner_process : goal.decreases-inner_process
decreases-inner_process l = (64 - l.depth) * 4

abbrev pub invariant-entries-loop-alloc : goal.invariant-entries-loop-alloc
invariant-entries-loop-alloc l = Begun l.depth (map model_of l.processes.items) (map declared_of l.groups.items) l.fn.parser l.parser × LeadsDeclared l.depth l.fn.parser.leaves l.parser.leaves
