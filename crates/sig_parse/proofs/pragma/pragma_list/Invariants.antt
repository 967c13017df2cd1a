use Rattle.sig_parse.proofs.{length, map, placement_of, Each, IsPlacement, Reads, LeadsPragmas}
use Rattle.sig_parse.proofs.pragma.pragma_list.Given as goal

abbrev pub decreases-loop-alloc : goal.decreases-loop-alloc
decreases-loop-alloc l = length l.parser.leaves

abbrev pub invariant-loop-alloc : goal.invariant-loop-alloc
invariant-loop-alloc l = Reads (Each IsPlacement (map placement_of l.all.items)) 0 l.fn.parser l.parser × LeadsPragmas l.fn.parser.leaves l.parser.leaves
