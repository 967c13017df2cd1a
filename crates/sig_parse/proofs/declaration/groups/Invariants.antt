use Rattle.sig_parse.proofs.{codes, length, map, declared_of, mark, Separated, IsGroupOf, Reads, LeadsGroups, terminal_of}
use Rattle.sig_parse.proofs.declaration.groups.Given as goal

abbrev pub decreases-loop-all : goal.decreases-loop-all
decreases-loop-all l = length l.parser.leaves

abbrev pub invariant-loop-all : goal.invariant-loop-all
invariant-loop-all l = Reads (Separated (IsGroupOf l.declares) (mark (codes ";")) (map declared_of l.all.items)) 0 l.fn.parser l.parser × LeadsGroups l.declares (terminal_of l.closing) l.fn.parser.leaves l.parser.leaves
