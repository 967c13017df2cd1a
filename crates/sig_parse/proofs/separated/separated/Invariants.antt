use Rattle.sig_parse.proofs.{length, terminal_of, ReadsParts}
use Rattle.sig_parse.proofs.separated.separated.Given as goal

abbrev pub decreases-loop-all : goal.decreases-loop-all
decreases-loop-all g l = length l.parser.leaves

abbrev pub invariant-loop-all : goal.invariant-loop-all
invariant-loop-all g l = ReadsParts (g.P.Part.reads_as l.part) (terminal_of l.separator) l.all.items l.fn.parser l.parser
