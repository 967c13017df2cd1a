use Rattle.sig_parse.proofs.{◌+◌, ◌*◌, ◌-◌, codes, length, map, equations_of, mark, both_limits, Separated, IsBody, Covers, LeadsBodies}
use Rattle.sig_parse.proofs.bodies.+body.Given as goal

abbrev pub decreases-bodies-loop-all : goal.decreases-bodies-loop-all
decreases-bodies-loop-all l = length l.parser.leaves

abbrev pub decreases-body : goal.decreases-body
decreases-body l = (64 - l.depth) * 3 + 2

abbrev pub decreases-together : goal.decreases-together
decreases-together l = (64 - l.depth) * 3 + 1

abbrev pub decreases-bodies : goal.decreases-bodies
decreases-bodies l = (64 - l.depth) * 3 + 3

abbrev pub invariant-bodies-loop-all : goal.invariant-bodies-loop-all
invariant-bodies-loop-all l = Covers (Separated (λ body leaves. IsBody both_limits body l.depth leaves) (mark (codes "|")) (map equations_of l.all.items)) l.fn.parser l.parser × LeadsBodies l.depth l.fn.parser.leaves l.parser.leaves
