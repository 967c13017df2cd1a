use Rattle.sig_parse.proofs.{◌+◌, ◌*◌, ◌-◌, length, expression_of, level_number, Climbs}
use Rattle.sig_parse.proofs.expression.+expression.Given as goal

abbrev pub invariant-at_level-loop-left : goal.invariant-at_level-loop-left
invariant-at_level-loop-left l = Climbs l.level l.depth (expression_of l.left) l.fn.parser l.parser

abbrev pub decreases-at_level-loop-left : goal.decreases-at_level-loop-left
decreases-at_level-loop-left l = length l.parser.leaves

abbrev pub decreases-at_level : goal.decreases-at_level
decreases-at_level l = length l.parser.now.leaves * 64 + 3 * (11 - level_number l.level) + 4

abbrev pub decreases-operand : goal.decreases-operand
decreases-operand l = length l.parser.now.leaves * 64 + 3 * (11 - level_number l.level) + 3

abbrev pub decreases-completed : goal.decreases-completed
decreases-completed l = length l.parser.now.leaves * 64 + 50

abbrev pub decreases-primary : goal.decreases-primary
decreases-primary l = length l.parser.now.leaves * 64 + 2

abbrev pub decreases-enclosed : goal.decreases-enclosed
decreases-enclosed l = length l.parser.now.leaves * 64 + 1
