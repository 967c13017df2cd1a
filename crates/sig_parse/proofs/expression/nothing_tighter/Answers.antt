use Rattle.sig_parse.proofs.{◌≤◌, arith, level_number, infix_level, nothing_behind, looser_behind}
use Rattle.sig_parse.proofs.expression.nothing_tighter.Goals as goal

pub returns-in_default-clause-stops : goal.returns-in_default-clause-stops
returns-in_default-clause-stops c =
    let within : infix_level c.in-Some.op ≤ level_number c.args.level = grind (arith, c.level_of.ensures.own) in
    looser_behind c.in-Some.op (level_number c.args.level) c.args.parser.now.leaves c.in-Some.ensures within

pub returns-in_default-2-clause-stops : goal.returns-in_default-2-clause-stops
returns-in_default-2-clause-stops c = nothing_behind (level_number c.args.level) c.args.parser.now.leaves c.in_default.ensures c.if-continues_delay_of.ensures
