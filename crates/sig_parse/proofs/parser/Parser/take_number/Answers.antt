use Rattle.sig_parse.proofs.{ap, terminal_seen, passed}
use Rattle.sig_parse.proofs.parser.Parser.take_number.Goals as goal

pub returns-in-Number : goal.returns-in-Number
returns-in-Number c = passed c.self.inside.leaves.now c.self.inside.next c.self.inside.operators c.args.self.now c.in_ok-first.first.now _ c.self.view_is
    c.in_ok-first.ensures.lookup.3.0 (c.in_ok-first.ensures.lookup.3.1 _) (ap terminal_seen c.in-Number.is)
