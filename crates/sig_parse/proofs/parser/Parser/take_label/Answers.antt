use Rattle.sig_parse.proofs.{ap, terminal_seen, passed}
use Rattle.sig_parse.proofs.parser.Parser.take_label.Goals as goal

pub returns-in-Label : goal.returns-in-Label
returns-in-Label c = passed c.self.inside.leaves.now c.self.inside.next c.self.inside.operators c.args.self.now c.in_ok-first.first.now _ c.self.view_is
    c.in_ok-first.ensures.lookup.3.0 (c.in_ok-first.ensures.lookup.3.1 _) (ap terminal_seen c.in-Label.is)
