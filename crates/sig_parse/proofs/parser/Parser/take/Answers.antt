use Rattle.sig_parse.proofs.{ap, ◌∙◌, terminal_of, terminal_seen, passed}
use Rattle.sig_parse.proofs.parser.Parser.take.Goals as goal

pub returns : goal.returns
returns c = passed c.self.inside.leaves.now c.self.inside.next c.self.inside.operators c.args.self.now c.in_ok-first.first.now _ c.self.view_is
    c.in_ok-first.ensures.lookup.3.0 (c.in_ok-first.ensures.lookup.3.1 _) (ap terminal_seen c.in-Keyword.is ∙ ap terminal_of (c.is_same.ensures.0 c.if-not-is_same.false))
