use Rattle.sig_parse.proofs.{ap, ◌∙◌, sym, name, terminal_seen, passed}
use lib.Pointwise.{bytes_decides}
use Rattle.sig_parse.proofs.parser.Parser.take_run_on.Goals as goal

pub returns-then-eq : goal.returns-then-eq
returns-then-eq c = passed c.self.inside.leaves.now c.self.inside.next c.self.inside.operators c.args.self.now c.in_ok-first.first.now _ c.self.view_is
    c.in_ok-first.ensures.lookup.3.0 (c.in_ok-first.ensures.lookup.3.1 _)
    (ap terminal_seen c.in-Name.is ∙ ap name ((bytes_decides _ _).0 (sym c.eq.ensures ∙ c.if-eq.true) ∙ c.as_slice.ensures))
