use Rattle.std.proofs.Common.{sym, ap, ◌∙◌}
use mathlib.Core.Option.{some-injective}
use lib.ListN.{get_elem?}
use Rattle.sig_halt.proofs.RuleKept.{closes}
use Rattle.sig_halt.proofs.halt.Halt.close.Goals as goal

pub returns-clause-least : goal.returns-clause-least
returns-clause-least c =
    let last = c.close_with-closed.ensures.values.2 in
    let is = closes c.args.self.table.shared.key c.args.seat.seat.id c.args.seat.seat.me.0 last.0 c.requires.all c.args.seat.within last.1 in
    let words = sym last.2 ∙ is.0 in
    sym (some-injective _ _ (ap (λ ws. get_elem? ws 0) (sym words) ∙ c.word-word.ensures))
