use Rattle.sig_rel.proofs.{ap, replicate, length, ◌∙◌, ℕ, List, Option, None, Signal, named_first}
use Rattle.sig_rel.proofs.rules.defined_rules.Goals as goal

pub returns : goal.returns
returns c = named_first c.args.kernel.now c.requires.valid c.args.conditions.now c.requires.conditions _ c.in_ok-least.ensures
    (c.in_ok-counted.ensures ∙ ap (λ (xs : List Signal). replicate (length xs) (let o : Option ℕ = None in o)) c.as_slice.ensures)
    c.in_ok-defined.ensures
