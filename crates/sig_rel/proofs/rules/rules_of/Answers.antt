use Rattle.sig_rel.proofs.{◌≡◌, List, ℕ, length, map, subst, range_with_len, counted_for, are_rules}
use Rattle.sig_rel.proofs.rules.rules_of.Goals as goal

pub returns : goal.returns
returns c = are_rules c.args.kernel.now c.requires.valid c.in_ok-least.least.items c.args.conditions.now c.requires.conditions c.in_ok-counted.counted.items c.in_ok-defined.defined.items
    c.in_ok-least.ensures
    (subst (λ (xs : List ℕ). c.in_ok-counted.counted.items ≡ map (counted_for c.args.kernel.now xs) (range_with_len 0 (length c.args.kernel.now.signals))) c.as_slice.ensures.value c.in_ok-counted.ensures)
    c.in_ok-defined.ensures
