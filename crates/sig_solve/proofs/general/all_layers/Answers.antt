use Rattle.sig_solve.proofs.{sym, ap, ◌∙◌, slice_get, unsolved_at}
use Rattle.sig_solve.proofs.general.all_layers.Goals as goal

pub returns-in-Some-clause-refused : goal.returns-in-Some-clause-refused
returns-in-Some-clause-refused c =
    unsolved_at c.args.asked.now.frame c.requires.asked.parts c.in_ok-layers.layers.numbers.items c.in_ok-layers.layers.waiting.items c.in-Some.signal.now c.in_ok-layers.ensures.value
    (ap (λ xs. slice_get xs 0) (sym c.as_slice.ensures.value) ∙ sym c.in-Some.ensures.value) c.requires.root
