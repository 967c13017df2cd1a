use Rattle.sig_exec.proofs.{◌≡◌, ◌∙◌, ap, ℤ, List, length, replicate, ImageMachine, cells_in, state_opening}
use Rattle.sig_exec.proofs.machine.ImageMachine.new.Goals as goal

pub returns-clause-opening : goal.returns-clause-opening
returns-clause-opening c = λ image lowers.
    let m : ImageMachine = record { instant = 0; cells = c.in_ok-from_slice.field-0; stamps = c.in_ok-unwritten.field-0; taken = c.in_ok-untaken.field-0 } in
    let taken : m.taken.items ≡ replicate (length c.args.inputs.now) 0 = c.in_ok-untaken.ensures ∙ ap (λ (l : List (List ℤ)). replicate (length l) 0) c.as_slice-2.ensures in
    state_opening image c.args.lowered.now lowers c.args.inputs.now 0 (cells_in m) (c.in_ok-from_slice.ensures.items ∙ c.as_slice.ensures.value) taken
