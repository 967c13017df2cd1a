use Rattle.sig_machine.proofs.{◌≡◌, ◌∙◌, ℕ, List, false, ap, refl, subst, arith, Some, slice_get, slice_index_or, Actor, memories_at, taken_of, Machine, none_written, replicate_get, replicate_or}
use Rattle.sig_machine.proofs.machine.Machine.new.Goals as goal

pub returns-clause-opening : goal.returns-clause-opening
returns-clause-opening c =
    let m : Machine = record { signals = c.args.lowered.now.signals; instant = 1; cells = c.in_ok-from_slice.field-0; stamps = c.in_ok-unwritten.field-0; taken = c.in_ok-untaken.field-0 } in
    let none = none_written m (λ number stamp there.
    let zero = replicate_get _ number 0 stamp (subst (λ (stamps : List ℕ). slice_get stamps number ≡ Some stamp) c.in_ok-unwritten.ensures there) in omega (arith, zero)) in
    let cells : c.in_ok-from_slice.field-0.items ≡ c.args.lowered.now.cells.items = c.in_ok-from_slice.ensures.items ∙ c.as_slice.ensures.value in
    let memories = ap (memories_at c.args.lowered.now.signals) cells ∙ c.requires.opening in
    let taken : (input : ℕ) → taken_of m input ≡ 0 = λ input. ap (λ (xs : List ℕ). slice_index_or xs input 0) c.in_ok-untaken.ensures ∙ replicate_or _ input 0 refl in
    λ j. let a : Actor = record { instant = 1; step = 0; registers = none j; memories = memories j; taken = λ input. taken input j; ended = false } in a
