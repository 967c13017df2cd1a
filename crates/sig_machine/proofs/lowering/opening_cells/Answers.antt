use Rattle.sig_machine.proofs.{◌≡◌, ◌++◌, ◌∙◌, ℤ, List, ap, sym, arith, cell, cell_front, length, Equation, initial_in, memories_at, memories_behind}
use Rattle.sig_machine.proofs.lowering.opening_cells.Goals as goal

pub returns-clause-opening : goal.returns-clause-opening
returns-clause-opening c =
    let first = c.in_ok-cells.cells.items in
    let second = c.in_ok-memories.memories.items in
    let n = length c.args.kernel.now.signals in
    let grown : c.extend_from_slice.new.self.items ≡ first ++ second = c.in_ok-extend_from_slice.ensures.items ∙ ap (λ (xs : List ℤ). first ++ xs) c.as_slice-2.ensures.value in
    let one : n ≡ length first = ap length (sym c.as_slice-signals.ensures) ∙ sym c.in_ok-cells.ensures.count in
    let two : n ≡ length second = ap length (sym c.as_slice-signals.ensures) ∙ sym c.in_ok-memories.ensures.length in
    ap (memories_at n) grown
    ∙ memories_behind first second n one two
    ∙ c.in_ok-memories.ensures.initial
    ∙ ap (λ (equations : List Equation). initial_in equations) c.as_slice.ensures

pub returns-clause-zero : goal.returns-clause-zero
returns-clause-zero c =
    let first = c.in_ok-cells.cells.items in
    let second = c.in_ok-memories.memories.items in
    let grown : c.extend_from_slice.new.self.items ≡ first ++ second = c.in_ok-extend_from_slice.ensures.items ∙ ap (λ (xs : List ℤ). first ++ xs) c.as_slice-2.ensures.value in
    let count : length first ≡ length c.args.kernel.now.signals = c.in_ok-cells.ensures.count ∙ ap length c.as_slice-signals.ensures in
    λ signal below.
    ap (λ (xs : List ℤ). cell xs signal) grown
    ∙ cell_front first second signal (omega (arith, below, count))
    ∙ c.in_ok-cells.ensures.zero signal (let e = ap length c.as_slice-signals.ensures in omega (arith, below, e))
