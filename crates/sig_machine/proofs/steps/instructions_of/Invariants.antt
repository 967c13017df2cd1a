use Rattle.sig_machine.proofs.{◌≡◌, ◌<◌, length, AreForSteps, AreInstructionsWithin, Grows}
use Rattle.sig_machine.proofs.steps.instructions_of.Given as goal

abbrev pub invariant-loop-number : goal.invariant-loop-number
invariant-loop-number l = record {
  grows : Grows l.fn.cells.items l.cells.items;
  count : length l.instructions.items ≡ l.number;
  each : AreForSteps l.plan l.steps l.cells.items l.instructions.items;
  within : 0 < length l.fn.cells.items → AreInstructionsWithin l.plan.kernel.inputs (length l.cells.items) l.instructions.items;
}
