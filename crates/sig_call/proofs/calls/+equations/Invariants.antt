-- A call adds a signal, so the room that is left falls from a body to those inside it. The equations so far are
-- expanded.
use Rattle.sig_call.proofs.{◌+◌, ◌-◌, ◌*◌, length, take, interface_models, bodies_in, copy_in, made_of, Advances}
use Rattle.sig_call.proofs.calls.+equations.Given as goal

abbrev pub decreases-expand : goal.decreases-expand
decreases-expand l = 4 * (513 - length l.expansion.now.signals.items) + 3

abbrev pub decreases-expand_equation : goal.decreases-expand_equation
decreases-expand_equation l = 4 * (513 - length l.expansion.now.signals.items) + 2

abbrev pub decreases-expand_definition : goal.decreases-expand_definition
decreases-expand_definition l = 4 * (513 - length l.expansion.now.signals.items) + 1

abbrev pub decreases-expand_call : goal.decreases-expand_call
decreases-expand_call l = 4 * (513 - length l.expansion.now.signals.items)

abbrev pub invariant-expand-loop-equation : goal.invariant-expand-loop-equation
invariant-expand-loop-equation l = Advances (interface_models l.processes.interfaces.items) (copy_in l.copy) (bodies_in (take l.equation-index l.equations)) (made_of l.initial.expansion) (made_of l.expansion)
