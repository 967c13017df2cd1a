-- Calls of the code, as the definitions see them.
use Rattle.sig_call.specs.Prelude.{map, Equations, Defines, Called, expression_of}
use Rattle.sig_call.specs.declared.calls.Call.{Call}

abbrev pub call_of : Call → Equations
call_of call = Defines call.names.now (Called call.process.now call.constants.now (map expression_of call.arguments.now))
