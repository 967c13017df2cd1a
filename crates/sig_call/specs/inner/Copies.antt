-- Copies of processes, as the definitions see them.
use Rattle.sig_call.specs.Prelude.{model_of, Copy}
use Rattle.sig_call.specs.declared.copy.ProcessCopy.{ProcessCopy}

abbrev pub copy_in : ProcessCopy → Copy
copy_in copy = record { prefix = copy.prefix; process = model_of copy.process.now; bindings = copy.names }
