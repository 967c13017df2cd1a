use Rattle.sig_type.proofs.{program_of, are_kinds}
use Rattle.sig_type.proofs.owned.check_owned.Goals as goal

pub invariant_of-result : goal.invariant_of-result
invariant_of-result c = record {
  formed = c.in_default.ensures.formed;
  kinds_are = are_kinds (program_of c.args.program) c.in-Ok.kinds.items c.in_default.ensures.formed c.in-Ok.ensures;
}
