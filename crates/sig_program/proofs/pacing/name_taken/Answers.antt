use Rattle.sig_program.proofs.{refused_own, refused_taken, true}
use Rattle.sig_program.proofs.pacing.name_taken.Goals as goal

pub returns-in-Ok : goal.returns-in-Ok
returns-in-Ok c =
    refused_taken c.args.bytes.now c.in-Ok.own c.args.signal.0 c.told_taken.result c.in-Ok.ensures.own (c.requires.taken c.in-Ok.own c.in-Ok.ensures.own) c.told_taken.ensures

pub returns-in-Err : goal.returns-in-Err
returns-in-Err c = refused_own true c.args.bytes.now c.in-Err.refusal c.in-Err.ensures.refused
