use Rattle.sig_alone.proofs.{registers_of}
use Rattle.sig_alone.proofs.putting.put_due.Goals as goal

pub returns-clause-all : goal.returns-clause-all
returns-clause-all g c = rw c.if-not-due.false (c.put_reaction.ensures.all (registers_of c.args.machine.now) (λ number seen below told. told))

pub returns-clause-prefix : goal.returns-clause-prefix
returns-clause-prefix g c = rw c.if-not-due.false (c.put_reaction.ensures.prefix (registers_of c.args.machine.now) (λ number seen below told. told))
