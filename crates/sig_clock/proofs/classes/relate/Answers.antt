use Rattle.sig_clock.proofs.{none_joined}
use Rattle.sig_clock.proofs.classes.relate.Goals as goal

pub returns-in-When : goal.returns-in-When
returns-in-When c = rw c.in-When.is (none_joined c.args.least.now)

pub returns-in-WhenConst : goal.returns-in-WhenConst
returns-in-WhenConst c = rw c.in-WhenConst.is (none_joined c.args.least.now)

pub returns-in-Default : goal.returns-in-Default
returns-in-Default c = rw c.in-Default.is (none_joined c.args.least.now)
