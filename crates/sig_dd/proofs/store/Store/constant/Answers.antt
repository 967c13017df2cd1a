use Rattle.sig_dd.proofs.{IsRefOf-constant}
use Rattle.sig_dd.proofs.store.Store.constant.Goals as goal

pub returns-clause-value : goal.returns-clause-value
returns-clause-value c = IsRefOf-constant c.args.self.now.nodes c.args.truth c.constant.result c.constant.ensures
