use Rattle.sig_parse.proofs.{refl, whether_left}
use Rattle.sig_parse.proofs.parser.Parser.is_done.Goals as goal

pub returns : goal.returns
returns c = whether_left c.self.inside.leaves.now c.self.inside.next c.self.inside.operators c.args.self.now c.self.view_is _ refl
