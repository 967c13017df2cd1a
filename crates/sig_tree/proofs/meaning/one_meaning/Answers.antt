use Rattle.sig_tree.proofs.{same_signal, operand_one}
use Rattle.sig_tree.proofs.meaning.one_meaning.Goals as goal

-- src/meaning.rt:10:1
pub returns : goal.returns
returns c = λ e trace i v w a b. same_signal v w (operand_one c.functions_give_one_value.ensures.one trace e i _ _ a b)
