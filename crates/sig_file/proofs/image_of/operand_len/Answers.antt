use Rattle.sig_file.proofs.{sym, constant_operand, signal_operand}
use Rattle.sig_file.proofs.image_of.operand_len.Goals as goal

pub returns-in-Sig : goal.returns-in-Sig
returns-in-Sig c = rw c.in-Sig.is (sym (signal_operand c.in-Sig.field-0))

pub returns-in-Const : goal.returns-in-Const
returns-in-Const c = rw c.in-Const.is (sym (constant_operand c.in-Const.field-0))
