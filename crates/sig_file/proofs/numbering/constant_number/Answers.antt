use Rattle.sig_file.proofs.{ref_apart, ref_same, one_where, zero_where}
use Rattle.sig_file.proofs.numbering.constant_number.Goals as goal

pub returns-then-eq : goal.returns-then-eq
returns-then-eq c =
    one_where c.args.store.now c.constant.ensures.store c.args.r c.constant.result c.requires.held c.requires.constant c.constant.ensures.value (ref_same c.args.r c.constant.result c.if-eq.ensures)

pub returns-else-eq : goal.returns-else-eq
returns-else-eq c =
    zero_where c.args.store.now c.constant.ensures.store c.args.r c.constant.result c.requires.held c.requires.constant c.constant.ensures.value (ref_apart c.args.r c.constant.result c.if-eq.ensures)
