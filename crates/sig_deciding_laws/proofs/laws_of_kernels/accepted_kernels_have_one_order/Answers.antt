use Rattle.sig_deciding_laws.proofs.{some_order, ordered_once, some_links, links_once}
use Rattle.sig_deciding_laws.proofs.laws_of_kernels.accepted_kernels_have_one_order.Goals as goal

pub returns : goal.returns
returns c = record { some = some_order; one = ordered_once; some_links = some_links; one_links = links_once }
