use Rattle.sig_plan.proofs.{ends_within, one_reader, one_writer}
use Rattle.sig_plan.proofs.laws_links.links_have_one_writer_and_one_reader.Goals as goal

pub returns : goal.returns
returns c = record { ends = ends_within; writer = one_writer; reader = one_reader }
