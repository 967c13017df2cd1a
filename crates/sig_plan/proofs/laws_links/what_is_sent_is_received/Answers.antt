use Rattle.sig_plan.proofs.{paired, report_paired}
use Rattle.sig_plan.proofs.laws_links.what_is_sent_is_received.Goals as goal

pub returns : goal.returns
returns c = record { sends = paired; reports = report_paired }
