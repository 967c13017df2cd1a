use Rattle.sig_plan.proofs.{positions_rise, committed_before, condition_before, read_before, sent_before}
use Rattle.sig_plan.proofs.laws_links.actors_have_what_they_need.Goals as goal

pub returns : goal.returns
returns c = record {
  positions = positions_rise;
  conditions = condition_before;
  reads = read_before;
  sends = sent_before;
  commits = committed_before;
}
