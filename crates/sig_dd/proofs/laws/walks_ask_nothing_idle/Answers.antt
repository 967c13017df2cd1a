use Rattle.sig_dd.proofs.{asks_depends, asks_no_idle, asks_visited, spans_visited}
use Rattle.sig_dd.proofs.laws.walks_ask_nothing_idle.Goals as goal

pub returns : goal.returns
returns c = record {
  depends = asks_depends;
  idle = asks_no_idle;
  visited = spans_visited;
  visits = asks_visited;
}
