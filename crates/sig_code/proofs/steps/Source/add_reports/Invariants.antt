use Rattle.sig_code.proofs.{map, take, filter_map, Adds, doing, ending, numbered}
use Rattle.sig_code.proofs.steps.Source.add_reports.Given as goal

abbrev pub invariant-loop-number : goal.invariant-loop-number
invariant-loop-number l =
    Adds l.self.store.now.nodes
    (map (doing l.self.store.now.nodes l.at.guard l.at.pos) (filter_map (ending l.self.clusters l.actor) (numbered (take l.number l.self.links.now))))
    l.initial.code l.code
