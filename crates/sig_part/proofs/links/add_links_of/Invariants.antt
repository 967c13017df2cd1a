use Rattle.sig_part.proofs.{◌≡◌, List, Signal, cluster_at, AreLinksBefore}
use Rattle.sig_part.proofs.links.add_links_of.Given as goal

abbrev pub invariant-loop-reader : goal.invariant-loop-reader
invariant-loop-reader l =
    (signals : List Signal) → cluster_at signals l.x ≡ l.writer → AreLinksBefore signals l.marks l.x.0 0 l.initial.links.items → AreLinksBefore signals l.marks l.x.0 l.reader l.links.items
