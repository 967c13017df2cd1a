use Rattle.sig_code.proofs.{length, eq-eqb, ne_eqb, adds_same, adds_then, cluster_is, collector_is}
use Rattle.sig_code.proofs.steps.Source.add_end.Goals as goal

pub returns-in_ok-add : goal.returns-in_ok-add
returns-in_ok-add c =
    let source = c.args.self.now in
    let nodes = source.store.now.nodes in
    adds_then nodes _ _ _ c.args.code.now c.add_reports.new.code c.add.new.code
    (collector_is nodes source.unguarded source.links.now source.clusters (length source.ops.now) c.args.actor c.requires.ready.free (eq-eqb c.args.actor source.clusters c.if-actor-self.true))
    c.in_ok-add_reports.ensures c.in_ok-add.ensures

pub returns-else-actor-self : goal.returns-else-actor-self
returns-else-actor-self c =
    let source = c.args.self.now in
    let nodes = source.store.now.nodes in
    adds_same nodes _ _ c.args.code.now c.add_reports.new.code
    (cluster_is nodes source.unguarded source.links.now source.clusters (length source.ops.now) c.args.actor c.requires.ready.free (ne_eqb c.args.actor source.clusters c.if-actor-self.false))
    c.in_ok-add_reports.ensures
