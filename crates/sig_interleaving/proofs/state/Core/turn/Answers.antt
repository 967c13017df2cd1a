use Rattle.sig_interleaving.proofs.{◌≡◌, ◌∙◌, length, refl, ap, sym, Some, slice_get, slice_get_read, may_use, length-range_with_len}
use Rattle.sig_interleaving.proofs.state.Core.turn.Goals as goal

pub act-requires-clause-state : goal.act-requires-clause-state
act-requires-clause-state g c =
    let there : slice_get c.args.self.now.states.items c.args.k ≡ Some c.index_mut.result.now =
    slice_get_read c.args.self.now.states.items _ c.args.k c.index_mut.result.now refl c.requires.actor c.index_mut.ensures.value in
    (c.requires.core.states c.args.k c.index_mut.result.now there).state

pub act-requires-clause-links : goal.act-requires-clause-links
act-requires-clause-links g c =
    may_use c.args.self.now.plan.now c.plans_are_accepted.ensures c.index_mut.result.now.actor (length c.args.self.now.lists.queues.items) c.requires.core.links

pub returns-clause-turn : goal.returns-clause-turn
returns-clause-turn g c = record {
  before = c.index_mut.result.now;
  next = c.act.new.self;
  at = slice_get_read c.args.self.now.states.items _ c.args.k c.index_mut.result.now refl c.requires.actor c.index_mut.ensures.value;
  is = refl;
  state = c.act.ensures.state;
  same = c.act.ensures.same;
  turn_is = c.act.ensures.turn;
  count = sym (length-range_with_len 0 (length c.act.new.ends.queues.items)) ∙ ap length c.act.ensures.pushes ∙ length-range_with_len 0 (length c.args.self.now.lists.queues.items);
}
