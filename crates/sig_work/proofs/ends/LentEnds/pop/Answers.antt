use Rattle.sig_work.proofs.{◌≡◌, Some, arith, length, refl, rules, vec_len, with_item, asked_pop, empty_stays, found_empty_here, popped_ends, popped_takes, take_is, take_never_none, take_there, slice_get_within}
use Rattle.sig_work.proofs.ends.LentEnds.pop.Goals as goal

pub index_mut-requires : goal.index_mut-requires
index_mut-requires g c =
    let found = take_there c.args.self.now.ends c.args.link c.requires.end in
    let whole : vec_len c.args.self.now.ends.takes ≡ length c.args.self.now.ends.takes.items = search rules in
    omega (arith, whole, slice_get_within c.args.self.now.ends.takes.items c.args.link (Some found.0) found.1)

pub unreachable-requires : goal.unreachable-requires
unreachable-requires g c = take_never_none c.args.self.now.ends c.args.link c.index_mut.result.now c.requires.end c.index_mut.ensures.value c.in-None.is

pub returns-clause-asked : goal.returns-clause-asked
returns-clause-asked g c = record {
  tells_past = asked_pop c.args.self.now.ends (record { takes = with_item c.args.self.now.ends.takes c.args.link (Some c.pop-popped.new.self); puts = c.args.self.now.ends.puts; holds = c.args.self.now.ends.holds }) c.args.link c.in-Some.take c.pop-popped.new.self
      (take_is c.args.self.now.ends c.args.link c.index_mut.result.now c.in-Some.take c.requires.end c.index_mut.ensures.value c.in-Some.is) refl refl c.pop-popped.result c.pop-popped.ensures.item
      (empty_stays c.pop-popped.result c.in-Some.take c.pop-popped.new.self c.pop-popped.ensures.empty);
  tells_queues = tt;
}

pub returns-clause-links : goal.returns-clause-links
returns-clause-links g c =
    popped_ends c.args.self.now.ends (record { takes = with_item c.args.self.now.ends.takes c.args.link (Some c.pop-popped.new.self); puts = c.args.self.now.ends.puts; holds = c.args.self.now.ends.holds }) c.args.link c.in-Some.take c.pop-popped.new.self
    (take_is c.args.self.now.ends c.args.link c.index_mut.result.now c.in-Some.take c.requires.end c.index_mut.ensures.value c.in-Some.is) refl refl c.pop-popped.ensures.end

pub returns-clause-pops : goal.returns-clause-pops
returns-clause-pops g c =
    popped_takes c.args.self.now.ends (record { takes = with_item c.args.self.now.ends.takes c.args.link (Some c.pop-popped.new.self); puts = c.args.self.now.ends.puts; holds = c.args.self.now.ends.holds }) c.args.link c.in-Some.take c.pop-popped.new.self
    (take_is c.args.self.now.ends c.args.link c.index_mut.result.now c.in-Some.take c.requires.end c.index_mut.ensures.value c.in-Some.is) refl refl

pub returns-clause-empty : goal.returns-clause-empty
returns-clause-empty g c =
    found_empty_here c.pop-popped.result c.args.self.now.ends (record { takes = with_item c.args.self.now.ends.takes c.args.link (Some c.pop-popped.new.self); puts = c.args.self.now.ends.puts; holds = c.args.self.now.ends.holds }) c.args.link c.in-Some.take c.pop-popped.new.self
    (take_is c.args.self.now.ends c.args.link c.index_mut.result.now c.in-Some.take c.requires.end c.index_mut.ensures.value c.in-Some.is) refl c.pop-popped.ensures.empty
