use Rattle.sig_work.proofs.{◌≡◌, ◌++◌, ◌∷◌, ◌||◌, [], Some, arith, length, refl, rules, subst, w64, ℤ, OnOk, vec_len, to_z-of_z, with_item, sent, asked_push, found_full_here, full_stays, pushed_ends, pushed_puts, put_is, put_never_none, put_there, slice_get_within}
use Rattle.sig_work.proofs.ends.LentEnds.push.Goals as goal

pub index_mut-requires : goal.index_mut-requires
index_mut-requires g c =
    let found = put_there c.args.self.now.ends c.args.link c.requires.end in
    let whole : vec_len c.args.self.now.ends.puts ≡ length c.args.self.now.ends.puts.items = search rules in
    omega (arith, whole, slice_get_within c.args.self.now.ends.puts.items c.args.link (Some found.0) found.1)

pub unreachable-requires : goal.unreachable-requires
unreachable-requires g c = put_never_none c.args.self.now.ends c.args.link c.index_mut.result.now c.requires.end c.index_mut.ensures.value c.in-None.is

pub returns-clause-asked : goal.returns-clause-asked
returns-clause-asked g c = record {
  tells_past = asked_push c.args.self.now.ends (record { puts = with_item c.args.self.now.ends.puts c.args.link (Some c.push-pushed.new.self); takes = c.args.self.now.ends.takes; holds = c.args.self.now.ends.holds || c.holds-holds.result }) c.args.link c.in-Some.put c.push-pushed.new.self
      (put_is c.args.self.now.ends c.args.link c.index_mut.result.now c.in-Some.put c.requires.end c.index_mut.ensures.value c.in-Some.is) refl refl c.args.item c.push-pushed.result
      (subst (λ (item : ℤ). OnOk c.push-pushed.result (sent c.push-pushed.new.self ≡ sent c.in-Some.put ++ item ∷ [])) (to_z-of_z w64 c.args.item c.ranges.item) c.push-pushed.ensures.ok)
      (full_stays c.push-pushed.result c.in-Some.put c.push-pushed.new.self c.push-pushed.ensures.full);
  tells_queues = tt;
}

pub returns-clause-links : goal.returns-clause-links
returns-clause-links g c =
    pushed_ends c.args.self.now.ends (record { puts = with_item c.args.self.now.ends.puts c.args.link (Some c.push-pushed.new.self); takes = c.args.self.now.ends.takes; holds = c.args.self.now.ends.holds || c.holds-holds.result }) c.args.link c.in-Some.put c.push-pushed.new.self
    (put_is c.args.self.now.ends c.args.link c.index_mut.result.now c.in-Some.put c.requires.end c.index_mut.ensures.value c.in-Some.is) refl refl c.push-pushed.ensures.end.0 c.push-pushed.ensures.end.1

pub returns-clause-pushes : goal.returns-clause-pushes
returns-clause-pushes g c =
    pushed_puts c.args.self.now.ends (record { puts = with_item c.args.self.now.ends.puts c.args.link (Some c.push-pushed.new.self); takes = c.args.self.now.ends.takes; holds = c.args.self.now.ends.holds || c.holds-holds.result }) c.args.link c.in-Some.put c.push-pushed.new.self
    (put_is c.args.self.now.ends c.args.link c.index_mut.result.now c.in-Some.put c.requires.end c.index_mut.ensures.value c.in-Some.is) refl refl

pub returns-clause-full : goal.returns-clause-full
returns-clause-full g c =
    found_full_here c.push-pushed.result c.args.self.now.ends (record { puts = with_item c.args.self.now.ends.puts c.args.link (Some c.push-pushed.new.self); takes = c.args.self.now.ends.takes; holds = c.args.self.now.ends.holds || c.holds-holds.result }) c.args.link c.in-Some.put c.push-pushed.new.self
    (put_is c.args.self.now.ends c.args.link c.index_mut.result.now c.in-Some.put c.requires.end c.index_mut.ensures.value c.in-Some.is) refl c.push-pushed.ensures.full
