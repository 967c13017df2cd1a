use Rattle.sig_work.proofs.{◌||◌, Some, refl, with_item, handed_over, none_handed, put_at_is, put_there_never_none}
use Rattle.std.proofs.Common.{not}
use Rattle.sig_work.proofs.ends.LinkEnds.hand_over_at.Goals as goal

pub returns-then-not-holds_at : goal.returns-then-not-holds_at
returns-then-not-holds_at g c = none_handed c.args.self.now c.args.self.now.holds

pub unreachable-requires : goal.unreachable-requires
unreachable-requires g c = put_there_never_none c.args.self.now c.args.link c.index_mut.result.now (c.if-not-holds_at.ensures refl) c.index_mut.ensures.value c.in-None.is

pub returns : goal.returns
returns g c =
    handed_over c.args.self.now (record { puts = with_item c.args.self.now.puts c.args.link (Some c.hand_over-handed.new.self); takes = c.args.self.now.takes; holds = c.args.self.now.holds || not c.hand_over-handed.result })
    c.args.link c.in-Some.put c.hand_over-handed.new.self
    (put_at_is c.args.self.now c.args.link c.index_mut.result.now c.in-Some.put (c.if-not-holds_at.ensures refl) c.index_mut.ensures.value c.in-Some.is) refl refl
    c.hand_over-handed.ensures.end.0 c.hand_over-handed.ensures.end.1 c.hand_over-handed.ensures.sent
