use Rattle.sig_work.proofs.{◌≡◌, arith, false, length, rules, vec_len, none_handed, ends_handed_then}
use Rattle.sig_work.proofs.ends.LinkEnds.hand_over.Goals as goal

pub returns-then-not-self : goal.returns-then-not-self
returns-then-not-self g c = none_handed c.args.self.now c.args.self.now.holds

pub loop-link-init : goal.loop-link-init
loop-link-init g c = record { handed = none_handed c.args.self.now false }

pub hand_over_at-requires : goal.hand_over_at-requires
hand_over_at-requires g c =
    let whole : vec_len c.args.self.now.puts ≡ length c.args.self.now.puts.items = search rules in
    let count = c.loop-link.invariant.handed.same.puts in
    let all = c.len-link-end.ensures in
    let lt = c.loop-link-test.true in
    omega (arith, whole, count, all, lt)

pub loop-link-preserved : goal.loop-link-preserved
loop-link-preserved g c = record { handed = ends_handed_then c.args.self.now c.loop-link.self c.hand_over_at.new.self c.loop-link.invariant.handed c.hand_over_at.ensures }
