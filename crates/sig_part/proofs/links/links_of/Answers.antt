use Rattle.sig_part.proofs.{◌≡◌, ℕ, length, sym, ap, subst, arith, cluster_of, AreLinksBefore, links_next, links_none, read_is}
use Rattle.sig_part.proofs.links.links_of.Goals as goal

pub loop-number-init : goal.loop-number-init
loop-number-init c = subst (AreLinksBefore c.args.signals.now c.args.marks.now 0 0) (sym c.new-links.ensures.items) (links_none c.args.signals.now c.args.marks.now)

pub loop-number-preserved : goal.loop-number-preserved
loop-number-preserved c =
    let signals = c.args.signals.now in
    let n = c.loop-number.number in
    let is = read_is signals n c.index-signals-number.result c.loop-number-test.true c.index-signals-number.is in
    links_next signals c.args.marks.now n c.add_links_of.new.links.items (c.in_ok-add_links_of.ensures signals (ap cluster_of is) c.loop-number.invariant)

pub returns : goal.returns
returns c =
    let last = c.loop-number-test.false in
    let most = c.loop-number.auto.number-end in
    let same : c.loop-number.number ≡ length c.args.signals.now = omega (arith, last, most) in
    record {
      carrying = c.loop-number.links.items;
      are = subst (λ (n : ℕ). AreLinksBefore c.args.signals.now c.args.marks.now n 0 c.loop-number.links.items) same c.loop-number.invariant;
      joined = c.in_ok-add_reports.ensures;
    }
