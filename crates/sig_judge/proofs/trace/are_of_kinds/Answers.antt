use Rattle.sig_judge.proofs.{◌≡◌, ◌<◌, length, map, get_or, true, false, sym, subst, arith, length-map, Signal, Bounded, IsOfKind, kinds_of, seen_of, Absent, kinds_length, kinds_more, kind_of_signal}
use Rattle.sig_judge.proofs.trace.are_of_kinds.Goals as goal

pub returns-then-seen-signals : goal.returns-then-seen-signals
returns-then-seen-signals c = ((λ no. cc), (λ h. absurd (omega (arith, kinds_length (kinds_of c.args.signals.now) (map seen_of c.args.seen.now) h, length-map c.args.seen.now seen_of, length-map c.args.signals.now (λ (signal : Signal). signal.kind)))))

pub returns-then-not-is_of_kind : goal.returns-then-not-is_of_kind
returns-then-not-is_of_kind c =
    let within : c.loop-i.i < length (kinds_of c.args.signals.now) = omega (arith, length-map c.args.signals.now (λ (signal : Signal). signal.kind)) in (
      (λ no. cc),
      (λ h.
          let is = kind_of_signal c.args.signals.now c.args.seen.now c.loop-i.i c.index-signals-i.result Absent h within in
          let yes : c.is_of_kind.result ≡ true = c.is_of_kind.ensures.1 (subst (λ (g : Signal). IsOfKind Bounded g.kind (seen_of (get_or c.args.seen.now c.loop-i.i Absent))) (sym c.index-signals-i.is) is) in
          let no : c.is_of_kind.result ≡ false = c.if-not-is_of_kind.true in
          cc),
    )

pub loop-i-preserved : goal.loop-i-preserved
loop-i-preserved c =
    let lt : c.loop-i.i < length c.args.signals.now = omega arith in
    let below : c.loop-i.i < length c.args.seen.now = omega arith in
    kinds_more c.args.signals.now c.args.seen.now c.loop-i.i c.index-signals-i.result Absent c.loop-i.invariant lt below
    (subst (λ (g : Signal). IsOfKind Bounded g.kind (seen_of (get_or c.args.seen.now c.loop-i.i Absent))) c.index-signals-i.is (c.is_of_kind.ensures.0 c.if-not-is_of_kind.false))
