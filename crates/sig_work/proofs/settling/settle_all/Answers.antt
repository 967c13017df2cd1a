use Rattle.sig_work.proofs.{◌≡◌, get_or, subst, arith, length, None, LinkInfo, linked_left, more_left, more_settled, nothing_taken, room_left, single_left, AreLeft, AreSettledBelow, From, slice_get-get_or}
use Rattle.sig_work.proofs.settling.settle_all.Goals as goal

abbrev none : LinkInfo
none = record { signal = None; writer = 0; reader = 0 }

pub loop-number-init : goal.loop-number-init
loop-number-init g c = record {
  left = nothing_taken (From 0) (From 0) c.args.shares.now;
  settled = λ link info lt. absurd (omega (arith, lt));
}

pub settle_link-requires-clause-linked : goal.settle_link-requires-clause-linked
settle_link-requires-clause-linked g c =
    linked_left (From c.loop-number.number) (From c.loop-number.number) c.args.shares.now c.loop-number.shares c.loop-number.invariant.left c.loop-number.number
    (get_or c.args.links.now c.loop-number.number none) (omega arith) (omega arith)
    (c.requires.linked c.loop-number.number (get_or c.args.links.now c.loop-number.number none) (slice_get-get_or c.args.links.now c.loop-number.number none c.loop-number-test.true))

pub settle_link-requires-clause-single : goal.settle_link-requires-clause-single
settle_link-requires-clause-single g c =
    single_left (From c.loop-number.number) (From c.loop-number.number) c.args.shares.now c.loop-number.shares c.loop-number.invariant.left c.requires.single

pub settle_link-requires-clause-room : goal.settle_link-requires-clause-room
settle_link-requires-clause-room g c =
    room_left (From c.loop-number.number) (From c.loop-number.number) c.args.shares.now c.loop-number.shares c.loop-number.invariant.left c.loop-number.number
    (c.requires.room c.loop-number.number c.loop-number-test.true)

pub loop-number-preserved : goal.loop-number-preserved
loop-number-preserved g c = record {
  left = more_left c.loop-number.number c.args.shares.now c.loop-number.shares c.settle_link.new.shares c.loop-number.invariant.left c.settle_link.ensures.left;
  settled = more_settled c.loop-number.number c.args.links.now c.args.shares.now c.loop-number.shares c.loop-number.invariant.left c.loop-number.invariant.settled
      (get_or c.args.links.now c.loop-number.number none) (slice_get-get_or c.args.links.now c.loop-number.number none c.loop-number-test.true) c.settle_link.ensures.settled;
}

pub returns-clause-left : goal.returns-clause-left
returns-clause-left g c =
    let all : c.loop-number.number ≡ length c.args.links.now = omega (arith, c.loop-number-test.false, c.loop-number.auto.number-end) in
    subst (λ n. AreLeft (From n) (From n) c.args.shares.now c.loop-number.shares) all c.loop-number.invariant.left

pub returns-clause-settled : goal.returns-clause-settled
returns-clause-settled g c =
    let all : c.loop-number.number ≡ length c.args.links.now = omega (arith, c.loop-number-test.false, c.loop-number.auto.number-end) in
    subst (λ n. AreSettledBelow n c.args.links.now c.args.shares.now) all c.loop-number.invariant.settled
