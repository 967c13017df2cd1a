use Rattle.sig_rel.proofs.{sym, ◌∙◌, arith, room_for_next, truth_given, boolean_within}
use Rattle.sig_rel.proofs.numbering.Numbering.number_boolean.Goals as goal

pub number_truth-requires-clause-signal : goal.number_truth-requires-clause-signal
number_truth-requires-clause-signal c =
    let lt = boolean_within c.args.kernel.now c.args.signal (sym c.is_boolean.ensures ∙ c.if-is_boolean.true) in
    let e = c.requires.given.truth_count in
    omega (arith, lt, e, c.args.self.now.truth.ok.0)

pub number_truth-requires-clause-room : goal.number_truth-requires-clause-room
number_truth-requires-clause-room c = room_for_next c.args.kernel.now c.args._least.now c.args.self.now c.requires.valid c.requires.given

pub returns-then-is_boolean : goal.returns-then-is_boolean
returns-then-is_boolean c =
    let boolean = sym c.is_boolean.ensures ∙ c.if-is_boolean.true in
    let lt = boolean_within c.args.kernel.now c.args.signal boolean in
    truth_given c.args.kernel.now c.args._least.now _ c.args.self.now c.number_truth.new.self c.requires.given c.args.signal boolean lt c.number_truth.ensures.truth c.number_truth.ensures.class c.number_truth.ensures.next
