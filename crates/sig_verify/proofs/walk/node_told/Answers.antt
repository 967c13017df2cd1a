use Rattle.sig_verify.proofs.{of_kept, function_joined, second_refused, still_of, third_refused, written_joined, pass_on, IsRefusal}
use Rattle.sig_verify.proofs.walk.node_told.Goals as goal

pub choice-requires-2-clause-low : goal.choice-requires-2-clause-low
choice-requires-2-clause-low c = of_kept 2 c.args.diagrams.now c.choice.new.self c.in_ok-function.ensures.next c.args.low.written c.requires.low_written

pub choice-requires-2-clause-high : goal.choice-requires-2-clause-high
choice-requires-2-clause-high c = of_kept 2 c.args.diagrams.now c.choice.new.self c.in_ok-function.ensures.next c.args.high.written c.requires.high_written

pub returns-in_err-below-clause-refused : goal.returns-in_err-below-clause-refused
returns-in_err-below-clause-refused c =
    pass_on (IsRefusal c.args.diagrams.now 5) c.from_residual-in_err-below.result c.in_err-below.field-0.0 c.from_residual-in_err-below.ensures.1
    (second_refused c.args.diagrams.now c.choice.new.self c.choice-2.new.self c.in_ok-function.ensures.next c.in_err-below.ensures.next c.in_err-below.field-0.0 c.in_err-below.ensures.refused)

pub asked_at-here-requires : goal.asked_at-here-requires
asked_at-here-requires c =
    still_of c.args.diagrams.now c.choice.new.self c.choice-2.new.self c.in_ok-function.ensures.next c.in_ok-below.ensures.next c.args.image.now c.args.written.now c.requires.scene.of

pub returns-in_err-written-clause-refused : goal.returns-in_err-written-clause-refused
returns-in_err-written-clause-refused c =
    pass_on (IsRefusal c.args.diagrams.now 5) c.from_residual-in_err-written.result c.in_err-written.field-0.0 c.from_residual-in_err-written.ensures.1
    (third_refused c.args.diagrams.now c.choice.new.self c.choice-2.new.self c.in_ok-function.ensures.next c.in_ok-below.ensures.next c.in_err-written.field-0.0 c.in_err-written.ensures.refused)

pub returns-clause-function : goal.returns-clause-function
returns-clause-function c =
    function_joined c.args.diagrams.now c.choice.new.self c.choice-2.new.self c.in_ok-function.ensures.next c.in_ok-below.ensures.next
    c.args.image.now c.args.written.now c.requires.scene.of c.both.new.self c.in_ok-written.ensures.next _ c.in_ok-function.function c.in_ok-function.ensures.value

pub returns-clause-written : goal.returns-clause-written
returns-clause-written c =
    written_joined c.args.diagrams.now c.choice.new.self c.choice-2.new.self c.in_ok-function.ensures.next c.in_ok-below.ensures.next
    c.args.image.now c.args.written.now c.requires.scene.of c.both.new.self c.in_ok-written.ensures.next
    c.args.v c.args.low.written c.args.high.written c.asked_at-here.result c.in_ok-below.below c.in_ok-written.written c.requires.low_written c.requires.high_written
    c.asked_at-here.ensures c.in_ok-below.ensures.value c.in_ok-written.ensures.value
