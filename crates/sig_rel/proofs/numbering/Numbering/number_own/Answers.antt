use Rattle.sig_rel.proofs.{◌<◌, length, arith, class_given, room_for_next}
use Rattle.sig_rel.proofs.numbering.Numbering.number_own.Goals as goal

pub number_class-requires-clause-room : goal.number_class-requires-clause-room
number_class-requires-clause-room c = room_for_next c.args._kernel.now c.args.least.now c.args.self.now c.requires.valid c.requires.given

pub returns-then-least-class : goal.returns-then-least-class
returns-then-least-class c =
    let count = c.requires.least.count in
    let lt : c.args.class < length c.args._kernel.now.signals = let t = c.if-class-least.true in omega (arith, count, t) in
    class_given c.args._kernel.now c.args.least.now _ c.args.self.now c.number_class.new.self c.requires.given c.args.class c.if-least-class.true lt c.number_class.ensures.class c.number_class.ensures.truth c.number_class.ensures.next
