use Rattle.sig_machine.proofs.{arith, refl, length, listed, some_at, slice_get_read, IsNextTold, none_told_before, one_told}
use Rattle.sig_machine.proofs.actor.ActorMachine.tell_next.Goals as goal

pub returns-then-next-to-clause-told : goal.returns-then-next-to-clause-told
returns-then-next-to-clause-told c =
    let a = c.args.self.now in
    let next = c.index-next.result.now in
    let before = c.requires.before in
    let within = c.requires.within in
    let count = c.requires.next.count in
    let there = slice_get_read a.next_told.items (length a.next_told.items) c.args.place next refl (omega (arith, before, within, count)) c.index-next.ensures in
    let is : IsNextTold (listed a.instructions) a.variables.items c.args.place next = c.requires.next.each c.args.place next (omega arith) there in
    let early = c.if-next-to.true in
    let (instruction, at) = some_at (listed a.instructions) next (omega (arith, early, within)) in
    one_told (listed a.instructions) a.variables.items a.machine.cells.items c.args.place next instruction a.truths.items c.tell_at.new.self.truths.items is at (c.tell_at.ensures.told instruction at)

pub returns-else-next-to-clause-told : goal.returns-else-next-to-clause-told
returns-else-next-to-clause-told c =
    let a = c.args.self.now in
    let next = c.index-next.result.now in
    let before = c.requires.before in
    let within = c.requires.within in
    let count = c.requires.next.count in
    let there = slice_get_read a.next_told.items (length a.next_told.items) c.args.place next refl (omega (arith, before, within, count)) c.index-next.ensures in
    let is : IsNextTold (listed a.instructions) a.variables.items c.args.place next = c.requires.next.each c.args.place next (omega arith) there in
    let late = c.if-next-to.false in
    none_told_before (listed a.instructions) a.variables.items a.machine.cells.items c.args.place next c.args.to a.truths.items is (omega (arith, late))
