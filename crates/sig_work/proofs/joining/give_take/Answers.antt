use Rattle.sig_work.proofs.{get_or, refl, given_take, slice_get-get_or}
use Rattle.sig_work.proofs.joining.give_take.Goals as goal

pub returns : goal.returns
returns c =
    given_take c.args.members.now c.args.reader c.args.link c.args.take (get_or c.args.members.now c.args.reader c.index-members-reader.result) _
    (slice_get-get_or c.args.members.now c.args.reader c.index-members-reader.result c.requires.there)
    (record { number = refl; state = refl; ending = refl; ends = c.give_take.ensures.left }) c.give_take.ensures.take
