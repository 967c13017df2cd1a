use Rattle.sig_work.proofs.{get_or, refl, given_put, slice_get-get_or}
use Rattle.sig_work.proofs.joining.give_put.Goals as goal

pub returns : goal.returns
returns c =
    given_put c.args.members.now c.args.writer c.args.link c.args.put (get_or c.args.members.now c.args.writer c.index-members-writer.result) _
    (slice_get-get_or c.args.members.now c.args.writer c.index-members-writer.result c.requires.there)
    (record { number = refl; state = refl; ending = refl; ends = c.give_put.ensures.left }) c.give_put.ensures.put
