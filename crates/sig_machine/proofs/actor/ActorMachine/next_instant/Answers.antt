use Rattle.sig_machine.proofs.{◌≡◌, ◌+◌, ◌∙◌, ap, sym, false, length, replicate, with_items, with_items_is, ActorMachine, Machine, begins_own, last_in, last_kept, next_actor, next_is, inside, outside}
use Rattle.sig_machine.proofs.actor.ActorMachine.next_instant.Goals as goal

pub returns-clause-last : goal.returns-clause-last
returns-clause-last c =
    let old : ActorMachine = c.args.self.now in
    let later : ActorMachine → ActorMachine = λ a. record a { machine = record a.machine { instant = a.machine.instant + 1 }; truths = with_items a.truths c.forget.new.truths } in
    ap (λ (a : ActorMachine). last_in (later a)) c.keep_own.ensures.stays ∙ last_kept old c.keep_own.new.self c.keep_own.ensures.kept (later old)

pub returns-clause-actor : goal.returns-clause-actor
returns-clause-actor c = λ plan k flows is_machine step.
    let old : ActorMachine = c.args.self.now in
    let mid : ActorMachine = c.keep_own.new.self in
    let is = inside plan k flows old is_machine in
    let later : ActorMachine → ActorMachine = λ a. record a { machine = record a.machine { instant = a.machine.instant + 1 }; truths = with_items a.truths c.forget.new.truths } in
    next_actor plan k flows old (later mid) is (ap (λ (a : ActorMachine). (later a).machine) c.keep_own.ensures.stays) (begins_own old mid c.keep_own.ensures.kept plan k flows is) step

pub returns-clause-machine : goal.returns-clause-machine
returns-clause-machine c = λ plan k flows is_machine.
    let old : ActorMachine = c.args.self.now in
    let mid : ActorMachine = c.keep_own.new.self in
    let stays = c.keep_own.ensures.stays in
    let is = inside plan k flows old is_machine in
    let later : ActorMachine → ActorMachine = λ a. record a { machine = record a.machine { instant = a.machine.instant + 1 }; truths = with_items a.truths c.forget.new.truths } in
    let machine = ap (λ (a : ActorMachine). (later a).machine) stays in
    let rest : later mid ≡ record old { machine = (later mid).machine; last = mid.last; truths = (later mid).truths } =
    ap later stays
    ∙ ap (λ (m : Machine). let a : ActorMachine = record old { machine = m; last = mid.last; truths = (later old).truths } in a) (sym machine)
    ∙ ap (λ (b : ActorMachine). let a : ActorMachine = record old { machine = (later mid).machine; last = mid.last; truths = (later b).truths } in a) (sym stays) in
    let cleared =
    with_items_is mid.truths c.forget.new.truths (c.forget.auto.truths ∙ c.as_mut_slice.ensures.len) ∙ c.forget.ensures
    ∙ ap (λ xs. replicate (length xs) false) c.as_mut_slice.ensures.value
    ∙ ap (λ (a : ActorMachine). replicate (length a.truths.items) false) stays in
    outside plan k flows (later mid) (next_is plan k flows old (later mid) is machine (begins_own old mid c.keep_own.ensures.kept plan k flows is) rest c.keep_own.ensures.kept.kept_count cleared)
