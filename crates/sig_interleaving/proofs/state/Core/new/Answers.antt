use Rattle.sig_interleaving.proofs.{[], arith, refl, subst, opened_core, opened_shows, AreEmpty}
use Rattle.sig_interleaving.proofs.state.Core.new.Goals as goal

pub returns-clause-core : goal.returns-clause-core
returns-clause-core c =
    opened_core _ c.requires.fits c.requires.limit c.requires.capacity c.ranges.capacity.fits c.in_ok-opened.ensures.opened c.in_ok-opened.ensures.few
    (subst (λ n. AreEmpty n c.args.capacity c.in_ok-new.field-0) c.links_in.ensures c.in_ok-new.ensures) refl
    (let size = c.in_ok-lines_for.ensures.size in omega (arith, size))

pub returns-clause-opening : goal.returns-clause-opening
returns-clause-opening c =
    opened_shows _ c.requires.fits c.requires.limit c.requires.capacity c.ranges.capacity.fits c.in_ok-opened.ensures.opened c.in_ok-opened.ensures.few
    (subst (λ n. AreEmpty n c.args.capacity c.in_ok-new.field-0) c.links_in.ensures c.in_ok-new.ensures) refl

-- by no events
pub returns-clause-reached : goal.returns-clause-reached
returns-clause-reached c = ([], returns-clause-opening c)
