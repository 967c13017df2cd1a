use Rattle.sig_work.proofs.{◌≡◌, List, get_or, refl, set, Some, slice_get, on_err_weaker, on_ok_weaker, TookPrefix, have_ended_here, one_share, share_may, share_served, Share, slice_get-get_or}
use Rattle.sig_work.proofs.serving.advance_at.Given.{Over}
use Rattle.sig_work.proofs.serving.advance_at.Goals as goal

module _ (g : Over) (c : goal.After-advance g) where
  abbrev it : Share
  it = get_or c.args.shares.now c.args.at c.index-shares-at.result

  there : slice_get c.args.shares.now c.args.at ≡ Some it
  there = slice_get-get_or c.args.shares.now c.args.at c.index-shares-at.result c.requires.there

  abbrev behind : List Share
  behind = set c.args.shares.now c.args.at c.advance.new.self

pub advance-requires : goal.advance-requires
advance-requires g c =
    let run = c.requires.run in record {
      run = (
        run.0,
        run.1,
        run.2,
        share_may c.args.plan.now c.args.inputs.now c.args.halt.now c.args.shares.now c.args.at (get_or c.args.shares.now c.args.at c.index-shares-at.result)
            (slice_get-get_or c.args.shares.now c.args.at c.index-shares-at.result c.requires.there) run.0 run.1 run.2 run.3,
      );
    }

pub returns-clause-keeps : goal.returns-clause-keeps
returns-clause-keeps g c = one_share c.args.shares.now (behind g c) c.args.at (it g c) c.advance.new.self (there g c) refl c.advance.ensures.keeps

pub returns-clause-ended : goal.returns-clause-ended
returns-clause-ended g c = λ answer. have_ended_here c.args.shares.now (behind g c) c.args.at (it g c) c.advance.new.self (there g c) refl (c.advance.ensures.ended answer)

pub returns-clause-serves : goal.returns-clause-serves
returns-clause-serves g c =
    on_ok_weaker c.advance.result
    (share_served g.S.Sink.took c.args.plan.now c.args.inputs.now c.args.halt.now c.args.shares.now (behind g c) c.args.at (it g c) c.advance.new.self (there g c) refl c.advance.ensures.keeps c.args.sink.now c.advance.new.sink)
    c.advance.ensures.serves

pub returns-clause-part : goal.returns-clause-part
returns-clause-part g c =
    on_err_weaker c.advance.result
    (share_served (TookPrefix g.S.Sink.took) c.args.plan.now c.args.inputs.now c.args.halt.now c.args.shares.now (behind g c) c.args.at (it g c) c.advance.new.self (there g c) refl c.advance.ensures.keeps c.args.sink.now c.advance.new.sink)
    c.advance.ensures.part
