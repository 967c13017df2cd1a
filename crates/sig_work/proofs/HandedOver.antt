-- A member that handed over what its ends held, and one that wrote lines.
use Rattle.sig_work.proofs.Common.{◌≡◌, ◌++◌, ◌∙◌, ℕ, ℤ, Bool, List, refl, sym, subst, Halt, HaltSeat, Given, Reaction, PlanView, IsOwn, Own, HasDone, KeepsMember, ServesMember, Member, LinkEnds, HaveHandedOver, actor_of, before_stop, failure_in, own_of, run_of}
use Rattle.sig_flow.specs.OutputLines.{LinesInFront}
use Rattle.sig_work.proofs.OwnActs.{has_ends}
use Rattle.sig_work.proofs.WhatStays.{keeps_then, same_ends_then}

-- what a call notes of the ends is none of it
pub none_handed : (ends : LinkEnds) (holds : Bool) → HaveHandedOver ends (record ends { holds = holds })
none_handed ends holds = record {
  same = record {
    puts = refl;
    takes = refl;
    put = λ link before is. (before, is, refl, refl);
    take = λ link before is. (before, is, refl);
  };
  past = λ link. refl;
}

pub ends_handed_then : (a b c : LinkEnds) → HaveHandedOver a b → HaveHandedOver b c → HaveHandedOver a c
ends_handed_then a b c one two = record {
  same = same_ends_then a b c one.same two.same;
  past = λ link. two.past link ∙ one.past link;
}

module _ (given : Given) (committed : List Reaction) (m : Member) (is : HasDone given committed m) where
  pub handed_done : (f : LinkEnds) → HaveHandedOver m.ends f → HasDone given committed (record m { ends = f })
  handed_done f handed = record {
    member = record {
      numbered = is.member.numbered;
      there = is.member.there;
      state = is.member.state;
      actor = is.member.actor;
      limit = is.member.limit;
      ends = has_ends given.plan given.capacity m.number m.ends f is.member.ends handed.same;
      ending = is.member.ending;
    };
    own = subst (λ (own : Own). IsOwn given m.number own) (sym own_stays) is.own;
  } where
    own_stays : own_of (record m { ends = f }) committed ≡ own_of m committed
    own_stays = λ j. record {
      actor = before_stop m.ending (actor_of m.state);
      sent = λ link. (handed.past link j).sent;
      taken = λ link. (handed.past link j).taken;
      committed = committed;
      failed = failure_in m.ending;
    }

  pub lined_done : (lines : LinesInFront) → HasDone given committed (record m { lines = lines })
  lined_done lines = record {
    member = record {
      numbered = is.member.numbered;
      there = is.member.there;
      state = is.member.state;
      actor = is.member.actor;
      limit = is.member.limit;
      ends = is.member.ends;
      ending = is.member.ending;
    };
    own = is.own;
  }

module _ (mid new : Member) (new_is : new ≡ record mid { ends = new.ends }) (handed : HaveHandedOver mid.ends new.ends) where
  pub handed_keeps : (old : Member) → KeepsMember old mid → KeepsMember old new
  handed_keeps old keeps = subst (λ (m : Member). KeepsMember old m) (sym new_is) (keeps_then old mid (record mid { ends = new.ends }) keeps
      (record { same = record { number = refl; ends = handed.same }; ended = λ is. is; unfaulted = λ is. is }))

  pub handed_serves : {S : Type 0} (took : S → List ℕ → S → Type 0) (plan : PlanView) (flows : List (List ℤ)) (word : Halt) (old : Member) (by now : HaltSeat) (before after : S)
      → ServesMember took plan flows word old by mid now before after → ServesMember took plan flows word old by new now before after
  handed_serves {S} took plan flows word old by now before after serves =
      subst (λ (m : Member). ServesMember took plan flows word old by m now before after) (sym new_is) (λ capacity limit others committed is.
      let s = serves capacity limit others committed is in
      record {
        more = s.more;
        serving = record {
          done = handed_done (run_of plan flows capacity limit) (committed ++ s.more) mid s.serving.done new.ends handed;
          seat = s.serving.seat;
          least = s.serving.least;
          behind = s.serving.behind;
        };
        mine = s.mine;
        text = s.text;
      })
