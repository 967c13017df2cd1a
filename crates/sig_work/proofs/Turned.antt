-- What the arms of a member's turn come to.
use Rattle.sig_work.proofs.Common.{◌≡◌, ◌<◌, ◌≤◌, ◌^◌, ◌++◌, ◌⊎◌, ◌∙◌, inl, inr, ℕ, ℤ, true, false, List, [], ◌∷◌, sym, subst, arith, Some, min, no_place, packed, Place, recorded, Halt, HaltSeat, outputs_of, seen_lines, Given, Reaction, PlanView, last_reaction, place_of, Acted, Empty, HasActedAs, HasDone, IsSameMember, is_collector, run_of, IsServed, KeepsMember, KeepsSeat, ServesMember, Failed, AtLimit, Member}
use Rattle.sig_work.proofs.GoingOn.{none_more, one_more}
use Rattle.sig_work.proofs.Served.{served_on, served_to_failure, served_to_limit, some_place}
use Rattle.sig_work.proofs.HandedOver.{lined_done}
use Rattle.sig_step.specs.declared.answer.Acted.TheVariants.{Full}

-- a running member stays
pub acted_keeps : (old new : Member) → old.state.ended ≡ false → IsSameMember old new → new.ending ≡ old.ending → KeepsMember old new
acted_keeps old new runs same noted = record {
  same = same;
  ended = λ ended. absurd (let e : true ≡ false = sym ended ∙ runs in cc);
  unfaulted = λ faulted. sym noted ∙ faulted;
}

module _ {S : Type 0} (took : S → List ℕ → S → Type 0) (plan : PlanView) (flows : List (List ℤ)) (word : Halt) (old mid : Member) (by : HaltSeat) (runs : old.state.ended ≡ false) (noted : mid.ending ≡ old.ending) where
  -- the step left this
  abbrev pub Leaves : (Given → List Reaction → Type 0) → Type 0
  Leaves Fact = (capacity limit : ℕ) (committed : List Reaction) → HasDone (run_of plan flows capacity limit) committed old → Fact (run_of plan flows capacity limit) committed

  pub goes_on : (sink : S) → took sink [] sink → Leaves (λ given committed. HasDone given committed mid) → ServesMember took plan flows word old by mid by sink sink
  goes_on sink nothing leaves capacity limit others committed is =
      let given : Given = run_of plan flows capacity limit in
      none_more took plan.kernel (λ all. IsServed given word others all mid by) (is_collector given mid ≡ true) committed sink nothing
      (served_on given word others committed committed old mid by runs is noted (leaves capacity limit committed is.done))

  -- it committed, and its text was taken
  pub commits : (lined : Member) → lined ≡ record mid { lines = lined.lines } → (before after : S) → took before (seen_lines (outputs_of plan.kernel) (last_reaction plan.kernel mid.state)) after
      → Leaves (λ given committed. HasDone given (committed ++ last_reaction plan.kernel mid.state ∷ []) mid × (is_collector given mid ≡ true)) → ServesMember took plan flows word old by lined by before after
  commits lined lined_is before after text leaves = subst (λ (m : Member). ServesMember took plan flows word old by m by before after) (sym lined_is) (λ capacity limit others committed is.
      let given : Given = run_of plan flows capacity limit in
      let left = leaves capacity limit committed is.done in
      let behind : Member = record mid { lines = lined.lines } in
      one_more took plan.kernel (λ all. IsServed given word others all behind by) (is_collector given mid ≡ true) committed (last_reaction plan.kernel mid.state) before after text
      (served_on given word others committed (committed ++ last_reaction plan.kernel mid.state ∷ []) old behind by runs is noted
      (lined_done given (committed ++ last_reaction plan.kernel mid.state ∷ []) mid left.0 lined.lines)) left.1)

  pub rests : (sink : S) → took sink [] sink → Leaves (λ given committed. HasDone given committed mid) → (new : Member) (now : HaltSeat)
      → ((given : Given) (others : ℕ) (committed : List Reaction) → IsServed given word others committed mid by → IsServed given word others committed new now) → ServesMember took plan flows word old by new now sink sink
  rests sink nothing leaves new now rested capacity limit others committed is =
      let given : Given = run_of plan flows capacity limit in
      none_more took plan.kernel (λ all. IsServed given word others all new now) (is_collector given new ≡ true) committed sink nothing
      (rested given others committed (served_on given word others committed committed old mid by runs is noted (leaves capacity limit committed is.done)))

  pub ends_at_limit : (sink : S) → took sink [] sink → Leaves (λ given committed. HasDone given committed (record mid { ending = Some AtLimit })) → ServesMember took plan flows word old by (record mid { ending = Some AtLimit }) by sink sink
  ends_at_limit sink nothing leaves capacity limit others committed is =
      let given : Given = run_of plan flows capacity limit in
      none_more took plan.kernel (λ all. IsServed given word others all (record mid { ending = Some AtLimit }) by) (is_collector given mid ≡ true) committed sink nothing
      (served_to_limit given word others committed committed old mid by runs is (leaves capacity limit committed is.done))

  module _ (place : Place) (fits : place.pos < 2 ^ 32)
      (leaves : Leaves (λ given committed. HasDone given committed (record mid { ending = Some (Failed place) }) × (place ≡ place_of mid.state) × (place.instant ≤ given.limit))) where
    pub place_below : (capacity limit others : ℕ) (committed : List Reaction) → IsServed (run_of plan flows capacity limit) word others committed old by → packed place < no_place
    place_below capacity limit others committed is =
        let left = leaves capacity limit committed is.done in
        let few = is.done.member.state.limit in
        let same = is.done.member.limit in
        some_place place limit left.2 (omega (arith, few, same)) fits

    pub fails : (sink : S) → took sink [] sink → (new : Member) (now : HaltSeat) → new ≡ record mid { ending = Some (Failed place) } → KeepsSeat by now → recorded now ≡ min (recorded by) (packed place)
        → ServesMember took plan flows word old by new now sink sink
    fails sink nothing new now new_is keeps least capacity limit others committed is =
        let given : Given = run_of plan flows capacity limit in
        let left = leaves capacity limit committed is.done in
        none_more took plan.kernel (λ all. IsServed given word others all new now) (is_collector given new ≡ true) committed sink nothing
        (subst (λ (m : Member). IsServed given word others committed m now) (sym new_is)
        (served_to_failure given word others committed committed old mid by runs is place now keeps least (let below = place_below capacity limit others committed is in omega (arith, below)) left.1 left.0))

-- a link refused
pub refused : (given : Given) (committed : List Reaction) (acted : Acted) (m : Member) → ((link : ℕ) × (acted ≡ Empty link)) ⊎ ((link : ℕ) × (acted ≡ Full link)) → HasActedAs given committed acted m → HasDone given committed m
refused given committed acted m (inl empty) is = subst (λ (a : Acted). HasActedAs given committed a m) empty.1 is
refused given committed acted m (inr full) is = subst (λ (a : Acted). HasActedAs given committed a m) full.1 is
