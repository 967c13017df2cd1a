-- A whole run: what was dealt and then served comes to the end of the run.
use Rattle.sig_work.proofs.Common.{◌≡◌, ◌<◌, ◌≤◌, ◌-◌, ◌+◌, ◌++◌, ◌∙◌, inl, inr, ℕ, ℤ, List, [], ◌∷◌, length, refl, ap, sym, subst, arith, None, Option, Some, slice_get, eqb-true, length-append, IsWholeRun, TookSome, IsLongest, Trace, Place, Halt, IsKernelTrace, output_text, AreFlowsFor, OfOneLink, Inlet, Outlet, at_most_or, IsEnd, Given, reactions_text, Reaction, IsAccepted, PlanView, LinkInfo, text_is, TookPrefix, TookPrefix-longer, same_Some, AreSingle, IsAmong, times, AreAll, AreDealt, AreDone, AreTogether, BeginsTheRun, IsEndOfRun, IsSameMember, run_of, AreBegun, AreKept, IsOfClusters, WereHalted, WereRun, HaveEnded, IsServing, NoneFaulted, Faulted, Member, Share, slice_get_within, some_at}
use Rattle.sig_plan.specs.declared.ended.Ended.{Ended}
use Rattle.sig_work.proofs.CountedMembers.{some_member}
use Rattle.sig_work.proofs.ItemInPlace.{get_front, get_last, get_more}

-- ---- all shares, as dealt and as kept

module _ (given : Given) (workers : ℕ) (word : Halt) (dealt : List Share) (are : AreDealt given workers word dealt) where
  member_within : (k : ℕ) (m : Member) → IsAmong dealt k m → k < length given.plan.codes
  member_within k m one = subst (λ i. i < length given.plan.codes) one.numbered ((are.serving one.at one.share one.there).done one.number m one.is).member.there

  pub dealt_single : AreSingle dealt
  dealt_single k = elim (at_most_or 1 (times k dealt)) [
    | inl some ↦
        let found = some_member dealt k some in
        let once = are.all.once k (member_within k found.0 found.1) in
        omega (arith, once)
    | inr none ↦ omega (arith, none)
  ]

  pub dealt_unfaulted : NoneFaulted dealt
  dealt_unfaulted at share there number m is faulted =
      let running = (are.fresh m.number m (record { at = at; number = number; share = share; there = there; is = is; numbered = refl })).running in
      let clash : None ≡ Some Faulted = sym running ∙ faulted in
      cc

  -- the last share has the collector
  module _ (others : List Share) (last : Share) (is : dealt ≡ others ++ last ∷ []) where
    others_of : (at : ℕ) (share : Share) → slice_get others at ≡ Some share → IsOfClusters given word share
    others_of at share there =
        let inside : slice_get dealt at ≡ Some share = subst (λ (xs : List Share). slice_get xs at ≡ Some share) (sym is) (get_front others (last ∷ []) at share there) in
        record {
          serving = are.serving at share inside;
          none = λ has. (
              let m = has.1 in
              let number : m.number + 1 ≡ length given.plan.codes = eqb-true (m.number + 1) (length given.plan.codes) has.3 in
              let among : IsAmong dealt (length given.plan.codes - 1) m = record { at = at; number = has.0; share = share; there = inside; is = has.2; numbered = omega (arith, number) } in
              let stands = are.collector m among in
              let count = are.count in
              let lt = slice_get_within others at share there in
              let all = ap (λ (xs : List Share). length xs) is in
              let longer = length-append others (last ∷ []) in
              omega (arith, stands, count, lt, all, longer));
        }

    last_serves : (at : ℕ) (share : Share) → slice_get (last ∷ []) at ≡ Some share → IsServing given word [] share
    last_serves at share there = elim (get_more [] last at share there) [
      | inl none ↦ absurd (let e : None ≡ Some share = none in cc)
      | inr same ↦ subst (λ (x : Share). IsServing given word [] x) same.0
          (are.serving (length others) last (subst (λ (xs : List Share). slice_get xs (length others) ≡ Some last) (sym is) (get_last others last)))
    ]

    pub dealt_begun : AreBegun given word [] others (last ∷ [])
    dealt_begun = record { serving = last_serves; clusters = others_of; single = subst (λ (xs : List Share). AreSingle xs) is dealt_single }

  -- ---- kept

  module _ (new : List Share) (kept : AreKept dealt new) where
    -- a member behind is one that was dealt, with the ends of the same links
    was_dealt : (k : ℕ) (m : Member) → IsAmong new k m → (b : Member) × IsAmong dealt k b × IsSameMember b m
    was_dealt k m one =
        let before = kept.from one.share (one.at, one.there) in
        let many = before.2.count in
        let lt = slice_get_within one.share.members.items one.number m one.is in
        let b = some_at before.0.members.items one.number (omega (arith, lt, many)) in
        let after = before.2.members one.number b.0 b.1 in
        let same : after.0 ≡ m = same_Some after.0 m (sym after.1 ∙ one.is) in
        let is_m : IsSameMember b.0 m = subst (λ (x : Member). IsSameMember b.0 x) same after.2 in (
          b.0,
          record { at = before.1.0; number = one.number; share = before.0; there = before.1.1; is = b.1; numbered = sym is_m.number ∙ one.numbered },
          is_m,
        )

    -- the ends that a member was dealt
    had_put : (j : ℕ) (info : LinkInfo) → slice_get given.plan.links j ≡ Some info → (b : Member) → IsAmong dealt info.writer b → (put : Inlet) × (slice_get b.ends.puts.items j ≡ Some (Some put))
    had_put j info at b one =
        let ends = ((are.serving one.at one.share one.there).done one.number b one.is).member.ends.writes j info at (sym one.numbered) in
        (ends.0, ends.1)

    had_take : (j : ℕ) (info : LinkInfo) → slice_get given.plan.links j ≡ Some info → (b : Member) → IsAmong dealt info.reader b → (take : Outlet) × (slice_get b.ends.takes.items j ≡ Some (Some take))
    had_take j info at b one =
        let ends = ((are.serving one.at one.share one.there).done one.number b one.is).member.ends.reads j info at (sym one.numbered) in
        (ends.0, ends.1)

    pub all_kept : AreAll given word new
    all_kept = record {
      once = λ k lt. kept.times_are k ∙ are.all.once k lt;
      linked = λ j info at w one r two put take is_put is_take. (
          let b = was_dealt info.writer w one in
          let c = was_dealt info.reader r two in
          let old_put = had_put j info at b.0 b.1 in
          let old_take = had_take j info at c.0 c.1 in
          let now_put = b.2.ends.put j old_put.0 old_put.1 in
          let now_take = c.2.ends.take j old_take.0 old_take.1 in
          let puts : Some now_put.0 ≡ Some put = same_Some (Some now_put.0) (Some put) (sym now_put.1 ∙ is_put) in
          let takes : Some now_take.0 ≡ Some take = same_Some (Some now_take.0) (Some take) (sym now_take.1 ∙ is_take) in
          let were : OfOneLink old_put.0 old_take.0 = are.all.linked j info at b.0 b.1 c.0 c.1 old_put.0 old_take.0 old_put.1 old_take.1 in
          subst (λ p. OfOneLink p take) (same_Some now_put.0 put puts)
          (subst (λ t. OfOneLink now_put.0 t) (same_Some now_take.0 take takes) (now_put.2 ∙ were ∙ sym now_take.2)));
      parts = kept.parts_are ∙ are.all.parts;
    }

    module _ (fits : AreFlowsFor given.plan.kernel given.flows) (room : 1 ≤ given.capacity) {S : Type 0} (took : S → List ℕ → S → Type 0) (before after : S) where
      pub run_done : (were : WereRun took given word dealt new before after []) → HaveEnded new → AreDone given were.behind word new
      run_done were ended = record { fits = fits; room = room; all = all_kept; serving = were.serving; ended = ended; unfaulted = were.unfaulted dealt_unfaulted }

      pub halted_together : (were : WereHalted took given new before after []) → AreTogether given were.behind word new
      halted_together were = record { fits = fits; room = room; all = all_kept; done = λ at share there. were.done share (at, there) }

-- ---- the end

module _ (plan : PlanView) (flows : List (List ℤ)) (capacity limit : ℕ) (accepted : IsAccepted plan) {S : Type 0} (took : S → List ℕ → S → Type 0) (before after : S)
    (trace : Trace) (place : Option Place) (ended : Ended) (end : IsEnd plan flows limit trace place ended) where
  pub whole_run : (committed : List Reaction) (answer : Ended) → IsEndOfRun (run_of plan flows capacity limit) committed answer → took before (reactions_text plan.kernel committed) after
      → IsWholeRun plan flows limit took before after answer
  whole_run committed answer is text =
      let both = is trace place ended end in
      record {
        trace = trace;
        place = place;
        end = subst (λ (e : Ended). IsEnd plan flows limit trace place e) (sym both.0) end;
        text = subst (λ bytes. took before bytes after) (ap (reactions_text plan.kernel) both.1 ∙ text_is plan.kernel accepted.valid trace) text;
      }

  pub part_run : (once : (t u : Trace) → IsLongest (IsKernelTrace plan.kernel) flows limit t → IsLongest (IsKernelTrace plan.kernel) flows limit u → t ≡ u)
      → (committed : List Reaction) → BeginsTheRun (run_of plan flows capacity limit) committed → TookPrefix took before (reactions_text plan.kernel committed) after
      → TookSome plan flows limit took before after
  part_run once committed begins text longest is =
      let begun = begins trace place ended end in
      let same : trace ≡ longest = once trace longest end.longest is in
      subst (λ bytes. TookPrefix took before bytes after) (sym (ap (output_text plan.kernel) (sym same) ∙ begun.1))
      (TookPrefix-longer took before after (reactions_text plan.kernel committed) begun.0 text)
