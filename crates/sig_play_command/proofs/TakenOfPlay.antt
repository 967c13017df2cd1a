-- What a sink took of a play.
use Rattle.sig_play_command.proofs.Common.{◌≡◌, ◌∙◌, ◌++◌, ℕ, List, [], sym, ap, subst, Option, append-nil, append_cancel_left, Trace, Place, IsSameRun, Shows, given_of, IsEndOf, TookRest, output_text, IsEnd, Core as ModelCore, Given, after, opening, reactions_text, Event, Ended, AllHappened, IsEndIn, IsRest, PartHappened, TookOf, TookPlay, state_text, Joins, TookPrefix, TookPrefix-longer, TookPrefix-then, TookPrefix-whole}
use Rattle.sig_interleaving.specs.declared.state.Core.{Core}

module _ {S : Type 0} (took : S → List ℕ → S → Type 0) (joins : Joins took) (c : Core) (opened : Shows (opening c.plan.now) c) (events : List Event) where
  abbrev given : Given
  given = given_of c

  abbrev left : ModelCore
  left = after (given_of c) events

  -- what the events committed
  part_committed : (Took : S → List ℕ → S → Type 0) (s0 s1 : S) → PartHappened Took events c s0 s1 → Took s0 (reactions_text given.plan.kernel left.committed) s1
  part_committed Took s0 s1 part =
      let more = part (opening c.plan.now) opened in
      subst (λ rs. Took s0 (reactions_text given.plan.kernel rs) s1) (sym more.committed) more.taken

  pub part_events : (s0 s1 : S) → PartHappened (TookPrefix took) events c s0 s1 → TookPlay (TookPrefix took) given events s0 s1
  part_events s0 s1 part trace place ended is rest missing =
      TookPrefix-longer took s0 s1 (reactions_text given.plan.kernel left.committed) (state_text left ++ rest) (part_committed (TookPrefix took) s0 s1 part)

  module _ (now : Core) (same : IsSameRun c now) (s0 s1 : S) (happened : AllHappened took events c now s0 s1) where
    pub shows_left : Shows left now
    shows_left = (happened (opening c.plan.now) opened).0

    left_is : after (given_of now) events ≡ left
    left_is = ap (λ (g : Given). after g events) same

    shows_now : Shows (after (given_of now) events) now
    shows_now = subst (λ m. Shows m now) (sym left_is) shows_left

    committed : took s0 (reactions_text given.plan.kernel left.committed) s1
    committed = part_committed took s0 s1 (λ m shows. (happened m shows).1)

    pub part_state : (s2 : S) → TookOf (TookPrefix took) now state_text s1 s2 → TookPlay (TookPrefix took) given events s0 s2
    part_state s2 state trace place ended is rest missing =
        TookPrefix-then took joins s0 s1 s2 (reactions_text given.plan.kernel left.committed) (state_text left ++ rest) committed
        (TookPrefix-longer took s1 s2 (state_text left) rest (state left shows_left))

    module _ (s2 : S) (state : TookOf took now state_text s1 s2) where
      -- the rest that was taken is the one that is missing
      rest_is : (Took : S → List ℕ → S → Type 0) (s3 : S) → TookRest Took now s2 s3 → (trace : Trace) (place : Option Place) (ended : Ended) → IsEnd given.plan given.flows given.limit trace place ended
          → (rest : List ℕ) → IsRest given.plan.kernel left trace rest → Took s2 rest s3
      rest_is Took s3 taken trace place ended is rest missing =
          let behind = taken events shows_now trace place ended (subst (λ (g : Given). IsEnd g.plan g.flows g.limit trace place ended) (sym same) is) in
          let kernel : now.plan.now.kernel ≡ given.plan.kernel = ap (λ (g : Given). g.plan.kernel) same in
          let joined : reactions_text given.plan.kernel left.committed ++ behind.rest ≡ output_text given.plan.kernel trace =
          subst (λ (m : ModelCore). reactions_text given.plan.kernel m.committed ++ behind.rest ≡ output_text given.plan.kernel trace) left_is
          (subst (λ k. reactions_text k (after (given_of now) events).committed ++ behind.rest ≡ output_text k trace) kernel behind.joined) in
          subst (λ bytes. Took s2 bytes s3) (append_cancel_left (reactions_text given.plan.kernel left.committed) behind.rest rest (joined ∙ sym missing)) behind.taken

      pub part_rest : (s3 : S) → TookRest (TookPrefix took) now s2 s3 → TookPlay (TookPrefix took) given events s0 s3
      part_rest s3 taken trace place ended is rest missing =
          TookPrefix-then took joins s0 s1 s3 (reactions_text given.plan.kernel left.committed) (state_text left ++ rest) committed
          (TookPrefix-then took joins s1 s2 s3 (state_text left) rest (state left shows_left) (rest_is (TookPrefix took) s3 taken trace place ended is rest missing))

      pub whole_play : (s3 s4 : S) → TookRest took now s2 s3 → took s3 [] s4 → TookPlay took given events s0 s4
      whole_play s3 s4 taken none trace place ended is rest missing =
          joins s0 s1 s4 (reactions_text given.plan.kernel left.committed) (state_text left ++ rest) committed
          (joins s1 s2 s4 (state_text left) rest (state left shows_left)
          (subst (λ bytes. took s2 bytes s4) (append-nil rest) (joins s2 s3 s4 rest [] (rest_is took s3 taken trace place ended is rest missing) none)))

      pub part_flush : (s3 s4 : S) → TookRest took now s2 s3 → took s3 [] s4 → TookPlay (TookPrefix took) given events s0 s4
      part_flush s3 s4 taken none trace place ended is rest missing = TookPrefix-whole took s0 s4 _ (whole_play s3 s4 taken none trace place ended is rest missing)

    pub end_of_play : (answer : Ended) → IsEndOf now answer → IsEndIn given answer
    end_of_play answer is = subst (λ (g : Given). IsEndIn g answer) same is
