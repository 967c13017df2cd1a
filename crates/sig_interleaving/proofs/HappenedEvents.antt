-- Events of a core that happened.
use Rattle.sig_interleaving.proofs.Common.{◌≡◌, ◌<◌, ◌≤◌, ◌++◌, ◌∙◌, ℕ, Bool, List, [], ◌∷◌, length, map, false, sym, ap, subst, arith, None, OnErr, OnOk, Result, Ok, Err, Some, slice_get, slice_index_or, append-nil, length-map, slice_get_past, CommitsBy, IsStepped, Happened, IsCore, IsReached, IsSameRun, Keeps, Shows, TellsChange, TookMore, given_of, Core, outputs_of, seen_lines, Kernel, Actor, ModelCore, Given, acted, stepped, Event, Act, actor_of, last_reaction, ClusterState, TookPrefix, WriteFault, slice_get-get_or}
use Rattle.sig_interleaving.proofs.EventsToTheEnd.{event_reached}
use Rattle.sig_step.specs.declared.answer.Acted.TheVariants.{Commit}

module _ {S : Type 0} (took : S → List ℕ → S → Type 0) (old new : Core) where
  -- an event that commits nothing
  pub kept_happened : (e : Event) (sink : S) → took sink [] sink → Keeps e old new → Happened took e old new sink sink
  kept_happened e sink nothing keeps m shows =
      ((keeps m shows).0, record { more = []; committed = (keeps m shows).1 ∙ sym (append-nil m.committed); taken = nothing })

  -- an event that commits a reaction, whose text was taken
  pub commit_happened : (k : ℕ) (s : ClusterState) → slice_get new.states.items k ≡ Some s → (kernel : Kernel) → kernel ≡ new.plan.now.kernel → kernel ≡ old.plan.now.kernel
      → (before after : S) → took before (seen_lines (outputs_of kernel) (last_reaction kernel s)) after
      → IsStepped (Act k) old new → CommitsBy k Commit old new → Happened took (Act k) old new before after
  commit_happened k s at kernel in_new in_old before after taken steps commits m shows = (
    steps m shows,
    subst (λ z. TookMore took z m (stepped (given_of old) m (Act k)) before after) in_old (record {
      more = last_reaction kernel s ∷ [];
      committed = commits m shows s at ∙ ap (λ z. m.committed ++ last_reaction z s ∷ []) (sym in_new);
      taken = subst (λ bytes. took before bytes after) (sym (append-nil (seen_lines (outputs_of kernel) (last_reaction kernel s)))) taken;
    }),
  )

-- an event of an actor that is not there
module _ (c : Core) (k : ℕ) (past : length c.states.items ≤ k) where
  module _ (m : ModelCore) (shows : Shows m c) where
    nobody : slice_get m.actors k ≡ None
    nobody = ap (λ (xs : List Actor). slice_get xs k) shows.actors ∙ slice_get_past (map actor_of c.states.items) k (let count = length-map c.states.items actor_of in omega (arith, past, count))

    act_past : stepped (given_of c) m (Act k) ≡ m
    act_past = ap (acted (given_of c) k m) nobody

  pub past_act_keeps : Keeps (Act k) c c
  past_act_keeps m shows = (subst (λ n. Shows n c) (sym (act_past m shows)) shows, ap (λ (n : ModelCore). n.committed) (act_past m shows))

  pub past_act_tells : TellsChange c (Act k) false
  past_act_tells m shows = act_past m shows

-- the state of an actor, behind an event
pub state_there : (old new : Core) → IsCore old → IsCore new → IsSameRun old new → (k : ℕ) → k < length old.states.items → (s : ClusterState) → s ≡ slice_index_or new.states.items k s
    → slice_get new.states.items k ≡ Some s
state_there old new is_old is_new same k lt s is =
    let before = is_old.actors in
    let behind = is_new.actors in
    let codes = ap (λ (given : Given). length given.plan.codes) same in
    slice_get-get_or new.states.items k s (omega (arith, lt, before, behind, codes)) ∙ ap (λ x. Some x) (sym is)

-- an event happened, whatever became of its text: the core was reached if the one before it was
pub reached_by : {S : Type 0} (took : S → List ℕ → S → Type 0) (e : Event) (old new : Core) (before after : S) → IsSameRun old new → (result : Result Bool WriteFault)
    → OnOk result (Happened took e old new before after) → OnErr result (Happened (TookPrefix took) e old new before after) → IsReached old → IsReached new
reached_by took e old new before after same (Ok changed) ok err = event_reached took e old new before after same ok
reached_by took e old new before after same (Err fault) ok err = event_reached (TookPrefix took) e old new before after same err
