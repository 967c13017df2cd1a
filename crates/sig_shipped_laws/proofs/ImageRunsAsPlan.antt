-- The image of a plan runs as the plan does.
use Rattle.sig_shipped_laws.proofs.Common.{◌≡◌, ◌<◌, ◌+◌, ◌++◌, ◌⊎◌, inl, inr, ℕ, zero, suc, ℤ, Bool, true, false, List, [], ◌∷◌, length, map, take, drop, replicate, Option, None, Some, refl, sym, ap, subst, ◌∙◌, arith, flat_map, slice_get, append_assoc, length-append, append-nil, length-replicate, length-drop, length-take, flat_map-cons, slice_get-map, option_map, slice_index_or, SigId, Signal, Place, Span, Instant, Seen, Trace, seen_at, output_text, outputs_of, seen_line, seen_lines, target_of, AreFlowsFor, Diagram, value_at, test, IsAccepted, PlanView, Cause, Limit, Ended, Op, range_with_len, Actor, opening_actor, truths_of, Faults, Gives, Outcome, operated, outcome, reaction_in, IsEnd, place_at, compiled, condition_signal, one_end, IsAmid, instant_behind, stepped, StandsAt, limit_end, next_instant, committed_more, next_amid, none_committed, opening_amid, text_is, defined_once, initial_is, fault_end, dropped_at, same_lines, done_behind, passed_over, Guarded, Guards, guards_of, Does, Ends, EndsIn, Handles, HandlesAll, IsImageRun, Runs, State, cleared, holds, instant_lines, opening, proposal_of, ImageView, image_of, image_signal, memory_number, ImageMemory, ImageOpKind, ImageSignal, memory_there, cause_in, end_in, slice_get_within}
use Rattle.sig_model.specs.Actors as model
use Rattle.sig_file.specs.ImageRuns as image_runs
use Rattle.sig_shipped_laws.proofs.Cases.{does_in}
use Rattle.sig_shipped_laws.proofs.OperationsInImage.{does_by, ends_by}
use Rattle.sig_shipped_laws.proofs.Lists.{left_at}
use Rattle.sig_shipped_laws.proofs.Placed.{IsMadeFor, guarded_for, image_long, stands_somewhere}
use Rattle.sig_shipped_laws.proofs.TrackedState.{Tracks, seen_there, tracks_as}

none_past : {A : Type 0} (xs : List A) (n : ℕ) → n ≡ length xs → drop n xs ≡ []
none_past [] zero is = refl
none_past [] (suc n) is = refl
none_past (x ∷ xs) zero is = absurd (omega (arith, is))
none_past (x ∷ xs) (suc n) is = none_past xs n (omega (arith, is))

take_map : {A B : Type 0} (f : A → B) (n : ℕ) (xs : List A) → take n (map f xs) ≡ map f (take n xs)
take_map f zero [] = refl
take_map f (suc n) [] = refl
take_map f zero (x ∷ xs) = refl
take_map f (suc n) (x ∷ xs) = ap (λ (l : List _). f x ∷ l) (take_map f n xs)

drop_map : {A B : Type 0} (f : A → B) (n : ℕ) (xs : List A) → drop n (map f xs) ≡ map f (drop n xs)
drop_map f (suc n) (x ∷ xs) = drop_map f n xs
drop_map f _ _ = refl

-- the lines of signals are those of the signals of their image
image_lines : (signals : List Signal) (seen : List Seen) → image_runs.seen_lines (map image_signal signals) seen ≡ seen_lines signals seen
image_lines (signal ∷ signals) (None ∷ seen) = image_lines signals seen
image_lines (signal ∷ signals) (Some v ∷ seen) = ap (λ (l : List ℕ). seen_line signal (Some v) ++ l) (image_lines signals seen)
image_lines _ _ = refl

is_true_same : (o : Seen) → image_runs.is_true o ≡ model.is_true o
is_true_same None = refl
is_true_same (Some v) = refl

abbrev nothing : Seen
nothing = None

none_at : (n x : ℕ) → x < n → slice_get (replicate n nothing) x ≡ Some nothing
none_at zero x lt = absurd (omega (arith, lt))
none_at (suc n) zero lt = refl
none_at (suc n) (suc x) lt = none_at n x (omega (arith, lt))

module _ (plan : PlanView) (accepted : IsAccepted plan) (flows : List (List ℤ)) (fit : AreFlowsFor plan.kernel flows) where
  abbrev image : ImageView
  image = image_of plan

  abbrev guards : Guards
  guards = guards_of image

  -- the truths of conditions by the registers of either
  truths_same : (actor : Actor) (s : State) → Tracks plan.kernel flows actor s → (list : List SigId) → ((k : ℕ) (x : SigId) → slice_get list k ≡ Some x → x.0 < length plan.kernel.signals)
      → proposal_of list s.registers ≡ truths_of list actor.registers
  truths_same actor s tracks [] within = refl
  truths_same actor s tracks (x ∷ list) within =
      let first = is_true_same (seen_at s.registers x.0) ∙ ap model.is_true (seen_there plan.kernel flows actor s tracks x.0 (within 0 x refl)) in
      let rest = truths_same actor s tracks list (λ k. within (suc k)) in
      (λ j. first j ∷ rest j)

  conditions_within : (k : ℕ) (x : SigId) → slice_get plan.clocks.conditions k ≡ Some x → x.0 < length plan.kernel.signals
  conditions_within k x at =
      let signal = condition_signal plan.kernel plan.clocks.conditions (compiled plan accepted).has.order k x at in
      slice_get_within plan.kernel.signals x.0 signal.0 signal.1

  holds_same : (actor : Actor) (s : State) → Tracks plan.kernel flows actor s → (op : Op) (g : Guarded) → IsMadeFor plan op g
      → holds guards g s ≡ test plan.store.nodes op.guard (truths_of plan.clocks.conditions actor.registers)
  holds_same actor s tracks op g made =
      ap (λ (d : Diagram). value_at d (proposal_of plan.clocks.conditions s.registers)) made.guard
      ∙ ap (test plan.store.nodes op.guard) (truths_same actor s tracks plan.clocks.conditions conditions_within)

  stepped_too : (actor : Actor) (s : State) → Tracks plan.kernel flows actor s → Tracks plan.kernel flows (stepped actor) s
  stepped_too actor s tracks = tracks_as plan.kernel flows actor (stepped actor) s (λ x. refl) (λ x. refl) (λ x. refl) tracks

  -- ---- an instant

  module _ (trace : Trace) (instant : Instant) where
    -- from a place on all operations are handled
    record Finishes (s : State) (step : ℕ) : Type 0 where
      pub after : State
      pub actor : Actor
      pub handled : HandlesAll guards (drop step guards.ops) s after
      pub amid : IsAmid plan flows trace instant actor
      pub last : actor.step ≡ length plan.order
      pub tracks : Tracks plan.kernel flows actor after

    -- or the run ends
    record Breaks (s : State) (step : ℕ) : Type 0 where
      pub cause : Cause
      pub ends : EndsIn guards (drop step guards.ops) s (cause_in plan.kernel cause)
      pub place : Place
      pub end : (limit : ℕ) → length trace < limit → IsEnd plan flows limit trace (Some place) (record { instants = length trace; cause = cause })

    abbrev Comes : State → ℕ → Type 0
    Comes s step = Finishes s step ⊎ Breaks s step

    -- an operation is handled, and then those behind it
    onward : (s middle : State) (step : ℕ) (g : Guarded) → drop step guards.ops ≡ g ∷ drop (step + 1) guards.ops → Handles guards g s middle → Comes middle (step + 1) → Comes s step
    onward s middle step g split handles (inl f) = inl (record {
      after = f.after;
      actor = f.actor;
      handled = subst (λ (ops : List Guarded). HandlesAll guards ops s f.after) (sym split) (middle, handles, f.handled);
      amid = f.amid;
      last = f.last;
      tracks = f.tracks;
    })
    onward s middle step g split handles (inr b) = inr (record {
      cause = b.cause;
      ends = subst (λ (ops : List Guarded). EndsIn guards ops s (cause_in plan.kernel b.cause)) (sym split) (inr (middle, handles, b.ends));
      place = b.place;
      end = b.end;
    })

    module _ (actor : Actor) (amid : IsAmid plan flows trace instant actor) (s : State) (tracks : Tracks plan.kernel flows actor s) (op : Op) (stands : StandsAt plan actor.step op)
        (g : Guarded) (made : IsMadeFor plan op g) (split : drop actor.step guards.ops ≡ g ∷ drop (actor.step + 1) guards.ops)
        (rest : (next : Actor) → IsAmid plan flows trace instant next → (t : State) → Tracks plan.kernel flows next t → next.step ≡ actor.step + 1 → Comes t (actor.step + 1)) where
      same : holds guards g s ≡ test plan.store.nodes op.guard (truths_of plan.clocks.conditions actor.registers)
      same = holds_same actor s tracks op g made

      comes : test plan.store.nodes op.guard (truths_of plan.clocks.conditions actor.registers) ≡ true → (o : Outcome) → outcome plan.kernel flows actor op ≡ o → Comes s actor.step
      comes on (Gives v) gave =
          let (t, does, behind) = does_by plan accepted flows fit trace instant actor amid op stands on s tracks made.case made.is v gave in
          onward s t actor.step g split
          (inl (same ∙ on, subst (λ (k : ImageOpKind). Does k s t) (sym made.kind) does))
          (rest (stepped (operated plan.kernel op v actor)) (done_behind plan accepted flows fit trace instant actor amid op stands on v gave) t behind refl)
      comes on (Faults cause) fault =
          let ends = ends_by plan accepted flows fit trace instant actor amid op stands on s tracks made.case made.is cause fault in
          let here : Ends g.kind g.at s (cause_in plan.kernel cause) =
          subst (λ (k : ImageOpKind). Ends k g.at s (cause_in plan.kernel cause)) (sym made.kind) (subst (λ (at : Span). Ends (does_in plan.kernel made.case) at s (cause_in plan.kernel cause)) (sym made.at) ends) in
          inr (record {
            cause = cause;
            ends = subst (λ (ops : List Guarded). EndsIn guards ops s (cause_in plan.kernel cause)) (sym split) (inl (same ∙ on, here));
            place = place_at (length trace + 1) actor.step;
            end = λ limit below. fault_end plan accepted flows fit trace instant actor amid op stands on cause fault limit below (record { instants = length trace; cause = cause }) refl refl;
          })

      by_guard : (b : Bool) → test plan.store.nodes op.guard (truths_of plan.clocks.conditions actor.registers) ≡ b → Comes s actor.step
      by_guard true on = comes on (outcome plan.kernel flows actor op) refl
      by_guard false off =
          onward s s actor.step g split (inr (same ∙ off, refl))
          (rest (stepped actor) (passed_over plan accepted flows fit trace instant actor amid op stands off) s (stepped_too actor s tracks) refl)

    handles_from : (left : ℕ) (actor : Actor) → IsAmid plan flows trace instant actor → (s : State) → Tracks plan.kernel flows actor s → actor.step + left ≡ length plan.order → Comes s actor.step
    handles_from zero actor amid s tracks full =
        let last : actor.step ≡ length plan.order = omega (arith, full) in
        let long = image_long plan accepted in
        inl (record {
          after = s;
          actor = actor;
          handled = subst (λ (ops : List Guarded). HandlesAll guards ops s s) (sym (none_past guards.ops actor.step (last ∙ sym long))) refl;
          amid = amid;
          last = last;
          tracks = tracks;
        })
    handles_from (suc left) actor amid s tracks full =
        let (op, stands) = stands_somewhere plan accepted actor.step (omega (arith, full)) in
        let (g, is, made) = guarded_for plan accepted actor.step op stands in
        by_guard actor amid s tracks op stands g made (left_at guards.ops actor.step g is)
        (λ next after t kept at. subst (Comes t) at (handles_from left next after t kept (omega (arith, at, full))))
        (test plan.store.nodes op.guard (truths_of plan.clocks.conditions actor.registers)) refl

  -- ---- all instants

  lines_same : (actor : Actor) (t : State) → Tracks plan.kernel flows actor t → instant_lines image t.registers ≡ seen_lines (outputs_of plan.kernel) (reaction_in plan.kernel actor.registers)
  lines_same actor t tracks =
      let interface = accepted.valid.parts.interface in
      let declared = accepted.valid.parts.declared in
      let count : length (outputs_of plan.kernel) ≡ plan.kernel.outputs =
      omega (arith, length-take plan.kernel.outputs (drop plan.kernel.inputs plan.kernel.signals), length-drop plan.kernel.inputs plan.kernel.signals, interface, declared) in
      ap (λ (l : List ImageSignal). image_runs.seen_lines l (drop plan.kernel.inputs t.registers)) (ap (take plan.kernel.outputs) (drop_map image_signal plan.kernel.inputs plan.kernel.signals) ∙ take_map image_signal plan.kernel.outputs (drop plan.kernel.inputs plan.kernel.signals))
      ∙ image_lines (outputs_of plan.kernel) (drop plan.kernel.inputs t.registers)
      ∙ sym (same_lines (outputs_of plan.kernel) actor.registers plan.kernel.inputs (drop plan.kernel.inputs t.registers) (λ k lt.
      sym (dropped_at plan.kernel.inputs t.registers k ∙ seen_there plan.kernel flows actor t tracks (plan.kernel.inputs + k) (omega (arith, lt, count, interface, declared)))))
      ∙ ap (λ (n : ℕ). seen_lines (outputs_of plan.kernel) (map actor.registers (range_with_len plan.kernel.inputs n))) count

  -- the state before an instant, for an actor that has written nothing in it
  cleared_too : (actor : Actor) (t : State) → Tracks plan.kernel flows actor t → Tracks plan.kernel flows (instant_behind actor) (cleared guards t)
  cleared_too actor t tracks = record {
    count = length-replicate (length image.signals) nothing ∙ long plan.kernel.signals;
    registers = λ x lt. none_at (length image.signals) x (omega (arith, lt, long plan.kernel.signals));
    memories = tracks.memories;
    inputs = tracks.inputs;
  } where
    long : (signals : List Signal) → length (map image_signal signals) ≡ length signals
    long [] = refl
    long (signal ∷ signals) = ap suc (long signals)

  -- From an instant on, with so many to come: the image runs, and the plan's run ends as it does.
  record RunsOn (left : ℕ) (s : State) (trace : Trace) : Type 0 where
    pub committed : Trace
    pub longest : Trace
    pub place : Option Place
    pub ended : Ended
    pub end : IsEnd plan flows (length trace + left) longest place ended
    pub runs : Runs guards left s committed (cause_in plan.kernel ended.cause)
    pub count : ended.instants ≡ length trace + length committed
    pub text : output_text plan.kernel longest ≡ output_text plan.kernel trace ++ flat_map (instant_lines image) committed

  broken_off : (left : ℕ) (trace : Trace) (instant : Instant) (s : State) → Breaks trace instant (cleared guards s) 0 → RunsOn (suc left) s trace
  broken_off left trace instant s b = record {
    committed = [];
    longest = trace;
    place = Some b.place;
    ended = record { instants = length trace; cause = b.cause };
    end = b.end (length trace + suc left) (omega arith);
    runs = inl (refl, b.ends);
    count = omega arith;
    text = sym (append-nil (output_text plan.kernel trace));
  }

  one_more : (left : ℕ) (trace : Trace) (instant : Instant) (s : State) (f : Finishes trace instant (cleared guards s) 0) → RunsOn left f.after (trace ++ instant ∷ []) → RunsOn (suc left) s trace
  one_more left trace instant s f rest =
      let many = length-append trace (instant ∷ []) in
      let limits : length (trace ++ instant ∷ []) + left ≡ length trace + suc left = omega (arith, many) in
      record {
        committed = f.after.registers ∷ rest.committed;
        longest = rest.longest;
        place = rest.place;
        ended = rest.ended;
        end = subst (λ (n : ℕ). IsEnd plan flows n rest.longest rest.place rest.ended) limits rest.end;
        runs = inr (f.after, rest.committed, refl, f.handled, rest.runs);
        count = let c = rest.count in omega (arith, c, many);
        text = rest.text
            ∙ ap (λ (l : List ℕ). l ++ flat_map (instant_lines image) rest.committed)
            (text_is plan accepted flows fit trace instant f.actor f.amid f.last ∙ ap (λ (l : List ℕ). output_text plan.kernel trace ++ l) (sym (lines_same f.actor f.after f.tracks)))
            ∙ append_assoc (output_text plan.kernel trace) (instant_lines image f.after.registers) (flat_map (instant_lines image) rest.committed)
            ∙ ap (λ (l : List ℕ). output_text plan.kernel trace ++ l) (sym (flat_map-cons (instant_lines image) f.after.registers rest.committed));
      }

  either_way : (left : ℕ) (trace : Trace) (instant : Instant) (s : State) → Comes trace instant (cleared guards s) 0
      → ((f : Finishes trace instant (cleared guards s) 0) → RunsOn left f.after (trace ++ instant ∷ [])) → RunsOn (suc left) s trace
  either_way left trace instant s (inl f) rest = one_more left trace instant s f (rest f)
  either_way left trace instant s (inr b) rest = broken_off left trace instant s b

  runs_on : (left : ℕ) (trace : Trace) (instant : Instant) (actor : Actor) → IsAmid plan flows trace instant actor → actor.step ≡ 0 → (s : State) → Tracks plan.kernel flows actor (cleared guards s) → RunsOn left s trace
  runs_on zero trace instant actor amid first s tracks =
      let ended : Ended = record { instants = length trace; cause = Limit } in
      record {
        committed = [];
        longest = trace;
        place = None;
        ended = ended;
        end = limit_end plan accepted flows fit trace amid.behind (length trace + 0) (omega arith) ended (omega arith) refl;
        runs = (refl, refl);
        count = omega arith;
        text = sym (append-nil (output_text plan.kernel trace));
      }
  runs_on (suc left) trace instant actor amid first s tracks =
      either_way left trace instant s (subst (Comes trace instant (cleared guards s)) first (handles_from trace instant (length plan.order) actor amid (cleared guards s) tracks (omega (arith, first))))
      (λ f.
      let longer = committed_more plan accepted flows fit trace instant f.actor f.amid f.last in
      let (other, reference) = next_instant plan accepted flows fit (trace ++ instant ∷ []) longer in
      let amid_next = next_amid plan accepted flows fit trace instant f.actor f.amid f.last other reference in
      runs_on left (trace ++ instant ∷ []) other (instant_behind f.actor) amid_next refl f.after (cleared_too f.actor f.after f.tracks))

  -- ---- from the opening

  opens : Tracks plan.kernel flows (opening_actor plan.kernel) (cleared guards (opening guards flows))
  opens = record {
    count = length-replicate (length image.signals) nothing ∙ long plan.kernel.signals;
    registers = λ x lt. none_at (length image.signals) x (omega (arith, lt, long plan.kernel.signals));
    memories = λ e d y x initial at form.
        slice_get-map (λ (memory : ImageMemory). memory.init) image.memories (memory_number plan.kernel.equations e.0)
        ∙ ap (option_map (λ (memory : ImageMemory). memory.init)) (memory_there plan.kernel.signals plan.kernel.equations e.0 d y x initial at form)
        ∙ ap Some (sym (initial_is plan.kernel.equations e.0 d y x initial at form (λ i p at_i target. defined_once plan.kernel accepted.valid i e.0 p d y at_i at target (ap target_of form))));
    inputs = λ x lt. flow_there flows x (let count = fit.count in let inputs = length-take plan.kernel.inputs plan.kernel.signals in let a = accepted.valid.parts.interface in let b = accepted.valid.parts.declared in omega (arith, count, inputs, lt, a, b));
  } where
    long : (signals : List Signal) → length (map image_signal signals) ≡ length signals
    long [] = refl
    long (signal ∷ signals) = ap suc (long signals)

    flow_there : (all : List (List ℤ)) (x : ℕ) → x < length all → slice_get all x ≡ Some (slice_index_or all x [])
    flow_there [] x lt = absurd (omega (arith, lt))
    flow_there (flow ∷ all) zero lt = refl
    flow_there (flow ∷ all) (suc x) lt = flow_there all x (omega (arith, lt))

  pub runs_as : (limit : ℕ) (trace : Trace) (place : Option Place) (ended : Ended) → IsEnd plan flows limit trace place ended → IsImageRun image flows limit (output_text plan.kernel trace) (end_in plan.kernel ended)
  runs_as limit trace place ended end =
      let (instant, reference) = next_instant plan accepted flows fit [] (none_committed plan.kernel flows) in
      let amid = opening_amid plan accepted flows instant reference in
      let all = runs_on limit [] instant (opening_actor plan.kernel) amid refl (opening guards flows) opens in
      let none : length {A = Instant} [] + limit ≡ limit = omega arith in
      let same = one_end plan accepted flows fit limit all.longest trace all.place place all.ended ended (subst (λ (n : ℕ). IsEnd plan flows n all.longest all.place all.ended) none all.end) end in
      let causes : all.ended ≡ ended = same.2 in
      let alike : all.ended.instants ≡ ended.instants = ap (λ (e : Ended). e.instants) causes in
      let counted = all.count in
      let empty : length {A = Instant} [] ≡ 0 = refl in
      let many : ended.instants ≡ length all.committed = omega (arith, alike, counted, empty) in
      record {
        committed = all.committed;
        runs = subst (λ (e : Ended). Runs guards limit (opening guards flows) all.committed (cause_in plan.kernel e.cause)) causes all.runs;
        instants = many;
        lines = ap (output_text plan.kernel) (sym same.0) ∙ all.text;
      }
