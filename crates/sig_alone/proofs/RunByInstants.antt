-- A run, instant by instant.
use Rattle.sig_alone.proofs.Common.{◌≡◌, ◌<◌, ◌≤◌, ◌+◌, ◌∙◌, ℕ, ℤ, Bool, true, false, List, [], ◌∷◌, ◌++◌, ◌⊎◌, inl, inr, length, drop, None, refl, sym, ap, subst, arith, append-nil, length-append, leb, leb_tells, begins_longest, limit_end, next_instant, committed_more, next_amid, none_committed, opening_amid, lines_are, IsCommitted, IsAmid, instant_text, output_text, AreFlowsFor, Actor, opening_actor, IsEnd, IsAccepted, PlanView, Cause, Limit, Ended, EndsBy, GoesOn, ended_behind, lines_due, HasRun, IsWholeRest, IsWholeRun, TookSomeRest, Joins, TookPrefix, TookPrefix-longer, TookPrefix-then, actor_at, at_next, registers_of, Machine}
use Rattle.sig_alone.proofs.Rests.{rest_append, rest_begins, rest_none}

-- a rest of which nothing is left out is the whole run
pub whole_run : {S : Type 0} (plan : PlanView) (flows : List (List ℤ)) (limit : ℕ) (took : S → List ℕ → S → Type 0) (before after : S) (ended : Ended)
    → IsWholeRest plan flows limit 0 took before after ended → IsWholeRun plan flows limit took before after ended
whole_run plan flows limit took before after ended rest = record { trace = rest.trace; place = rest.place; end = rest.end; text = rest.text }

module _ (plan : PlanView) (accepted : IsAccepted plan) (flows : List (List ℤ)) (fit : AreFlowsFor plan.kernel flows) (written : ℕ) {S : Type 0} (took : S → List ℕ → S → Type 0) where
  -- at the opening
  pub run_begins : (out : S) → took out [] out → (values : Machine) → actor_at values 0 ≡ opening_actor plan.kernel → HasRun plan flows written took out out 0 values
  run_begins out nothing values opening =
      let (instant, reference) = next_instant plan accepted flows fit [] (none_committed plan.kernel flows) in
      record {
        trace = [];
        count = refl;
        instant = instant;
        amid = subst (λ (a : Actor). IsAmid plan flows [] instant a) (sym opening) (opening_amid plan accepted flows instant reference);
        text = subst (λ bytes. took out bytes out) (sym (rest_none plan.kernel written [] (omega arith))) nothing;
      }

  module _ (joins : Joins took) (out before after : S) (done : ℕ) (old whole : Machine) (run : HasRun plan flows written took out before done old)
      (goes : GoesOn plan flows old 0 whole (length plan.order)) where
    amid_all : IsAmid plan flows run.trace run.instant (actor_at whole (length plan.order))
    amid_all = goes run.trace run.instant run.amid

    committed : IsCommitted plan.kernel flows (run.trace ++ run.instant ∷ [])
    committed = committed_more plan accepted flows fit run.trace run.instant (actor_at whole (length plan.order)) amid_all refl

    count_more : length (run.trace ++ run.instant ∷ []) ≡ done + 1
    count_more = let h = length-append run.trace (run.instant ∷ []) in omega (arith, h, run.count)

    -- its lines are due where its text is not among that which is left out
    abbrev due : List ℕ
    due = lines_due (leb written done) plan.kernel (registers_of whole)

    text_more : output_text plan.kernel (drop written (run.trace ++ run.instant ∷ [])) ≡ output_text plan.kernel (drop written run.trace) ++ due
    text_more = by (leb_tells written done) where
      by : ((leb written done ≡ true) × (written ≤ done)) ⊎ ((leb written done ≡ false) × (done < written))
          → output_text plan.kernel (drop written (run.trace ++ run.instant ∷ [])) ≡ output_text plan.kernel (drop written run.trace) ++ due
      by (inl later) =
          rest_append plan.kernel written run.trace (run.instant ∷ []) (omega (arith, later.1, run.count))
          ∙ ap (λ text. output_text plan.kernel (drop written run.trace) ++ text)
          (append-nil (instant_text plan.kernel run.instant) ∙ sym (lines_are plan accepted flows fit run.trace run.instant (actor_at whole (length plan.order)) amid_all refl)
          ∙ ap (λ (b : Bool). lines_due b plan.kernel (registers_of whole)) (sym later.0))
      by (inr sooner) =
          rest_none plan.kernel written (run.trace ++ run.instant ∷ []) (omega (arith, sooner.1, count_more))
          ∙ sym (rest_none plan.kernel written run.trace (omega (arith, sooner.1, run.count)))
          ∙ sym (append-nil (output_text plan.kernel (drop written run.trace)))
          ∙ ap (λ (b : Bool). output_text plan.kernel (drop written run.trace) ++ lines_due b plan.kernel (registers_of whole)) (sym sooner.0)

    -- one more instant is committed
    pub run_more : took before due after → (new : Machine)
        → actor_at new 0 ≡ at_next (actor_at whole (length plan.order)) → HasRun plan flows written took out after (done + 1) new
    run_more lines new next =
        let (other, reference) = next_instant plan accepted flows fit (run.trace ++ run.instant ∷ []) committed in
        record {
          trace = run.trace ++ run.instant ∷ [];
          count = count_more;
          instant = other;
          amid = subst (λ (a : Actor). IsAmid plan flows (run.trace ++ run.instant ∷ []) other a) (sym next)
              (next_amid plan accepted flows fit run.trace run.instant (actor_at whole (length plan.order)) amid_all refl other reference);
          text = subst (λ bytes. took out bytes after) (sym text_more)
              (joins out before after (output_text plan.kernel (drop written run.trace)) due run.text lines);
        }

    -- its lines were not all taken
    pub run_stops : (limit : ℕ) → done < limit → TookPrefix took before due after → TookSomeRest plan flows limit written took out after
    run_stops limit below part longest is =
        let short : length (run.trace ++ run.instant ∷ []) ≤ limit = omega (arith, count_more, below) in
        let (back, text) = rest_begins plan.kernel written (run.trace ++ run.instant ∷ []) longest
        (begins_longest plan.kernel flows limit (run.trace ++ run.instant ∷ []) longest committed short is) in
        let taken : TookPrefix took out (output_text plan.kernel (drop written (run.trace ++ run.instant ∷ []))) after =
        subst (λ bytes. TookPrefix took out bytes after) (sym text_more)
        (TookPrefix-then took joins out before after (output_text plan.kernel (drop written run.trace)) due run.text part) in
        subst (λ bytes. TookPrefix took out bytes after) (sym text)
        (TookPrefix-longer took out after (output_text plan.kernel (drop written (run.trace ++ run.instant ∷ []))) back taken)

  -- a run that meets a fault
  pub run_fails : (out after : S) (done : ℕ) (values : Machine) → HasRun plan flows written took out after done values → (limit : ℕ) → done < limit → (cause : Cause)
      → EndsBy plan flows values 0 cause → (ended : Ended) → ended.instants ≡ done → ended.cause ≡ cause → IsWholeRest plan flows limit written took out after ended
  run_fails out after done values run limit below cause ends ended instants why =
      let (at, end) = ends run.trace run.instant run.amid limit (omega (arith, run.count, below)) in
      let count : length run.trace ≡ ended.instants = run.count ∙ sym instants in
      let same : ended_behind run.trace cause ≡ ended = λ j. let e : Ended = record { instants = count j; cause = sym why j } in e in
      record { trace = run.trace; place = at; end = subst (λ (e : Ended). IsEnd plan flows limit run.trace at e) same end; text = run.text }

  -- a run up to the limit
  pub run_ends : (out after : S) (done : ℕ) (values : Machine) → HasRun plan flows written took out after done values → (limit : ℕ) → done ≡ limit → (ended : Ended) → ended.instants ≡ limit → ended.cause ≡ Limit
      → IsWholeRest plan flows limit written took out after ended
  run_ends out after done values run limit full ended instants why = record {
    trace = run.trace;
    place = None;
    end = limit_end plan accepted flows fit run.trace run.amid.behind limit (run.count ∙ full) ended instants why;
    text = run.text;
  }
