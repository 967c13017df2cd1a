-- Every trace of a flat body's signals has a verdict, and every file is a trace file of signals or has a first place that offends.
use Rattle.sig_judge.proofs.Common.{◌≡◌, ◌⊎◌, ◌+◌, ◌<◌, ℕ, zero, suc, List, [], length, map, take, get_or, Option, None, Some, refl, sym, subst, inl, inr, arith, take_more, flat_map, Instant, Trace, Signal, FlatEquation, FlatBody, BodySteps, BreaksAt, Leads, IsTraceOf, IsVerdict, Verdict, Accepted, Broken, without_prefix, TraceAnswer, BadHeader, Body, IsFirstBadPlace, IsTraceFile, bad_header, bad_row, body_of, header_fault, instants_said, kinds_named, names_in, no_header, row_judge, first_fault, first_from_some, good_from_none, lines_of, words_of}
use Rattle.sig_tree.proofs.EquationLaws.{hold_step, leads_more, leads_through, same_behind, step_hold}
use Rattle.sig_tree.proofs.OneMeaning.{OneValue}
use Rattle.sig_judge.proofs.DecidedSteps.{body_or_broken}
use Rattle.sig_judge.proofs.VerdictLemmas.{accepted_here, broken_here}

module _ (one : OneValue) (flat : FlatBody) (trace : Trace) (kinds : IsTraceOf flat.signals trace) where
  abbrev HasVerdict : Type 0
  HasVerdict = (verdict : Verdict) × IsVerdict flat trace verdict

  abbrev Equations : List FlatEquation
  Equations = map without_prefix flat.equations

  -- instant by instant
  from_instant : (m k : ℕ) (nexts : List FlatEquation) → length trace ≡ k + m → Leads Equations (take k trace) nexts → HasVerdict
  from_instant zero k nexts size leads = (Accepted, accepted_here (λ equations nexts t h. leads_through one t equations nexts h) flat trace k (omega (arith, size)) kinds nexts leads)
  from_instant (suc m) k nexts size leads = by (body_or_broken one now nexts) (λ more step. from_instant m (k + 1) more (omega (arith, size)) (behind more step)) where
    now : Instant
    now = get_or trace k []

    within : k < length trace
    within = omega (arith, size)

    behind : (more : List FlatEquation) → BodySteps (get_or trace k []) nexts more → Leads Equations (take (k + 1) trace) more
    behind more step = subst (λ (t : Trace). Leads Equations t more) (sym (take_more trace k [] within)) (leads_more (take k trace) (get_or trace k []) Equations nexts more leads step)

    by : ((more : List FlatEquation) × BodySteps (get_or trace k []) nexts more) ⊎ ((index : ℕ) × BreaksAt (get_or trace k []) nexts index)
        → ((more : List FlatEquation) → BodySteps (get_or trace k []) nexts more → HasVerdict) → HasVerdict
    by (inl step) next = next step.0 step.1
    by (inr broken) next = (
      Broken (k + 1) (broken.0 + 1),
      broken_here (λ equations nexts front rest h. same_behind one front rest equations nexts h) (λ equations nexts t h. leads_through one t equations nexts h)
          (λ equation now t h. hold_step t now equation h) (λ equation next now t step. step_hold t now equation next step) flat trace k [] within kinds nexts leads broken.0 broken.1,
    )

  pub some_verdict : HasVerdict
  some_verdict = from_instant (length trace) 0 Equations (omega arith) refl

-- ---- files

module _ (signals : List Signal) (bytes : List ℕ) where
  abbrev HasTrace : Type 0
  HasTrace = ((trace : Trace) × IsTraceFile signals bytes trace) ⊎ ((fault : TraceAnswer) × IsFirstBadPlace signals bytes fault)

  by_rows : (body : Body) → body_of (lines_of bytes) ≡ Some body → header_fault signals body.header ≡ None → (fault : Option TraceAnswer)
      → first_fault (row_judge (kinds_named signals (names_in body.header))) 0 body.rows ≡ fault → HasTrace
  by_rows body is header None rows = inl (
    flat_map (λ line. instants_said signals (names_in body.header) (words_of line.text)) body.rows,
    record { body = body; body_is = is; header = header; rows = good_from_none (row_judge (kinds_named signals (names_in body.header))) 0 body.rows rows; each = refl },
  )
  by_rows body is header (Some fault) rows = inr (fault, bad_row body is header (first_from_some (row_judge (kinds_named signals (names_in body.header))) 0 body.rows fault rows))

  by_header : (body : Body) → body_of (lines_of bytes) ≡ Some body → (fault : Option TraceAnswer) → header_fault signals body.header ≡ fault → HasTrace
  by_header body is None header = by_rows body is header _ refl
  by_header body is (Some fault) header = inr (fault, bad_header body is header)

  by_body : (body : Option Body) → body_of (lines_of bytes) ≡ body → HasTrace
  by_body None is = inr (BadHeader 1, no_header is refl)
  by_body (Some body) is = by_header body is _ refl

  pub some_trace : HasTrace
  some_trace = by_body _ refl
