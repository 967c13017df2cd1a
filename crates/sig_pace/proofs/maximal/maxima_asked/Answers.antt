use Rattle.sig_pace.proofs.{◌∙◌, List, ℕ, Contains, ap, sym, subst, AreIncreasing, AreByNumber, AreTops, signals_of, Candidate, by_number, maxima_asked}
use Rattle.sig_pace.proofs.maximal.maxima_asked.Goals as goal

pub candidates_of-requires-clause-signals : goal.candidates_of-requires-clause-signals
candidates_of-requires-clause-signals c = λ x there. c.requires.leaders.are x (c.in_ok-found.ensures.value.among x (subst (λ (xs : List ℕ). Contains xs x) c.as_slice-signals.ensures.value there))

pub tops_among-requires-clause-order : goal.tops_among-requires-clause-order
tops_among-requires-clause-order c =
    subst AreByNumber (sym c.as_slice-candidates.ensures.value)
    (by_number c.in_ok-made.made.items (subst AreIncreasing (sym (c.in_ok-made.ensures.signals ∙ c.as_slice-signals.ensures.value)) c.in_ok-found.ensures.value.order))

pub returns-clause-value : goal.returns-clause-value
returns-clause-value c =
    maxima_asked c.args.asked.now.kernel.now c.args.leaders.now c.in_ok-found.found.items c.requires.leaders c.in_ok-found.ensures.value
    c.in_ok-made.made.items c.in_ok-left.left.items (c.in_ok-made.ensures.signals ∙ c.as_slice-signals.ensures.value)
    (subst (λ (seen : List Candidate). AreTops c.args.asked.now.kernel.now seen c.in_ok-left.left.items) c.as_slice-candidates.ensures.value c.in_ok-left.ensures.value)
    c.in_ok-least.least.items (c.in_ok-least.ensures ∙ ap signals_of c.as_slice-tops.ensures.value)
