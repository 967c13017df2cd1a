use Rattle.sig_file.proofs.{err_from_is_err_and, map_push, List, [], ◌∷◌, ◌++◌, ◌≡◌, sym, ap, subst, ◌∙◌, ℕ, goes_on, is_done, stops_too, signal_at, names_of, IsSetOf}
use Rattle.sig_file.proofs.parts.signals_at.Goals as goal

pub returns-in_err-signal : goal.returns-in_err-signal
returns-in_err-signal c =
    let p = err_from_is_err_and c.from_residual.result c.from_residual.ensures.1 in
    rw (p.1, p.2) (stops_too (signal_at c.args.inputs) c.in_err-signal.field-0.0 c.args.count c.loop.counter c.loop.signals.items c.deref.result.now c.loop.rest.now _ c.deref.ensures.value c.loop-test.true c.in_err-signal.ensures.signal c.loop.invariant.rest)

pub loop-preserved : goal.loop-preserved
loop-preserved c =
    let e = c.in_ok-push.ensures.items in
    let names : names_of c.push.new.self.items ≡ names_of c.loop.signals.items ++ c.in_ok-signal.name.now ∷ [] =
    ap names_of e ∙ map_push (λ signal. signal.name) c.loop.signals.items c.in_ok-signal.signal ∙ ap (λ (name : List ℕ). names_of c.loop.signals.items ++ name ∷ []) (sym c.in_ok-signal.ensures.name) in
    record {
      names = subst (λ (l : List (List ℕ)). IsSetOf l c.add.new.self.set) (sym names) (c.in_ok-add.ensures (names_of c.loop.signals.items) c.loop.invariant.names);
      rest = rw e (goes_on (signal_at c.args.inputs) c.args.count c.loop.counter c.loop.signals.items c.deref.result.now c.loop.rest.now c.in_ok-signal.signal c.in_ok-signal.after.now _ c.deref.ensures.value c.loop-test.true c.in_ok-signal.ensures.signal c.loop.invariant.rest);
    }

pub returns : goal.returns
returns c = is_done (signal_at c.args.inputs) c.args.count c.loop.counter c.loop.signals.items c.loop.rest.now _ c.loop-test.false c.loop.invariant.rest
