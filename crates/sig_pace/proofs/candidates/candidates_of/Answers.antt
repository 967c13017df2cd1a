use Rattle.sig_pace.proofs.{◌≡◌, ◌+◌, ◌<◌, ◌≤◌, ℕ, List, get_or, length, sym, ap, subst, arith, Option, None, Contains-get_or, Holds, Spans, StoreView, Share, DdAnswer, OutOfMemory, Ref, Share-then, Holds-kept, Keeps-trans, Spans-kept, more_calls, out_of_memory, refused, presence_in, variables_of, Candidate, older_reactions, over_spans, presence_held, presence_spans, AreMade, candidates_are, one_more_made, pushed_count, signals_are}
use Rattle.sig_pace.proofs.candidates.candidates_of.Goals as goal

pub presence-requires : goal.presence-requires
presence-requires c =
    let lt = c.requires.signals (get_or c.args.signals.now c.loop-signal.signal-index 0) (Contains-get_or c.args.signals.now c.loop-signal.signal-index 0 c.loop-signal-test.true) in
    let count = c.requires.asked.is_system.presences in
    omega (arith, lt, count)

pub conj-requires-clause-f : goal.conj-requires-clause-f
conj-requires-clause-f c = Holds-kept c.args.store.now c.loop-signal.store c.loop-signal.invariant.kept c.args.asked.now.solutions c.requires.asked.over.held

pub conj-requires-clause-g : goal.conj-requires-clause-g
conj-requires-clause-g c =
    let x = get_or c.args.signals.now c.loop-signal.signal-index 0 in
    let lt = c.requires.signals x (Contains-get_or c.args.signals.now c.loop-signal.signal-index 0 c.loop-signal-test.true) in
    subst (λ (r : Ref). Holds c.loop-signal.store.nodes r) (sym c.presence.ensures)
    (Holds-kept c.args.store.now c.loop-signal.store c.loop-signal.invariant.kept _ (presence_held c.args.store.now c.args.asked.now c.requires.asked x lt))

-- one more call
one_more : (k n : ℕ) (vs : List ℕ) (r s t : StoreView) (why : Option DdAnswer) → k < n → Share k vs r s None → Share 1 vs s t why → Share n vs r t why
one_more k n vs r s t why lt before call = more_calls (k + 1) n vs r t why (omega (arith, lt)) (Share-then r s t k 1 vs why before call)

pub returns-in_err-reactions-clause-share : goal.returns-in_err-reactions-clause-share
returns-in_err-reactions-clause-share c =
    let vs = variables_of c.args.asked.now.system in
    let x = get_or c.args.signals.now c.loop-signal.signal-index 0 in
    let lt = c.requires.signals x (Contains-get_or c.args.signals.now c.loop-signal.signal-index 0 c.loop-signal-test.true) in
    let solutions = Spans-kept c.args.store.now c.loop-signal.store c.loop-signal.invariant.kept c.args.asked.now.solutions c.requires.asked.over.held vs
    (over_spans c.args.store.now.nodes c.args.asked.now.system c.args.asked.now.solutions c.requires.asked.over) in
    let present = subst (λ (r : Ref). Spans c.loop-signal.store.nodes r vs) (sym c.presence.ensures)
    (Spans-kept c.args.store.now c.loop-signal.store c.loop-signal.invariant.kept (presence_in c.args.asked.now.system x) (presence_held c.args.store.now c.args.asked.now c.requires.asked x lt) vs
    (presence_spans c.args.store.now c.args.asked.now c.requires.asked x lt)) in
    refused (length c.args.signals.now) vs c.args.store.now c.conj.new.self c.from_residual.result c.in_err-reactions.field-0.0 c.from_residual.ensures.1
    (one_more c.loop-signal.signal-index (length c.args.signals.now) vs c.args.store.now c.loop-signal.store c.conj.new.self _ c.loop-signal-test.true c.loop-signal.invariant.share
    (c.in_err-reactions.ensures.spends.over vs (solutions, (present, tt)) tt))

pub returns-in_err-push-clause-share : goal.returns-in_err-push-clause-share
returns-in_err-push-clause-share c =
    let vs = variables_of c.args.asked.now.system in
    let x = get_or c.args.signals.now c.loop-signal.signal-index 0 in
    let lt = c.requires.signals x (Contains-get_or c.args.signals.now c.loop-signal.signal-index 0 c.loop-signal-test.true) in
    let solutions = Spans-kept c.args.store.now c.loop-signal.store c.loop-signal.invariant.kept c.args.asked.now.solutions c.requires.asked.over.held vs
    (over_spans c.args.store.now.nodes c.args.asked.now.system c.args.asked.now.solutions c.requires.asked.over) in
    let present = subst (λ (r : Ref). Spans c.loop-signal.store.nodes r vs) (sym c.presence.ensures)
    (Spans-kept c.args.store.now c.loop-signal.store c.loop-signal.invariant.kept (presence_in c.args.asked.now.system x) (presence_held c.args.store.now c.args.asked.now c.requires.asked x lt) vs
    (presence_spans c.args.store.now c.args.asked.now c.requires.asked x lt)) in
    refused (length c.args.signals.now) vs c.args.store.now c.conj.new.self c.from_residual-in_err-push.result OutOfMemory c.from_residual-in_err-push.ensures.1
    (out_of_memory (length c.args.signals.now) vs c.args.store.now c.conj.new.self
    (one_more c.loop-signal.signal-index (length c.args.signals.now) vs c.args.store.now c.loop-signal.store c.conj.new.self None c.loop-signal-test.true c.loop-signal.invariant.share
    (c.in_ok-reactions.ensures.spends.over vs (solutions, (present, tt)) tt)))

pub loop-signal-preserved : goal.loop-signal-preserved
loop-signal-preserved c =
    let vs = variables_of c.args.asked.now.system in
    let asked = c.args.asked.now in
    let k = c.loop-signal.signal-index in
    let x = get_or c.args.signals.now k 0 in
    let lt = c.requires.signals x (Contains-get_or c.args.signals.now k 0 c.loop-signal-test.true) in
    let solutions = Spans-kept c.args.store.now c.loop-signal.store c.loop-signal.invariant.kept asked.solutions c.requires.asked.over.held vs
    (over_spans c.args.store.now.nodes asked.system asked.solutions c.requires.asked.over) in
    let present = subst (λ (r : Ref). Spans c.loop-signal.store.nodes r vs) (sym c.presence.ensures)
    (Spans-kept c.args.store.now c.loop-signal.store c.loop-signal.invariant.kept (presence_in asked.system x) (presence_held c.args.store.now asked c.requires.asked x lt) vs
    (presence_spans c.args.store.now asked c.requires.asked x lt)) in
    let made = older_reactions c.args.store.now c.loop-signal.store c.loop-signal.invariant.kept asked c.requires.asked x lt c.conj.new.self c.presence.result c.presence.ensures c.in_ok-reactions.reactions c.in_ok-reactions.ensures.value in
    let own : Candidate = record { signal = x; reactions = c.in_ok-reactions.reactions } in
    record {
      store = c.in_ok-reactions.ensures.store;
      kept = Keeps-trans c.args.store.now c.loop-signal.store c.conj.new.self c.loop-signal.invariant.kept c.in_ok-reactions.ensures.kept;
      count = pushed_count c.loop-signal.candidates.items own c.push.new.self.items k c.in_ok-push.ensures.items c.loop-signal.invariant.count;
      each = subst (AreMade c.args.store.now c.conj.new.self asked c.args.signals.now) (sym c.in_ok-push.ensures.items)
          (one_more_made c.args.store.now c.loop-signal.store c.conj.new.self c.in_ok-reactions.ensures.kept asked c.args.signals.now c.loop-signal.candidates.items own c.loop-signal.invariant.each
          (ap (λ i. get_or c.args.signals.now i 0) (sym c.loop-signal.invariant.count)) made);
      share = Share-then c.args.store.now c.loop-signal.store c.conj.new.self k 1 vs None c.loop-signal.invariant.share (c.in_ok-reactions.ensures.spends.over vs (solutions, (present, tt)) tt);
    }

all_counted : (a b n : ℕ) → a ≡ b → n ≤ b → b ≤ n → a ≡ n
all_counted a b n same low high = omega (arith, same, low, high)

pub returns-clause-signals : goal.returns-clause-signals
returns-clause-signals c =
    let count = all_counted (length c.loop-signal.candidates.items) c.loop-signal.signal-index (length c.args.signals.now) c.loop-signal.invariant.count c.loop-signal-test.false c.loop-signal.auto.signal-index-end in
    signals_are c.args.signals.now c.loop-signal.candidates.items count (λ k d at. (c.loop-signal.invariant.each k d at).0)

pub returns-clause-value : goal.returns-clause-value
returns-clause-value c =
    let count = all_counted (length c.loop-signal.candidates.items) c.loop-signal.signal-index (length c.args.signals.now) c.loop-signal.invariant.count c.loop-signal-test.false c.loop-signal.auto.signal-index-end in
    candidates_are c.args.store.now c.loop-signal.store c.loop-signal.invariant.kept c.args.asked.now c.requires.asked c.args.signals.now c.requires.signals c.loop-signal.candidates.items count c.loop-signal.invariant.each
