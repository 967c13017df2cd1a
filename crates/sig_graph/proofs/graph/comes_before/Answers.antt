use Rattle.sig_graph.proofs.{List, sym, ◌∙◌, subst, Contains, false≢true, IfOk-weaker, SigId, before_overlaps, feeds_before, found, not_before, not_found}
use Rattle.sig_graph.proofs.graph.comes_before.Goals as goal

pub returns-then-not-contains : goal.returns-then-not-contains
returns-then-not-contains c conditions exact =
    let x = c.in-Some.x in (
      (λ is. absurd (false≢true is)),
      (λ before. absurd (not_before c.args.store.now.nodes conditions c.args.p.now c.args.q.now x c.in-Some.is (sym c.keeps_memory.ensures ∙ c.if-keeps_memory.false)
          (λ need. not_found c.args.needs.now x (sym c.contains.ensures.value ∙ c.if-contains.false) ((exact x).1 need))
          (λ there overlap. not_found c.as_slice.result.now x (sym c.contains-2.ensures.value ∙ c.if-not-contains.true) (subst (λ (xs : List SigId). Contains xs x) (sym c.as_slice.ensures) there)) before)),
    )

pub returns : goal.returns
returns c =
    let x = c.in-Some.x in
    let nodes = c.args.store.now.nodes in
    let there : Contains c.args.q.now.reads x = subst (λ (xs : List SigId). Contains xs x) c.as_slice.ensures (found c.as_slice.result.now x (sym c.contains-2.ensures.value ∙ c.if-not-contains.false)) in
    IfOk-weaker c.overlap.result _ _ (λ holds value conditions exact. (
      (λ is. feeds_before nodes conditions c.args.p.now c.args.q.now x c.in-Some.is there (value.0 is)),
      (λ before. value.1 (before_overlaps nodes conditions c.args.p.now c.args.q.now x c.in-Some.is (sym c.keeps_memory.ensures ∙ c.if-keeps_memory.false)
          (λ need. not_found c.args.needs.now x (sym c.contains.ensures.value ∙ c.if-contains.false) ((exact x).1 need)) before)),
    ))
    c.overlap.ensures.value
