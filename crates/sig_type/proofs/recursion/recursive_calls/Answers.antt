use Rattle.sig_type.proofs.{Recursive, candidate, Reaches, Name, finds_more, finds_same, finds_mapped, finds_early, finds_none, asked_found, none_recursive, interface_models, Bor, ◌∷◌, [], ◌≡◌, ◌∙◌, length, ap, sym, inl, inr, true, false, written}
use Rattle.sig_type.proofs.recursion.recursive_calls.Goals as goal

pub loop-name-preserved : goal.loop-name-preserved
loop-name-preserved c =
    let all = interface_models c.args.processes.now.interfaces.items in
    let size : length c.is_recursive.new.visited ≡ length c.loop-name.visited.items = c.is_recursive.auto.visited ∙ c.deref_mut.ensures.len ∙ c.loop-name.visited.ok.0 in
    let same = written c.loop-name.visited.len c.is_recursive.new.visited c.loop-name.visited.items size c.loop-name.visited.ok.0 in
    record {
      finds = finds_more (λ (n : Bor Name). candidate (Recursive n.now) (Reaches all n.now.text c.args.back.now.text) ∷ []) c.args.names.now c.loop-name.name-index c.name-item.result c.name-item.is c.loop-name-test.true c.loop-name.invariant.finds (finds_same _ c.in_ok-found.ensures.found c.ask.ensures);
      covered = elim c.in_ok-found.ensures.covered [ inl t ↦ absurd (let f : false ≡ true = sym c.if-found.false ∙ t in cc) | inr k ↦ rw same k ];
      sizes = ap length same ∙ size ∙ c.loop-name.invariant.sizes;
    }

pub returns-then-found : goal.returns-then-found
returns-then-found c =
    let all = interface_models c.args.processes.now.interfaces.items in
    finds_early (λ (n : Name). candidate (Recursive n) (Reaches all n.text c.args.back.now.text) ∷ []) (λ (n : Bor Name). n.now) c.args.names.now _ (asked_found c.if-found.true c.ask.ensures)
    (finds_more (λ (n : Bor Name). candidate (Recursive n.now) (Reaches all n.now.text c.args.back.now.text) ∷ []) c.args.names.now c.loop-name.name-index c.name-item.result c.name-item.is c.loop-name-test.true c.loop-name.invariant.finds (finds_same _ c.in_ok-found.ensures.found c.ask.ensures))

pub returns : goal.returns
returns c =
    let all = interface_models c.args.processes.now.interfaces.items in
    finds_mapped (λ (n : Name). candidate (Recursive n) (Reaches all n.text c.args.back.now.text) ∷ []) (λ (n : Bor Name). n.now) c.args.names.now _ c.loop-name-test.false c.loop-name.invariant.finds

pub returns-then-none_leads_back : goal.returns-then-none_leads_back
returns-then-none_leads_back c = finds_none _ _ (none_recursive _ _ _ (c.none_leads_back.ensures c.if-none_leads_back.true))
