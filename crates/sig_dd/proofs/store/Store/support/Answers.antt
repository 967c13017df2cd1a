use Rattle.sig_dd.proofs.{◌≡◌, Contains, sym, ◌∙◌, rules, subst, ap, inl, inr, true≢false, list_any, is_at, nat_cmp, IsStrictlyIncreasing-from_sorted, btree_set_contains_iff, exact_unsigned, nat_cmp_total, IsStrictlyIncreasing, Depends-Tests, Tests-Depends}
use Rattle.sig_dd.proofs.store.Store.support.Goals as goal

pub returns-clause-increasing : goal.returns-clause-increasing
returns-clause-increasing c =
    let items : c.in_ok-collect.field-0.items ≡ c.collect_variables.new.variables.keys = search rules in
    subst IsStrictlyIncreasing (sym items) (IsStrictlyIncreasing-from_sorted c.collect_variables.new.variables.keys c.iter.ensures.ordered)

pub returns-clause-exact : goal.returns-clause-exact
returns-clause-exact c v =
    let items : c.in_ok-collect.field-0.items ≡ c.collect_variables.new.variables.keys = search rules in
    let iff = btree_set_contains_iff nat_cmp_total exact_unsigned c.collect_variables.new.variables v in
    let nodes = c.args.self.now.nodes in
    let reduced = c.allocator.ensures.store.reduced in (
      λ among. Depends-Tests nodes reduced c.args.f c.requires v
          (elim (c.in_ok-collect_variables.ensures.collected.only v (iff.1 (subst (λ xs. Contains xs v) items among))) [
            | inl old ↦ absurd (true≢false (sym old ∙ ap (list_any (is_at (nat_cmp v))) c.new-variables.ensures.empty))
            | inr tests ↦ tests
          ]),
      λ depends. subst (λ xs. Contains xs v) (sym items) (iff.0 (c.in_ok-collect_variables.ensures.collected.all v (Tests-Depends nodes reduced c.args.f c.requires v depends))),
    )
