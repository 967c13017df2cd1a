use Rattle.sig_dd.proofs.{◌≡◌, ℕ, ◌⊎◌, Bool, true, false, cond, IsTrue, inl, inr, ap, sym, ◌∙◌, subst, refl, eqb, arith, nat_cmp, contains, ref_same, Tests, diagram, constant_tests, node_tests, tests_node, low_below, high_below, low_held, high_held, inserted_kept, inserted_only}
use Rattle.std.specs.HashSet as bag
use Rattle.sig_dd.specs.contracts.node.RefPartialEq.TheImpl.{eq-value}
use Rattle.sig_dd.proofs.store.Store.+collect_variables.Goals as goal

-- a constant tests nothing
pub returns-in_default-clause-collected : goal.returns-in_default-clause-collected
returns-in_default-clause-collected t c = record {
  all = λ v tests. absurd (constant_tests c.args.self.now.nodes c.node.ensures.store.reduced c.args.r c.requires.held (sym c.in_default.is ∙ c.node.ensures.node) v tests);
  kept = λ v has. has;
  only = λ v has. inl has;
}

pub collect_variables-requires : goal.collect_variables-requires
collect_variables-requires t c =
    let nodes = c.args.self.now.nodes in
    let reduced = c.node.ensures.store.reduced in
    let below = low_below nodes reduced c.args.r c.requires.held c.in-Some.n c.in-Some.ensures.node in (
      omega arith,
      (
        low_held nodes reduced c.args.r c.requires.held c.in-Some.n c.in-Some.ensures.node,
        λ s has v tests. inserted_kept c.args.variables.now c.insert.new.self c.in-Some.n.variable c.in_ok-insert.ensures.updates.0 v (c.requires.seen s has v tests),
      ),
    )

pub collect_variables-requires-2 : goal.collect_variables-requires-2
collect_variables-requires-2 t c =
    let nodes = c.args.self.now.nodes in
    let reduced = c.node.ensures.store.reduced in
    let below = high_below nodes reduced c.args.r c.requires.held c.in-Some.n c.in-Some.ensures.node in
    (omega arith, (high_held nodes reduced c.args.r c.requires.held c.in-Some.n c.in-Some.ensures.node, c.in_ok-collect_variables.ensures.seen))

-- a node's variables are its own and those of its children
collected_all : (t : ℕ) (c : goal.In_ok-insert-2 t) (v : ℕ) → Tests (diagram c.args.self.now.nodes c.args.r) v → IsTrue (contains nat_cmp c.collect_variables-2.new.variables v)
collected_all t c v tests =
    elim (node_tests c.args.self.now.nodes c.node.ensures.store.reduced c.args.r c.requires.held c.in-Some.n c.in-Some.ensures.node v tests) [
      | inl own ↦
          let here : IsTrue (contains nat_cmp c.insert.new.self v) = subst (λ u. IsTrue (contains nat_cmp c.insert.new.self u)) (sym own) c.in_ok-insert.ensures.updates.1 in
          c.in_ok-collect_variables-2.ensures.collected.kept v (c.in_ok-collect_variables.ensures.collected.kept v here)
      | inr (inl low) ↦ c.in_ok-collect_variables-2.ensures.collected.kept v (c.in_ok-collect_variables.ensures.collected.all v low)
      | inr (inr high) ↦ c.in_ok-collect_variables-2.ensures.collected.all v high
    ]

pub returns-clause-seen : goal.returns-clause-seen
returns-clause-seen t c s has v tests = by (eqb c.args.r.number s.number) refl
  where
    by : (b : Bool) → eqb c.args.r.number s.number ≡ b → IsTrue (contains nat_cmp c.collect_variables-2.new.variables v)
    by true e = collected_all t c v (subst (λ r. Tests (diagram c.args.self.now.nodes r) v) (sym (ref_same c.args.r s (sym e))) tests)
    by false e = c.in_ok-collect_variables-2.ensures.seen s (sym (ap (λ b. cond b true (bag.contains eq-value.it c.collect_variables-2.new.seen s)) e) ∙ sym (c.in_ok-insert-2.ensures.updates.0 s) ∙ has) v tests

collected_only : (t : ℕ) (c : goal.In_ok-insert-2 t) (v : ℕ) → IsTrue (contains nat_cmp c.collect_variables-2.new.variables v) → IsTrue (contains nat_cmp c.args.variables.now v) ⊎ Tests (diagram c.args.self.now.nodes c.args.r) v
collected_only t c v has =
    let tests = tests_node c.args.self.now.nodes c.node.ensures.store.reduced c.args.r c.requires.held c.in-Some.n c.in-Some.ensures.node v in
    elim (c.in_ok-collect_variables-2.ensures.collected.only v has) [
      | inr high ↦ inr (tests (inr (inr high)))
      | inl mid ↦ elim (c.in_ok-collect_variables.ensures.collected.only v mid) [
        | inr low ↦ inr (tests (inr (inl low)))
        | inl first ↦ elim (inserted_only c.args.variables.now c.insert.new.self c.in-Some.n.variable c.in_ok-insert.ensures.updates.0 v first) [
          | inl old ↦ inl old
          | inr own ↦ inr (tests (inl own))
        ]
      ]
    ]

pub returns-clause-collected : goal.returns-clause-collected
returns-clause-collected t c = record {
  all = collected_all t c;
  kept = λ v has. c.in_ok-collect_variables-2.ensures.collected.kept v (c.in_ok-collect_variables.ensures.collected.kept v
      (inserted_kept c.args.variables.now c.insert.new.self c.in-Some.n.variable c.in_ok-insert.ensures.updates.0 v has));
  only = collected_only t c;
}
