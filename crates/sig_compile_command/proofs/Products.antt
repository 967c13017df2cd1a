-- An accepted kernel has a text of each product.
use Rattle.sig_compile_command.proofs.Common.{◌<◌, ℕ, List, length, codes, refl, sym, subst, arith, inl, inr, Option, None, Some, cases_lt, Node, Ref, Implies, AreClocks, AreParents, IsParentIfAny, IsWithin, guard_at, parents_are_tree, within_at, IsTreeText, text_of, IsCodeText, code_text_of, IsValid, Kernel, IsAcceptedKernel, IsLastBelow, IsPlanOf, PlanView, some_plan, dec_implied, last_as, last_below, table, table_at, table_length, IsDueOf, Product, Code, Tree, Verdict, value_there}

module _ (nodes : List Node) (guards : List Ref) where
  abbrev Contained : ℕ → ℕ → Type 0
  Contained class other = Implies nodes (guard_at guards class) (guard_at guards other)

  contained : (class other : ℕ) → IsWithin nodes guards class other → Contained class other
  contained class other within =
      subst (λ (g : Ref). Implies nodes (guard_at guards class) g) (sym (value_there guards other (record { number = 0 }) within.other_guard within.other_has))
      (subst (λ (f : Ref). Implies nodes f within.other_guard) (sym (value_there guards class (record { number = 0 }) within.guard within.has)) within.implies)

  found : (class : ℕ) → (parent : Option ℕ) × IsLastBelow (Contained class) class parent
  found class = last_below (Contained class) (λ other. dec_implied nodes (guard_at guards class) (guard_at guards other)) class

  parent_is : (class : ℕ) (parent : Option ℕ) → IsLastBelow (IsWithin nodes guards class) class parent → IsParentIfAny nodes guards class parent
  parent_is class None none = none
  parent_is class (Some parent) is = record {
    before = is.0;
    within = is.1;
    last = λ other lt within. elim (cases_lt parent other) [ inl above ↦ absurd (is.2 other above lt within) | inr below ↦ below ];
  }

  found_is : (class : ℕ) → class < length guards → IsParentIfAny nodes guards class (found class).0
  found_is class lt =
      parent_is class (found class).0
      (last_as (Contained class) (IsWithin nodes guards class) class
      (λ other less implies. within_at nodes guards class other lt (omega (arith, lt, less)) implies)
      (λ other less within. contained class other within)
      (found class).0 (found class).1)

  abbrev parents : List (Option ℕ)
  parents = table (λ (class : ℕ). (found class).0) (length guards)

  are_parents : AreParents nodes guards (length guards) parents
  are_parents = record {
    counted = table_length (λ (class : ℕ). (found class).0) (length guards);
    each = λ class lt. subst (IsParentIfAny nodes guards class) (table_at (λ (class : ℕ). (found class).0) (length guards) class None lt) (found_is class lt);
  }

module _ (kernel : Kernel) (valid : IsValid kernel) (accepted : IsAcceptedKernel kernel) where
  plan : (plan : PlanView) × IsPlanOf kernel plan
  plan = some_plan kernel valid accepted

  some_tree : (text : List ℕ) × IsTreeText kernel text
  some_tree =
      let nodes = plan.0.store.nodes in
      let clocks = plan.0.clocks in
      let are : AreClocks kernel nodes clocks = subst (λ (k : Kernel). AreClocks k nodes clocks) plan.1.same plan.1.accepted.clocks in
      let tree = parents nodes clocks.guard in (
        text_of kernel clocks tree,
        record {
          nodes = nodes;
          clocks = clocks;
          are = are;
          tree = tree;
          is = parents_are_tree nodes clocks tree (kernel, valid, accepted.has.clocks, are) (are_parents nodes clocks.guard);
          says = refl;
        },
      )

  some_code : (text : List ℕ) × IsCodeText kernel text
  some_code = (code_text_of plan.0, record { plan = plan.0; accepted = plan.1.accepted; of = plan.1.same; says = refl })

  pub some_product : (product : Product) → (text : List ℕ) × IsDueOf product kernel text
  some_product Verdict = (codes "accepted\n", refl)
  some_product Tree = some_tree
  some_product Code = some_code
