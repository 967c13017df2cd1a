-- Each actor of an accepted plan has an instruction.
use Rattle.sig_schedule_laws.proofs.Common.{◌≡◌, ◌<◌, ◌≤◌, ◌+◌, ◌*◌, ◌⊎◌, ◌++◌, inl, inr, ℕ, List, [], ◌∷◌, length, map, refl, sym, subst, arith, Contains, Some, slice_get, if◌then◌else◌, range_with_len, Contains-append_right, get_or-map-range_with_len, length-map-range_with_len, CodeView, Instruction, at_end, instructions_of, over_order, report_links, reports_of, unguarded, Operation, operations_in, PartsView, report_link, IsAccepted, PlanView, numbers_of, Collect, Commit, Report, LinkInfo, reports_there, at_contained, contains_head, cases_eq, eq-eqb}

-- the collector commits
pub commits_there : (operations : List Operation) (order : List ℕ) (parts : PartsView) (actor : ℕ) → actor ≡ parts.clusters
    → Contains (instructions_of operations order parts actor) (unguarded Commit (2 * length operations + 1))
commits_there operations order parts actor own =
    let i : Instruction = unguarded Commit (2 * length operations + 1) in
    Contains-append_right (over_order operations order parts.links actor) (at_end parts.links parts.clusters (length operations) actor) i
    (subst (λ b. Contains (if b then map (λ l. unguarded (Collect l) (2 * length operations)) (report_links parts.links) ++ unguarded Commit (2 * length operations + 1) ∷ [] else map (λ l. unguarded (Report l) (2 * length operations)) (reports_of parts.links actor)) i)
    (sym (eq-eqb actor parts.clusters own))
    (Contains-append_right (map (λ l. unguarded (Collect l) (2 * length operations)) (report_links parts.links)) (i ∷ []) i (contains_head i [])))

module _ (plan : PlanView) (accepted : IsAccepted plan) where
  abbrev parts : PartsView
  parts = accepted.parts

  abbrev all : ℕ → List Instruction
  all k = instructions_of (operations_in plan.store.nodes plan.ops) (numbers_of plan.order) parts k

  -- a cluster reports
  pub report_contained : (k : ℕ) → k < parts.clusters → Contains parts.links (report_link parts.clusters k)
  report_contained k lt =
      subst (λ (ls : List LinkInfo). Contains ls (report_link parts.clusters k)) (sym accepted.split.links.joined)
      (Contains-append_right accepted.split.links.carrying (map (report_link parts.clusters) (range_with_len 0 parts.clusters)) (report_link parts.clusters k) (
        k,
        omega (arith, lt, length-map-range_with_len (report_link parts.clusters) 0 parts.clusters),
        get_or-map-range_with_len (report_link parts.clusters) 0 parts.clusters k k (report_link parts.clusters k) lt (omega arith),
      ))

  some_instruction : (k : ℕ) → k ≤ parts.clusters → (i : Instruction) × Contains (all k) i
  some_instruction k le = by (cases_eq k parts.clusters) where
    by : (k ≡ parts.clusters) ⊎ ((k ≡ parts.clusters) → ⊥) → (i : Instruction) × Contains (all k) i
    by (inl own) = (unguarded Commit (2 * length (operations_in plan.store.nodes plan.ops) + 1), commits_there (operations_in plan.store.nodes plan.ops) (numbers_of plan.order) parts k own)
    by (inr other) =
        let there = report_contained k (omega (arith, le, other)) in (
          unguarded (Report there.0) (2 * length (operations_in plan.store.nodes plan.ops)),
          reports_there (operations_in plan.store.nodes plan.ops) (numbers_of plan.order) parts there.0 (report_link parts.clusters k) (at_contained parts.links (report_link parts.clusters k) there) refl k other refl,
        )

  pub code_begins : (k : ℕ) (code : CodeView) → slice_get plan.codes k ≡ Some code → k < length plan.codes → 0 < length code.steps
  code_begins k code coded lt =
      let actors = accepted.codes.actors in
      let there = some_instruction k (omega (arith, lt, actors)) in
      let count = (accepted.codes.each k code coded).count in
      omega (arith, there.1.1, count)
