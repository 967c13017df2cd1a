use Rattle.sig_loaded.proofs.{◌≡◌, ◌<◌, ◌≤◌, ◌*◌, ◌∙◌, ℕ, inl, inr, length, arith, subst, sym, cases_lt, le-min, ltb-false, ltb-true, min, min-le_left, rules, vec_len, IsAccepted, PlanView, plan_links}
use Rattle.sig_loaded.proofs.load.hold_too_many.Goals as goal

pub returns-clause-many : goal.returns-clause-many
returns-clause-many c = λ over.
    let accepted : IsAccepted c.args.plan.now = subst (λ (plan : PlanView). IsAccepted plan) c.plan.view_is c.plan.invariant in
    let whole : vec_len c.plan.inside.links ≡ length c.plan.inside.links.items = search rules in
    let count : c.len.result ≡ length c.args.plan.now.links = subst (λ (plan : PlanView). c.len.result ≡ length plan.links) c.plan.view_is (c.len.ensures ∙ whole) in
    let most : c.saturating_mul.result ≤ length c.args.plan.now.links * c.args.capacity =
    subst (λ (n : ℕ). c.saturating_mul.result ≤ n * c.args.capacity) count
    (subst (λ (n : ℕ). n ≤ c.len.result * c.args.capacity) (sym c.saturating_mul.ensures) (min-le_left (c.len.result * c.args.capacity) 18446744073709551615)) in
    let less : 16777216 < c.saturating_mul.result = ltb-true 16777216 c.saturating_mul.result over in
    record { links = c.args.plan.now.links; are = plan_links c.args.plan.now accepted; fact = omega (arith, less, most) }

pub returns-clause-few : goal.returns-clause-few
returns-clause-few c = λ within.
    let accepted : IsAccepted c.args.plan.now = subst (λ (plan : PlanView). IsAccepted plan) c.plan.view_is c.plan.invariant in
    let whole : vec_len c.plan.inside.links ≡ length c.plan.inside.links.items = search rules in
    let count : c.len.result ≡ length c.args.plan.now.links = subst (λ (plan : PlanView). c.len.result ≡ length plan.links) c.plan.view_is (c.len.ensures ∙ whole) in
    let most : c.saturating_mul.result ≤ 16777216 = ltb-false 16777216 c.saturating_mul.result within in
    let held : c.len.result * c.args.capacity ≤ 16777216 = elim (cases_lt 16777216 (c.len.result * c.args.capacity)) [
      | inl more ↦
          let least : 16777217 ≤ min (c.len.result * c.args.capacity) 18446744073709551615 = le-min (omega (arith, more)) (omega arith) in
          let too_many : 16777217 ≤ c.saturating_mul.result = subst (λ (n : ℕ). 16777217 ≤ n) (sym c.saturating_mul.ensures) least in
          absurd (omega (arith, too_many, most))
      | inr few ↦ few
    ] in
    record { links = c.args.plan.now.links; are = plan_links c.args.plan.now accepted; fact = subst (λ (n : ℕ). n * c.args.capacity ≤ 16777216) count held }
