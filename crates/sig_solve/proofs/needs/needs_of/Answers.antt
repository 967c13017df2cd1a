use Rattle.sig_solve.proofs.{◌≡◌, ◌<◌, ◌∙◌, ℕ, List, Some, length, get_or, sym, ap, subst, arith, slice_get, All, Holds, Ref, SystemView, get_or_default, IfOk-weaker, slice_get-get_or}
use Rattle.sig_solve.proofs.needs.needs_of.Goals as goal

pub supports-requires : goal.supports-requires
supports-requires c =
    let nodes = c.args.store.now.nodes in
    let present = c.as_slice.ensures.value ∙ ap (λ (s : SystemView). s.present) c.system.view_is in
    subst (λ (refs : List Ref). All (Holds nodes) refs) (sym present)
    (λ k d lt. (c.requires.system.present k (get_or c.args.system.now.present k d) (slice_get-get_or c.args.system.now.present k d lt)).held)

pub returns-clause-value : goal.returns-clause-value
returns-clause-value c =
    let system = c.args.system.now in
    let present = c.as_slice.ensures.value ∙ ap (λ (s : SystemView). s.present) c.system.view_is in
    IfOk-weaker c.supports.result _ _
    (λ needs are. record {
      count = are.count ∙ ap length present;
      exact = λ s lt. (are.each s (get_or system.present s system.residue) (ap (λ (refs : List Ref). slice_get refs s) present ∙ slice_get-get_or system.present s system.residue lt)).exact;
    })
    c.supports.ensures.value
