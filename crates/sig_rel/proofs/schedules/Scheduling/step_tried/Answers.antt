use Rattle.sig_rel.proofs.{◌≡◌, ◌∙◌, ◌<◌, ℕ, List, length, ap, arith, slice_index, slice_index_or, Equation, target_number, tried_within}
use Rattle.sig_rel.proofs.schedules.Scheduling.step_tried.Goals as goal

pub overflow_cast-result : goal.overflow_cast-result
overflow_cast-result c =
    let kernel = c.args.kernel.now in
    let scheduling = c.args.self.now in
    let least = scheduling.rules.least.items in
    let place = c.args.place in
    let equation = c.index-equations-place.result in
    let there : place < length kernel.equations = let long = ap length c.as_slice-equations.ensures in let lt = c.if-place-equations.true in omega (arith, long, lt) in
    let within = tried_within kernel c.requires.valid scheduling c.requires.scheduling place equation there in
    let class : c.least_of.result ≡ slice_index least (target_number (slice_index_or kernel.equations place equation).form) =
    c.least_of.ensures ∙ ap (λ (ls : List ℕ). slice_index ls c.target_number-target.result) c.as_slice.ensures.value
    ∙ ap (slice_index least) (c.target_number-target.ensures ∙ ap (λ (equations : List Equation). target_number (slice_index_or equations place equation).form) c.as_slice-equations.ensures) in
    let few = c.requires.valid.parts.signals in
    omega (arith, within, class, few)
