use Rattle.sig_cells.proofs.{no_run, ◌≤◌, ◌∙◌, ℕ, List, true, false, length, refl, sym, subst, arith, slice_index_or, get_at, AreDone, ArePassed, AreWaysOf, Holds, IsRun, IsStretch, Known, Node, Run, none_done, none_passed, run_done, same_Some, scope_of, walked_stretch}
use Rattle.sig_cells.proofs.ways.ways_from.Goals as goal

ends : (nodes : List Node) (runs : List Run) (place : ℕ) (run : Run) → IsRun nodes runs place run → run.end ≤ length runs
ends nodes runs place run is = let a = is.leaves in let b = is.within in omega (arith, a, b)

pub first_open-open-requires-clause-known : goal.first_open-open-requires-clause-known
first_open-open-requires-clause-known c =
    let run = slice_index_or c.args.runs.now c.args.place no_run in
    subst (λ (k : Known). Holds c.args.store.now.nodes k.guard) (sym c.known_of-off.ensures)
    (c.requires.runs c.args.place run (get_at c.args.runs.now c.args.place no_run c.requires.place)).held

pub first_open-open-requires-clause-from : goal.first_open-open-requires-clause-from
first_open-open-requires-clause-from c =
    let run = slice_index_or c.args.runs.now c.args.place no_run in
    (c.requires.runs c.args.place run (get_at c.args.runs.now c.args.place no_run c.requires.place)).within

pub stretch_from-requires : goal.stretch_from-requires
stretch_from-requires c =
    let run = slice_index_or c.args.runs.now c.args.place no_run in
    let is : IsRun c.args.store.now.nodes c.args.runs.now c.args.place run = c.requires.runs c.args.place run (get_at c.args.runs.now c.args.place no_run c.requires.place) in
    record {
      known = subst (λ (k : Known). Holds c.args.store.now.nodes k.guard) (sym c.known_of-on.ensures) is.held;
      forth = (let later = is.later in omega (arith, later));
      within = ends c.args.store.now.nodes c.args.runs.now c.args.place run is;
      done = subst (λ (k : Known). AreDone c.args.store.now.nodes c.args.runs.now k c.args.place run.end) (sym c.known_of-on.ensures) (run_done c.args.store.now.nodes c.args.runs.now c.args.place run is);
      below = c.requires.below;
      runs = c.requires.runs;
      told = c.requires.told;
    }

pub stretch_from-requires-else-is_inside-clause-known : goal.stretch_from-requires-else-is_inside-clause-known
stretch_from-requires-else-is_inside-clause-known c =
    let run = slice_index_or c.args.runs.now c.args.place no_run in
    subst (λ (k : Known). Holds c.args.store.now.nodes k.guard) (sym c.known_of-off.ensures)
    (c.requires.runs c.args.place run (get_at c.args.runs.now c.args.place no_run c.requires.place)).held

pub stretch_from-requires-else-is_inside-clause-done : goal.stretch_from-requires-else-is_inside-clause-done
stretch_from-requires-else-is_inside-clause-done c = none_done c.args.store.now.nodes c.args.runs.now c.known_of-off.result c.first_open-open.result

pub returns-then-is_inside : goal.returns-then-is_inside
returns-then-is_inside c = λ other at.
    let nodes = c.args.store.now.nodes in
    let scope = scope_of nodes c.args.conditions.now c.args.signals in
    let runs = c.args.runs.now in
    let run = slice_index_or runs c.args.place no_run in
    let here = get_at runs c.args.place no_run c.requires.place in
    let is : IsRun nodes runs c.args.place run = c.requires.runs c.args.place run here in
    let on = c.walked.result in
    let off = c.walked-then-is_inside.result in
    let known : Known = record { guard = run.guard; truth = false } in
    let first = c.walked-then-is_inside.ensures.from in
    let last = c.walked.ensures.to in
    subst (λ (r : Run). AreWaysOf scope runs c.args.place r (record { guard = run.guard; on = on; off = off })) (same_Some run other (sym here ∙ at)) (record {
      guard = refl;
      on = walked_stretch scope runs (record { guard = run.guard; truth = true }) c.args.place run.end on (let later = is.later in omega (arith, later)) (ends nodes runs c.args.place run is)
          (run_done nodes runs c.args.place run is) c.walked.ensures.from c.walked.ensures.to c.walked.ensures.place c.walked.ensures.walk;
      on_from = c.walked.ensures.from;
      on_to = omega (arith, last);
      off = walked_stretch scope runs known run.skip run.skip off (omega arith) is.within
          (none_done nodes runs known run.skip) c.walked-then-is_inside.ensures.from c.walked-then-is_inside.ensures.to c.walked-then-is_inside.ensures.place c.walked-then-is_inside.ensures.walk;
      off_from = omega (arith, first);
      off_passed = subst (ArePassed nodes runs known run.skip) (sym first) (none_passed nodes runs known run.skip);
    })

pub returns-else-is_inside : goal.returns-else-is_inside
returns-else-is_inside c = λ other at.
    let nodes = c.args.store.now.nodes in
    let scope = scope_of nodes c.args.conditions.now c.args.signals in
    let runs = c.args.runs.now in
    let run = slice_index_or runs c.args.place no_run in
    let here = get_at runs c.args.place no_run c.requires.place in
    let on = c.stretch_from.result in
    let off = c.stretch_from-else-is_inside.result in
    let known : Known = record { guard = run.guard; truth = false } in
    let first = c.stretch_from-else-is_inside.ensures.from in
    let later = c.first_open-open.ensures.later in
    subst (λ (r : Run). AreWaysOf scope runs c.args.place r (record { guard = run.guard; on = on; off = off })) (same_Some run other (sym here ∙ at)) (record {
      guard = refl;
      on = subst (λ (k : Known). IsStretch scope runs k on) c.known_of-on.ensures c.stretch_from.ensures.stretch;
      on_from = c.stretch_from.ensures.from;
      on_to = c.stretch_from.ensures.to;
      off = subst (λ (k : Known). IsStretch scope runs k off) c.known_of-off.ensures c.stretch_from-else-is_inside.ensures.stretch;
      off_from = omega (arith, first, later);
      off_passed = subst (ArePassed nodes runs known run.skip) (sym first)
          (subst (λ (k : Known). ArePassed nodes runs k run.skip c.first_open-open.result) c.known_of-off.ensures c.first_open-open.ensures.passed);
    })
