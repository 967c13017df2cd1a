use Rattle.sig_cells.proofs.{no_run, ◌∙◌, ap, length, lt-ltb, no_end, not, sym, subst, slice_index_or, get_at, IsTest, Run, same_Some, scope_of, test_end, test_walk}
use Rattle.sig_cells.proofs.ways.test_at.Goals as goal

pub test_where-requires-clause-held : goal.test_where-requires-clause-held
test_where-requires-clause-held c =
    let run = slice_index_or c.args.runs.now c.args.place no_run in
    (c.requires.runs c.args.place run (get_at c.args.runs.now c.args.place no_run c.if-place-runs.true)).held

pub test_where-requires-clause-told : goal.test_where-requires-clause-told
test_where-requires-clause-told c =
    let run = slice_index_or c.args.runs.now c.args.place no_run in
    c.requires.told c.args.place run (get_at c.args.runs.now c.args.place no_run c.if-place-runs.true)

pub returns-in-End-clause-told : goal.returns-in-End-clause-told
returns-in-End-clause-told c = λ run at. test_walk (scope_of c.args.store.now.nodes c.args.conditions.now c.args.signals) c.args.known run.guard

pub returns-in_default : goal.returns-in_default
returns-in_default c =
    let runs = c.args.runs.now in
    let own = slice_index_or runs c.args.place no_run in
    let here = get_at runs c.args.place no_run c.if-place-runs.true in
    record {
      told = λ run at. subst (λ (r : Run). IsTest (scope_of c.args.store.now.nodes c.args.conditions.now c.args.signals) c.args.known r.guard c.test_where.result) (same_Some own run (sym here ∙ at)) c.test_where.ensures;
      end = no_end c.test_where.result c.in_default.not-End ∙ ap not (sym (lt-ltb c.args.place (length runs) c.if-place-runs.true));
    }

pub returns-else-place-runs-clause-told : goal.returns-else-place-runs-clause-told
returns-else-place-runs-clause-told c = λ run at. test_end (scope_of c.args.store.now.nodes c.args.conditions.now c.args.signals) c.args.known run.guard
