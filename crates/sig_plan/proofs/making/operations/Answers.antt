use Rattle.sig_plan.proofs.{◌≡◌, ◌*◌, ℕ, List, Ok, ap, length, subst, ClocksView, StoreView, Equation, Spends, clocks_kept, operations_made, share_made, share_without_memory, within_share, spends_err}
use Rattle.sig_plan.proofs.making.operations.Goals as goal

pub returns-in_err-add_writes-clause-clocks : goal.returns-in_err-add_writes-clause-clocks
returns-in_err-add_writes-clause-clocks c = clocks_kept c.args.kernel.now c.args.store.now c.add_writes.new.store c.args.clocks.now c.in_err-add_writes.ensures.spends.kept c.requires.clocks

pub returns-in_err-add_stores-clause-clocks : goal.returns-in_err-add_stores-clause-clocks
returns-in_err-add_stores-clause-clocks c = clocks_kept c.args.kernel.now c.args.store.now c.add_writes.new.store c.args.clocks.now c.in_ok-add_writes.ensures.spends.kept c.requires.clocks

pub returns-clause-clocks : goal.returns-clause-clocks
returns-clause-clocks c = clocks_kept c.args.kernel.now c.args.store.now c.add_writes.new.store c.args.clocks.now c.in_ok-add_writes.ensures.spends.kept c.requires.clocks

abbrev Spent : ClocksView → StoreView → StoreView → List Equation → Type 0
Spent clocks s t equations = Spends {T = Unit {0}} (2 * length equations) clocks s t (Ok tt)

pub returns-in_err-add_writes-clause-share : goal.returns-in_err-add_writes-clause-share
returns-in_err-add_writes-clause-share c =
    let calls : 2 * length c.as_slice-equations.result.now ≡ 2 * length c.args.kernel.now.equations = ap (λ (es : List Equation). 2 * length es) c.as_slice-equations.ensures in
    within_share c.args.kernel.now c.args.clocks.now c.args.store.now c.add_writes.new.store c.requires.clocks c.from_residual-in_err-add_writes.result
    (subst (λ (n : ℕ). Spends n c.args.clocks.now c.args.store.now c.add_writes.new.store c.from_residual-in_err-add_writes.result) calls
    (spends_err c.args.clocks.now (2 * length c.as_slice-equations.result.now) c.args.store.now c.add_writes.new.store c.in_err-add_writes.field-0.0 c.from_residual-in_err-add_writes.result c.in_err-add_writes.ensures.spends c.from_residual-in_err-add_writes.ensures.1))

pub returns-in_err-add_stores-clause-share : goal.returns-in_err-add_stores-clause-share
returns-in_err-add_stores-clause-share c =
    share_without_memory c.args.kernel.now c.args.clocks.now c.args.store.now c.add_writes.new.store c.requires.clocks c.from_residual-in_err-add_stores.result
    (subst (Spent c.args.clocks.now c.args.store.now c.add_writes.new.store) c.as_slice-equations.ensures c.in_ok-add_writes.ensures.spends) c.from_residual-in_err-add_stores.ensures.1

pub returns-clause-operations : goal.returns-clause-operations
returns-clause-operations c =
    operations_made c.args.kernel.now c.args.store.now c.add_writes.new.store c.args.clocks.now c.as_slice.result.now c.as_slice-equations.result.now c.new-ops.result.items c.add_reads.new.ops.items c.add_writes.new.ops.items c.add_stores.new.ops.items
    c.in_ok-add_writes.ensures.spends.kept c.requires.clocks c.as_slice.ensures c.as_slice-equations.ensures c.new-ops.ensures.items c.in_ok-add_reads.ensures c.in_ok-add_writes.ensures.adds c.in_ok-add_stores.ensures

pub returns-clause-share : goal.returns-clause-share
returns-clause-share c =
    share_made c.args.kernel.now c.args.clocks.now c.args.store.now c.add_writes.new.store c.requires.clocks c.add_stores.new.ops
    (subst (Spent c.args.clocks.now c.args.store.now c.add_writes.new.store) c.as_slice-equations.ensures c.in_ok-add_writes.ensures.spends)
