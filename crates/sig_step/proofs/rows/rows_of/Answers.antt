use Rattle.sig_step.proofs.{◌+◌, ◌∷◌, [], ◌∙◌, ℕ, ap, sym, subst, length, length-append, AreRows, IsRow, rows_longer}
use Rattle.sig_step.proofs.rows.rows_of.Goals as goal

pub row_at-to-requires-clause-count : goal.row_at-to-requires-clause-count
row_at-to-requires-clause-count c = ap length c.as_slice.ensures.value ∙ c.loop-from.invariant.count

pub row_at-to-requires-clause-rows : goal.row_at-to-requires-clause-rows
row_at-to-requires-clause-rows c = subst (AreRows c.args.steps.now) (sym c.as_slice.ensures.value) c.loop-from.invariant.rows

pub loop-from-preserved : goal.loop-from-preserved
loop-from-preserved c =
    let rows = c.loop-from.rows.items in
    record {
      count = ap length c.in_ok-push.ensures.items ∙ length-append rows (c.row_at-to.result ∷ []) ∙ ap (λ (n : ℕ). n + 1) c.loop-from.invariant.count;
      rows = subst (AreRows c.args.steps.now) (sym c.in_ok-push.ensures.items)
          (rows_longer c.args.steps.now rows c.row_at-to.result c.loop-from.invariant.rows (subst (λ (n : ℕ). IsRow c.args.steps.now n c.row_at-to.result) (sym c.loop-from.invariant.count) c.row_at-to.ensures));
    }
