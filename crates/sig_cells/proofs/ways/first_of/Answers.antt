use Rattle.sig_cells.proofs.{◌≡◌, refl, sym, subst, Holds, Known, holds_by, scope_of, truths_of}
use Rattle.sig_cells.proofs.ways.first_of.Goals as goal

pub test_at-requires-clause-known : goal.test_at-requires-clause-known
test_at-requires-clause-known c = subst (λ (k : Known). Holds c.args.store.now.nodes k.guard) (sym c.known_of-always.ensures) c.constant.ensures.value.holds

pub returns : goal.returns
returns c = record {
  place = refl;
  end = c.test_at.ensures.end;
  asks = λ run at. (c.test_at.ensures.told run at).asks;
  tells = λ run at registers.
      (c.test_at.ensures.told run at).tells registers
      (subst (λ (k : Known). holds_by (scope_of c.args.store.now.nodes c.args.conditions.now c.args.signals) k.guard registers ≡ k.truth) (sym c.known_of-always.ensures)
      (c.constant.ensures.value.function (truths_of c.args.conditions.now registers)));
}
