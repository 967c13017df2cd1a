use Rattle.sig_dd.proofs.{◌≡◌, Bool, true, false, cond, Some, IfSome, sym, ◌∙◌, ap, subst, refl, eq-value, get, HoldsPair, IsPairProduct, pair_eq-same}
use Rattle.sig_dd.proofs.store.Store.keep_product.Goals as goal

pub returns : goal.returns
returns c p = by (eq-value.it c.args.pair p) refl
  where
    by : (b : Bool) → eq-value.it c.args.pair p ≡ b → IfSome (get eq-value.it c.insert.new.self p) (λ r. HoldsPair c.args.self.now.nodes p × IsPairProduct c.args.self.now.nodes c.args.forgotten.now p r)
    by b e =
        subst (λ o. IfSome o (λ r. HoldsPair c.args.self.now.nodes p × IsPairProduct c.args.self.now.nodes c.args.forgotten.now p r))
        (sym (c.in_ok-insert.ensures.updates.0 p ∙ ap (λ x. cond x (Some c.args.r) (get eq-value.it c.args.products.now p)) e)) (at b e)
      where
        at : (b : Bool) → eq-value.it c.args.pair p ≡ b → IfSome (cond b (Some c.args.r) (get eq-value.it c.args.products.now p)) (λ r. HoldsPair c.args.self.now.nodes p × IsPairProduct c.args.self.now.nodes c.args.forgotten.now p r)
        at true f =
            subst (λ q. HoldsPair c.args.self.now.nodes q × IsPairProduct c.args.self.now.nodes c.args.forgotten.now q c.args.r) (pair_eq-same c.args.pair p f) (c.requires.held, c.requires.product)
        at false f = c.requires.products p
