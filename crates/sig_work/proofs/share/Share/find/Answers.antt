use Rattle.sig_work.proofs.{◌≡◌, inl, inr, sym, ap, subst, ◌∙◌, arith, length, List, Some, slice_get, same_Some, item_at, Member, slice_get_within, cases_eq}
use Rattle.sig_work.proofs.share.Share.find.Goals as goal

pub returns-then-member-number-clause-some : goal.returns-then-member-number-clause-some
returns-then-member-number-clause-some c = record {
  member = c.member-item.result;
  is = subst (λ (xs : List Member). slice_get xs c.loop-at.at ≡ Some c.member-item.result) c.deref-member-items.ensures.value
      (item_at c.deref-member-items.result.now c.loop-at.at c.member-item.result c.loop-at-test.true c.member-item.is);
  numbered = c.if-member-number.true;
}

pub loop-at-preserved : goal.loop-at-preserved
loop-at-preserved c = λ i m lt at is. elim (cases_eq i c.loop-at.at) [
  | inl same ↦
      let here : slice_get c.args.self.now.members.items c.loop-at.at ≡ Some c.member-item.result =
      subst (λ (xs : List Member). slice_get xs c.loop-at.at ≡ Some c.member-item.result) c.deref-member-items.ensures.value
      (item_at c.deref-member-items.result.now c.loop-at.at c.member-item.result c.loop-at-test.true c.member-item.is) in
      let m_is : c.member-item.result ≡ m = same_Some c.member-item.result m (sym here ∙ ap (slice_get c.args.self.now.members.items) (sym same) ∙ at) in
      c.if-member-number.false (ap (λ (n : Member). n.number) m_is ∙ is)
  | inr apart ↦ c.loop-at.invariant i m (omega (arith, lt, apart)) at is
]

pub returns-clause-none : goal.returns-clause-none
returns-clause-none c = λ number m at is.
    c.loop-at.invariant number m
    (let lt = slice_get_within c.args.self.now.members.items number m at in
    let all = c.loop-at-test.false in
    let same = ap (λ (xs : List Member). length xs) c.deref-member-items.ensures.value in
    omega (arith, lt, all, same)) at is
