use Rattle.sig_work.proofs.{◌≡◌, inl, inr, sym, ap, subst, ◌∙◌, arith, Some, slice_get, same_Some, item_at, HasNoneIn, Share, slice_get_within, cases_eq}
use Rattle.sig_work.proofs.finding.find.Goals as goal

pub returns-in-Some-clause-some : goal.returns-in-Some-clause-some
returns-in-Some-clause-some c =
    let stands = c.in-Some.ensures.some in
    record {
      member = stands.member;
      share = c.index-shares-at.result;
      there = item_at c.args.shares.now c.loop-at.at c.index-shares-at.result c.loop-at-test.true c.index-shares-at.is;
      is = stands.is;
      numbered = stands.numbered;
    }

pub loop-at-preserved : goal.loop-at-preserved
loop-at-preserved c = λ i share lt at. elim (cases_eq i c.loop-at.at) [
  | inl same ↦
      let here : slice_get c.args.shares.now c.loop-at.at ≡ Some c.index-shares-at.result =
      item_at c.args.shares.now c.loop-at.at c.index-shares-at.result c.loop-at-test.true c.index-shares-at.is in
      let s_is : c.index-shares-at.result ≡ share = same_Some c.index-shares-at.result share (sym here ∙ ap (slice_get c.args.shares.now) (sym same) ∙ at) in
      subst (λ (s : Share). HasNoneIn s c.args.number) s_is c.in_default.ensures.none
  | inr apart ↦ c.loop-at.invariant i share (omega (arith, lt, apart)) at
]

pub returns-clause-none : goal.returns-clause-none
returns-clause-none c = λ m one.
    c.loop-at.invariant one.at one.share (let lt = slice_get_within c.args.shares.now one.at one.share one.there in let all = c.loop-at-test.false in omega (arith, lt, all)) one.there one.number m one.is one.numbered
