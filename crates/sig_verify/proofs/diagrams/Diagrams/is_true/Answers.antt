use Rattle.sig_verify.proofs.{sym, ap, ◌∙◌, eq-eqb, one_reference, ref_same, Ref, test}
use Rattle.sig_verify.proofs.diagrams.Diagrams.is_true.Goals as goal

pub returns : goal.returns
returns c =
    let store = c.args.self.now.store in
    let always = c.constant.ensures.value in (
      λ yes truths. ap (λ (r : Ref). test store.nodes r truths) (ref_same c.args.r c.constant.result (sym yes ∙ c.eq.ensures)) ∙ always.function truths,
      λ all.
          let same = one_reference store c.constant.ensures.store c.args.r c.constant.result c.requires.holds always.holds (λ ts. all ts ∙ sym (always.function ts)) in
          c.eq.ensures ∙ eq-eqb c.args.r.number c.constant.result.number (ap (λ (r : Ref). r.number) same),
    )
