use Rattle.sig_pace.proofs.{refl, ap, subst, sym, ◌&&◌, IsRefOf, Spans, test, Ref, SystemView, variables_of, asked_is, over_spans, refused}
use Rattle.sig_pace.proofs.asked.asked_of.Goals as goal

pub returns-in_err-solutions-clause-share : goal.returns-in_err-solutions-clause-share
returns-in_err-solutions-clause-share c =
    let vs = variables_of c.args.system in
    let nodes = c.args.store.now.nodes in
    let residue = subst (λ (r : Ref). Spans nodes r vs) (sym (ap (λ (s : SystemView). s.residue) c.system.view_is)) (over_spans nodes c.args.system c.args.system.residue c.requires.system.residue) in
    let speaks = subst (λ (r : Ref). Spans nodes r vs) (sym (ap (λ (s : SystemView). s.speaks) c.system.view_is)) (over_spans nodes c.args.system c.args.system.speaks c.requires.system.speaks) in
    refused 1 vs c.args.store.now c.conj.new.self c.from_residual.result c.in_err-solutions.field-0.0 c.from_residual.ensures.1
    (c.in_err-solutions.ensures.spends.over vs (residue, (speaks, tt)) tt)

pub returns-clause-asked : goal.returns-clause-asked
returns-clause-asked c = (
  refl,
  refl,
  asked_is c.args.store.now c.conj.new.self c.in_ok-solutions.ensures.kept _ c.in_ok-solutions.ensures.store c.requires.system
      (subst (λ (s : SystemView). IsRefOf c.conj.new.self.nodes (λ ts. test c.args.store.now.nodes s.residue ts && test c.args.store.now.nodes s.speaks ts) c.in_ok-solutions.solutions) c.system.view_is c.in_ok-solutions.ensures.value),
)

pub returns-clause-share : goal.returns-clause-share
returns-clause-share c =
    let vs = variables_of c.args.system in
    let nodes = c.args.store.now.nodes in
    let residue = subst (λ (r : Ref). Spans nodes r vs) (sym (ap (λ (s : SystemView). s.residue) c.system.view_is)) (over_spans nodes c.args.system c.args.system.residue c.requires.system.residue) in
    let speaks = subst (λ (r : Ref). Spans nodes r vs) (sym (ap (λ (s : SystemView). s.speaks) c.system.view_is)) (over_spans nodes c.args.system c.args.system.speaks c.requires.system.speaks) in
    c.in_ok-solutions.ensures.spends.over vs (residue, (speaks, tt)) tt
