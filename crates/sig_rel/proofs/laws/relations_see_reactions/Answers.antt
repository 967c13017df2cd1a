use Rattle.sig_rel.proofs.{reaction_stays, same_test}
use Rattle.sig_rel.proofs.laws.relations_see_reactions.Goals as goal

pub returns : goal.returns
returns c = record {
  same = same_test;
  absent = λ kernel count present truth are truths signal v b at absent. reaction_stays kernel count present truth are truths signal v b at absent;
}
