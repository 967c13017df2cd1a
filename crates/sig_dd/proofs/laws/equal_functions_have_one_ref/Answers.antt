use Rattle.sig_dd.proofs.{ap, test, one_ref}
use Rattle.sig_dd.proofs.laws.equal_functions_have_one_ref.Goals as goal

pub returns : goal.returns
returns c s store f g hf hg = (λ same ts. ap (λ r. test s.nodes r ts) same, λ agree. one_ref s.nodes store.reduced f g hf hg agree)
