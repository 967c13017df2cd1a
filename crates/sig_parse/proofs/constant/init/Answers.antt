use Rattle.sig_parse.proofs.{refl, IfOk-weaker, IsInit, after_leaf, raised, raised_last, behind_one, leaf_split, init_refused, init_sign}
use Rattle.sig_parse.proofs.constant.init.Goals as goal

pub returns-clause-reads : goal.returns-clause-reads
returns-clause-reads c = IfOk-weaker c.constant.result _ _ (λ constant r. after_leaf (IsInit constant) 0 refl (λ back is. (c.in_ok-_at._at, back, refl, is)) c.in_ok-_at.ensures.reads r) c.constant.ensures.reads

pub returns-in_err-_at-clause-refuses : goal.returns-in_err-_at-clause-refuses
returns-in_err-_at-clause-refuses c = raised c.from_residual.result _ c.from_residual.ensures (λ cause after r. init_sign cause _ after r) c.in_err-_at.ensures.refuses

pub returns-clause-refuses : goal.returns-clause-refuses
returns-clause-refuses c = raised_last _ c.constant.result (behind_one (leaf_split c.in_ok-_at.ensures.reads) (λ cause after r. init_refused c.in_ok-_at._at cause _ after r)) c.constant.ensures.refuses
