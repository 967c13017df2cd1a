use Rattle.sig_pace.proofs.{ℕ, List, inl, subst, MatchOption, GetsPaces, NeedsNoPaces, keeps_passed}
use Rattle.sig_pace.proofs.pacing.pace.Goals as goal

pub returns-in_err-found-clause-share : goal.returns-in_err-found-clause-share
returns-in_err-found-clause-share c =
    keeps_passed c.args.kernel c.args.store.now c.paced_where_needed.new.store c.in_err-found.field-0.0 c.in_err-found.ensures.share c.from_residual.result c.from_residual.ensures.1

pub returns-in-Some-clause-root : goal.returns-in-Some-clause-root
returns-in-Some-clause-root c =
    let gets = subst (λ o. MatchOption o (NeedsNoPaces c.args.kernel) (λ paced. (least : List ℕ) × GetsPaces c.args.kernel paced least)) c.in-Some.is c.in_ok-found.ensures.paced in
    inl (c.paced_kernels_have_a_root.ensures.root c.args.kernel c.in-Some.paced gets.0 c.requires.valid gets.1)

pub returns-in-Some-clause-traces : goal.returns-in-Some-clause-traces
returns-in-Some-clause-traces c least gets =
    c.paced_kernels_have_the_old_traces.ensures c.args.kernel least c.requires.valid (λ m there. ((gets.needs.clocks.all m).0 there).maximal.is)
