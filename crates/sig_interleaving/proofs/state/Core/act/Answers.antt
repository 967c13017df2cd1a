use Rattle.sig_interleaving.proofs.{◌≡◌, ◌<◌, ◌≤◌, ℕ, arith, length, ap, refl, Some, slice_get, slice_index_or, err_from_is_err_and, commit_happened, lines_core, lines_happened, kept_happened, past_act_keeps, past_act_tells, state_there, IsCore, IsSameRun, Core, Given, Act, ClusterState, TookPrefix}
use Rattle.sig_interleaving.proofs.state.Core.act.Goals as goal

past : (core : Core) (k len : ℕ) → len ≡ core.states.len → len ≤ k → length core.states.items ≤ k
past core k len is le = let whole = core.states.ok.0 in omega (arith, le, is, whole)

there : (old new : Core) → IsCore old → IsCore new → IsSameRun old new → (k len : ℕ) → len ≡ old.states.len → k < len → (s : ClusterState) → s ≡ slice_index_or new.states.items k s
    → slice_get new.states.items k ≡ Some s
there old new is_old is_new same k len is lt s read = state_there old new is_old is_new same k (let whole = old.states.ok.0 in omega (arith, lt, is, whole)) s read

pub returns-then-k-len-clause-happened : goal.returns-then-k-len-clause-happened
returns-then-k-len-clause-happened g c =
    kept_happened g.S.Sink.took c.args.self.now c.args.self.now (Act c.args.k) c.args.sink.now (g.met.S.Sink.took_nothing c.args.sink.now) (past_act_keeps c.args.self.now c.args.k (past c.args.self.now c.args.k c.len.result c.len.ensures c.if-k-len.true))

pub returns-then-k-len-clause-answer : goal.returns-then-k-len-clause-answer
returns-then-k-len-clause-answer g c = past_act_tells c.args.self.now c.args.k (past c.args.self.now c.args.k c.len.result c.len.ensures c.if-k-len.true)

pub returns-in_err-put_reaction_at_once-in-Commit-clause-part : goal.returns-in_err-put_reaction_at_once-in-Commit-clause-part
returns-in_err-put_reaction_at_once-in-Commit-clause-part g c =
    let p = err_from_is_err_and c.from_residual.result c.from_residual.ensures.1 in
    rw p.1 (lines_happened c.step.new.self c.put_reaction_at_once.new.lines (TookPrefix g.S.Sink.took) (Act c.args.k) c.args.self.now c.args.sink.now c.put_reaction_at_once.new.sink
    (commit_happened (TookPrefix g.S.Sink.took) c.args.self.now c.step.new.self c.args.k c.index.result.now (there c.args.self.now c.step.new.self c.requires c.in-Commit.ensures.core c.in-Commit.ensures.run c.args.k c.len.result c.len.ensures c.if-k-len.false c.index.result.now c.index.ensures)
    c.step.new.self.plan.now.kernel refl (ap (λ (given : Given). given.plan.kernel) c.in-Commit.ensures.run)
    c.args.sink.now c.put_reaction_at_once.new.sink c.in_err-put_reaction_at_once-in-Commit.ensures.prefix c.in-Commit.ensures.stepped c.in-Commit.ensures.commits))

pub returns-in_err-put_reaction_at_once-in-Commit-clause-changed : goal.returns-in_err-put_reaction_at_once-in-Commit-clause-changed
returns-in_err-put_reaction_at_once-in-Commit-clause-changed g c =
    let p = err_from_is_err_and c.from_residual.result c.from_residual.ensures.1 in
    rw p.1 c.in-Commit.ensures.answer

pub returns-in_ok-put_reaction_at_once-in-Commit-clause-happened : goal.returns-in_ok-put_reaction_at_once-in-Commit-clause-happened
returns-in_ok-put_reaction_at_once-in-Commit-clause-happened g c =
    lines_happened c.step.new.self c.put_reaction_at_once.new.lines g.S.Sink.took (Act c.args.k) c.args.self.now c.args.sink.now c.put_reaction_at_once.new.sink
    (commit_happened g.S.Sink.took c.args.self.now c.step.new.self c.args.k c.index.result.now (there c.args.self.now c.step.new.self c.requires c.in-Commit.ensures.core c.in-Commit.ensures.run c.args.k c.len.result c.len.ensures c.if-k-len.false c.index.result.now c.index.ensures)
    c.step.new.self.plan.now.kernel refl (ap (λ (given : Given). given.plan.kernel) c.in-Commit.ensures.run)
    c.args.sink.now c.put_reaction_at_once.new.sink c.in_ok-put_reaction_at_once-in-Commit.ensures.all c.in-Commit.ensures.stepped c.in-Commit.ensures.commits)

pub returns-in_err-put_reaction_at_once-in-Commit-clause-core : goal.returns-in_err-put_reaction_at_once-in-Commit-clause-core
returns-in_err-put_reaction_at_once-in-Commit-clause-core g c = lines_core c.step.new.self c.put_reaction_at_once.new.lines c.in-Commit.ensures.core c.put_reaction_at_once.ensures.size

pub returns-in_ok-put_reaction_at_once-in-Commit-clause-core : goal.returns-in_ok-put_reaction_at_once-in-Commit-clause-core
returns-in_ok-put_reaction_at_once-in-Commit-clause-core g c = lines_core c.step.new.self c.put_reaction_at_once.new.lines c.in-Commit.ensures.core c.put_reaction_at_once.ensures.size
