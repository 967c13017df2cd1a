use Rattle.sig_verify.proofs.{◌*◌, ◌^◌, ◌⊎◌, subst, IsGuard, choices, guard_at, IsRefusal, IsWant, IsTired, err_weaker, few_behind, guard_unsound, guard_wants, guard_within, reads_unsound, reads_wants, write_known, write_sound, written_wants, pass_on, scene_mid}
use Rattle.sig_verify.proofs.verifier.Verifier.take.Goals as goal

pub guard-requires-clause-n : goal.guard-requires-clause-n
guard-requires-clause-n c = guard_within c.args.image.now c.args.n c.op_at-op.result.now c.op_at-op.ensures.op c.args.self.now c.requires.known c.op_at-op.ensures.right

pub returns-in_err-found-clause-want : goal.returns-in_err-found-clause-want
returns-in_err-found-clause-want c =
    pass_on (IsWant c.args.image.now) c.from_residual.result c.in_err-found.field-0.0 c.from_residual.ensures.1
    (guard_wants c.args.image.now c.args.n c.op_at-op.result.now c.op_at-op.ensures.op c.args.self.now c.requires.known c.op_at-op.ensures.right c.requires.n c.in_err-found.field-0.0 c.in_err-found.ensures.refused)

pub returns-in_default-clause-value : goal.returns-in_default-clause-value
returns-in_default-clause-value c =
    let none = subst (λ o. IsGuard c.guard.new.self.diagrams c.args.image.now c.guard.new.self.written c.op_at-op.result.now.guard o) c.in_default.is c.in_ok-found.ensures.value in (
      λ e. absurd cc,
      λ sound. absurd (guard_unsound c.args.image.now c.args.n c.op_at-op.result.now c.op_at-op.ensures.op c.args.self.now c.requires.known c.guard.new.self
          c.in_ok-found.ensures.next c.in_ok-found.ensures.written none sound),
    )

pub reads_written-requires-clause-written : goal.reads_written-requires-clause-written
reads_written-requires-clause-written c =
    (scene_mid c.args.image.now c.args.n c.op_at-op.result.now c.op_at-op.ensures.op c.args.self.now c.guard.new.self c.requires.known
    (10 * choices (guard_at c.args.image.now c.op_at-op.result.now.guard)) c.in_ok-found.ensures.next c.in_ok-found.ensures.written).of

pub reads_written-requires-clause-guard : goal.reads_written-requires-clause-guard
reads_written-requires-clause-guard c =
    let good = subst (λ o. IsGuard c.guard.new.self.diagrams c.args.image.now c.guard.new.self.written c.op_at-op.result.now.guard o) c.in-Some.is c.in_ok-found.ensures.value in
    good.function.of

pub returns-then-not-read-clause-value : goal.returns-then-not-read-clause-value
returns-then-not-read-clause-value c =
    let good = subst (λ o. IsGuard c.guard.new.self.diagrams c.args.image.now c.guard.new.self.written c.op_at-op.result.now.guard o) c.in-Some.is c.in_ok-found.ensures.value in (
      λ e. absurd cc,
      λ sound. absurd (reads_unsound c.args.image.now c.args.n c.op_at-op.result.now c.op_at-op.ensures.op c.args.self.now c.requires.known c.guard.new.self
          c.in_ok-found.ensures.next c.in_ok-found.ensures.written c.in-Some.guard good c.in_ok-read.read c.if-not-read.true c.in_ok-read.ensures.value sound),
    )

pub returns-in_err-read-clause-want : goal.returns-in_err-read-clause-want
returns-in_err-read-clause-want c =
    pass_on (IsWant c.args.image.now) c.from_residual-in_err-read.result c.in_err-read.field-0.0 c.from_residual-in_err-read.ensures.1
    (reads_wants c.args.image.now c.args.n c.op_at-op.result.now c.op_at-op.ensures.op c.args.self.now c.requires.known c.guard.new.self c.in_ok-found.ensures.next c.in_ok-found.ensures.written
    c.op_at-op.ensures.right c.in_ok-found.ensures.work c.requires.n c.in_err-read.field-0.0 c.in_err-read.ensures.refused)

pub write_target-requires-clause-written : goal.write_target-requires-clause-written
write_target-requires-clause-written c =
    (scene_mid c.args.image.now c.args.n c.op_at-op.result.now c.op_at-op.ensures.op c.args.self.now c.guard.new.self c.requires.known
    (10 * choices (guard_at c.args.image.now c.op_at-op.result.now.guard)) c.in_ok-found.ensures.next c.in_ok-found.ensures.written).of

pub write_target-requires-clause-guard : goal.write_target-requires-clause-guard
write_target-requires-clause-guard c =
    let good = subst (λ o. IsGuard c.guard.new.self.diagrams c.args.image.now c.guard.new.self.written c.op_at-op.result.now.guard o) c.in-Some.is c.in_ok-found.ensures.value in
    good.function.of

pub returns-clause-value : goal.returns-clause-value
returns-clause-value c =
    let good = subst (λ o. IsGuard c.guard.new.self.diagrams c.args.image.now c.guard.new.self.written c.op_at-op.result.now.guard o) c.in-Some.is c.in_ok-found.ensures.value in
    write_sound c.args.image.now c.args.n c.op_at-op.result.now c.op_at-op.ensures.op c.args.self.now c.requires.known c.guard.new.self c.in_ok-found.ensures.next c.in_ok-found.ensures.written
    c.in-Some.guard good (c.in_ok-read.ensures.value.0 c.if-not-read.false) c.target.result c.target.ensures c.write_target.result c.write_target.ensures.value

pub returns-clause-known : goal.returns-clause-known
returns-clause-known c =
    let good = subst (λ o. IsGuard c.guard.new.self.diagrams c.args.image.now c.guard.new.self.written c.op_at-op.result.now.guard o) c.in-Some.is c.in_ok-found.ensures.value in
    write_known c.args.image.now c.args.n c.op_at-op.result.now c.op_at-op.ensures.op c.args.self.now c.requires.known c.guard.new.self c.in_ok-found.ensures.next c.in_ok-found.ensures.written
    c.in-Some.guard good (c.in_ok-read.ensures.value.0 c.if-not-read.false) c.target.result c.target.ensures c.op_at-op.ensures.right c.in_ok-found.ensures.good c.in_ok-found.ensures.told
    c.write_target.new.self c.write_target.ensures.next c.write_target.ensures.guards c.write_target.ensures.told c.write_target.result c.write_target.ensures.taken
    (few_behind c.args.image.now c.args.n c.op_at-op.result.now c.op_at-op.ensures.op c.args.self.now c.requires.known c.guard.new.self c.in_ok-found.ensures.next c.in_ok-found.ensures.written
    c.op_at-op.ensures.right c.in_ok-found.ensures.work c.reads_written.new.work c.in_ok-read.ensures.counted c.write_target.new.self.work c.write_target.ensures.counted)

pub returns-clause-want : goal.returns-clause-want
returns-clause-want c =
    err_weaker (λ answer. IsRefusal c.guard.new.self.diagrams 1 answer ⊎ IsTired c.reads_written.new.work (2 ^ c.guard.new.self.diagrams.conditions) answer) (IsWant c.args.image.now) c.write_target.result
    (written_wants c.args.image.now c.args.n c.op_at-op.result.now c.op_at-op.ensures.op c.args.self.now c.requires.known c.guard.new.self c.in_ok-found.ensures.next c.in_ok-found.ensures.written
    c.op_at-op.ensures.right c.in_ok-found.ensures.work c.reads_written.new.work c.in_ok-read.ensures.counted c.requires.n) c.write_target.ensures.refused
