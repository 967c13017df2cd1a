use Rattle.sig_work.proofs.{◌≡◌, ◌∙◌, ◌++◌, [], List, length, take, drop, ap, arith, rules, written_back, base_kept, base_requires, base_served, base_stopped, clusters_alike, moved_begun, moved_kept, moved_served, moved_stopped, nil_of, pushed_begun, pushed_kept, pushed_middle, pushed_served, pushed_stopped, served_alike, IsServedAs, Share}
use Rattle.sig_work.proofs.workers.+with_workers.Goals as goal

pub serve-result-requires : goal.serve-result-requires
serve-result-requires g t c =
    let empty : c.args.others.items ≡ [] = nil_of c.args.others.items (let a = c.in_default.ensures.cases.0 in let b = c.args.others.ok.0 in omega (arith, a, b)) in
    record { run = base_requires c.args.plan.now c.args.inputs.now c.args.word.now c.args.others.items c.args.mine.items c.deref_mut.result.now empty c.deref_mut.ensures.value c.requires.run }

pub returns-in_default : goal.returns-in_default
returns-in_default g t c =
    let empty : c.args.others.items ≡ [] = nil_of c.args.others.items (let a = c.in_default.ensures.cases.0 in let b = c.args.others.ok.0 in omega (arith, a, b)) in
    let new = c.serve-result.new.shares in
    let back : take c.args.mine.len (new ++ drop (length new) c.args.mine.items) ≡ new = written_back new (drop (length new) c.args.mine.items) c.args.mine.len
    (let a = c.serve-result.ensures.same.count in let b = ap (λ (xs : List Share). length xs) c.deref_mut.ensures.value in let d = c.args.mine.ok.0 in omega (arith, a, b, d)) in
    record {
      kept = base_kept c.args.plan.now c.args.inputs.now c.args.word.now c.args.others.items c.args.mine.items c.deref_mut.result.now new (take c.args.mine.len (new ++ drop (length new) c.args.mine.items)) empty c.deref_mut.ensures.value back c.serve-result.ensures.same;
      capacity = search rules;
      served = base_served c.args.plan.now c.args.inputs.now c.args.word.now g.S.Sink.took c.args.sink.now c.serve-result.new.sink c.serve-result.result
          c.args.others.items c.args.mine.items c.deref_mut.result.now new (take c.args.mine.len (new ++ drop (length new) c.args.mine.items)) empty c.deref_mut.ensures.value back c.serve-result.ensures.served;
      stopped = base_stopped c.args.plan.now c.args.inputs.now c.args.word.now g.S.Sink.took c.args.sink.now c.serve-result.new.sink c.serve-result.result
          c.args.others.items c.args.mine.items c.deref_mut.result.now new (take c.args.mine.len (new ++ drop (length new) c.args.mine.items)) empty c.deref_mut.ensures.value back c.serve-result.ensures.stopped;
      failed = search rules;
      faults_stay = search rules;
    }

pub spawn_with-requires-clause-runs : goal.spawn_with-requires-clause-runs
spawn_with-requires-clause-runs g t c κs within = λ a b d e f.
    pushed_middle c.args.plan.now c.args.inputs.now c.args.word.now c.args.others.items c.pop.new.self.items c.args.mine.items c.in-Some.share c.in-Some.ensures.items c.requires.run

pub with_workers-shares-requires-clause-run : goal.with_workers-shares-requires-clause-run
with_workers-shares-requires-clause-run g t c κs within =
    pushed_begun c.args.plan.now c.args.inputs.now c.args.word.now c.args.others.items c.pop.new.self.items c.args.mine.items c.in-Some.share c.in-Some.ensures.items c.requires.run

pub spawn_with-requires-in-Err-asks-served-requires :
    goal.spawn_with-requires-in-Err-asks-served-requires
spawn_with-requires-in-Err-asks-served-requires g t c κs within = λ a b d e f. (
    let value = c.in-Err.back.value in
    let plan_is : value.1.now ≡ c.args.plan.now = λ i. (c.in-Err.ensures.err i).1.now in
    let flows_is : value.2.now ≡ c.args.inputs.now = λ i. (c.in-Err.ensures.err i).2.now in
    let word_is : value.3.now ≡ c.args.word.now = λ i. (c.in-Err.ensures.err i).3.now in
    let share_is : value.4 ≡ c.in-Some.share = λ i. (c.in-Err.ensures.err i).4 in
    let middle = pushed_middle c.args.plan.now c.args.inputs.now c.args.word.now c.args.others.items c.pop.new.self.items c.args.mine.items c.in-Some.share c.in-Some.ensures.items c.requires.run in
    clusters_alike c.args.plan.now value.1.now plan_is c.args.inputs.now value.2.now flows_is c.args.word.now value.3.now word_is c.in-Some.share value.4 share_is middle)

pub with_workers-requires-clause-run : goal.with_workers-requires-clause-run
with_workers-requires-clause-run g t c κs within =
    let value = c.in-Err.back.value in
    let plan_is : value.1.now ≡ c.args.plan.now = λ i. (c.in-Err.ensures.err i).1.now in
    let flows_is : value.2.now ≡ c.args.inputs.now = λ i. (c.in-Err.ensures.err i).2.now in
    let word_is : value.3.now ≡ c.args.word.now = λ i. (c.in-Err.ensures.err i).3.now in
    let share_is : value.4 ≡ c.in-Some.share = λ i. (c.in-Err.ensures.err i).4 in
    let said : IsServedAs value.1.now value.2.now value.3.now value.4 c.spawn_with-in-Err.result = search rules in
    let kept : IsServedAs c.args.plan.now c.args.inputs.now c.args.word.now c.in-Some.share c.spawn_with-in-Err.result =
    served_alike value.1.now c.args.plan.now plan_is value.2.now c.args.inputs.now flows_is value.3.now c.args.word.now word_is value.4 c.in-Some.share share_is c.spawn_with-in-Err.result said in
    moved_begun c.args.plan.now c.args.inputs.now c.args.word.now c.args.others.items c.pop.new.self.items c.args.mine.items c.in-Some.share c.in-Some.ensures.items c.requires.run
    c.push_reserved-in-Err.new.self.items c.spawn_with-in-Err.result c.push_reserved-in-Err.ensures.items kept

pub returns-in-Ok : goal.returns-in-Ok
returns-in-Ok g t c =
    let promise = c.in-Ok.handle.promise in
    let plan_is : promise.plan.now ≡ c.args.plan.now = λ i. (c.in-Ok.ensures.ok i).plan.now in
    let flows_is : promise.inputs.now ≡ c.args.inputs.now = λ i. (c.in-Ok.ensures.ok i).inputs.now in
    let word_is : promise.word.now ≡ c.args.word.now = λ i. (c.in-Ok.ensures.ok i).word.now in
    let share_of : promise.share.value ≡ c.of.result.value = λ i. (c.in-Ok.ensures.ok i).share.value in
    let kept : IsServedAs c.args.plan.now c.args.inputs.now c.args.word.now c.in-Some.share c.join.result =
    served_alike promise.plan.now c.args.plan.now plan_is promise.inputs.now c.args.inputs.now flows_is promise.word.now c.args.word.now word_is promise.share.value c.in-Some.share (share_of ∙ c.of.ensures) c.join.result c.join.ensures in
    record {
      kept = pushed_kept c.args.plan.now c.args.inputs.now c.args.word.now c.args.others.items c.pop.new.self.items c.args.mine.items c.in-Some.share c.join.result c.in-Some.ensures.items kept
          c.with_workers-shares.result.0.items c.push_reserved.new.self.items c.push_reserved.ensures.items c.with_workers-shares.ensures.kept;
      capacity = search rules;
      served = pushed_served c.args.plan.now c.args.inputs.now c.args.word.now g.S.Sink.took c.args.sink.now c.with_workers-shares.new.sink c.with_workers-shares.result.1
          c.pop.new.self.items c.args.mine.items c.in-Some.share c.join.result kept c.args.others.items c.with_workers-shares.result.0.items c.push_reserved.new.self.items c.in-Some.ensures.items c.push_reserved.ensures.items c.with_workers-shares.ensures.served;
      stopped = pushed_stopped c.args.plan.now c.args.inputs.now c.args.word.now g.S.Sink.took c.args.sink.now c.with_workers-shares.new.sink c.with_workers-shares.result.1
          c.pop.new.self.items c.args.mine.items c.in-Some.share c.join.result kept c.args.others.items c.with_workers-shares.result.0.items c.push_reserved.new.self.items c.in-Some.ensures.items c.push_reserved.ensures.items c.with_workers-shares.ensures.stopped;
      failed = search rules;
      faults_stay = search rules;
    }

pub returns-in-Err : goal.returns-in-Err
returns-in-Err g t c =
    let value = c.in-Err.back.value in
    let plan_is : value.1.now ≡ c.args.plan.now = λ i. (c.in-Err.ensures.err i).1.now in
    let flows_is : value.2.now ≡ c.args.inputs.now = λ i. (c.in-Err.ensures.err i).2.now in
    let word_is : value.3.now ≡ c.args.word.now = λ i. (c.in-Err.ensures.err i).3.now in
    let share_is : value.4 ≡ c.in-Some.share = λ i. (c.in-Err.ensures.err i).4 in
    let said : IsServedAs value.1.now value.2.now value.3.now value.4 c.spawn_with-in-Err.result = search rules in
    let kept : IsServedAs c.args.plan.now c.args.inputs.now c.args.word.now c.in-Some.share c.spawn_with-in-Err.result =
    served_alike value.1.now c.args.plan.now plan_is value.2.now c.args.inputs.now flows_is value.3.now c.args.word.now word_is value.4 c.in-Some.share share_is c.spawn_with-in-Err.result said in
    record {
      kept = moved_kept c.args.plan.now c.args.inputs.now c.args.word.now c.args.others.items c.pop.new.self.items c.args.mine.items c.in-Some.share c.spawn_with-in-Err.result c.in-Some.ensures.items kept
          c.push_reserved-in-Err.new.self.items c.with_workers.result.0.items c.push_reserved-in-Err.ensures.items c.with_workers.ensures.kept;
      capacity = search rules;
      served = moved_served c.args.plan.now c.args.inputs.now c.args.word.now g.S.Sink.took c.args.sink.now c.with_workers.new.sink c.with_workers.result.1
          c.pop.new.self.items c.args.mine.items c.in-Some.share c.spawn_with-in-Err.result kept c.args.others.items c.push_reserved-in-Err.new.self.items c.with_workers.result.0.items c.in-Some.ensures.items c.push_reserved-in-Err.ensures.items c.with_workers.ensures.served;
      stopped = moved_stopped c.args.plan.now c.args.inputs.now c.args.word.now g.S.Sink.took c.args.sink.now c.with_workers.new.sink c.with_workers.result.1
          c.pop.new.self.items c.args.mine.items c.in-Some.share c.spawn_with-in-Err.result kept c.args.others.items c.push_reserved-in-Err.new.self.items c.with_workers.result.0.items c.in-Some.ensures.items c.push_reserved-in-Err.ensures.items c.with_workers.ensures.stopped;
      failed = search rules;
      faults_stay = search rules;
    }
