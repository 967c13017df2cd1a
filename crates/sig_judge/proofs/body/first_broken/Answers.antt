use Rattle.sig_judge.proofs.{◌≡◌, ◌<◌, length, get_or, subst, ◌∙◌, arith, get_or-set_other, length-set, FlatEquation, EquationSteps, equation_of, Equation, breaks_here, zip_more}
use Rattle.sig_judge.proofs.body.first_broken.Goals as goal

pub returns-then-not-step-clause-some : goal.returns-then-not-step-clause-some
returns-then-not-step-clause-some c =
    let was : c.index_mut.result.now ≡ get_or c.args.body.now.items c.loop-i.i c.index_mut.result.now = c.index_mut.ensures.value ∙ c.loop-i.invariant.rest c.loop-i.i c.index_mut.result.now (omega arith) in
    let within : c.loop-i.i < length c.args.body.now.items = omega arith in
    breaks_here equation_of c.args.row.now c.args.body.now.items c.loop-i.body.items c.loop-i.i c.index_mut.result.now within c.loop-i.invariant.done
    (subst (λ (e : Equation). (next : FlatEquation) → EquationSteps c.args.row.now (equation_of e) next → ⊥) was c.if-not-step.ensures)

pub loop-i-preserved : goal.loop-i-preserved
loop-i-preserved c =
    let was : c.index_mut.result.now ≡ get_or c.args.body.now.items c.loop-i.i c.index_mut.result.now = c.index_mut.ensures.value ∙ c.loop-i.invariant.rest c.loop-i.i c.index_mut.result.now (omega arith) in
    let within : c.loop-i.i < length c.args.body.now.items = omega arith in
    let below : c.loop-i.i < length c.loop-i.body.items = omega arith in
    record {
      same = length-set c.loop-i.body.items c.loop-i.i c.step.new.self ∙ c.loop-i.invariant.same;
      done = zip_more equation_of (EquationSteps c.args.row.now) c.args.body.now.items c.loop-i.body.items c.loop-i.i c.index_mut.result.now c.step.new.self c.loop-i.invariant.done within below
          (subst (λ (e : Equation). EquationSteps c.args.row.now (equation_of e) (equation_of c.step.new.self)) was c.if-not-step.ensures);
      rest = λ k d le. get_or-set_other c.loop-i.body.items c.loop-i.i k c.step.new.self d (omega arith) ∙ c.loop-i.invariant.rest k d (omega arith);
    }
