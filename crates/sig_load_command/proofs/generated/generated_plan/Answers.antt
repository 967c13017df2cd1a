use Rattle.sig_load_command.proofs.{◌≤◌, length, rules, PROGRAM_BYTES, program, of_program, IfErr-weaker, IfOk-weaker}
use Rattle.sig_load_command.proofs.generated.generated_plan.Goals as goal

pub returns-clause-program : goal.returns-clause-program
returns-clause-program c =
    let short : length (program c.args.stages) ≤ PROGRAM_BYTES = search rules in
    IfOk-weaker c.plan_of.result _ _ (λ plan is. (short, is)) (rw (c.deref.ensures.value, c.in-Ok.ensures) at c.plan_of.ensures.plan)

pub returns-clause-refused : goal.returns-clause-refused
returns-clause-refused c =
    let short : length (program c.args.stages) ≤ PROGRAM_BYTES = search rules in
    IfErr-weaker c.plan_of.result _ _ (λ r of. of_program (program c.args.stages) short r of) (rw (c.deref.ensures.value, c.in-Ok.ensures) at c.plan_of.ensures.refused)
