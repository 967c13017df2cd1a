use Rattle.sig_program.proofs.{◌<◌, ◌^◌, length, arith, told_or_paced, with_verdict}
use Rattle.sig_program.proofs.laws.kernels_have_a_verdict.Goals as goal

pub returns : goal.returns
returns c = λ pace bytes own short has.
    let small = c.kernels_of_texts.ensures.small bytes own short has.text in
    let few : length own.equations < 2 ^ 31 = omega (arith, small) in
    with_verdict c.kernels_are_accepted_or_refused.ensures bytes short own has
    (told_or_paced own (λ kernel least gets. c.paced_kernels_are_valid.ensures own kernel least has.valid gets few) has.valid (c.kernels_are_paced_or_refused.ensures own)) pace
