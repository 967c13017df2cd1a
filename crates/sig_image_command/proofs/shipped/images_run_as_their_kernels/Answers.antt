use Rattle.sig_image_command.proofs.{ℕ, ℤ, List, Option, sym, subst, Trace, Place, output_text, AreFlowsFor, Kernel, Ended, IsKernelEnd, plan_end, IsSoundImage, IsImageRun, ImageView, image_of, end_in, runs_as, sound, IsKernelImage}
use Rattle.sig_image_command.proofs.shipped.images_run_as_their_kernels.Goals as goal

pub returns-clause-sound : goal.returns-clause-sound
returns-clause-sound c = λ kernel image of. subst IsSoundImage (sym of.is) (sound of.plan of.of.accepted)

pub returns-clause-runs : goal.returns-clause-runs
returns-clause-runs c = λ kernel image of flows fit limit trace place ended ends.
    let same = of.of.same in
    let end = plan_end of.plan of.of.accepted flows limit trace place ended (subst (λ (k : Kernel). IsKernelEnd k flows limit trace place ended) (sym same) ends) in
    let runs = runs_as of.plan of.of.accepted flows (subst (λ (k : Kernel). AreFlowsFor k flows) (sym same) fit) limit trace place ended end in
    subst (λ (i : ImageView). IsImageRun i flows limit (output_text kernel trace) (end_in kernel ended)) (sym of.is)
    (subst (λ (k : Kernel). IsImageRun (image_of of.plan) flows limit (output_text k trace) (end_in k ended)) same runs)
