use Rattle.sig_image_command.proofs.{◌≡◌, ℕ, false, List, Some, refl, sym, subst, Contents, Settings, Kernel, ImageView, image_bytes, Outcome, IsAcceptedAs, IsKernelImage, AreFewBytes, AtFlows, AtImage, ExecComesTo, ExecutesTo, IsSoundFile, inputs_of_image, of_program}
use Rattle.sig_outcome.specs.Outcomes.{Holds}
use Rattle.sig_loaded.specs.Runs.{HoldFew, RunComesTo}
use Rattle.sig_image_command.proofs.shipped.built_images_come_to_what_their_programs_do.Goals as goal

come : (c : goal.After-execs_have_one_outcome) → (held : Contents) (program file flows : List ℕ) (settings of_exec : Settings) (kernel : Kernel) (image : ImageView)
    → settings.pace ≡ false → settings.instants ≡ of_exec.instants → Holds (held program) 1048576 (λ bytes. IsAcceptedAs false bytes kernel) → IsKernelImage kernel image → AreFewBytes (image_bytes image)
    → held file ≡ Some (image_bytes image) → HoldFew kernel settings.capacity → (o : Outcome) → RunComesTo held program flows settings o → ExecComesTo held file flows of_exec o
come c held program file flows settings of_exec kernel image unpaced alike accepted of short there few o run =
    let sound : Holds (held file) 67108864 (λ bytes. IsSoundFile bytes image) = record {
      bytes = image_bytes image;
      there = there;
      short = short;
      good = c.images_of_kernels_are_right.ensures accepted.bytes kernel image accepted.short accepted.good of short;
    } in
    let as_settings = subst (λ pace. Holds (held program) 1048576 (λ bytes. IsAcceptedAs pace bytes kernel)) (sym unpaced) accepted in
    let comes = of_program kernel image of flows settings.instants (λ values fit. c.images_run_as_their_kernels.ensures.runs kernel image of values fit settings.instants)
    held program file settings refl as_settings sound few o run in
    subst (λ n. AtImage held file (λ of_file. AtFlows held flows (inputs_of_image of_file) (λ values. ExecutesTo of_file values n flows)) o) alike comes

pub returns-clause-comes : goal.returns-clause-comes
returns-clause-comes c = come c

pub returns-clause-same : goal.returns-clause-same
returns-clause-same c = λ held program file flows settings of_exec kernel image unpaced alike accepted of short there few o other run exec.
    c.execs_have_one_outcome.ensures.one held file flows of_exec o other
    (come c held program file flows settings of_exec kernel image unpaced alike accepted of short there few o run) exec
