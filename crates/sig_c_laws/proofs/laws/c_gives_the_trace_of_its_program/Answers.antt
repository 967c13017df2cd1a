use Rattle.std.proofs.Common.{◌≡◌, sym, subst}
use Rattle.sig_kernel.specs.OutputText.{output_text}
use Rattle.sig_file.specs.Images.{IsImage}
use Rattle.sig_shipped_laws.specs.Ends.{end_in}
use Rattle.sig_c.specs.SmallC.{TranslationUnit}
use Rattle.sig_c_step.specs.Correct.{ComesToInC}
use Rattle.sig_c_step.specs.Translation.{header_of, unit_of}
use Rattle.sig_c_write.specs.Text.{text_of}
use Rattle.sig_c_laws.proofs.ImageFlows.{flows_of_image}
use Rattle.sig_c_laws.proofs.laws.c_gives_the_trace_of_its_program.Goals as goal

pub returns : goal.returns
returns c = λ bytes kernel image few accepted of small names include notes named free noted unit is flows fit limit trace place ended ends.
    let right : IsImage image = (c.images_of_kernels_are_right.ensures bytes kernel image few accepted of small).file.right in
    let sound = c.images_run_as_their_kernels.ensures.sound kernel image of in
    let own = c.texts_are_units.ensures image names include notes right named free noted in
    let same : unit ≡ unit_of image names = c.texts_have_one_unit.ensures include (header_of image names) (text_of image names include notes) unit (unit_of image names) is own in
    let run = c.images_run_as_their_kernels.ensures.runs kernel image of flows fit limit trace place ended ends in
    subst (λ (u : TranslationUnit). ComesToInC (header_of image names) u image flows limit (output_text kernel trace) (end_in kernel ended)) (sym same)
    (c.steps_run_as_images.ensures image names right sound named flows (flows_of_image kernel image of right flows fit) limit (output_text kernel trace) (end_in kernel ended) run)
