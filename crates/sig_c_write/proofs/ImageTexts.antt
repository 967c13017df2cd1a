-- The text of an image is that of its step.
use Rattle.sig_file.specs.Images.{ImageView, IsImage}
use Rattle.sig_c.specs.SmallC.{Name}
use Rattle.sig_c.specs.Names.{HasNames}
use Rattle.sig_c.specs.File.{IsFile}
use Rattle.sig_c.specs.Texts.{IsUnitText}
use Rattle.sig_c.proofs.Files.{file_has}
use Rattle.sig_c.proofs.UnitTexts.{text_is}
use Rattle.sig_c_step.specs.Names.{AreNames, Names}
use Rattle.sig_c_step.specs.Translation.{header_of, unit_of, variables_of}
use Rattle.sig_c_step.proofs.LaidOut.{ends_printable, laid_helpers, step_laid}
use Rattle.sig_c_step.proofs.MayBeWritten.{may_be_written}
use Rattle.sig_c_write.specs.Text.{AreNotes, Notes, body_text, text_of}
use Rattle.sig_c_write.proofs.Bodies.{body_is}
use Rattle.sig_c_write.proofs.Laid.{may_all}

pub image_text_is : (image : ImageView) (names : Names) (include : Name) (notes : Notes) → IsImage image → AreNames image names → HasNames (header_of image names) (variables_of image names)
    → AreNotes include notes → IsUnitText include (header_of image names) (text_of image names include notes) (unit_of image names)
unfolding text_of
image_text_is image names include notes right named free are =
    let unit = may_be_written image names right named free in
    let file : IsFile notes.head include (unit_of image names) = record {
      comments = are.head;
      include_name = are.include_name;
      helpers = laid_helpers image;
      printable = ends_printable image right;
    } in
    text_is include (header_of image names) (unit_of image names) (text_of image names include notes) are.include_name unit
    (file_has notes.head include (header_of image names) (unit_of image names) (body_text image names notes.operations) file unit (body_is image names free.names notes.operations (may_all image right) are.operations (step_laid image right names) unit.step))
