-- When nothing but want of memory or of nodes keeps an image from being built, and a run of an image from its end.
use Rattle.std.specs.Prelude.{ℕ, ℤ, List, false}
use Rattle.sig_base.specs.declared.limits.TheConstants.{FLOW_BYTES, PROGRAM_BYTES}
use Rattle.sig_text.specs.Files.{Contents}
use Rattle.sig_kernel.specs.declared.kernel.Kernel.{Kernel}
use Rattle.sig_flow.specs.Flows.{AreFlows}
use Rattle.sig_file.specs.Images.{ImageView}
use Rattle.sig_file.specs.declared.limits.TheConstants.{IMAGE_BYTES}
use Rattle.sig_outcome.specs.Outcomes.{Holds}
use Rattle.sig_program.specs.Acceptance.{IsAcceptedAs}
use Rattle.sig_image_command.specs.Builds.{AreFewBytes, HasImage}
use Rattle.sig_image_command.specs.Execs.{inputs_of_image}
use Rattle.sig_image_command.specs.ImageFiles.{IsSoundFile}

-- the file holds an accepted program, whose image has few enough bytes
pub record CanBuild (held : Contents) (program : List ℕ) : Type 0 where
  pub kernel : Kernel
  pub accepted : Holds (held program) PROGRAM_BYTES (λ bytes. IsAcceptedAs false bytes kernel)
  pub few : HasImage kernel AreFewBytes

-- the file holds a sound image, and the flow file has a reading for its inputs
pub record CanExec (held : Contents) (file flows : List ℕ) : Type 0 where
  pub image : ImageView
  pub sound : Holds (held file) IMAGE_BYTES (λ bytes. IsSoundFile bytes image)
  pub values : List (List ℤ)
  pub read : Holds (held flows) FLOW_BYTES (λ bytes. AreFlows (inputs_of_image image) bytes values)
