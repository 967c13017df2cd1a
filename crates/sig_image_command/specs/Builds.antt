-- What the command `build` comes to over told contents.
use Rattle.std.specs.Prelude.{◌≡◌, ◌⊎◌, ◌≤◌, ◌<◌, ⊤, ℕ, false, List, length, Some}
use Rattle.sig_text.specs.Files.{Contents, name_where_there}
use Rattle.sig_kernel.specs.declared.kernel.Kernel.{Kernel}
use Rattle.sig_plan.specs.Plans.{PlanView}
use Rattle.sig_deciding_laws.specs.KernelRuns.{IsPlanOf}
use Rattle.sig_file.specs.Bytes.{image_bytes}
use Rattle.sig_file.specs.Images.{ImageView}
use Rattle.sig_file.specs.PlanImages.{image_of}
use Rattle.sig_file.specs.declared.limits.TheConstants.{IMAGE_BYTES}
use Rattle.sig_base.specs.declared.limits.TheConstants.{PROGRAM_BYTES}
use Rattle.sig_outcome.specs.Outcomes.{Holds, Outcome, done, long_image, refused}
use Rattle.sig_outcome.specs.Refusals.{IsOfLength}
use Rattle.sig_outcome.specs.Tasks.{Task}
use Rattle.sig_outcome.specs.declared.refusal.Refusal.{Refusal}
use Rattle.sig_program.specs.Acceptance.{IsAcceptedAs}
use Rattle.sig_program.specs.Programs.{AtPlan, HoldsBeyondBound, IsAboutPlan, IsCompileStatus}

-- The image of a kernel: that of a plan of it. All its plans have one image (the law `images_of_kernels_are_one`).
pub record IsKernelImage (kernel : Kernel) (image : ImageView) : Type 0 where
  pub plan : PlanView
  pub of : IsPlanOf kernel plan
  pub is : image ≡ image_of plan

-- the image of a kernel has so many bytes that a fact of them holds
pub record HasImage (kernel : Kernel) (Fact : List ℕ → Type 0) : Type 0 where
  pub image : ImageView
  pub of : IsKernelImage kernel image
  pub fact : Fact (image_bytes image)

-- the bytes of an image are few enough, or too many
abbrev pub AreFewBytes : List ℕ → Type 0
AreFewBytes bytes = length bytes ≤ IMAGE_BYTES

abbrev pub AreManyBytes : List ℕ → Type 0
AreManyBytes bytes = IMAGE_BYTES < length bytes

-- bytes are those of the image of a plan, and few enough
pub record AreImageBytes (plan : PlanView) (bytes : List ℕ) : Type 0 where
  pub are : bytes ≡ image_bytes (image_of plan)
  pub few : AreFewBytes bytes

-- The building of a kernel's image: its bytes are due, or the command is refused where they are too many.
abbrev pub BuildsTo : Kernel → List ℕ → Outcome → Type 0
BuildsTo kernel program o =
    HasImage kernel (λ bytes. AreFewBytes bytes × (o ≡ done bytes program))
    ⊎ HasImage kernel (λ bytes. AreManyBytes bytes × (o ≡ refused 10 long_image (Some program)))

-- the building of a program's image over told contents comes to this
abbrev pub BuildComesTo : Contents → List ℕ → Outcome → Type 0
BuildComesTo held program o = AtPlan false held program (λ kernel. BuildsTo kernel program) o

-- its statuses, and the refusals that there may be
abbrev pub IsBuildStatus : ℕ → Type 0
IsBuildStatus status = IsCompileStatus status ⊎ (status ≡ 10)

abbrev pub IsAboutBuild : List ℕ → Refusal → Type 0
IsAboutBuild program r = IsAboutPlan program r ⊎ IsOfLength ⊤ r

abbrev pub building : List ℕ → Task
building program = record {
  comes = λ held o. BuildComesTo held program o;
  statuses = λ status. IsBuildStatus status;
  about = λ r. IsAboutBuild program r;
  begun = λ held at. at ≡ name_where_there held program;
  beyond = λ held. HoldsBeyondBound false (held program);
}

-- a file holds an accepted program whose image has too many bytes
pub record HasLongImage (held : Contents) (program : List ℕ) : Type 0 where
  pub kernel : Kernel
  pub accepted : Holds (held program) PROGRAM_BYTES (λ bytes. IsAcceptedAs false bytes kernel)
  pub many : HasImage kernel AreManyBytes

-- ---- what a build wrote

-- A build was done: the program file holds an accepted program, and the bytes of its image were taken.
pub record HasBuilt (held : Contents) (program : List ℕ) (Took : List ℕ → Type 0) : Type 0 where
  pub kernel : Kernel
  pub accepted : Holds (held program) PROGRAM_BYTES (λ bytes. IsAcceptedAs false bytes kernel)
  pub image : ImageView
  pub of : IsKernelImage kernel image
  pub few : AreFewBytes (image_bytes image)
  pub bytes : Took (image_bytes image)
