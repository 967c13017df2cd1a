-- What the command `exec` comes to over told contents.
-- The refusals of the command are tried in the order in which the equations below stand.
use Rattle.std.specs.Prelude.{◌≡◌, ◌⊎◌, ℕ, ℤ, Bool, List, map, take, Option, Some}
use Rattle.sig_base.specs.declared.limits.TheConstants.{FLOW_BYTES}
use Rattle.sig_base.specs.declared.signal.Signal.{Signal}
use Rattle.sig_text.specs.Files.{Contents, name_where_there}
use Rattle.sig_words.specs.declared.command.Settings.{Settings}
use Rattle.sig_flow.specs.Flows.{AreFlows}
use Rattle.sig_file.specs.Images.{ImageView}
use Rattle.sig_file.specs.ImageRuns.{IsImageRun}
use Rattle.sig_file.specs.declared.images.ImageSignal.{ImageSignal}
use Rattle.sig_file.specs.declared.limits.TheConstants.{IMAGE_BYTES}
use Rattle.sig_file.specs.declared.run.ImageEnd.{ImageEnd}
use Rattle.sig_outcome.specs.Outcomes.{Holds, Outcome}
use Rattle.sig_outcome.specs.Tasks.{IsEnded, Task, Writes}
use Rattle.sig_outcome.specs.declared.refusal.Refusal.{Refusal}
use Rattle.sig_loaded.specs.Runs.{AtFlows, IsAboutFlows}
use Rattle.sig_image_command.specs.ExecEnds.{exec_line, exec_status}
use Rattle.sig_image_command.specs.ImageFiles.{AtImage, HoldsBeyondVerifying, IsAboutFile, IsSoundFile}

-- ---- the inputs

-- An input of an image, as a flow file is read for one: by its name and its kind. An image says nothing of its cluster and
-- its place.
abbrev pub input_of : ImageSignal → Signal
input_of signal = record { name = signal.name; kind = signal.kind; cluster = 0; at = record { line = 0; col = 0 } }

abbrev pub inputs_of_image : ImageView → List Signal
inputs_of_image image = map input_of (take image.inputs image.signals)

-- ---- the run

-- the outcome of a run of an image with this text and this end
abbrev pub executed : ImageView → List ℕ → ImageEnd → List ℕ → Outcome
executed image text end file =
    record { text = text; status = exec_status end.cause; line = exec_line image end; file = Some file }

-- The run of an image over flows, for at most so many instants.
pub record ExecutesTo (image : ImageView) (flows : List (List ℤ)) (limit : ℕ) (file : List ℕ) (o : Outcome) : Type 0 where
  pub text : List ℕ
  pub end : ImageEnd
  pub runs : IsImageRun image flows limit text end
  pub is : o ≡ executed image text end file

-- ---- the command

-- the run of an image file over told contents comes to this
abbrev pub ExecComesTo : Contents → (image flows : List ℕ) → Settings → Outcome → Type 0
ExecComesTo held file flows settings o =
    AtImage held file (λ image.
    AtFlows held flows (inputs_of_image image) (λ values. ExecutesTo image values settings.instants flows)) o

-- its statuses, the refusals that there may be, and the file that was begun last
abbrev pub IsExecStatus : ℕ → Type 0
IsExecStatus status = IsEnded status ⊎ ((status ≡ 6) ⊎ ((status ≡ 4) ⊎ ((status ≡ 5) ⊎ ((status ≡ 7) ⊎ (status ≡ 8)))))

abbrev pub IsAboutExec : (image flows : List ℕ) → Refusal → Type 0
IsAboutExec file flows r = IsAboutFile file r ⊎ IsAboutFlows flows r

abbrev pub HasBegunExec : Contents → (image flows : List ℕ) → Option (List ℕ) → Type 0
HasBegunExec held file flows at = (at ≡ name_where_there held file) ⊎ (at ≡ name_where_there held flows)

abbrev pub executing : (image flows : List ℕ) → Settings → Task
executing file flows settings = record {
  comes = λ held o. ExecComesTo held file flows settings o;
  statuses = λ status. IsExecStatus status;
  about = λ r. IsAboutExec file flows r;
  begun = λ held at. HasBegunExec held file flows at;
  beyond = λ held. HoldsBeyondVerifying (held file);
}

-- ---- what a run of an image wrote

-- the text of the run of an image and the line of its end were written, or a write failed
pub record WritesExec {S : Type 0} (image : ImageView) (flows : List (List ℤ)) (limit : ℕ) (took : S → List ℕ → S → Type 0) (out out' : S) (wrote wrote' : ℕ) (clean : Bool) (Said : List ℕ → Type 0) (status : ℕ) : Type 0 where
  pub text : List ℕ
  pub end : ImageEnd
  pub runs : IsImageRun image flows limit text end
  pub writes : Writes text (exec_line image end) (exec_status end.cause) took out out' wrote wrote' clean Said status

-- A run of an image came to its end: the image file holds a sound image and the flow file flows of its inputs, the text of
-- the image's run was taken, and the line was said that names its cause.
pub record HasExecuted (held : Contents) (file flows : List ℕ) (settings : Settings) (status : ℕ) (Took Said : List ℕ → Type 0) : Type 0 where
  pub image : ImageView
  pub sound : Holds (held file) IMAGE_BYTES (λ bytes. IsSoundFile bytes image)
  pub values : List (List ℤ)
  pub read : Holds (held flows) FLOW_BYTES (λ bytes. AreFlows (inputs_of_image image) bytes values)
  pub text : List ℕ
  pub end : ImageEnd
  pub runs : IsImageRun image values settings.instants text end
  pub numbered : status ≡ exec_status end.cause
  pub took : Took text
  pub said : Said (exec_line image end)
