-- The run of an image over told contents comes to one outcome at most.
use Rattle.sig_image_command.proofs.Common.{◌∙◌, ℕ, ℤ, List, inl, inr, ⊎_elim, refl, sym, ap, Contents, Settings, AreFlows, ImageView, ImageEnd, Good, OneAtMost, Outcome, long_file, status_of, Refusal, Missing, ReadFault, Budget, LongFile, Data, OutOfMemory, at_file_ends, one_at_data, AtFlows, FindsFlows, RefusesFlows, flows_apart, no_flows_line, one_flows, ExecComesTo, ExecutesTo, IsAboutExec, IsExecStatus, executed, inputs_of_image, AtImage, FindsImage, IsSoundFile, RefusesImage}
use Rattle.sig_image_command.proofs.ImageRuns.{one_image_run}
use Rattle.sig_image_command.proofs.FileOnce.{image_apart, one_image_line, one_sound}

-- a run of an image has one outcome
one_executing : (image : ImageView) (values : List (List ℤ)) (limit : ℕ) (file : List ℕ) → OneAtMost (ExecutesTo image values limit file)
one_executing image values limit file o p x y =
    let same = one_image_run image values limit x.text y.text x.end y.end x.runs y.runs in
    x.is ∙ ap (λ (text : List ℕ). executed image text x.end file) same.0 ∙ ap (λ (end : ImageEnd). executed image y.text end file) same.1 ∙ sym y.is

module _ (file flows : List ℕ) (settings : Settings) where
  -- what comes behind an image that is sound
  abbrev AtInputs : Contents → ImageView → Outcome → Type 0
  AtInputs held image o = AtFlows held flows (inputs_of_image image) (λ values. ExecutesTo image values settings.instants flows) o

  pub one_exec_outcome : (held : Contents) → OneAtMost (ExecComesTo held file flows settings)
  one_exec_outcome held =
      one_at_data IsSoundFile (RefusesImage file) one_sound (one_image_line file) (image_apart file) held file (λ image. AtInputs held image)
      (λ image bytes sound.
      one_at_data (AreFlows (inputs_of_image image)) (RefusesFlows flows (inputs_of_image image)) (one_flows (inputs_of_image image)) (no_flows_line flows (inputs_of_image image)) (flows_apart flows (inputs_of_image image)) held flows
      (λ values. ExecutesTo image values settings.instants flows)
      (λ values data_bytes read. one_executing image values settings.instants flows))

  module _ (held : Contents) where
    -- an image file that gives no sound image ends it
    pub image_refuses : (o : Outcome) → AtImage held file (λ _ _. ⊥) o → ExecComesTo held file flows settings o
    image_refuses o x = (x.0, x.1, at_file_ends 4 (long_file file) file x.0 (λ image. AtInputs held image) o x.2)

    module _ (image : ImageView) (good : FindsImage (held file) file (Good image)) where
      -- and so does a flow file that gives no flows
      pub inputs_refuse : (o : Outcome) → AtFlows held flows (inputs_of_image image) (λ _ _. ⊥) o → ExecComesTo held file flows settings o
      inputs_refuse o x =
          (Good image, good, (x.0, x.1, at_file_ends 4 (long_file flows) flows x.0 (λ values. ExecutesTo image values settings.instants flows) o x.2))

      -- else it comes to the run's end
      pub executes : (values : List (List ℤ)) → FindsFlows (held flows) flows (inputs_of_image image) (Good values) → (o : Outcome) → ExecutesTo image values settings.instants flows o → ExecComesTo held file flows settings o
      executes values read o x = (Good image, good, (Good values, read, x))

-- ---- statuses

pub exec_number : (file flows : List ℕ) (r : Refusal) → IsAboutExec file flows r → IsExecStatus (status_of r)
exec_number file flows (Missing n) about = inr (inr (inr (inl refl)))
exec_number file flows (ReadFault n) about = inr (inr (inr (inl refl)))
exec_number file flows (Budget nodes) about = inr (inr (inr (inr (inr refl))))
exec_number file flows (LongFile n) about = inr (inr (inl refl))
exec_number file flows (Data line) about = inr (inr (inl refl))
exec_number file flows OutOfMemory about = inr (inr (inr (inr (inl refl))))
exec_number file flows other about = absurd (⊎_elim (λ x. x) (λ x. x) about)
