-- Every program comes to an outcome of a build, and every image file to one of its run; and each that is good is done.
use Rattle.sig_image_command.proofs.Common.{◌≡◌, ◌∙◌, ◌⊎◌, ◌<◌, ◌≤◌, ℕ, ℤ, Bool, false, List, length, Option, None, Some, inl, inr, refl, sym, ap, subst, cases_lt, PROGRAM_BYTES, Contents, Settings, Kernel, AreFlows, image_bytes, ImageView, IMAGE_BYTES, Absent, Good, Long, Outcome, done, long_image, refused, IsEnded, behind_data, behind_program, AreRefused, IsAcceptedAs, accepted_once, accepted_or_refused, refused_once, AtFlows, RefusesFlows, flows_either, some_at_data, flows_apart, no_flows_line, one_flows, AreFewBytes, AreManyBytes, BuildComesTo, BuildsTo, IsKernelImage, CanBuild, CanExec, ExecComesTo, ExecutesTo, executed, inputs_of_image, IsSoundFile, RefusesImage}
use Rattle.sig_text.specs.Read.{IsLongerThan}
use Rattle.sig_outcome.specs.Outcomes.{Bad, Holds, long_file, not_found}
use Rattle.sig_program.proofs.SomeVerdict.{HasVerdict, some_at_plan}
use Rattle.sig_image_command.specs.ImageFiles.{AreBytes}
use Rattle.sig_image_command.proofs.FileVerdict.{image_verdict}
use Rattle.sig_image_command.proofs.ImageRuns.{some_image_run}
use Rattle.sig_image_command.proofs.FileOnce.{image_apart, one_image_line, one_sound}
use Rattle.sig_image_command.proofs.ImageOnce.{image_once, some_image}
use Rattle.sig_image_command.proofs.Inputs.{flows_fit}
use Rattle.sig_image_command.proofs.OneBuild.{bytes_apart}
use Rattle.sig_image_command.proofs.Written.{is_ended}

-- ---- builds

module _ (held : Contents) (program : List ℕ) where
  of_length : (kernel : Kernel) (image : ImageView) → IsKernelImage kernel image → AreManyBytes (image_bytes image) ⊎ AreFewBytes (image_bytes image) → (o : Outcome) × BuildsTo kernel program o
  of_length kernel image of (inl many) = (refused 10 long_image (Some program), inr (record { image = image; of = of; fact = (many, refl) }))
  of_length kernel image of (inr few) = (done (image_bytes image) program, inl (record { image = image; of = of; fact = (few, refl) }))

  pub some_build : (kernel : Kernel) → Holds (held program) PROGRAM_BYTES (λ bytes. IsAcceptedAs false bytes kernel) → (o : Outcome) × BuildComesTo held program o
  some_build kernel accepted =
      let image = some_image kernel accepted.good.has.valid accepted.good.accepted in
      let built = of_length kernel image.0 image.1 (cases_lt IMAGE_BYTES (length (image_bytes image.0))) in
      (built.0, (Good kernel, accepted, built.1))

  -- and whatever the program file holds
  pub any_build : ((pace : Bool) (bytes : List ℕ) → HasVerdict pace bytes) → (o : Outcome) × BuildComesTo held program o
  any_build verdicts = some_at_plan verdicts false held program (λ kernel. BuildsTo kernel program) (λ kernel accepted.
      let image = some_image kernel accepted.good.has.valid accepted.good.accepted in
      of_length kernel image.0 image.1 (cases_lt IMAGE_BYTES (length (image_bytes image.0))))

  module _ (can : CanBuild held program) where
    done_built : (o : Outcome) → BuildsTo can.kernel program o → o ≡ done (image_bytes can.few.image) program
    done_built o (inl few) =
        few.fact.1 ∙ ap (λ (image : ImageView). done (image_bytes image) program) (image_once can.kernel few.image can.few.image few.of can.few.of)
    done_built o (inr many) = absurd (bytes_apart can.kernel _ _ (λ bytes few. few) (λ bytes fact. fact.0) can.few many)

    pub only_build : (o : Outcome) → BuildComesTo held program o → o ≡ done (image_bytes can.few.image) program
    only_build o x =
        done_built o (behind_program (IsAcceptedAs false) (AreRefused false) (accepted_once false) (refused_once false) (accepted_or_refused false) held program can.kernel (λ kernel. BuildsTo kernel program) o can.accepted x)

    pub is_built : BuildComesTo held program (done (image_bytes can.few.image) program)
    is_built = (Good can.kernel, can.accepted, inl (record { image = can.few.image; of = can.few.of; fact = (can.few.fact, refl) }))

    pub build_status_is : (o : Outcome) → BuildComesTo held program o → o.status ≡ 0
    build_status_is o x = ap (λ (p : Outcome). p.status) (only_build o x)

-- ---- runs of images

module _ (held : Contents) (file flows : List ℕ) (settings : Settings) where
  module _ (image : ImageView) (sound : Holds (held file) IMAGE_BYTES (λ bytes. IsSoundFile bytes image)) where
    some_end : (values : List (List ℤ)) (bytes : List ℕ) → AreFlows (inputs_of_image image) bytes values → (o : Outcome) × ExecutesTo image values settings.instants flows o
    some_end values bytes read =
        let run = some_image_run image sound.good.file.right sound.good.sound values settings.instants (flows_fit image sound.good.file.right bytes values read) in
        (executed image run.0 run.1 flows, record { text = run.0; end = run.1; runs = run.2; is = refl })

    some_behind : (o : Outcome) × AtFlows held flows (inputs_of_image image) (λ values. ExecutesTo image values settings.instants flows) o
    some_behind =
        some_at_data (AreFlows (inputs_of_image image)) (RefusesFlows flows (inputs_of_image image)) (flows_either flows (inputs_of_image image)) held flows
        (λ values. ExecutesTo image values settings.instants flows) some_end

    pub some_exec : (o : Outcome) × ExecComesTo held file flows settings o
    some_exec = (some_behind.0, (Good image, sound, some_behind.1))

  -- and whatever bytes the image file holds
  module _ (are : (bytes : List ℕ) → held file ≡ Some bytes → AreBytes bytes) where
    of_bytes : (bytes : List ℕ) → held file ≡ Some bytes → (IMAGE_BYTES < length bytes) ⊎ (length bytes ≤ IMAGE_BYTES)
        → ((image : ImageView) × IsSoundFile bytes image) ⊎ ((line : List ℕ) × RefusesImage file bytes line) → (o : Outcome) × ExecComesTo held file flows settings o
    of_bytes bytes there (inl long) verdict = (refused 4 (long_file file) (Some file), (Long, subst (λ (found : Option (List ℕ)). IsLongerThan found IMAGE_BYTES) (sym there) long, refl))
    of_bytes bytes there (inr short) (inr bad) = (refused 4 bad.0 (Some file), (Bad bad.0, record { bytes = bytes; there = there; short = short; good = bad.1 }, refl))
    of_bytes bytes there (inr short) (inl good) = some_exec good.0 (record { bytes = bytes; there = there; short = short; good = good.1 })

    of_file : (found : Option (List ℕ)) → held file ≡ found → (o : Outcome) × ExecComesTo held file flows settings o
    of_file None none = (refused 5 (not_found file) (Some file), (Absent, none, refl))
    of_file (Some bytes) there = of_bytes bytes there (cases_lt IMAGE_BYTES (length bytes)) (image_verdict file bytes (are bytes there))

    pub any_exec : (o : Outcome) × ExecComesTo held file flows settings o
    any_exec = of_file (held file) refl

  module _ (can : CanExec held file flows) where
    pub only_exec : (o : Outcome) → ExecComesTo held file flows settings o → ExecutesTo can.image can.values settings.instants flows o
    only_exec o x =
        behind_data (AreFlows (inputs_of_image can.image)) (RefusesFlows flows (inputs_of_image can.image)) (one_flows (inputs_of_image can.image))
        (no_flows_line flows (inputs_of_image can.image)) (flows_apart flows (inputs_of_image can.image)) held flows can.values (λ values. ExecutesTo can.image values settings.instants flows) o can.read
        (behind_data IsSoundFile (RefusesImage file) one_sound (one_image_line file) (image_apart file) held file can.image
        (λ image. AtFlows held flows (inputs_of_image image) (λ values. ExecutesTo image values settings.instants flows)) o can.sound x)

    pub exec_status_is : (o : Outcome) → ExecComesTo held file flows settings o → IsEnded o.status
    exec_status_is o x = let run = only_exec o x in subst IsEnded (sym (ap (λ (p : Outcome). p.status) run.is)) (is_ended run.end.cause)
