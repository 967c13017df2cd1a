-- What a program comes to over a flow file, the image that is built of it comes to.
use Rattle.sig_image_command.proofs.Common.{◌≡◌, ◌∙◌, ℕ, ℤ, List, Option, Some, inl, inr, sym, subst, Trace, Place, Contents, Settings, AreFlowsFor, Kernel, Ended, IsKernelEnd, inputs_of, output_text, AreFlows, read_fit, ImageView, end_in, IsImageRun, Absent, Bad, Good, Long, Found, Outcome, behind_program, AreRefused, IsAcceptedAs, accepted_once, accepted_or_refused, refused_once, AtFile, AtFlows, FindsFlows, RefusesFlows, long_file, IsKernelImage, ExecComesTo, ExecutesTo, inputs_of_image, IsSoundFile}
use Rattle.sig_outcome.specs.Outcomes.{Holds}
use Rattle.sig_loaded.specs.Runs.{AtLinks, HoldFew, RunComesTo, RunsTo}
use Rattle.sig_loaded.proofs.Plans.{items_apart}
use Rattle.sig_image_command.proofs.EndsAlike.{same_outcome}
use Rattle.sig_image_command.proofs.FlowsAlike.{same_bad_place, same_flows}

module _ (kernel : Kernel) (image : ImageView) (of : IsKernelImage kernel image) (flows : List ℕ) (limit : ℕ)
    (run : (values : List (List ℤ)) → AreFlowsFor kernel values → (trace : Trace) (place : Option Place) (end : Ended) → IsKernelEnd kernel values limit trace place end
    → IsImageRun image values limit (output_text kernel trace) (end_in kernel end)) where
  of_run : (values : List (List ℤ)) (bytes : List ℕ) → AreFlows (inputs_of kernel) bytes values → (o : Outcome) → RunsTo kernel values limit flows o → ExecutesTo image values limit flows o
  of_run values bytes read o x = record {
    text = output_text kernel x.trace;
    end = end_in kernel x.end;
    runs = run values (read_fit kernel bytes values read) x.trace x.place x.end x.ends;
    is = x.is ∙ sym (same_outcome kernel image of x.trace x.end flows);
  }

  of_line : (line bytes : List ℕ) → RefusesFlows flows (inputs_of kernel) bytes line → RefusesFlows flows (inputs_of_image image) bytes line
  of_line line bytes x = record { answer = x.answer; none = (same_bad_place kernel image of bytes x.answer).0 x.none; says = x.says }

  -- a flow file that gives something for the kernel gives it for the image
  pub of_flows : (held : Contents) (o : Outcome) → AtFlows held flows (inputs_of kernel) (λ values. RunsTo kernel values limit flows) o
      → AtFlows held flows (inputs_of_image image) (λ values. ExecutesTo image values limit flows) o
  of_flows held o x = by x.0 x.1 x.2 where
    by : (found : Found (List (List ℤ))) → FindsFlows (held flows) flows (inputs_of kernel) found
        → AtFile 4 (long_file flows) flows found (λ values. RunsTo kernel values limit flows) o
        → AtFlows held flows (inputs_of_image image) (λ values. ExecutesTo image values limit flows) o
    by Absent finds at = (Absent, finds, at)
    by Long finds at = (Long, finds, at)
    by (Bad line) finds at = (Bad line, record { bytes = finds.bytes; there = finds.there; short = finds.short; good = of_line line finds.bytes finds.good }, at)
    by (Good values) finds at = (
      Good values,
      record { bytes = finds.bytes; there = finds.there; short = finds.short; good = (same_flows kernel image of finds.bytes values).0 finds.good },
      of_run values finds.bytes finds.good o at,
    )

  module _ (held : Contents) (program file : List ℕ) (settings : Settings) (limited : limit ≡ settings.instants)
      (accepted : Holds (held program) 1048576 (λ bytes. IsAcceptedAs settings.pace bytes kernel))
      (sound : Holds (held file) 67108864 (λ bytes. IsSoundFile bytes image)) (few : HoldFew kernel settings.capacity) where
    behind : (o : Outcome) → AtLinks kernel settings.capacity (Some program) (AtFlows held flows (inputs_of kernel) (λ values. RunsTo kernel values settings.instants flows)) o
        → AtFlows held flows (inputs_of kernel) (λ values. RunsTo kernel values settings.instants flows) o
    behind o (inl many) = absurd (items_apart kernel accepted.good.has.valid settings.capacity many.0 few)
    behind o (inr rest) = rest.1

    pub of_program : (o : Outcome) → RunComesTo held program flows settings o → ExecComesTo held file flows settings o
    of_program o x =
        let at = behind_program (IsAcceptedAs settings.pace) (AreRefused settings.pace) (accepted_once settings.pace) (refused_once settings.pace) (accepted_or_refused settings.pace) held program kernel
        (λ k. AtLinks k settings.capacity (Some program) (AtFlows held flows (inputs_of k) (λ values. RunsTo k values settings.instants flows))) o accepted x in
        let flows_at = subst (λ n. AtFlows held flows (inputs_of kernel) (λ values. RunsTo kernel values n flows) o) (sym limited) (behind o at) in
        (Good image, sound, subst (λ n. AtFlows held flows (inputs_of_image image) (λ values. ExecutesTo image values n flows) o) limited (of_flows held o flows_at))
