use Rattle.sig_tool.proofs.{◌≡◌, ◌≤◌, ◌++◌, ◌∙◌, inl, inr, ℕ, ℤ, List, length, map, refl, sym, subst, arith, length-take, Option, Bounded, IsAcceptedKernel, IsKernelEnd, IsPaced, IsValid, Kernel, Place, Ended, Trace, AreFlowsFor, GetsPaces, HasOwnKernel, KeepInterleavings, KeepsHeadline, KeepsHeadlineAtPaces, KeepsHeadlineWithFlag, IsFittingAtPaces, Known, after, are_its_prefixes, are_prefixes_at_paces, at_paces, begins_whole_at_paces, at_some_paces, keeps_to_the_text, output_text, paced_kernel, reduce, restricted, run_of, without_paces}
use Rattle.sig_tool.proofs.headline.accepted_programs_keep_the_headline.Goals as goal

-- no more flows than inputs
few_flows : (kernel : Kernel) (flows : List (List ℤ)) → AreFlowsFor kernel flows → length flows ≤ kernel.inputs
few_flows kernel flows fit = let count = fit.count in omega (arith, count, length-take kernel.inputs kernel.signals)

-- the interleavings of the plans of a kernel
interleavings : (c : goal.After-finished_states_have_the_end) → (kernel : Kernel) → IsValid kernel → IsAcceptedKernel kernel → (flows : List (List ℤ))
    → AreFlowsFor kernel flows → (limit : ℕ) (trace : Trace) (place : Option Place) (end : Ended) → IsKernelEnd kernel flows limit trace place end
    → (text : List ℕ) → output_text kernel trace ≡ text → KeepInterleavings kernel flows limit text place end
interleavings c kernel valid accepted flows fits limit trace place end ends text written =
    let some_plan = c.accepted_kernels_have_plans.ensures kernel valid accepted in
    record {
      plan = some_plan.0;
      planned = some_plan.1;
      each = λ plan planned capacity least events.
          let given = run_of plan flows capacity limit in
          let fit = subst (λ (k : Kernel). AreFlowsFor k flows) (sym planned.same) fits in
          let is_end = c.ends_of_plans_are_those_of_their_kernels.ensures.plan plan planned.accepted flows limit trace place end
          (subst (λ (k : Kernel). IsKernelEnd k flows limit trace place end) (sym planned.same) ends) in
          keeps_to_the_text kernel trace text written place end given (after given events) planned.same planned.accepted.valid
          (c.states_begin_the_longest_trace.ensures.interleaving given planned.accepted fit events trace place end is_end).0
          (c.events_are_enabled_until_all_have_ended.ensures.interleaving given planned.accepted fit least events)
          (λ finished. c.finished_states_have_the_end.ensures.interleaving given planned.accepted fit events finished trace place end is_end);
    }

-- a program whose own kernel is accepted
keeps : (c : goal.After-finished_states_have_the_end) → (bytes : List ℕ) (kernel : Kernel) → HasOwnKernel bytes kernel → IsAcceptedKernel kernel
    → (flows : List (List ℤ)) → AreFlowsFor kernel flows → (limit : ℕ) → KeepsHeadline bytes kernel flows limit
keeps c bytes kernel has accepted flows fits limit =
    let some_end = c.accepted_kernels_have_one_end.ensures.some kernel has.valid accepted flows fits limit in
    let whole : Trace = some_end.0 in
    let few : length flows ≤ kernel.declared = omega (arith, few_flows kernel flows fits, has.valid.parts.interface) in
    let longest = c.traces_of_programs.ensures.longest bytes kernel has.text flows limit whole few some_end.3.longest in
    let written : output_text kernel whole ≡ output_text kernel (restricted kernel.declared whole) =
    sym (c.restricted_traces_keep_flows.ensures.text kernel kernel.declared whole has.valid.parts.interface) in
    record {
      trace = restricted kernel.declared whole;
      one = are_its_prefixes bytes flows limit (restricted kernel.declared whole) longest
          (λ front begins. c.traces_of_programs.ensures.front bytes front (restricted kernel.declared whole) begins longest.is);
      whole = whole;
      restricts = refl;
      place = some_end.1;
      end = some_end.2;
      ends = some_end.3;
      written = written;
      interleavings = interleavings c kernel has.valid accepted flows fits limit whole some_end.1 some_end.2 some_end.3 (output_text kernel (restricted kernel.declared whole)) written;
    }

known : (c : goal.After-finished_states_have_the_end) → (bytes : List ℕ) (own kernel : Kernel) (least : List ℕ) → HasOwnKernel bytes own → GetsPaces own kernel least → Known bytes own least
known c bytes own kernel least has gets = record {
  traces = c.kernels_of_texts.ensures.traces bytes own has.text;
  without = c.paced_kernels_have_the_old_traces.ensures own least has.valid (λ m there. ((gets.needs.clocks.all m).0 there).maximal.is);
  front = c.beginnings_are_traces.ensures.front Bounded;
  taken_out = c.silent_instants_make_no_difference.ensures.taken_out Bounded;
  silence = c.traces_of_programs.ensures.silence bytes own has.text;
  fits = c.restricted_traces_keep_flows.ensures.fits;
  parts = c.traces_fit_the_flows_of_paces.ensures own least has.valid;
  paces = c.traces_have_paces.ensures own least has.valid (λ m there. ((gets.needs.clocks.all m).0 there).maximal.is);
  inputs = omega (arith, has.valid.parts.interface);
}

-- one whose kernel with paces is
keeps_at_paces : (c : goal.After-finished_states_have_the_end) → (bytes : List ℕ) (own : Kernel) (least : List ℕ) → HasOwnKernel bytes own → GetsPaces own (paced_kernel own least) least
    → IsValid (paced_kernel own least) → IsAcceptedKernel (paced_kernel own least) → (flows : List (List ℤ)) → AreFlowsFor (paced_kernel own least) flows → (limit : ℕ)
    → KeepsHeadlineAtPaces bytes own (paced_kernel own least) least flows limit
keeps_at_paces c bytes own least has gets valid accepted flows fits limit =
    let kernel : Kernel = paced_kernel own least in
    let some_end = c.accepted_kernels_have_one_end.ensures.some kernel valid accepted flows fits limit in
    let whole : Trace = some_end.0 in
    let count = fits.count in
    let enough : own.inputs ≤ length flows = omega (arith, count, length-take kernel.inputs kernel.signals, valid.parts.interface, valid.parts.declared) in
    let left : Trace = at_paces own least whole in
    let text : output_text own (reduce left) ≡ output_text kernel whole =
    c.silent_instants_make_no_difference.ensures.text own left
    ∙ c.restricted_traces_keep_flows.ensures.text own own.declared (map (without_paces own least) whole) has.valid.parts.interface
    ∙ sym (c.paces_write_nothing.ensures own least has.valid whole) in
    record {
      trace = reduce left;
      one = are_prefixes_at_paces bytes own least (known c bytes own kernel least has gets) flows enough limit whole some_end.3.longest;
      whole = whole;
      left = refl;
      place = some_end.1;
      end = some_end.2;
      ends = some_end.3;
      begins = begins_whole_at_paces bytes own least (known c bytes own kernel least has gets) flows enough limit whole some_end.3.longest;
      written = sym text;
      interleavings = interleavings c kernel valid accepted flows fits limit whole some_end.1 some_end.2 some_end.3 (output_text own (reduce left)) (sym text);
    }

pub returns-clause-headline : goal.returns-clause-headline
returns-clause-headline c = λ bytes program flows fits limit.
    let has : HasOwnKernel bytes program.kernel = subst (HasOwnKernel bytes) (sym program.is.has.becomes) program.is.has.has in
    keeps c bytes program.kernel has program.is.accepted flows fits limit

pub returns-clause-with_flag : goal.returns-clause-with_flag
returns-clause-with_flag c = λ bytes program flows fits limit.
    by bytes program.kernel program.is.has.own program.is.has.has program.is.has.becomes program.is.has.valid program.is.accepted flows fits limit where
      by : (bytes : List ℕ) (kernel own : Kernel) → HasOwnKernel bytes own → IsPaced own kernel → IsValid kernel → IsAcceptedKernel kernel
          → (flows : List (List ℤ)) → AreFlowsFor kernel flows → (limit : ℕ) → KeepsHeadlineWithFlag bytes kernel flows limit
      by bytes kernel own has (inl none) valid accepted flows fits limit =
          let is : HasOwnKernel bytes kernel = subst (HasOwnKernel bytes) (sym none.1) has in
          inl (is, keeps c bytes kernel is accepted flows fits limit)
      by bytes kernel own has (inr paced) valid accepted flows fits limit =
          let least : List ℕ = paced.0 in
          let is : kernel ≡ paced_kernel own least = paced.1.is in
          let at = keeps_at_paces c bytes own least has (subst (λ k. GetsPaces own k least) is paced.1) (subst IsValid is valid) (subst IsAcceptedKernel is accepted)
          flows (subst (λ k. AreFlowsFor k flows) is fits) limit in
          inr (own, least, has, paced.1, subst (λ k. KeepsHeadlineAtPaces bytes own k least flows limit) (sym is) at)

pub returns-clause-paces : goal.returns-clause-paces
returns-clause-paces c = λ bytes own kernel least has gets flows fits limit trace fitting.
    let at = at_some_paces bytes own least (known c bytes own kernel least has gets) flows fits (omega (arith, few_flows own flows fits, has.valid.parts.interface)) limit trace fitting in
    (at.0, subst (λ k. AreFlowsFor k (flows ++ at.0)) (sym gets.is) at.1, subst (λ k. IsFittingAtPaces own k least (flows ++ at.0) limit (reduce trace)) (sym gets.is) at.2)

pub returns-clause-traces : goal.returns-clause-traces
returns-clause-traces c = λ bytes own has. c.kernels_of_texts.ensures.traces bytes own has.text

pub returns-clause-one : goal.returns-clause-one
returns-clause-one c = λ pace bytes program flows fits limit trace other place at end ended is also.
    c.accepted_kernels_have_one_end.ensures.one program.kernel program.is.has.valid program.is.accepted flows fits limit
    trace other place at end ended is also
