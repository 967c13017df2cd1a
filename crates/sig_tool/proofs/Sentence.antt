-- The parts of the sentence that sigc is for, from the laws of traces and of schedules.
use Rattle.sig_tool.proofs.Common.{◌≡◌, ◌≤◌, ◌++◌, ◌∙◌, ◌↔◌, ℕ, ℤ, List, length, map, take, drop, Option, refl, sym, subst, ap, arith, length-map, length-take-le, take-append-drop, Bounded, Fits, IsPrefixOf, Trace, IsLongest, IsKernelTrace, IsTraceIn, fits_reduced, reduce, prefix_fits, prefix_length, prefix_speaks, reduced, output_text, reactions_text, text_is, AreFlowsFor, IsValid, Kernel, Place, Ended, Given, Core, Event, HasEnd, IsEnabled, IsFinished, HasTracesOf, IsProgramTrace, restricted, FitPaces, HasPaces, HasTracesWithoutPaces, paced_kernel, without_paces, IsFitting, IsFittingAtPaces, AreItsPrefixes, ArePrefixesAtPaces, KeepsToTheText, at_paces}
use Rattle.sig_tool.proofs.AtPaces.{keeps_silence, left_instants, left_of, left_of_beginning, prefix_left, reduced_first, reduced_shorter}

module _ (bytes : List ℕ) (flows : List (List ℤ)) (limit : ℕ) (trace : Trace) (longest : IsLongest (IsProgramTrace bytes) flows limit trace) where
  short : (front : Trace) → IsPrefixOf front trace → reduce front ≡ front → length (reduce front) ≤ limit
  short front begins is =
      let same : length (reduce front) ≡ length front = ap length is in
      let fewer = prefix_length front trace begins in
      let within = longest.within in
      omega (arith, same, fewer, within)

  -- the fitting traces of a process are the prefixes of its longest one
  pub are_its_prefixes : ((front : Trace) → IsPrefixOf front trace → IsProgramTrace bytes front) → AreItsPrefixes bytes flows limit trace
  are_its_prefixes is = record {
    traces = λ other fitting. longest.longest other fitting.is fitting.fits fitting.within;
    prefixes = λ front begins.
        let bare = reduced front (prefix_speaks front trace begins longest.speaks) in
        let fitting : IsFitting bytes flows limit front = record {
          is = is front begins;
          fits = prefix_fits flows front trace begins longest.fits;
          within = short front begins bare;
        } in (fitting, bare);
  }

-- a state of a run of a plan keeps to the text of the longest trace of the plan's kernel
pub keeps_to_the_text : (kernel : Kernel) (trace : Trace) (text : List ℕ) → output_text kernel trace ≡ text
    → (place : Option Place) (end : Ended) (given : Given) (state : Core)
    → given.plan.kernel ≡ kernel → IsValid given.plan.kernel
    → IsPrefixOf (reactions_text given.plan.kernel state.committed) (output_text given.plan.kernel trace)
    → ((IsFinished state → ⊥) → (event : Event) × IsEnabled given state event)
    → (IsFinished state → HasEnd given state trace place end) → KeepsToTheText kernel text place end given state
keeps_to_the_text kernel trace text written place end given state same valid prefix enabled ended = record {
  prefix = subst (λ t. IsPrefixOf (reactions_text kernel state.committed) t) written
      (subst (λ (k : Kernel). IsPrefixOf (reactions_text k state.committed) (output_text k trace)) same prefix);
  enabled = enabled;
  whole = λ finished. subst (λ (k : Kernel). reactions_text k state.committed ≡ output_text k trace) same
      (ap (reactions_text given.plan.kernel) (ended finished).committed ∙ text_is given.plan.kernel valid trace) ∙ written;
  word = λ finished. (ended finished).word;
  cause = λ finished. (ended finished).cause;
}

-- ---- at paces

-- what is known of the kernel of a text and of its traces, and of those of the kernel with paces
pub record Known (bytes : List ℕ) (own : Kernel) (least : List ℕ) : Type 0 where
  pub traces : HasTracesOf bytes own
  pub without : HasTracesWithoutPaces own least
  pub front : (kernel : Kernel) (front trace : Trace) → IsPrefixOf front trace → IsTraceIn Bounded kernel trace → IsTraceIn Bounded kernel front
  pub taken_out : (kernel : Kernel) (trace : Trace) → IsTraceIn Bounded kernel trace → IsTraceIn Bounded kernel (reduce trace)
  pub silence : (trace : Trace) → IsKernelTrace own trace → reduce (restricted own.declared trace) ≡ restricted own.declared (reduce trace)
  pub fits : (count : ℕ) (flows : List (List ℤ)) (trace : Trace) → length flows ≤ count → Fits flows (restricted count trace) ↔ Fits flows trace
  pub parts : (flows paces : List (List ℤ)) → length flows ≡ own.inputs → (wide : Trace)
      → Fits (flows ++ paces) wide ↔ (Fits flows (map (without_paces own least) wide) × FitPaces own paces wide)
  pub paces : (flows : List (List ℤ)) → AreFlowsFor own flows → (trace : Trace) → IsTraceIn Bounded own trace → Fits flows trace → HasPaces own least flows trace
  pub inputs : own.inputs ≤ own.declared

module _ (bytes : List ℕ) (own : Kernel) (least : List ℕ) (known : Known bytes own least) where
  abbrev wider : Kernel
  wider = paced_kernel own least

  -- what is left of a trace is one of the process
  of_process : (wide : Trace) → IsKernelTrace wider wide → IsProgramTrace bytes (at_paces own least wide)
  of_process wide is = known.traces.restricts (map (without_paces own least) wide) (known.without.only Bounded wide is)

  fits_left : (flows : List (List ℤ)) (wide : Trace) → own.inputs ≤ length flows → Fits flows wide → Fits (take own.inputs flows) (at_paces own least wide)
  fits_left flows wide enough fits =
      let count : length (take own.inputs flows) ≡ own.inputs = length-take-le own.inputs flows enough in
      let both : Fits (take own.inputs flows ++ drop own.inputs flows) wide = subst (λ all. Fits all wide) (sym (take-append-drop own.inputs flows)) fits in
      let old = ((known.parts (take own.inputs flows) (drop own.inputs flows) count wide).0 both).0 in
      (known.fits own.declared (take own.inputs flows) (map (without_paces own least) wide) (omega (arith, count, known.inputs))).1 old

  module _ (flows : List (List ℤ)) (enough : own.inputs ≤ length flows) (limit : ℕ) (whole : Trace) (longest : IsLongest (IsKernelTrace wider) flows limit whole) where
    abbrev trace : Trace
    trace = reduce (at_paces own least whole)

    begins_whole : (other : Trace) → IsFittingAtPaces own wider least flows limit other → IsPrefixOf (reduce other) trace
    begins_whole other fitting =
        let f = left_of own least in
        let begins = longest.longest fitting.wide fitting.is fitting.fits fitting.within in
        let of_parts : IsPrefixOf (reduce (map f (reduce fitting.wide))) (reduce (map f whole)) = prefix_left f (keeps_silence own least) (reduce fitting.wide) whole begins in
        let all : IsPrefixOf (reduce (map f fitting.wide)) (reduce (map f whole)) =
        subst (λ t. IsPrefixOf t (reduce (map f whole))) (reduced_first f (keeps_silence own least) fitting.wide) of_parts in
        subst (λ t. IsPrefixOf (reduce t) trace) fitting.left
        (subst (λ t. IsPrefixOf (reduce (at_paces own least fitting.wide)) (reduce t)) (sym (left_instants own least whole))
        (subst (λ t. IsPrefixOf (reduce t) (reduce (map f whole))) (sym (left_instants own least fitting.wide)) all))

    begun_by : (front : Trace) → IsPrefixOf front trace → (other : Trace) × IsFittingAtPaces own wider least flows limit other × (reduce other ≡ front)
    begun_by front begins =
        let f = left_of own least in
        let left = left_of_beginning f front whole (subst (λ t. IsPrefixOf front (reduce t)) (left_instants own least whole) begins) in
        let bare : reduce left.part ≡ left.part = reduced left.part (prefix_speaks left.part whole left.begins longest.speaks) in
        let fewer = prefix_length left.part whole left.begins in
        let same : length (reduce left.part) ≡ length left.part = ap length bare in
        let within = longest.within in
        let fitting : IsFittingAtPaces own wider least flows limit (at_paces own least left.part) = record {
          wide = left.part;
          is = known.front wider left.part whole left.begins longest.is;
          fits = prefix_fits flows left.part whole left.begins longest.fits;
          within = omega (arith, same, fewer, within);
          left = refl;
        } in
        (at_paces own least left.part, fitting, ap reduce (left_instants own least left.part) ∙ left.is)

    within_limit : (other : Trace) → IsFittingAtPaces own wider least flows limit other → length (reduce other) ≤ limit
    within_limit other fitting =
        let f = left_of own least in
        let same : length (reduce (map f (reduce fitting.wide))) ≡ length (reduce other) =
        ap length (reduced_first f (keeps_silence own least) fitting.wide ∙ sym (ap reduce (left_instants own least fitting.wide)) ∙ ap reduce fitting.left) in
        let counted : length (map f (reduce fitting.wide)) ≡ length (reduce fitting.wide) = length-map (reduce fitting.wide) f in
        let shorter = reduced_shorter (map f (reduce fitting.wide)) in
        let within = fitting.within in
        omega (arith, same, counted, shorter, within)

    of_own : (other : Trace) → IsFittingAtPaces own wider least flows limit other → IsFitting bytes (take own.inputs flows) limit other
    of_own other fitting = record {
      is = subst (IsProgramTrace bytes) fitting.left (of_process fitting.wide fitting.is);
      fits = subst (Fits (take own.inputs flows)) fitting.left (fits_left flows fitting.wide enough fitting.fits);
      within = within_limit other fitting;
    }

    -- what begins the longest trace of the kernel with paces is one of its fitting traces
    pub begins_whole_at_paces : (front : Trace) → IsPrefixOf front whole → IsKernelTrace wider front × Fits flows front × (reduce front ≡ front)
    begins_whole_at_paces front begins = (
      known.front wider front whole begins longest.is,
      prefix_fits flows front whole begins longest.fits,
      reduced front (prefix_speaks front whole begins longest.speaks),
    )

    pub are_prefixes_at_paces : ArePrefixesAtPaces bytes own wider least flows limit trace
    are_prefixes_at_paces = record {
      own_traces = of_own;
      traces = begins_whole;
      prefixes = begun_by;
    }

  -- a fitting trace of the process, silent instants removed, is one at some paces
  pub at_some_paces : (flows : List (List ℤ)) → AreFlowsFor own flows → length flows ≤ own.declared → (limit : ℕ) (trace : Trace) → IsFitting bytes flows limit trace
      → (paces : List (List ℤ)) × AreFlowsFor wider (flows ++ paces) × IsFittingAtPaces own wider least (flows ++ paces) limit (reduce trace)
  at_some_paces flows fit few limit trace fitting =
      let whole = known.traces.extends trace fitting.is in
      let fits : Fits flows whole.0 = (known.fits own.declared flows whole.0 few).0 (subst (Fits flows) (sym whole.2) fitting.fits) in
      let has = known.paces flows fit (reduce whole.0) (known.taken_out own whole.0 whole.1) ((fits_reduced flows whole.0).1 fits) in
      let left : at_paces own least has.wide ≡ reduce trace =
      ap (restricted own.declared) has.left ∙ sym (known.silence whole.0 whole.1) ∙ ap reduce whole.2 in
      let counted : length has.wide ≡ length (reduce trace) =
      sym (ap length (left_instants own least has.wide) ∙ length-map has.wide (left_of own least)) ∙ ap length left in
      let shorter = reduced_shorter has.wide in
      let within = fitting.within in
      let at : IsFittingAtPaces own wider least (flows ++ has.paces) limit (reduce trace) = record {
        wide = has.wide;
        is = has.is;
        fits = has.fits;
        within = omega (arith, counted, shorter, within);
        left = left;
      } in
      (has.paces, has.fit, at)
