-- The traces of a program beside those of its kernel: the longest ones, what begins them, and silent instants.
use Rattle.sig_front.proofs.Common.{◌≡◌, ◌≤◌, ◌∙◌, ℕ, ℤ, List, length, take, drop, sym, ap, subst, take-map, take-append_seam, take-append-drop, IsPrefixOf, IsLongest, Trace, reduce, FlatBody, IsText, IsProcessTrace, ProcessModel, IsWellFormed, IsBounded, IsFlatBody, IsTree, IsWellMade, IsKernelTrace, Kernel, kernel_of, restricted, IsFlatText, IsKernelText, IsProgramTrace}
use Rattle.sig_front.proofs.Kernels.{well_made}
use Rattle.sig_front.proofs.OneFlat.{flat_once}

-- a beginning of a list has so many of its elements
taken : {A : Type 0} (front whole : List A) → IsPrefixOf front whole → take (length front) whole ≡ front
taken front whole begins = ap (take (length front)) begins.1 ∙ take-append_seam front begins.0

module _ (trees : (text : List ℕ) (program : List ProcessModel) → IsText text program → IsTree program)
    (bounded : (text : List ℕ) (program : List ProcessModel) → IsText text program → IsBounded program)
    (made : (program : List ProcessModel) (flat : FlatBody) → IsTree program → IsBounded program → IsWellFormed program → IsFlatBody program flat → IsWellMade flat) where
  module _ (longest : (flat : FlatBody) (flows : List (List ℤ)) (limit : ℕ) (trace : Trace) → IsWellMade flat → length flows ≤ length flat.signals
      → IsLongest (IsKernelTrace (kernel_of flat)) flows limit trace → IsLongest (IsProcessTrace flat) flows limit (restricted (length flat.signals) trace)) where
    of_flat : (text : List ℕ) (flat : FlatBody) → IsFlatText text flat → (flows : List (List ℤ)) (limit : ℕ) (trace : Trace) → length flows ≤ length flat.signals
        → IsLongest (IsKernelTrace (kernel_of flat)) flows limit trace → IsLongest (IsProgramTrace text) flows limit (restricted (length flat.signals) trace)
    of_flat text flat says flows limit trace few is =
        let of = longest flat flows limit trace (well_made trees bounded made text flat says) few is in
        record {
          is = (flat, says, of.is);
          fits = of.fits;
          within = of.within;
          speaks = of.speaks;
          longest = λ other program fits short.
              of.longest other (subst (λ f. IsProcessTrace f other) (flat_once text program.0 flat program.1 says) program.2) fits short;
        }

    pub longest_of_program : (text : List ℕ) (kernel : Kernel) → IsKernelText text kernel → (flows : List (List ℤ)) (limit : ℕ) (trace : Trace)
        → length flows ≤ kernel.declared → IsLongest (IsKernelTrace kernel) flows limit trace
        → IsLongest (IsProgramTrace text) flows limit (restricted kernel.declared trace)
    longest_of_program text kernel is =
        subst (λ (k : Kernel). (flows : List (List ℤ)) (limit : ℕ) (trace : Trace) → length flows ≤ k.declared → IsLongest (IsKernelTrace k) flows limit trace
        → IsLongest (IsProgramTrace text) flows limit (restricted k.declared trace)) (sym is.made) (of_flat text is.flat is.says)

  module _ (restricts : (flat : FlatBody) (trace : Trace) → IsWellMade flat → IsKernelTrace (kernel_of flat) trace → IsProcessTrace flat (restricted (length flat.signals) trace))
      (extends : (flat : FlatBody) (trace : Trace) → IsWellMade flat → IsProcessTrace flat trace
      → (whole : Trace) × IsKernelTrace (kernel_of flat) whole × (restricted (length flat.signals) whole ≡ trace))
      (begins : (kernel : Kernel) (front trace : Trace) → IsPrefixOf front trace → IsKernelTrace kernel trace → IsKernelTrace kernel front) where
    pub front_of_program : (text : List ℕ) (front trace : Trace) → IsPrefixOf front trace → IsProgramTrace text trace → IsProgramTrace text front
    front_of_program text front trace prefix of =
        let flat : FlatBody = of.0 in
        let fine : IsWellMade flat = well_made trees bounded made text flat of.1 in
        let whole = extends flat trace fine of.2 in
        let count : ℕ = length front in
        let kept : IsKernelTrace (kernel_of flat) (take count whole.0) =
        begins (kernel_of flat) (take count whole.0) whole.0 (drop count whole.0, sym (take-append-drop count whole.0)) whole.1 in
        let part : restricted (length flat.signals) (take count whole.0) ≡ front =
        sym (take-map (take (length flat.signals)) count whole.0) ∙ ap (take count) whole.2 ∙ taken front trace prefix in
        (flat, of.1, subst (IsProcessTrace flat) part (restricts flat (take count whole.0) fine kept))

  module _ (commutes : (flat : FlatBody) (trace : Trace) → IsWellMade flat → IsKernelTrace (kernel_of flat) trace
      → reduce (restricted (length flat.signals) trace) ≡ restricted (length flat.signals) (reduce trace)) where
    pub silence_of_program : (text : List ℕ) (kernel : Kernel) → IsKernelText text kernel → (trace : Trace) → IsKernelTrace kernel trace
        → reduce (restricted kernel.declared trace) ≡ restricted kernel.declared (reduce trace)
    silence_of_program text kernel is =
        subst (λ (k : Kernel). (trace : Trace) → IsKernelTrace k trace → reduce (restricted k.declared trace) ≡ restricted k.declared (reduce trace)) (sym is.made)
        (λ trace kept. commutes is.flat trace (well_made trees bounded made text is.flat is.says) kept)
