-- The kernel of a text is valid, has few equations and has the traces of the program.
use Rattle.sig_front.proofs.Common.{◌≡◌, ◌<◌, ◌≤◌, ◌+◌, ◌*◌, ◌^◌, ℕ, List, length, map, take, bytes_eq, sym, subst, arith, AllByRecursion, IsDistinct, SIGNALS, Signal, Trace, IsFlatBody, FlatBody, IsText, IsProcessTrace, ProcessModel, IsWellFormed, IsBounded, IsSignalName, NamesOperators, IsTree, IsSized, flat_weights, IsWellMade, IsKernelTrace, IsValid, Kernel, kernel_of, restricted, IsFlatText, HasTracesOf, IsKernelText, mul-le}
use Rattle.sig_front.proofs.Distinct.{first_distinct}
use Rattle.sig_front.proofs.OneFlat.{flat_once}

module _ (trees : (text : List ℕ) (program : List ProcessModel) → IsText text program → IsTree program)
    (bounded : (text : List ℕ) (program : List ProcessModel) → IsText text program → IsBounded program)
    (made : (program : List ProcessModel) (flat : FlatBody) → IsTree program → IsBounded program → IsWellFormed program → IsFlatBody program flat → IsWellMade flat) where
  pub well_made : (text : List ℕ) (flat : FlatBody) → IsFlatText text flat → IsWellMade flat
  well_made text flat says =
      made says.tree flat (trees text says.tree says.good.reads) (bounded text says.tree says.good.reads) says.good.formed says.expands

  module _ (restricts : (flat : FlatBody) (trace : Trace) → IsWellMade flat → IsKernelTrace (kernel_of flat) trace → IsProcessTrace flat (restricted (length flat.signals) trace))
      (extends : (flat : FlatBody) (trace : Trace) → IsWellMade flat → IsProcessTrace flat trace
      → (whole : Trace) × IsKernelTrace (kernel_of flat) whole × (restricted (length flat.signals) whole ≡ trace))
      (once : (flat : FlatBody) (a b : Trace) → IsWellMade flat → IsKernelTrace (kernel_of flat) a → IsKernelTrace (kernel_of flat) b
      → restricted (length flat.signals) a ≡ restricted (length flat.signals) b → a ≡ b) where
    pub traces : (text : List ℕ) (kernel : Kernel) → IsKernelText text kernel → HasTracesOf text kernel
    traces text kernel is =
        let flat : FlatBody = is.flat in
        let fine : IsWellMade flat = well_made text flat is.says in
        subst (HasTracesOf text) (sym is.made) (record {
          restricts = λ trace kept. (flat, is.says, restricts flat trace fine kept);
          extends = λ trace of. extends flat trace fine (subst (λ f. IsProcessTrace f trace) (flat_once text of.0 flat of.1 is.says) of.2);
          once = λ a b first second same. once flat a b fine first second same;
        })

  module _ (valid : (flat : FlatBody) → IsWellMade flat → IsDistinct bytes_eq (map (λ (input : Signal). input.name) (take flat.inputs flat.signals))
      → length (kernel_of flat).signals ≤ SIGNALS → length (kernel_of flat).equations < 2 ^ 32 → IsValid (kernel_of flat))
      (differ : (text : List ℕ) (program : List ProcessModel) (flat : FlatBody) → IsText text program → IsWellFormed program → IsFlatBody program flat
      → length flat.signals < 10 ^ 64 → IsDistinct bytes_eq (map (λ (signal : Signal). signal.name) flat.signals)) where
    pub is_valid : (text : List ℕ) (kernel : Kernel) → IsKernelText text kernel → length kernel.equations < 2 ^ 30 → IsValid kernel
    is_valid text kernel is short =
        let flat : FlatBody = is.flat in
        let few : length flat.signals ≤ 512 = is.says.few in
        let equations : length (kernel_of flat).equations < 2 ^ 30 = subst (λ (k : Kernel). length k.equations < 2 ^ 30) is.made short in
        let names = differ text is.says.tree flat is.says.good.reads is.says.good.formed is.says.expands (omega (arith, few)) in
        subst IsValid (sym is.made) (valid flat (well_made text flat is.says) (first_distinct bytes_eq flat.inputs (λ (signal : Signal). signal.name) flat.signals names)
        (subst (λ (k : Kernel). length k.signals ≤ 512) is.made is.few) (omega (arith, equations)))

-- few equations
module _ (trees : (text : List ℕ) (program : List ProcessModel) → IsText text program → IsTree program)
    (sized : (text : List ℕ) (program : List ProcessModel) → IsText text program → IsSized (length text) program)
    (sizes : (program : List ProcessModel) (flat : FlatBody) (size : ℕ) → IsTree program → IsWellFormed program → IsSized size program → IsFlatBody program flat
    → flat_weights flat.equations ≤ size * (length flat.signals + 1))
    (bounds : (flat : FlatBody) → length (kernel_of flat).equations + 2 * length flat.signals ≤ 2 * length (kernel_of flat).signals + flat_weights flat.equations) where
  pub few_equations : (text : List ℕ) (kernel : Kernel) → length text ≤ 1048576 → IsKernelText text kernel → length kernel.equations < 2 ^ 30
  few_equations text kernel short is =
      let flat : FlatBody = is.flat in
      let says = is.says in
      let weights = sizes says.tree flat (length text) (trees text says.tree says.good.reads) says.good.formed (sized text says.tree says.good.reads) says.expands in
      let few : length flat.signals ≤ 512 = says.few in
      let most : length text * (length flat.signals + 1) ≤ 1048576 * 513 = mul-le (length text) (length flat.signals + 1) 1048576 513 short (omega (arith, few)) in
      let kept : length (kernel_of flat).signals ≤ 512 = subst (λ (k : Kernel). length k.signals ≤ 512) is.made is.few in
      let bound = bounds flat in
      subst (λ (k : Kernel). length k.equations < 2 ^ 30) (sym is.made) (omega (arith, weights, most, kept, bound))

-- names
module _ (signals : (text : List ℕ) (program : List ProcessModel) (flat : FlatBody) → IsText text program → IsWellFormed program → IsFlatBody program flat
    → length text ≤ 1048576 → length flat.signals ≤ 512 → AllByRecursion (λ (signal : Signal). IsSignalName signal.name) flat.signals)
    (operators : (text : List ℕ) (program : List ProcessModel) (flat : FlatBody) → IsText text program → IsWellFormed program → IsFlatBody program flat
    → length text ≤ 1048576 → length flat.signals ≤ 512 → AllByRecursion NamesOperators flat.equations)
    (keeps : (flat : FlatBody) → AllByRecursion (λ (signal : Signal). IsSignalName signal.name) flat.signals → AllByRecursion NamesOperators flat.equations
    → AllByRecursion (λ (signal : Signal). IsSignalName signal.name) (kernel_of flat).signals) where
  pub names : (text : List ℕ) (kernel : Kernel) → length text ≤ 1048576 → IsKernelText text kernel → AllByRecursion (λ (signal : Signal). IsSignalName signal.name) kernel.signals
  names text kernel short is =
      let flat : FlatBody = is.flat in
      let says = is.says in
      subst (λ (k : Kernel). AllByRecursion (λ (signal : Signal). IsSignalName signal.name) k.signals) (sym is.made)
      (keeps flat (signals text says.tree flat says.good.reads says.good.formed says.expands short says.few)
      (operators text says.tree flat says.good.reads says.good.formed says.expands short says.few))
