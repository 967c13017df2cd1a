-- The kernel of a text, and what a text is refused for that has none that is kept: the rules of acceptance that
-- speak of the program, over its bytes.
use Rattle.std.specs.Prelude.{◌≡◌, ◌⊎◌, ◌<◌, ◌≤◌}
use Rattle.sig_front.specs.Prelude.{ℕ, List, length, Trace, SIGNALS, FlatBody, IsProcessTrace, IsKernelTrace, Kernel, kernel_of, restricted}
use Rattle.sig_front.specs.Flats.{IsFlatText, IsNoFlatText, IsTooLarge}
use Rattle.sig_front.specs.declared.answer.FrontAnswer.{FrontAnswer}
use Rattle.sig_front.specs.declared.answer.FrontAnswer.TheVariants.{Lex, Parse, «Type» as TypeRefused, TooManySignals, OutOfMemory}

-- the text is that of a well-formed program with this kernel, within the limit of signals
pub record IsKernelText (text : List ℕ) (kernel : Kernel) : Type 0 where
  pub flat : FlatBody
  pub says : IsFlatText text flat
  pub made : kernel ≡ kernel_of flat
  pub few : length kernel.signals ≤ SIGNALS

-- the text is that of a well-formed program whose flat body is kept and whose kernel has more signals than the limit
pub record HasLargeKernel (text : List ℕ) (limit : ℕ) : Type 0 where
  pub flat : FlatBody
  pub says : IsFlatText text flat
  pub many : SIGNALS < length (kernel_of flat).signals
  pub said : limit ≡ SIGNALS

-- The text has no kernel that is kept: it has no flat body that is, or one whose kernel is too large.
abbrev pub IsNoKernelText : List ℕ → FrontAnswer → Type 0
IsNoKernelText text (Lex fault) = IsNoFlatText text (Lex fault)
IsNoKernelText text (Parse refusal) = IsNoFlatText text (Parse refusal)
IsNoKernelText text (TypeRefused answer) = IsNoFlatText text (TypeRefused answer)
IsNoKernelText text (TooManySignals limit) = IsTooLarge text limit ⊎ HasLargeKernel text limit
IsNoKernelText text OutOfMemory = ⊥

-- a trace of the program that a text is, over its declared and copied signals
abbrev pub IsProgramTrace : List ℕ → Trace → Type 0
IsProgramTrace text trace = (flat : FlatBody) × IsFlatText text flat × IsProcessTrace flat trace

-- A kernel has the traces of the program that a text is: restricted to the declared and copied signals its traces
-- are exactly the program's, and each of these comes from one of them.
pub record HasTracesOf (text : List ℕ) (kernel : Kernel) : Type 0 where
  pub restricts : (trace : Trace) → IsKernelTrace kernel trace → IsProgramTrace text (restricted kernel.declared trace)
  pub extends : (trace : Trace) → IsProgramTrace text trace
      → (whole : Trace) × IsKernelTrace kernel whole × (restricted kernel.declared whole ≡ trace)
  pub once : (a b : Trace) → IsKernelTrace kernel a → IsKernelTrace kernel b
      → restricted kernel.declared a ≡ restricted kernel.declared b → a ≡ b
