-- Lemmas on traces whose integers are all whole numbers.
use Rattle.sig_kernel.proofs.Common.{ℤ, List, [], ◌∷◌, map, None, Some, AllByRecursion, Function, Gives, Trace, Instant, Seen, Bounded, Unbounded, AreOfKinds, IsOfKind, seen_at, Kind, Integer, Boolean, Memory, IsFunction, IsReaction, IsTraceIn, Meets, function_of, remembered, Equation, Form, Fun, Delay, When, WhenConst, Default, Sync, Event as EventOf, Operand, Kernel}
use Rattle.sig_base.specs.declared.ids.Kind.TheVariants.{Event}

-- functions give within 64 bits what they give without bounds
abbrev pub GivesBoth : Type 0
GivesBoth = (function : Function) (operands : List ℤ) (v : ℤ) → Gives Bounded function operands v → Gives Unbounded function operands v

wide_kind : (kind : Kind) (seen : Seen) → IsOfKind Bounded kind seen → IsOfKind Unbounded kind seen
wide_kind kind None is = tt
wide_kind Integer (Some v) is = tt
wide_kind Boolean (Some v) is = is
wide_kind Event (Some v) is = is

wide_kinds : (kinds : List Kind) (instant : Instant) → AreOfKinds Bounded kinds instant → AreOfKinds Unbounded kinds instant
wide_kinds [] [] are = tt
wide_kinds [] (seen ∷ instant) are = are
wide_kinds (kind ∷ kinds) [] are = are
wide_kinds (kind ∷ kinds) (seen ∷ instant) are = (wide_kind kind seen are.0, wide_kinds kinds instant are.1)

wide_function : GivesBoth → (function : Function) (instant : Instant) (operands : List Operand) (seen : Seen)
    → IsFunction Bounded function instant operands seen → IsFunction Unbounded function instant operands seen
wide_function gives function instant operands None is = is
wide_function gives function instant operands (Some v) is = (is.0, is.1, gives function is.0 v is.2)

wide_form : GivesBoth → (memory : Memory) (instant : Instant) (form : Form) → Meets Bounded memory instant form → Meets Unbounded memory instant form
wide_form gives memory instant (Fun y op operands) met = wide_function gives (function_of op) instant operands (seen_at instant y.0) met
wide_form gives memory instant (Delay y x initial) met = met
wide_form gives memory instant (When y x b) met = met
wide_form gives memory instant (WhenConst y c b) met = met
wide_form gives memory instant (Default y u v) met = met
wide_form gives memory instant (Sync x y) met = met
wide_form gives memory instant (EventOf y x) met = met

wide_equations : GivesBoth → (memory : Memory) (instant : Instant) (equations : List Equation)
    → AllByRecursion (λ (equation : Equation). Meets Bounded memory instant equation.form) equations → AllByRecursion (λ (equation : Equation). Meets Unbounded memory instant equation.form) equations
wide_equations gives memory instant [] all = tt
wide_equations gives memory instant (equation ∷ equations) all = (wide_form gives memory instant equation.form all.0, wide_equations gives memory instant equations all.1)

-- an instant within 64 bits is one without bounds
pub wide_reaction : GivesBoth → (kernel : Kernel) (memory : Memory) (instant : Instant) → IsReaction Bounded kernel memory instant → IsReaction Unbounded kernel memory instant
wide_reaction gives kernel memory instant is = record {
  kinds = wide_kinds (map (λ signal. signal.kind) kernel.signals) instant is.kinds;
  equations = wide_equations gives memory instant kernel.equations is.equations;
}

pub wide_trace : GivesBoth → (kernel : Kernel) (trace : Trace) → IsTraceIn Bounded kernel trace → IsTraceIn Unbounded kernel trace
wide_trace gives kernel trace is past instant future split = wide_reaction gives kernel (remembered past) instant (is past instant future split)
