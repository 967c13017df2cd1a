-- What names stand for in a copy, as the definitions see it.
use Rattle.std.specs.Prelude.{◌++◌}
use Rattle.sig_call.specs.Prelude.{ℕ, ℤ, List, map, find, Option, option_map, bytes_eq, ProcessModel, params_of, Binding, BoundSignal, BoundConstant, bound_constants, bound_from, signals_declared}
use Rattle.sig_call.specs.declared.binding.Binding.{Binding as CodeBinding}
use Rattle.sig_call.specs.declared.binding.Binding.TheVariants.{Signal, Constant}
use Rattle.sig_call.specs.declared.binding.Bound.{Bound}

abbrev pub binding_in : CodeBinding → Binding
binding_in (Signal number) = BoundSignal number.0
binding_in (Constant value kind) = BoundConstant value kind

abbrev pub bound_in : Bound → List ℕ × Binding
bound_in b = (b.name.now.text, binding_in b.to)

abbrev pub bindings_in : List Bound → List (List ℕ × Binding)
bindings_in all = map bound_in all

-- the texts of their names
abbrev pub texts_bound : List (List ℕ × Binding) → List (List ℕ)
texts_bound all = map (λ b. b.0) all

-- what the first of a name stands for
abbrev pub binding_found : List (List ℕ × Binding) → List ℕ → Option Binding
binding_found all text = option_map (λ b. b.1) (find (λ b. bytes_eq b.0 text) all)

-- what the names of a copy stand for
abbrev pub bindings_of : ℕ → List ℤ → ProcessModel → List (List ℕ × Binding)
bindings_of first constants p = bound_constants (params_of p) constants ++ bound_from first (signals_declared p)
