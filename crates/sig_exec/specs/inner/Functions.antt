-- The functions of an image's guards in a store.
use Rattle.std.specs.Prelude.{◌≡◌, ◌+◌, if◌then◌else◌}
use Rattle.sig_exec.specs.Prelude.{ℕ, List, length, slice_get, Some, ImageView, IsRefOf, Node, Ref, nodes_in, test, truth_of}
use Rattle.sig_exec.specs.inner.Instants.{reference}
use Rattle.sig_exec.specs.declared.functions.Functions.{Functions}

-- The constants and the first nodes of an image have their references, by their numbers.
pub record AreFunctionsOfFirst (image : ImageView) (n : ℕ) (functions : Functions) : Type 0 where
  pub count : length functions.refs.items ≡ n + 2
  pub each : (number : ℕ) (r : Ref) → slice_get functions.refs.items number ≡ Some r
      → IsRefOf functions.store.nodes (test (nodes_in image.nodes) (reference number)) r

-- all nodes have
abbrev pub AreFunctions : ImageView → Functions → Type 0
AreFunctions image functions = AreFunctionsOfFirst image (length image.nodes) functions

-- a reference to the one function where a variable is true, and to the other where it is false
abbrev pub IsChosen : List Node → List Node → ℕ → Ref → Ref → Ref → Type 0
IsChosen old new variable low high r =
    IsRefOf new (λ truths. if truth_of truths variable then test old high truths else test old low truths) r
