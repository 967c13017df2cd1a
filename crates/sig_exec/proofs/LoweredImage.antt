-- The instructions and the guards of an image.
use Rattle.sig_exec.proofs.Common.{◌≡◌, ◌≤◌, ◌++◌, ◌∙◌, ℕ, ℤ, pos, List, length, replicate, Some, sym, ap, subst, arith, slice_get, SigId, Ref, ImageView, IsImage, ImageOp, AreFor, AreFunctions, AreGuardsOf, AreWithin, AreBelow, BeginWith, Grows, Instruction, IsCode, ImageInstructions, Lowers, guards_in, inits_of, instructions_in}
use Rattle.sig_cells.specs.Guards.{scope_of as cells_scope}
use Rattle.sig_exec.proofs.MoreConstants.{begin_room}
use Rattle.sig_exec.proofs.Places.{condition_within}
use Rattle.sig_exec.proofs.Within.{are_within}

-- these guards are those of the first operations
abbrev pub AreGuardsOfFirst : ImageView → List Ref → List Ref → Type 0
AreGuardsOfFirst image refs guards =
    (place : ℕ) (guard : Ref) (op : ImageOp) → slice_get guards place ≡ Some guard → slice_get image.ops place ≡ Some op → slice_get refs op.guard ≡ Some guard

-- conditions are signals
pub are_below : (image : ImageView) → IsImage image → AreBelow (length image.signals) image.conditions
are_below image right v c at = condition_within image right v c at

pub lowers_by : (image : ImageView) → IsImage image → (lowered : ImageInstructions) (first : List ℤ) → first ≡ replicate (length image.signals) (pos 0) ++ inits_of image → Grows first lowered.cells.items
    → AreFunctions image lowered.functions → (instructions : List Instruction) → AreFor image lowered.cells.items instructions → (guards : List Ref) → AreGuardsOf image lowered.functions guards
    → lowered.code.signals ≡ length image.signals → lowered.code.conditions.items ≡ image.conditions → instructions_in lowered.code ≡ instructions → guards_in lowered.code ≡ guards
    → ((inputs cells : ℕ) → length image.signals ≤ cells → AreWithin inputs cells instructions → IsCode lowered.functions.store.nodes inputs cells lowered.code)
    → Lowers image lowered
lowers_by image right lowered first is grows functions instructions for guards of signals conditions same_instructions same_guards code =
    let begins : BeginWith image lowered.cells.items = subst (λ (l : List ℤ). Grows l lowered.cells.items) is grows in
    let room = begin_room image lowered.cells.items begins in
    record {
      opening = begins;
      functions = functions;
      instructions = subst (AreFor image lowered.cells.items) (sym same_instructions) for;
      guards = subst (AreGuardsOf image lowered.functions) (sym same_guards) of;
      asks = ap (λ (l : List SigId). cells_scope lowered.functions.store.nodes l lowered.code.signals) conditions
          ∙ ap (λ (n : ℕ). cells_scope lowered.functions.store.nodes image.conditions n) signals;
      code = code image.inputs (length lowered.cells.items) (omega (arith, room)) (are_within image right lowered.cells.items room instructions for);
    }
