-- The bytes of an image, part by part.
use Rattle.sig_file.proofs.Common.{◌≡◌, ◌++◌, ℕ, List, refl, ap, ◌∙◌, flat_map, condition_bytes, count_bytes, image_bytes, magic, memory_bytes, node_bytes, op_bytes, signal_bytes, ImageView, SigId, ImageMemory, ImageNode, ImageOp, ImageSignal}

in_turn : (m a b c d e f o0 o1 o2 o3 o4 o5 o6 : List ℕ) → o0 ≡ m → o1 ≡ o0 ++ a → o2 ≡ o1 ++ b → o3 ≡ o2 ++ c → o4 ≡ o3 ++ d → o5 ≡ o4 ++ e → o6 ≡ o5 ++ f
    → o6 ≡ (((((m ++ a) ++ b) ++ c) ++ d) ++ e) ++ f
in_turn m a b c d e f o0 o1 o2 o3 o4 o5 o6 e0 e1 e2 e3 e4 e5 e6 = rw (e6, e5, e4, e3, e2, e1, e0) refl

pub written : (image : ImageView) (signals : List ImageSignal) (conditions : List SigId) (memories : List ImageMemory) (nodes : List ImageNode) (ops : List ImageOp) (o0 o1 o2 o3 o4 o5 o6 : List ℕ)
    → signals ≡ image.signals → conditions ≡ image.conditions → memories ≡ image.memories → nodes ≡ image.nodes → ops ≡ image.ops
    → o0 ≡ magic → o1 ≡ o0 ++ count_bytes image → o2 ≡ o1 ++ flat_map signal_bytes signals → o3 ≡ o2 ++ flat_map condition_bytes conditions
    → o4 ≡ o3 ++ flat_map memory_bytes memories → o5 ≡ o4 ++ flat_map node_bytes nodes → o6 ≡ o5 ++ flat_map op_bytes ops → o6 ≡ image_bytes image
unfolding image_bytes
written image signals conditions memories nodes ops o0 o1 o2 o3 o4 o5 o6 s c m n p e0 e1 e2 e3 e4 e5 e6 =
    in_turn magic (count_bytes image) (flat_map signal_bytes image.signals) (flat_map condition_bytes image.conditions) (flat_map memory_bytes image.memories) (flat_map node_bytes image.nodes) (flat_map op_bytes image.ops)
    o0 o1 o2 o3 o4 o5 o6 e0 e1 (e2 ∙ ap (λ xs. o1 ++ flat_map signal_bytes xs) s) (e3 ∙ ap (λ xs. o2 ++ flat_map condition_bytes xs) c) (e4 ∙ ap (λ xs. o3 ++ flat_map memory_bytes xs) m)
    (e5 ∙ ap (λ xs. o4 ++ flat_map node_bytes xs) n) (e6 ∙ ap (λ xs. o5 ++ flat_map op_bytes xs) p)
