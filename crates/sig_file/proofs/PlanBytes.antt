-- An image of few bytes has few nodes.
use Rattle.sig_file.proofs.Common.{◌≡◌, ℕ, ◌≤◌, List, [], ◌∷◌, ◌++◌, length, refl, ap, ◌∙◌, arith, flat_map, flat_map-cons, length-append, ◌*◌, condition_bytes, count_bytes, image_bytes, magic, memory_bytes, node_bytes, number_bytes, op_bytes, signal_bytes, ImageView, ImageNode}

four : (n : ℕ) → length (number_bytes n) ≡ 4
unfolding number_bytes
four n = refl

twelve : (node : ImageNode) → length (node_bytes node) ≡ 12
twelve node =
    length-append (number_bytes node.variable ++ number_bytes node.low) (number_bytes node.high)
    ∙ omega (arith, length-append (number_bytes node.variable) (number_bytes node.low), four node.variable, four node.low, four node.high)

all_nodes : (nodes : List ImageNode) → length (flat_map node_bytes nodes) ≡ 12 * length nodes
all_nodes [] = omega arith
all_nodes (node ∷ nodes) =
    ap length (flat_map-cons node_bytes node nodes) ∙ length-append (node_bytes node) (flat_map node_bytes nodes) ∙ omega (arith, twelve node, all_nodes nodes)

behind : (xs ys : List ℕ) (n : ℕ) → n ≤ length ys → n ≤ length (xs ++ ys)
behind xs ys n le = omega (arith, length-append xs ys, le)

in_front : (xs ys : List ℕ) (n : ℕ) → n ≤ length xs → n ≤ length (xs ++ ys)
in_front xs ys n le = omega (arith, length-append xs ys, le)

pub node_has_bytes : (image : ImageView) → 12 * length image.nodes ≤ length (image_bytes image)
unfolding image_bytes
node_has_bytes image =
    let nodes = flat_map node_bytes image.nodes in
    let ops = flat_map op_bytes image.ops in
    let memories = flat_map memory_bytes image.memories in
    let conditions = flat_map condition_bytes image.conditions in
    let signals = flat_map signal_bytes image.signals in
    let front = magic ++ count_bytes image ++ signals ++ conditions ++ memories in
    in_front (front ++ nodes) ops (12 * length image.nodes) (behind front nodes (12 * length image.nodes) (omega (arith, all_nodes image.nodes)))
