-- How many bytes the parts of an image have.
use Rattle.sig_file.proofs.Common.{◌≡◌, ℕ, ◌+◌, ◌<◌, List, [], ◌∷◌, ◌++◌, length, take, get_or, refl, sym, ap, ◌∙◌, arith, append-nil, flat_map, flat_map-cons, length-append, ◌*◌, flat_map-append, take_at_read, condition_bytes, count_bytes, field_bytes, function_number, image_bytes, long_bytes, magic, memory_bytes, node_bytes, number_bytes, op_bytes, operand_bytes, signal_bytes, ImageView, ℤ, FunOp, Operand, Sig, Const, SigId, ImageMemory, ImageNode, ImageOp, ImageSignal}
use Rattle.sig_file.specs.declared.images.ImageOpKind.TheVariants as does

four : (n : ℕ) → length (number_bytes n) ≡ 4
unfolding number_bytes
four n = refl

eight : (value : ℤ) → length (long_bytes value) ≡ 8
unfolding long_bytes
eight value = refl

two : (m n : ℕ) → length (number_bytes m ++ number_bytes n) ≡ 8
two m n = omega (arith, length-append (number_bytes m) (number_bytes n), four m, four n)

four_eight : (n : ℕ) (value : ℤ) → length (number_bytes n ++ long_bytes value) ≡ 12
four_eight n value = omega (arith, length-append (number_bytes n) (long_bytes value), four n, eight value)

-- one more item
pub length_next : {A : Type 0} (f : A → List ℕ) (xs : List A) (i : ℕ) (x : A) → i < length xs → x ≡ get_or xs i x → length (flat_map f (take (i + 1) xs)) ≡ length (flat_map f (take i xs)) + length (f x)
length_next f xs i x lt is =
    ap (λ ys. length (flat_map f ys)) ((take_at_read xs i x lt).1)
    ∙ ap length (flat_map-append f (take i xs) (get_or xs i x ∷ []))
    ∙ length-append (flat_map f (take i xs)) (flat_map f (get_or xs i x ∷ []))
    ∙ ap (λ ys. length (flat_map f (take i xs)) + length ys) (flat_map-cons f (get_or xs i x) [] ∙ append-nil (f (get_or xs i x)))
    ∙ ap (λ y. length (flat_map f (take i xs)) + length (f y)) (sym is)

pub signal_len : (signal : ImageSignal) → length (signal_bytes signal) ≡ 5 + length signal.name
signal_len signal = omega (arith, length-append (number_bytes (length signal.name)) signal.name, four (length signal.name))

pub signal_operand : (x : SigId) → length (operand_bytes (Sig x)) ≡ 5
signal_operand x = omega (arith, four x.0)

pub constant_operand : (value : ℤ) → length (operand_bytes (Const value)) ≡ 9
constant_operand value = omega (arith, eight value)

-- ---- the fields of operations

pub read_len : (x : SigId) → length (field_bytes (does.Read x)) ≡ 4
read_len x = four x.0

pub function_len : (y : SigId) (op : FunOp) (operands : List Operand) → length (field_bytes (does.Fun y op operands)) ≡ 6 + length (flat_map operand_bytes operands)
function_len y op operands = omega (arith, length-append (number_bytes y.0) (function_number op ∷ length operands ∷ flat_map operand_bytes operands), four y.0)

pub copy_len : (y x : SigId) → length (field_bytes (does.Copy y x)) ≡ 8
copy_len y x = two y.0 x.0

pub constant_len : (y : SigId) (value : ℤ) → length (field_bytes (does.Const y value)) ≡ 12
constant_len y value = four_eight y.0 value

pub delay_read_len : (y : SigId) (m : ℕ) → length (field_bytes (does.DelayRead y m)) ≡ 8
delay_read_len y m = two y.0 m

pub store_len : (m : ℕ) (x : SigId) → length (field_bytes (does.Store m x)) ≡ 8
store_len m x = two m x.0

pub op_len : (op : ImageOp) → length (op_bytes op) ≡ 13 + length (field_bytes op.kind)
op_len op =
    let a = number_bytes op.guard in
    let b = number_bytes op.at.line in
    let d = number_bytes op.at.col in
    let f = field_bytes op.kind in
    omega (arith, length-append ((a ++ b) ++ d) f, length-append (a ++ b) d, length-append a b, four op.guard, four op.at.line, four op.at.col)

-- ---- parts whose items are of one length

conditions_len : (xs : List SigId) → length (flat_map condition_bytes xs) ≡ 4 * length xs
conditions_len [] = omega arith
conditions_len (x ∷ xs) = ap length (flat_map-cons condition_bytes x xs) ∙ length-append (condition_bytes x) (flat_map condition_bytes xs) ∙ omega (arith, four x.0, conditions_len xs)

memory_len : (memory : ImageMemory) → length (memory_bytes memory) ≡ 9
memory_len memory = omega (arith, eight memory.init)

memories_len : (xs : List ImageMemory) → length (flat_map memory_bytes xs) ≡ 9 * length xs
memories_len [] = omega arith
memories_len (x ∷ xs) = ap length (flat_map-cons memory_bytes x xs) ∙ length-append (memory_bytes x) (flat_map memory_bytes xs) ∙ omega (arith, memory_len x, memories_len xs)

node_len : (node : ImageNode) → length (node_bytes node) ≡ 12
node_len node =
    let a = number_bytes node.variable in
    let b = number_bytes node.low in
    let d = number_bytes node.high in
    omega (arith, length-append (a ++ b) d, length-append a b, four node.variable, four node.low, four node.high)

nodes_len : (xs : List ImageNode) → length (flat_map node_bytes xs) ≡ 12 * length xs
nodes_len [] = omega arith
nodes_len (x ∷ xs) = ap length (flat_map-cons node_bytes x xs) ∙ length-append (node_bytes x) (flat_map node_bytes xs) ∙ omega (arith, node_len x, nodes_len xs)

counts_len : (a b d e f g h : ℕ)
    → length (((((((number_bytes a ++ number_bytes b) ++ number_bytes d) ++ number_bytes e) ++ number_bytes f) ++ number_bytes g) ++ number_bytes h)) ≡ 28
unfolding number_bytes
counts_len a b d e f g h = refl

pub image_len : (image : ImageView) → length (image_bytes image)
    ≡ 36 + length (flat_map signal_bytes image.signals) + 4 * length image.conditions + 9 * length image.memories + 12 * length image.nodes + length (flat_map op_bytes image.ops)
unfolding image_bytes
image_len image =
    let a = flat_map signal_bytes image.signals in
    let b = flat_map condition_bytes image.conditions in
    let d = flat_map memory_bytes image.memories in
    let e = flat_map node_bytes image.nodes in
    let f = flat_map op_bytes image.ops in
    let front = magic ++ count_bytes image in
    let counts : length (count_bytes image) ≡ 28 = counts_len (length image.signals) image.inputs image.outputs (length image.conditions) (length image.memories) (length image.nodes) (length image.ops) in
    let begin : length magic ≡ 8 = refl in
    omega (
      arith,
      length-append ((((front ++ a) ++ b) ++ d) ++ e) f,
      length-append (((front ++ a) ++ b) ++ d) e,
      length-append ((front ++ a) ++ b) d,
      length-append (front ++ a) b,
      length-append front a,
      length-append magic (count_bytes image),
      counts,
      begin,
      conditions_len image.conditions,
      memories_len image.memories,
      nodes_len image.nodes,
    )
