-- How many pairs there were, up to an operation.
use Rattle.sig_verify.proofs.Common.{◌≡◌, ℕ, ◌+◌, ◌*◌, ◌<◌, ◌≤◌, ◌^◌, [], length, Some, arith, mul-le-mul, pow_pos, slice_get, ImageView, IsImage, IsOperation, MayDo, Scope, scope_of, ImageOp, ImageOpKind, each_at, count_few, operands_of, IsWant, IsTired, Budget, DdAnswer, NODES, OutOfMemory, IsBeyondBound, Work}
use Rattle.sig_file.specs.declared.images.ImageOpKind.TheVariants as does
use Rattle.sig_verify.proofs.Taken.{four}

-- ---- what an operation reads

few_of_kind : (scope : Scope) (kind : ImageOpKind) → MayDo scope kind → operands_of kind ≤ 2
few_of_kind scope (does.Fun y op operands) h = let as_many = h.count in let few = count_few op in omega (arith, as_many, few)
few_of_kind scope other h = omega arith

pub few_operands : (image : ImageView) → IsImage image → (n : ℕ) (op : ImageOp) → slice_get image.ops n ≡ Some op → operands_of op.kind ≤ 2
few_operands image is n op at = few_of_kind (scope_of image) op.kind (each_at (λ before. IsOperation (scope_of image)) [] image.ops n op is.ops at).kind

-- ---- room for one more operation

pub reads_room : (n operands pairs p q : ℕ) → p ≡ q → operands ≤ 2 → pairs ≤ n * (3 * q) → pairs + operands * p ≤ (n + 1) * (3 * q)
reads_room n operands pairs p q same few le =
    let most : operands * p ≤ 2 * p = mul-le-mul few (omega arith) in
    let one_more : (n + 1) * (3 * q) ≡ n * (3 * q) + 3 * q = omega arith in
    omega (arith, most, one_more, same, le)

pub write_room : (n operands pairs read p q : ℕ) → p ≡ q → operands ≤ 2 → pairs ≤ n * (3 * q) → read ≤ pairs + operands * p → read + p ≤ (n + 1) * (3 * q)
write_room n operands pairs read p q same few le more =
    let most : operands * p ≤ 2 * p = mul-le-mul few (omega arith) in
    let one_more : (n + 1) * (3 * q) ≡ n * (3 * q) + 3 * q = omega arith in
    omega (arith, most, one_more, same, le, more)

-- ---- a refusal

beyond_pairs : (limit nodes k n ops pairs p q : ℕ) → q ≡ p * p → 1 ≤ p → n < ops → pairs ≤ (n + 1) * (3 * p) → limit < pairs → limit < nodes + k + 16 * q * (ops + 1)
beyond_pairs limit nodes k n ops pairs p q square some lt few refused =
    let flat : (n + 1) * (3 * p) ≡ 3 * ((n + 1) * p) = omega arith in
    let wide : (n + 1) * p ≤ (ops + 1) * p = mul-le-mul (omega arith) (omega arith) in
    let once : 1 * p ≤ p * p = mul-le-mul some (omega arith) in
    let more : (ops + 1) * p ≤ (ops + 1) * q = mul-le-mul (omega arith) (omega (arith, once, square)) in
    let turned : 16 * q * (ops + 1) ≡ 16 * ((ops + 1) * q) = omega arith in
    omega (arith, flat, wide, more, turned, few, refused)

beyond : (image : ImageView) (n pairs : ℕ) → n < length image.ops → pairs ≤ (n + 1) * (3 * 2 ^ length image.conditions) → NODES < pairs → IsBeyondBound image
beyond image n pairs lt few refused =
    beyond_pairs NODES (length image.nodes) (length image.conditions) n (length image.ops) pairs (2 ^ length image.conditions) (4 ^ length image.conditions)
    (four (length image.conditions)) (pow_pos (length image.conditions)) lt few refused

pub tired_wants : (image : ImageView) (n : ℕ) → n < length image.ops → (work : Work) (more : ℕ) → work.pairs + more ≤ (n + 1) * (3 * 2 ^ length image.conditions)
    → (answer : DdAnswer) → IsTired work more answer → IsWant image answer
tired_wants image n lt work more few (Budget nodes) h = (h.0, beyond image n (work.pairs + more) lt few h.1)
tired_wants image n lt work more few OutOfMemory h = tt
