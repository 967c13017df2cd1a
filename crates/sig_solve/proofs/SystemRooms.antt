-- Lemmas on the two shares of a triangular kernel's system: that over its conditions is within that over its unknowns.
use Rattle.sig_solve.proofs.Common.{◌≡◌, ◌≤◌, ◌+◌, ◌*◌, ◌^◌, ℕ, zero, suc, Bool, true, cond, List, [], ◌∷◌, length, sym, ap, ◌∙◌, subst, inl, inr, arith, Contains, mul-le-mul_left, mul-le-mul_right, pow_mono, eq-eqb, sum_by-cons, Result, Ok, Err, IfErr, IsErrAnd, count_by, ◌==◌, slice_index, range_with_len, Kernel, StoreView, conditions_of, IsUnknownCount, IsRefusedFor, KeepsToShare, KeepsToTriangularShare, triangular_share_of, IsTriangular, Presence, RelAnswer, conditions_few, in_range, one_least, contains_at, contains_cons, contains_none}
use Rattle.sig_rel.specs.Shares.{share_of}
use Rattle.sig_rel.specs.declared.answer.RelAnswer.TheVariants.{Budget, OutOfMemory}

-- ---- a triangular kernel has an unknown, that of its top

count_some : (p : ℕ → Bool) (xs : List ℕ) (x : ℕ) → Contains xs x → p x ≡ true → 1 ≤ count_by p xs
count_some p [] x there is = absurd (contains_none x there)
count_some p (y ∷ xs) x there is =
    let split = sum_by-cons (λ z. cond (p z) 1 0) y xs in
    elim (contains_cons y x xs there) [
      | inl same ↦ let e : p y ≡ true = subst (λ z. p z ≡ true) same is in let one = ap {B = ℕ} (λ b. cond b 1 0) e in omega (arith, split, one)
      | inr later ↦ let rest = count_some p xs x later is in omega (arith, split, rest)
    ]

has_unknown : (kernel : Kernel) (u : ℕ) → IsTriangular kernel → IsUnknownCount kernel u → 1 ≤ u
has_unknown kernel u is count =
    let triangle = is.2.1 in
    let class = (triangle.classes triangle.top).0 (contains_at is.2.0 0 (Presence triangle.top) triangle.first) in
    let leads : slice_index count.0 triangle.top ≡ triangle.top = ap (λ xs. slice_index xs triangle.top) (one_least kernel count.0 is.0 count.1 is.1) ∙ class.1 in
    let one = count_some (λ signal. slice_index count.0 signal == signal) (range_with_len 0 (length kernel.signals)) triangle.top
    (in_range 0 (length kernel.signals) triangle.top (omega arith) (let lt = class.0 in omega (arith, lt))) (eq-eqb (slice_index count.0 triangle.top) triangle.top leads) in
    let e = count.2 in
    omega (arith, one, e)

-- ---- the shares

within_share : (p r q u : ℕ) → p ≤ r → 1 ≤ u → p * 16 * (q + 1) ≤ r * 30 * (q + u * u * u)
within_share p r q u le some =
    let a : p * 16 ≤ r * 16 = mul-le-mul_right 16 le in
    let b : p * 16 * (q + 1) ≤ r * 16 * (q + 1) = mul-le-mul_right (q + 1) a in
    let c : q + 1 ≤ q + u * u * u = let d = cube u some in omega (arith, d) in
    let e : r * 16 * (q + 1) ≤ r * 16 * (q + u * u * u) = mul-le-mul_left (r * 16) c in
    let f : r * 16 * (q + u * u * u) ≤ r * 30 * (q + u * u * u) = mul-le-mul_right (q + u * u * u) (omega arith) in
    omega (arith, b, e, f)
  where
    cube : (u : ℕ) → 1 ≤ u → 1 ≤ u * u * u
    cube zero some = elim some [ ]
    cube (suc n) some = omega arith

share_within : (kernel : Kernel) (u : ℕ) → IsTriangular kernel → IsUnknownCount kernel u → triangular_share_of kernel ≤ share_of kernel u
share_within kernel u is count =
    within_share (2 ^ length (conditions_of kernel)) (2 ^ u) (length kernel.equations) u (pow_mono (conditions_few kernel u count)) (has_unknown kernel u is count)

refused_within : (old new : StoreView) (few many : ℕ) → few ≤ many → (why : RelAnswer) → IsRefusedFor old new few why → IsRefusedFor old new many why
refused_within old new few many le (Budget n) refused = (refused.0, let less = refused.1 in omega (arith, less, le))
refused_within old new few many le OutOfMemory refused = tt

-- what keeps to the share over the conditions keeps to that over the unknowns
pub keeps_to_both : {T : Type 0} (kernel : Kernel) (old new : StoreView) (result : Result T RelAnswer) → IsTriangular kernel
    → KeepsToTriangularShare kernel old new result → KeepsToShare kernel old new result
keeps_to_both {T} kernel old new result is own = record {
  added = λ u count. let a = own.added is in let b = share_within kernel u is count in omega (arith, a, b);
  refused = λ u count. by u count result (own.refused is);
} where
  by : (u : ℕ) → IsUnknownCount kernel u → (result : Result T RelAnswer) → IfErr result (IsRefusedFor old new (triangular_share_of kernel)) → IfErr result (IsRefusedFor old new (share_of kernel u))
  by u count (Ok x) refused = tt
  by u count (Err why) refused = refused_within old new (triangular_share_of kernel) (share_of kernel u) (share_within kernel u is count) why refused

-- and so it does where a refusal is passed on
pub keeps_passed : {S T : Type 0} (kernel : Kernel) (old new : StoreView) (result : Result T RelAnswer) (e : RelAnswer) → IsErrAnd result (λ d. d ≡ e) → IsTriangular kernel
    → KeepsToTriangularShare {T = S} kernel old new (Err e) → KeepsToShare kernel old new result
keeps_passed {S} {T} kernel old new (Ok x) e passed is own = absurd passed
keeps_passed {S} {T} kernel old new (Err d) e passed is own =
    subst (λ f. KeepsToShare {T = T} kernel old new (Err f)) (sym passed)
    (keeps_to_both {T = T} kernel old new (Err e) is (record { added = own.added; refused = own.refused }))
