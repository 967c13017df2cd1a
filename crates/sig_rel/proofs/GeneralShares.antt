-- The making of a kernel's system keeps to the share of its relation.
use Rattle.sig_rel.proofs.Common.{◌≡◌, ◌≤◌, ◌+◌, ◌-◌, ◌*◌, ◌^◌, ℕ, zero, suc, List, Result, Ok, Err, length, sym, subst, arith, count_by, slice_index, ◌==◌, IsErrAnd, range_with_len, mul-le-mul_left, mul-le-mul_right, pow_mono, pow_pos, length-range_with_len, StoreView, allowance, DdAnswer, Ref, Kernel, AreLeast, IsFromStore, Adds, substituting, classes_below, IsUnknownCount, IsRefusedFor, KeepsToShare, Makes, share_of, RelAnswer}
use Rattle.sig_rel.specs.declared.answer.RelAnswer.TheVariants.{OutOfMemory}
use Rattle.sig_rel.proofs.AddingLemmas.{refused_later}
use Rattle.sig_rel.proofs.ShareLemmas.{refused_as}
use Rattle.sig_rel.proofs.UsedLemmas.{one_least}

-- there are no more classes than unknowns
classes_few : (kernel : Kernel) (least : List ℕ) → AreLeast kernel least → (u : ℕ) → IsUnknownCount kernel u → classes_below least (length least) ≤ u
classes_few kernel least are u is =
    let same = one_least kernel is.0 least is.1 are in
    let count = are.count in
    let own = subst (λ (xs : List ℕ). u ≡ count_by (λ signal. slice_index xs signal == signal) (range_with_len 0 (length kernel.signals)) + _) same is.2 in
    let few : count_by (λ signal. slice_index least signal == signal) (range_with_len 0 (length kernel.signals)) ≤ u = omega (arith, own) in
    subst (λ n. classes_below least n ≤ u) (sym count) few

cubed : (u : ℕ) → u ≤ u * u * u
cubed zero = omega arith
cubed (suc u) =
    let a : 1 * suc u ≤ (suc u * suc u) * suc u = mul-le-mul_right (suc u) (let b : 1 * suc u ≤ suc u * suc u = mul-le-mul_right (suc u) (omega arith) in omega (arith, b)) in
    omega (arith, a)

fits : (q c u w p r : ℕ) → c ≤ u → 1 ≤ p → r ≤ p → u ≤ w → u + 6 * q * p + (11 * q + c) * (r - 1) ≤ p * 30 * (q + w)
fits q c u w p r few one le cube =
    let a : (11 * q + c) * (r - 1) ≤ (11 * q + c) * p = mul-le-mul_left (11 * q + c) (omega (arith, le)) in
    let b : (11 * q + c) * p ≤ (11 * q + u) * p = mul-le-mul_right p (omega (arith, few)) in
    let d : u * 1 ≤ u * p = mul-le-mul_left u one in
    let e : u * p ≤ w * p = mul-le-mul_right p cube in
    let f : (11 * q + u) * p ≡ 11 * (q * p) + u * p = omega arith in
    let g : 6 * q * p ≡ 6 * (q * p) = omega arith in
    let h : p * 30 * (q + w) ≡ 30 * (q * p) + 30 * (w * p) = omega arith in
    omega (arith, a, b, d, e, f, g, h)

-- the writing of the columns, and what is left, are within the share
within : (kernel : Kernel) (least : List ℕ) → AreLeast kernel least → (u : ℕ) → IsUnknownCount kernel u → (first n : ℕ) → n ≤ u
    → substituting kernel u + (11 * length kernel.equations + classes_below least (length least)) * allowance (range_with_len first n) ≤ share_of kernel u
within kernel least are u is first n le =
    let few = classes_few kernel least are u is in
    subst (λ m. substituting kernel u + (11 * length kernel.equations + classes_below least (length least)) * (2 ^ m - 1) ≤ share_of kernel u) (sym (length-range_with_len first n))
    (fits (length kernel.equations) (classes_below least (length least)) u (u * u * u) (2 ^ u) (2 ^ n) few (let e = pow_pos u in omega (arith, e)) (pow_mono le) (cubed u))

-- what was made of the columns, by no more calls than ask for what is left, is within the share too
module _ (kernel : Kernel) (least : List ℕ) (are : AreLeast kernel least) (Wide : List ℕ → Type 0) (first n : ℕ) (wide : Wide (range_with_len first n)) (few : (u : ℕ) → IsUnknownCount kernel u → n ≤ u)
    {X : Type 0} (refs : X → List Ref) (calls : ℕ) (most : calls ≤ 11 * length kernel.equations + classes_below least (length least)) (r s t : StoreView) where
  enough : (u : ℕ) → IsUnknownCount kernel u → substituting kernel u + calls * allowance (range_with_len first n) ≤ share_of kernel u
  enough u is =
      let a = within kernel least are u is first n (few u is) in
      let b : calls * allowance (range_with_len first n) ≤ (11 * length kernel.equations + classes_below least (length least)) * allowance (range_with_len first n) = mul-le-mul_right (allowance (range_with_len first n)) most in
      omega (arith, a, b)

  all_calls : (made : X) → ((u : ℕ) → IsUnknownCount kernel u → Adds (substituting kernel u) r s (Ok tt)) → Makes calls Wide s t refs (let d : Result X DdAnswer = Ok made in d)
      → (u : ℕ) → IsUnknownCount kernel u → length t.nodes ≤ length r.nodes + share_of kernel u
  all_calls made adds makes u is =
      let lead = makes.leads (range_with_len first n) wide in
      let a = (adds u is).added in
      let b = lead.share.added in
      let c = enough u is in
      omega (arith, a, b, c)

  module _ {T : Type 0} where
    pub made_within_share : (made : X) (result : T) → ((u : ℕ) → IsUnknownCount kernel u → Adds (substituting kernel u) r s (Ok tt)) → Makes calls Wide s t refs (let d : Result X DdAnswer = Ok made in d)
        → KeepsToShare kernel r t (let x : Result T RelAnswer = Ok result in x)
    made_within_share made result adds makes = record { added = all_calls made adds makes; refused = λ u is. tt }

    -- memory alone was wanting at last
    pub lacked_within_share : (made : X) (result : Result T RelAnswer) → ((u : ℕ) → IsUnknownCount kernel u → Adds (substituting kernel u) r s (Ok tt)) → Makes calls Wide s t refs (let d : Result X DdAnswer = Ok made in d)
        → IsErrAnd result (λ answer. answer ≡ OutOfMemory) → KeepsToShare kernel r t result
    lacked_within_share made (Ok x) adds makes is = absurd is
    lacked_within_share made (Err answer) adds makes is = record { added = all_calls made adds makes; refused = λ u count. subst (IsRefusedFor r t (share_of kernel u)) (sym is) tt }

    pub left_within_share : (why : DdAnswer) (result : Result T RelAnswer) → ((u : ℕ) → IsUnknownCount kernel u → Adds (substituting kernel u) r s (Ok tt)) → Makes calls Wide s t refs (let d : Result X DdAnswer = Err why in d)
        → IsErrAnd result (IsFromStore why) → KeepsToShare kernel r t result
    left_within_share why (Ok x) adds makes from = absurd from
    left_within_share why (Err answer) adds makes from = record {
      added = λ u is.
          let share = makes.leads (range_with_len first n) wide in
          let a = (adds u is).added in
          let b = share.added in
          let c = enough u is in
          omega (arith, a, b, c);
      refused = λ u is.
          let share = makes.leads (range_with_len first n) wide in
          let nodes : ℕ = calls * allowance (range_with_len first n) in
          let a = (adds u is).added in
          refused_as r t (substituting kernel u + nodes) (share_of kernel u) (enough u is) why answer from
          (refused_later r s t nodes (substituting kernel u + nodes) (omega (arith, a)) why share.refused);
    }

module _ (kernel : Kernel) (least : List ℕ) (are : AreLeast kernel least) (r s : StoreView) where
  substituting_few : (u : ℕ) → IsUnknownCount kernel u → substituting kernel u ≤ share_of kernel u
  substituting_few u is = let c = within kernel least are u is 0 0 (omega arith) in omega (arith, c)

  module _ {T : Type 0} where
    pub substituted_within_share : (why : DdAnswer) (result : Result T RelAnswer) → ((u : ℕ) → IsUnknownCount kernel u → Adds (substituting kernel u) r s (Err why)) → IsErrAnd result (IsFromStore why) → KeepsToShare kernel r s result
    substituted_within_share why (Ok x) adds from = absurd from
    substituted_within_share why (Err answer) adds from = record {
      added = λ u is. let a = (adds u is).added in let c = substituting_few u is in omega (arith, a, c);
      refused = λ u is. refused_as r s (substituting kernel u) (share_of kernel u) (substituting_few u is) why answer from (adds u is).refused;
    }
