-- The operation at a place of the order.
use Rattle.std.proofs.lemmas.Option.{same_Some}
use Rattle.sig_machine.proofs.Common.{◌≡◌, ◌<◌, ◌∙◌, ℕ, zero, suc, List, [], ◌∷◌, length, get_or, None, Some, refl, sym, ap, slice_get, arith, OpId, IsAccepted, PlanView, numbers_of, Op, get_at, order_names, StandsAt}

numbered : (order : List OpId) (place : ℕ) (number : OpId) → slice_get order place ≡ Some number → slice_get (numbers_of order) place ≡ Some number.0
numbered [] place number is = absurd (let e : None ≡ Some number = is in cc)
numbered (o ∷ order) zero number is = ap (λ (n : OpId). Some n.0) (same_Some o number is)
numbered (o ∷ order) (suc place) number is = numbered order place number is

module _ (plan : PlanView) (accepted : IsAccepted plan) (place : ℕ) (number d : OpId) (here : place < length plan.order) (is : number ≡ get_or plan.order place d) where
  ordered : slice_get plan.order place ≡ Some number
  ordered = get_at plan.order place d here ∙ ap (λ (n : OpId). Some n) (sym is)

  pub op_there : number.0 < length plan.ops
  op_there = order_names plan accepted place number.0 (numbered plan.order place number ordered)

  pub stands_there : (op e : Op) → op ≡ get_or plan.ops number.0 e → StandsAt plan place op
  stands_there op e same = record {
    number = number;
    ordered = ordered;
    is = get_at plan.ops number.0 e op_there ∙ ap (λ (o : Op). Some o) (sym same);
  }

exists : {A : Type 0} (xs : List A) (n : ℕ) → n < length xs → (x : A) × (slice_get xs n ≡ Some x)
exists [] n less = absurd (omega (arith, less))
exists (x ∷ xs) zero less = (x, refl)
exists (x ∷ xs) (suc n) less = exists xs n (omega (arith, less))

-- an operation stands at each place
pub stands_somewhere : (plan : PlanView) → IsAccepted plan → (place : ℕ) → place < length plan.order → (op : Op) × StandsAt plan place op
stands_somewhere plan accepted place within =
    let (number, ordered) = exists plan.order place within in
    let below = order_names plan accepted place number.0 (numbered plan.order place number ordered) in
    let (op, is) = exists plan.ops number.0 below in
    (op, record { number = number; ordered = ordered; is = is })
