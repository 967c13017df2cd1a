-- What follows where the rules on kinds do not refuse.
pub use Rattle.std.proofs.lemmas.Option.{same_Some}
use Rattle.sig_call.proofs.Common.{◌≡◌, ◌≢◌, ◌⊎◌, ◌<◌, ◌^◌, ◌∙◌, ℕ, zero, suc, pos, neg_ℤ, Bool, true, false, if◌then◌else◌, Option, None, Some, refl, sym, ap, inl, inr, arith, FitsSigned, w64, Kind, Integer, Boolean, Event, FormRow, ConstantRule, NoConstant, OneConstant, FirstConstant, accepts, kind_of_result, unary_kind, binary_kind, stored, Takes, RefusesOne, RefusesTwo, MayNotBeFirst, MayNotBeSecond, Allows, true_from_ne_false}

-- integers of 64 bits
pub fits_pos : (n : ℕ) → n < 2 ^ 63 → FitsSigned w64 (pos n)
fits_pos n below = record { sfits = below }

pub fits_neg : (n : ℕ) → n < 2 ^ 63 → FitsSigned w64 (neg_ℤ (pos n))
fits_neg zero below = record { sfits = omega arith }
fits_neg (suc n) below = record { sfits = omega arith }

-- kinds that are the same, or not
pub same_kind : (k l : Kind) → (k ≡ l) ⊎ (k ≢ l)
same_kind Integer Integer = inl refl
same_kind Boolean Boolean = inl refl
same_kind Event Event = inl refl
same_kind _ _ = inr (λ e. absurd cc)

takes_by : (wanted given : Kind) → (given ≡ wanted) ⊎ (given ≢ wanted) → (wanted ≡ Boolean) ⊎ (wanted ≢ Boolean) → (given ≡ Event) ⊎ (given ≢ Event) → ((Takes wanted given → ⊥) → ⊥) → Takes wanted given
takes_by wanted given (inl same) truth event h = inl same
takes_by wanted given (inr other) (inl truth) (inl event) h = inr (truth, event)
takes_by wanted given (inr other) (inl truth) (inr never) h = absurd (h (λ t. elim t [ inl is ↦ other is | inr is ↦ never is.1 ]))
takes_by wanted given (inr other) (inr never) event h = absurd (h (λ t. elim t [ inl is ↦ other is | inr is ↦ never is.0 ]))

pub takes_if : (wanted given : Kind) → ((Takes wanted given → ⊥) → ⊥) → Takes wanted given
takes_if wanted given h = takes_by wanted given (same_kind given wanted) (same_kind wanted Boolean) (same_kind given Event) h

-- what takes a kind that is stored has it, so that its own init is one for it
pub stored_twice : (k : Kind) → stored (stored k) ≡ stored k
stored_twice Integer = refl
stored_twice _ = refl

no_event : (k : Kind) → stored k ≡ Event → ⊥
no_event Integer is = absurd cc
no_event _ is = absurd cc

pub takes_stored : (wanted k : Kind) → Takes wanted (stored k) → stored wanted ≡ stored k
takes_stored wanted k (inl same) = ap stored (sym same) ∙ stored_twice k
takes_stored wanted k (inr event) = absurd (no_event k event.1)

-- both have a kind, and the same
abbrev pub Alike : Option Kind → Option Kind → Type 0
Alike given other = (k : Kind) × (given ≡ Some k) × (other ≡ Some k)

unary_some : (form : FormRow) (k : Kind) → accepts form.operands k None ≡ true → unary_kind form (Some k) ≡ Some (kind_of_result form.result k None)
unary_some form k is = ap (λ (b : Bool). if b then Some (kind_of_result form.result k None) else None) is

pub unary_alike : (form : FormRow) (given other : Option Kind) → Alike given other → (RefusesOne form given → ⊥) → Alike (unary_kind form given) (unary_kind form other)
unary_alike form given other same h =
    let accepted : accepts form.operands same.0 None ≡ true = true_from_ne_false (accepts form.operands same.0 None) (λ is. h (same.0, same.1, is)) in
    (kind_of_result form.result same.0 None, ap (unary_kind form) same.1 ∙ unary_some form same.0 accepted, ap (unary_kind form) same.2 ∙ unary_some form same.0 accepted)

binary_some : (form : FormRow) (k l : Kind) → accepts form.operands k (Some l) ≡ true → binary_kind form (Some k) (Some l) ≡ Some (kind_of_result form.result k (Some l))
binary_some form k l is = ap (λ (b : Bool). if b then Some (kind_of_result form.result k (Some l)) else None) is

pub binary_alike : (form : FormRow) (first second other_first other_second : Option Kind) → Alike first other_first → Alike second other_second → (RefusesTwo form first second → ⊥)
    → Alike (binary_kind form first second) (binary_kind form other_first other_second)
binary_alike form first second other_first other_second left right h =
    let accepted : accepts form.operands left.0 (Some right.0) ≡ true = true_from_ne_false (accepts form.operands left.0 (Some right.0)) (λ is. h (left.0, right.0, left.1, right.1, is)) in
    let some = binary_some form left.0 right.0 accepted in (
      kind_of_result form.result left.0 (Some right.0),
      ap (λ o. binary_kind form o second) left.1 ∙ ap (binary_kind form (Some left.0)) right.1 ∙ some,
      ap (λ o. binary_kind form o other_second) left.2 ∙ ap (binary_kind form (Some left.0)) right.2 ∙ some,
    )

-- where constants may stand
pub allowed : (rule : ConstantRule) (first second : Bool) → (MayNotBeFirst rule × (first ≡ true) × (second ≡ false) → ⊥) → ((first ≡ true) × (second ≡ true) → ⊥)
    → (MayNotBeSecond rule × (first ≡ false) × (second ≡ true) → ⊥) → Allows rule first second
allowed rule true true f g h = absurd (g (refl, refl))
allowed NoConstant true false f g h = absurd (f (tt, refl, refl))
allowed NoConstant false false f g h = (refl, refl)
allowed OneConstant true false f g h = refl
allowed OneConstant false true f g h = refl
allowed OneConstant false false f g h = refl
allowed FirstConstant true false f g h = refl
allowed FirstConstant false false f g h = refl
allowed _ false true f g h = absurd (h (tt, refl, refl))
