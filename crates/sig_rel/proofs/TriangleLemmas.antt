-- What the list of a triangular kernel says of each of its classes.
use Rattle.sig_rel.proofs.Common.{◌≡◌, ◌<◌, ◌⊎◌, inl, inr, ℕ, zero, suc, List, [], ◌∷◌, take, Option, Some, sym, ◌∙◌, subst, arith, Contains, slice_get, Form, Default, Kernel, at_contained, contains_at, contains_head, contains_later, AreRules, HasClasses, HasOperandOf, IsClass, IsCounted, IsTriangle, MayEnter, operand_signals, Element, Presence, taken_get}

pub before_place : {X : Type 0} (k : ℕ) (xs : List X) (x : X) → Contains (take k xs) x → (j : ℕ) × (j < k) × (slice_get xs j ≡ Some x)
before_place k xs x there = let at = taken_get k xs there.0 x (at_contained (take k xs) x there) in (there.0, at.0, at.1)

-- a class does not stand behind itself, so it is of no operand of its counted equation
own_operand : (least : List ℕ) (before : List Element) (class : ℕ) (form : Form) → HasClasses least before (operand_signals form) → HasOperandOf least class form → Contains before (Presence class)
own_operand least before class (Default y u v) has own = elim own [
  | inl e ↦ subst (λ c. Contains before (Presence c)) (sym e) (has u.0 (contains_head u.0 (v.0 ∷ [])))
  | inr e ↦ subst (λ c. Contains before (Presence c)) (sym e) (has v.0 (contains_later u.0 v.0 (v.0 ∷ []) (contains_head v.0 [])))
]
own_operand least before class _ has own = absurd own

-- the equation that is counted for a class
pub record HasCounted (kernel : Kernel) (least : List ℕ) (counted : List (Option ℕ)) (class : ℕ) : Type 0 where
  pub number : ℕ
  pub form : Form
  pub is_counted : IsCounted kernel least class number form
  pub there : slice_get counted class ≡ Some (Some number)

module _ (kernel : Kernel) (least : List ℕ) (list : List Element) (tri : IsTriangle kernel least list) where
  pub not_own : (k class : ℕ) → slice_get list k ≡ Some (Presence class) → (may : MayEnter kernel least (take k list) class) → HasOperandOf least class may.form → ⊥
  not_own k class at may own =
      let before = before_place k list (Presence class) (own_operand least (take k list) class may.form may.classes own) in
      let same = tri.once before.0 k (Presence class) before.2 at in
      omega (arith, same, before.1)

  top_of_first : (class : ℕ) → slice_get list 0 ≡ Some (Presence class) → class ≡ tri.top
  top_of_first class at = let both : Some (Presence class) ≡ Some (Presence tri.top) = sym at ∙ tri.first in let e : Presence class ≡ Presence tri.top = cc in cc

  -- the place of a class
  pub class_place : (class : ℕ) → IsClass kernel least class → (k : ℕ) × (slice_get list k ≡ Some (Presence class))
  class_place class is = let there = (tri.classes class).1 is in (there.0, at_contained list (Presence class) there)

  pub place_of_class : (k class : ℕ) → slice_get list k ≡ Some (Presence class) → IsClass kernel least class
  place_of_class k class at = (tri.classes class).0 (contains_at list k (Presence class) at)

  pub top_is_class : IsClass kernel least tri.top
  top_is_class = place_of_class 0 tri.top tri.first

  module _ (counted defined : List (Option ℕ)) (rules : AreRules kernel least counted defined) where
    -- a class is the top, or an equation is counted for it
    pub class_at : (k class : ℕ) → slice_get list k ≡ Some (Presence class) → (class ≡ tri.top) ⊎ HasCounted kernel least counted class
    class_at zero class at = inl (top_of_first class at)
    class_at (suc k) class at =
        let may = tri.order (suc k) (Presence class) (omega arith) at in
        inr (record {
          number = may.number;
          form = may.form;
          is_counted = may.counted;
          there = rules.all_counted class may.number may.form (place_of_class (suc k) class at) may.counted (not_own (suc k) class at may);
        })

    pub class_cases : (class : ℕ) → IsClass kernel least class → (class ≡ tri.top) ⊎ HasCounted kernel least counted class
    class_cases class is = let place = class_place class is in class_at place.0 class place.1
