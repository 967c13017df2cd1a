-- The first class of a triangular kernel's list is a root.
use Rattle.sig_solve.proofs.Common.{◌≡◌, ◌<◌, ◌⊎◌, inl, inr, ℕ, true, false, List, [], ◌∷◌, length, take, get_or, refl, sym, ap, ◌∙◌, subst, arith, Contains, zero, suc, Option, None, Some, option_map, slice_get, is_some, and_parts, false≢true, ltb-true, IsValid, Equation, Form, When, WhenConst, Default, Kernel, IsRoot, IsReaction, Reaction, Status, is_present, meets, or_else, status_at, where_true, AreLeast, present_together, statuses_are_same, AreClassesInOrder, Governs, IsTriangle, IsTriangular, MayStand, classes_among, form_at, operand_signals, Element, Presence, Truth, all_statuses, form_within, taken_get, at_contained, contains_at, contains_head, contains_later, get_or_from_slice_get, slice_get_within, someone}
use Rattle.sig_solve.proofs.FrameLemmas.{least_below, least_twice}

-- where a sampling is present, its operands are
sampled : (b x : Status) → is_some (where_true b x) ≡ true → (is_some b ≡ true) × (is_some x ≡ true)
sampled (Some true) x is = (refl, is)
sampled _ x is = absurd (false≢true is)

-- where a merge is present, an operand is
merged : (u v : Status) → is_some (or_else u v) ≡ true → (is_some u ≡ true) ⊎ (is_some v ≡ true)
merged None v is = inr is
merged (Some u) v is = inl refl

-- an operand of the equation that governs a class is present where the class is
record HasOperand (kernel : Kernel) (reaction : Reaction) (form : Form) : Type 0 where
  x : ℕ
  among : Contains (operand_signals form) x
  below : x < length kernel.signals
  here : is_present reaction x ≡ true

module _ (kernel : Kernel) (valid : IsValid kernel) (least : List ℕ) (are : AreLeast kernel least) (reaction : Reaction) (is : IsReaction kernel reaction) where
  -- a signal is present where its class is
  class_present : (s : ℕ) → s < length kernel.signals → is_present reaction s ≡ is_present reaction (get_or least s 0)
  class_present s lt = present_together kernel reaction s (get_or least s 0) is (are.same s lt)

  operand_of : (class : ℕ) (form : Form) → form_within (length kernel.signals) form ≡ true → Governs least class form → meets kernel.signals reaction form ≡ true → is_present reaction class ≡ true → HasOperand kernel reaction form
  operand_of class (When y x b) within governs met here =
      let y_lt = ltb-true y.0 (length kernel.signals) (and_parts _ _ within).0 in
      let x_lt = ltb-true x.0 (length kernel.signals) (and_parts _ _ (and_parts _ _ within).1).0 in
      let y_here : is_present reaction y.0 ≡ true = class_present y.0 y_lt ∙ ap (is_present reaction) governs ∙ here in
      let parts = sampled (status_at reaction b.0) (status_at reaction x.0) (sym (statuses_are_same (status_at reaction y.0) (where_true (status_at reaction b.0) (status_at reaction x.0)) met) ∙ y_here) in
      record { x = x.0; among = contains_head x.0 (b.0 ∷ []); below = x_lt; here = parts.1 }
  operand_of class (WhenConst y constant b) within governs met here =
      let y_lt = ltb-true y.0 (length kernel.signals) (and_parts _ _ within).0 in
      let b_lt = ltb-true b.0 (length kernel.signals) (and_parts _ _ (and_parts _ _ within).1).0 in
      let y_here : is_present reaction y.0 ≡ true = class_present y.0 y_lt ∙ ap (is_present reaction) governs ∙ here in
      let parts = sampled (status_at reaction b.0) (Some _) (sym (statuses_are_same (status_at reaction y.0) (where_true (status_at reaction b.0) (Some _)) met) ∙ y_here) in
      record { x = b.0; among = contains_head b.0 []; below = b_lt; here = parts.0 }
  operand_of class (Default y u v) within governs met here =
      let y_lt = ltb-true y.0 (length kernel.signals) (and_parts _ _ within).0 in
      let operands = and_parts _ _ (and_parts _ _ within).1 in
      let u_lt = ltb-true u.0 (length kernel.signals) operands.0 in
      let v_lt = ltb-true v.0 (length kernel.signals) (and_parts _ _ operands.1).0 in
      let y_here : is_present reaction y.0 ≡ true = class_present y.0 y_lt ∙ ap (is_present reaction) governs ∙ here in
      elim (merged (status_at reaction u.0) (status_at reaction v.0) (sym (statuses_are_same (status_at reaction y.0) (or_else (status_at reaction u.0) (status_at reaction v.0)) met) ∙ y_here)) [
        | inl u_here ↦ record { x = u.0; among = contains_head u.0 (v.0 ∷ []); below = u_lt; here = u_here }
        | inr v_here ↦ record { x = v.0; among = contains_later u.0 v.0 (v.0 ∷ []) (contains_head v.0 []); below = v_lt; here = v_here }
      ]
  operand_of class _ within governs met here = absurd governs

  -- an equation of the kernel is met, and its signals are the kernel's
  form_is : (number : ℕ) (form : Form) → form_at kernel number ≡ Some form → (form_within (length kernel.signals) form ≡ true) × (meets kernel.signals reaction form ≡ true)
  form_is number form at = by (slice_get kernel.equations number) refl at where
    by : (o : Option Equation) → slice_get kernel.equations number ≡ o → option_map (λ (equation : Equation). equation.form) o ≡ Some form
        → (form_within (length kernel.signals) form ≡ true) × (meets kernel.signals reaction form ≡ true)
    by None e f = absurd (let none : None ≡ Some form = f in cc)
    by (Some equation) e f =
        let some : Some equation.form ≡ Some form = f in
        let own : equation.form ≡ form = cc in
        let lt = slice_get_within kernel.equations number equation e in
        let same : (get_or kernel.equations number equation).form ≡ form = ap (λ (q : Equation). q.form) (get_or_from_slice_get kernel.equations number equation equation e) ∙ own in (
          subst (λ g. form_within (length kernel.signals) g ≡ true) same (valid.equations.within number equation lt),
          subst (λ g. meets kernel.signals reaction g ≡ true) same (is.equations number equation lt),
        )

  module _ (list : List Element) (triangle : IsTriangle kernel least list) where
    -- where a class of the list is present, so is the first one
    first_present : (n k class : ℕ) → k < n → slice_get list k ≡ Some (Presence class) → is_present reaction class ≡ true → is_present reaction triangle.top ≡ true
    first_present zero k class lt at here = absurd (omega (arith, lt))
    first_present (suc n) zero class lt at here =
        let both : Some (Presence triangle.top) ≡ Some (Presence class) = sym triangle.first ∙ at in
        let same : triangle.top ≡ class = cc in
        ap (is_present reaction) same ∙ here
    first_present (suc n) (suc k) class lt at here =
        let stands : MayStand kernel least (take (suc k) list) (Presence class) = triangle.order (suc k) (Presence class) (omega arith) at in
        let form = form_is stands.number stands.form stands.counted.at in
        let operand = operand_of class stands.form form.0 stands.counted.governs form.1 here in
        let there = stands.classes operand.x operand.among in
        let before = taken_get (suc k) list there.0 (Presence (get_or least operand.x 0)) (at_contained (take (suc k) list) (Presence (get_or least operand.x 0)) there) in
        first_present n there.0 (get_or least operand.x 0) (omega (arith, before.0, lt)) before.1 (sym (class_present operand.x operand.below) ∙ operand.here)

pub top_is_root : (kernel : Kernel) → IsValid kernel → (least : List ℕ) → AreLeast kernel least → (list : List Element) (triangle : IsTriangle kernel least list) → IsRoot kernel triangle.top
top_is_root kernel valid least are list triangle = record {
  is = ((triangle.classes triangle.top).0 (contains_at list 0 (Presence triangle.top) triangle.first)).0;
  everywhere = λ reaction speaks.
      let some = someone reaction speaks.some in
      let lt : some.0 < length kernel.signals = omega (arith, some.1, all_statuses kernel.signals reaction speaks.is.kinds) in
      let there = (triangle.classes (get_or least some.0 0)).1 (least_below kernel least are some.0 lt, least_twice kernel least are some.0 lt) in
      first_present kernel valid least are reaction speaks.is list triangle (suc there.0) there.0 (get_or least some.0 0) (omega arith) (at_contained list (Presence (get_or least some.0 0)) there)
      (sym (class_present kernel valid least are reaction speaks.is some.0 lt) ∙ some.2);
}

-- the first of a triangular kernel's classes is a root
first_class : (list : List Element) (top : ℕ) → slice_get list 0 ≡ Some (Presence top) → slice_get (classes_among list) 0 ≡ Some top
first_class [] top at = absurd (let e : None ≡ Some (Presence top) = at in cc)
first_class (Presence class ∷ list) top at = let e : Some (Presence class) ≡ Some (Presence top) = at in let same : class ≡ top = cc in ap Some same
first_class (Truth signal ∷ list) top at = absurd (let e : Some (Truth signal) ≡ Some (Presence top) = at in cc)

pub first_is_root : (kernel : Kernel) → IsValid kernel → (classes : List ℕ) → AreClassesInOrder kernel classes → (top : ℕ) × (slice_get classes 0 ≡ Some top) × IsRoot kernel top
first_is_root kernel valid classes (least, are, (list, triangle, same)) =
    (triangle.top, ap (λ xs. slice_get xs 0) same ∙ first_class list triangle.top triangle.first, top_is_root kernel valid least are list triangle)

pub is_triangular : (kernel : Kernel) (classes : List ℕ) → AreClassesInOrder kernel classes → IsTriangular kernel
is_triangular kernel classes (least, are, (list, triangle, same)) = (least, are, (list, triangle))
