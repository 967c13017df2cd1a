-- How many elements of an order of writing an equation gives: at most two for each equation.
use Rattle.sig_rel.proofs.Common.{◌≡◌, ◌<◌, ◌≤◌, ◌+◌, ◌*◌, inl, inr, ℕ, suc, Bool, true, false, List, [], ◌∷◌, length, Option, None, Some, refl, sym, ap, ◌∙◌, subst, arith, eqb, slice_get, option_map, AllByRecursion, list_any, IsDistinct, eqb-true, false≢true, or_cases, or_parts, sum_by-cons, length-le_from_distinct_below, defines, is_target, target_of, Equation, Form, When, WhenConst, Default, Kernel, size_of, step_at, steps, IsOrderOfWriting, Governs, form_at, Element, Presence, Truth, Rules, SigId}
use Rattle.sig_rel.proofs.OnceDefined.{got_within}

abbrev with_entry : Option (Option ℕ) → List ℕ → List ℕ
with_entry (Some (Some n)) ns = n ∷ ns
with_entry _ ns = ns

-- the equations that a table gives for elements
abbrev entries : (Element → Option (Option ℕ)) → List Element → List ℕ
entries f [] = []
entries f (e ∷ list) = with_entry (f e) (entries f list)

abbrev class_entry : Rules → Element → Option (Option ℕ)
class_entry rules (Presence class) = slice_get rules.counted.items class
class_entry rules (Truth signal) = None

abbrev truth_entry : Rules → Element → Option (Option ℕ)
truth_entry rules (Presence class) = None
truth_entry rules (Truth signal) = slice_get rules.defined.items signal

entry_length : (o : Option (Option ℕ)) (ns : List ℕ) → length (with_entry o ns) ≡ size_of o + length ns
entry_length None ns = omega arith
entry_length (Some None) ns = omega arith
entry_length (Some (Some n)) ns = omega arith

steps_are : (rules : Rules) (list : List Element) → steps rules list ≡ length (entries (class_entry rules) list) + length (entries (truth_entry rules) list)
steps_are rules [] = refl
steps_are rules (Presence c ∷ list) =
    let a = sum_by-cons (step_at rules) (Presence c) list in
    let b = entry_length (slice_get rules.counted.items c) (entries (class_entry rules) list) in
    let rest = steps_are rules list in
    omega (arith, a, b, rest)
steps_are rules (Truth s ∷ list) =
    let a = sum_by-cons (step_at rules) (Truth s) list in
    let b = entry_length (slice_get rules.defined.items s) (entries (truth_entry rules) list) in
    let rest = steps_are rules list in
    omega (arith, a, b, rest)

all_apart : (n : ℕ) (xs : List ℕ) → list_any (eqb n) xs ≡ false → AllByRecursion (λ y. eqb n y ≡ false) xs
all_apart n [] none = tt
all_apart n (x ∷ xs) none = let parts = or_parts (eqb n x) (list_any (eqb n) xs) none in (parts.0, all_apart n xs parts.1)

module _ (f : Element → Option (Option ℕ)) where
  IsMember : List Element → ℕ → Type 0
  IsMember list q = (k : ℕ) × ((e : Element) × (slice_get list k ≡ Some e) × (f e ≡ Some (Some q)))

  member_by : (e : Element) (list : List Element) (q : ℕ) → (list_any (eqb q) (entries f list) ≡ true → IsMember list q) → (o : Option (Option ℕ)) → f e ≡ o → list_any (eqb q) (with_entry o (entries f list)) ≡ true → IsMember (e ∷ list) q
  unfolding IsMember
  member_by e list q later (Some (Some n)) is any = elim (or_cases (eqb q n) (list_any (eqb q) (entries f list)) any) [
    | inl here ↦ (0, (e, refl, is ∙ ap (λ m. Some (Some m)) (sym (eqb-true q n here))))
    | inr there ↦ let rest = later there in (suc rest.0, rest.1)
  ]
  member_by e list q later _ is any = let rest = later any in (suc rest.0, rest.1)

  member : (list : List Element) (q : ℕ) → list_any (eqb q) (entries f list) ≡ true → IsMember list q
  member [] q any = absurd (false≢true any)
  member (e ∷ list) q any = member_by e list q (member list q) (f e) refl any

  abbrev AreOnce : List Element → Type 0
  AreOnce list = (i j : ℕ) (d e : Element) (q : ℕ) → slice_get list i ≡ Some d → slice_get list j ≡ Some e → f d ≡ Some (Some q) → f e ≡ Some (Some q) → i ≡ j

  distinct_by : (e : Element) (list : List Element) → AreOnce (e ∷ list) → IsDistinct eqb (entries f list) → (o : Option (Option ℕ)) → f e ≡ o → IsDistinct eqb (with_entry o (entries f list))
  unfolding IsDistinct IsMember
  distinct_by e list once rest (Some (Some n)) is = (all_apart n (entries f list) (fresh (list_any (eqb n) (entries f list)) refl), rest) where
    fresh : (b : Bool) → list_any (eqb n) (entries f list) ≡ b → list_any (eqb n) (entries f list) ≡ false
    fresh false none = none
    fresh true some =
        let there = member list n some in
        let same = once 0 (suc there.0) e there.1.0 n refl there.1.1 is there.1.2 in
        absurd (omega (arith, same))
  distinct_by e list once rest _ is = rest

  distinct : (list : List Element) → AreOnce list → IsDistinct eqb (entries f list)
  unfolding IsDistinct
  distinct [] once = tt
  distinct (e ∷ list) once = distinct_by e list once (distinct list (λ i j d x q at there is has. let same = once (suc i) (suc j) d x q at there is has in omega (arith, same))) (f e) refl

  few_entries : (list : List Element) (n : ℕ) → AreOnce list → ((k : ℕ) (e : Element) (q : ℕ) → slice_get list k ≡ Some e → f e ≡ Some (Some q) → q < n) → length (entries f list) ≤ n
  unfolding IsMember
  few_entries list n once below = length-le_from_distinct_below (entries f list) n (distinct list once) (λ q any. let there = member list q any in below there.0 there.1.0 q there.1.1 there.1.2)

-- two elements that one equation is counted for are of one class
governed_once : (least : List ℕ) (a b : ℕ) (form : Form) → Governs least a form → Governs least b form → a ≡ b
governed_once least a b (When y x c) first second = sym first ∙ second
governed_once least a b (WhenConst y c x) first second = sym first ∙ second
governed_once least a b (Default y u v) first second = sym first ∙ second
governed_once least a b _ first second = absurd first

targets_once : (a b : ℕ) (target : Option SigId) → is_target a target ≡ true → is_target b target ≡ true → a ≡ b
targets_once a b None first second = absurd (false≢true first)
targets_once a b (Some y) first second = sym (eqb-true y.0 a first) ∙ eqb-true y.0 b second

form_below : (kernel : Kernel) (number : ℕ) (form : Form) → form_at kernel number ≡ Some form → number < length kernel.equations
form_below kernel number form at = by (slice_get kernel.equations number) refl at where
  by : (o : Option Equation) → slice_get kernel.equations number ≡ o → option_map (λ (e : Equation). e.form) o ≡ Some form → number < length kernel.equations
  by None there is = absurd (let none : None ≡ Some form = is in cc)
  by (Some equation) there is = got_within kernel.equations number equation there

module _ (kernel : Kernel) (rules : Rules) (list : List Element) (order : IsOrderOfWriting kernel rules list) where
  classes_once : AreOnce (class_entry rules) list
  classes_once i j (Truth s) e q at there is has = absurd (let none : None ≡ Some (Some q) = is in cc)
  classes_once i j (Presence c) (Truth s) q at there is has = absurd (let none : None ≡ Some (Some q) = has in cc)
  classes_once i j (Presence c) (Presence d) q at there is has =
      let first = order.named.presence c q is in
      let second = order.named.presence d q has in
      let forms : Some first.0 ≡ Some second.0 = sym first.1 ∙ second.1 in
      let e : first.0 ≡ second.0 = cc in
      let same = governed_once rules.least.items c d second.0 (subst (Governs rules.least.items c) e first.2) second.2 in
      order.once i j (Presence d) (at ∙ ap (λ x. Some (Presence x)) same) there

  truths_once : AreOnce (truth_entry rules) list
  truths_once i j (Presence c) e q at there is has = absurd (let none : None ≡ Some (Some q) = is in cc)
  truths_once i j (Truth s) (Presence c) q at there is has = absurd (let none : None ≡ Some (Some q) = has in cc)
  truths_once i j (Truth s) (Truth r) q at there is has =
      let first = order.named.truth s q is in
      let second = order.named.truth r q has in
      let equations : Some first.0 ≡ Some second.0 = sym first.1 ∙ second.1 in
      let e : first.0 ≡ second.0 = cc in
      let same = targets_once s r (target_of second.0.form) (subst (λ (x : Equation). defines s x ≡ true) e first.2) second.2 in
      order.once i j (Truth r) (at ∙ ap (λ x. Some (Truth x)) same) there

  class_below : (k : ℕ) (e : Element) (q : ℕ) → slice_get list k ≡ Some e → class_entry rules e ≡ Some (Some q) → q < length kernel.equations
  class_below k (Presence c) q at is = let first = order.named.presence c q is in form_below kernel q first.0 first.1
  class_below k (Truth s) q at is = absurd (let none : None ≡ Some (Some q) = is in cc)

  truth_below : (k : ℕ) (e : Element) (q : ℕ) → slice_get list k ≡ Some e → truth_entry rules e ≡ Some (Some q) → q < length kernel.equations
  truth_below k (Presence c) q at is = absurd (let none : None ≡ Some (Some q) = is in cc)
  truth_below k (Truth s) q at is = let first = order.named.truth s q is in got_within kernel.equations q first.0 first.1

  pub few_steps : steps rules list ≤ 2 * length kernel.equations
  few_steps =
      let a = few_entries (class_entry rules) list (length kernel.equations) classes_once class_below in
      let b = few_entries (truth_entry rules) list (length kernel.equations) truths_once truth_below in
      let e = steps_are rules list in
      omega (arith, a, b, e)
