-- The list of a triangular kernel is an order of writing.
use Rattle.sig_rel.proofs.Common.{◌≡◌, ℕ, zero, suc, List, take, Some, sym, ap, ◌∙◌, subst, arith, slice_get, option_map, IsValid, Equation, Form, Kernel, contains_at, AreNamed, IsOrderOfWriting, ReadsBefore, IsGivenBy, AreRulesOf, HasClasses, HasTruths, IsTriangle, form_at, operand_signals, tested, Element, Presence, Truth, Rules}
use Rattle.sig_rel.proofs.PlacingLemmas.{apart_kinds, presence_is}
use Rattle.sig_rel.proofs.TriangleLemmas.{not_own, place_of_class}

module _ (kernel : Kernel) (valid : IsValid kernel) (rules : Rules) (are : AreRulesOf kernel rules) (list : List Element) (tri : IsTriangle kernel rules.least.items list) where
  abbrev least : List ℕ
  least = rules.least.items

  -- no equation gives the top
  pub top_uncounted : (number : ℕ) (form : Form) → IsGivenBy kernel rules (Presence tri.top) number form → ⊥
  top_uncounted number form counted =
      let is = are.is_counted tri.top number counted.0 in
      is.2 (tri.is_top number is.0 is.1.at is.1.governs)

  -- what decides an element that an equation gives stands before it
  pub presence_before : (k class number : ℕ) (form : Form) → slice_get list k ≡ Some (Presence class) → IsGivenBy kernel rules (Presence class) number form
      → HasClasses least (take k list) (operand_signals form) × HasTruths kernel (take k list) (tested form)
  presence_before zero class number form at counted =
      let both : Some (Presence class) ≡ Some (Presence tri.top) = sym at ∙ tri.first in
      let same : class ≡ tri.top = presence_is class tri.top (let e : Presence class ≡ Presence tri.top = cc in e) in
      absurd (top_uncounted number form (subst (λ c. IsGivenBy kernel rules (Presence c) number form) same counted))
  presence_before (suc k) class number form at counted =
      let may = tri.order (suc k) (Presence class) (omega arith) at in
      let there = are.all_counted class may.number may.form (place_of_class kernel least list tri (suc k) class at) may.counted (not_own kernel least list tri (suc k) class at may) in
      let numbers : Some (Some may.number) ≡ Some (Some number) = sym there ∙ counted.0 in
      let same : may.number ≡ number = cc in
      let forms : Some may.form ≡ Some form = sym may.counted.at ∙ ap (form_at kernel) same ∙ counted.1 in
      let e : may.form ≡ form = cc in
      (subst (λ f. HasClasses least (take (suc k) list) (operand_signals f)) e may.classes, subst (λ f. HasTruths kernel (take (suc k) list) (tested f)) e may.tests)

  pub truth_before : (k signal number : ℕ) (form : Form) → slice_get list k ≡ Some (Truth signal) → IsGivenBy kernel rules (Truth signal) number form
      → HasClasses least (take k list) (operand_signals form) × HasTruths kernel (take k list) (operand_signals form)
  truth_before zero signal number form at defined_it =
      let both : Some (Presence tri.top) ≡ Some (Truth signal) = sym tri.first ∙ at in
      absurd (apart_kinds tri.top signal (let e : Presence tri.top ≡ Truth signal = cc in e))
  truth_before (suc k) signal number form at defined_it =
      let may = tri.order (suc k) (Truth signal) (omega arith) at in
      let is = are.is_defined signal number defined_it.0 in
      let forms : Some is.0.form ≡ Some form = sym (ap (option_map (λ (e : Equation). e.form)) is.1) ∙ defined_it.1 in
      let e : is.0.form ≡ form = cc in
      let among = contains_at kernel.equations number is.0 is.1 in
      (subst (λ f. HasClasses least (take (suc k) list) (operand_signals f)) e (may.classes is.4 is.0 among is.2), subst (λ f. HasTruths kernel (take (suc k) list) (operand_signals f)) e (may.truths is.4 is.0 among is.2))

  named : AreNamed kernel rules
  named = record {
    are_least = are.are_least;
    countings = are.countings;
    definitions = are.definitions;
    presence = λ class number counted. let is = are.is_counted class number counted in (is.0, is.1.at, is.1.governs);
    truth = are.is_defined;
  }

  reads_before : (k : ℕ) (element : Element) → slice_get list k ≡ Some element → ReadsBefore kernel rules (take k list) element
  reads_before k (Presence class) at = λ number form counted there. presence_before k class number form at (counted, there)
  reads_before k (Truth signal) at = λ number form defined_it there. truth_before k signal number form at (defined_it, there)

  pub triangle_orders : IsOrderOfWriting kernel rules list
  triangle_orders = record {
    named = named;
    classes = λ class there. (tri.classes class).0 there;
    truths = λ signal there. (tri.truths signal).0 there;
    once = tri.once;
    order = reads_before;
  }
