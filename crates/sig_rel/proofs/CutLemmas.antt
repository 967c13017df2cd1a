-- A schedule of which a boolean is cut: no equation gives it its truth any more.
use Rattle.sig_rel.proofs.Common.{◌≡◌, inl, inr, ℕ, zero, suc, List, [], ◌∷◌, length, take, Option, None, Some, sym, ap, ◌∙◌, subst, Contains, slice_get, slice_set, cases_eq, length-set, Kernel, AreLeast, AreNamed, IsOrderOfWriting, IsSchedule, ReadsBefore, Governs, HasClasses, IsClass, operand_signals, Element, Presence, Truth, Schedule}
use Rattle.sig_rel.proofs.ScheduleLemmas.{set_other}

-- a row that was emptied names no equation
emptied : (xs : List (Option ℕ)) (i number : ℕ) → slice_get (slice_set xs i None) i ≡ Some (Some number) → ⊥
emptied [] i number at = let no : None ≡ Some (Some number) = at in cc
emptied (x ∷ xs) zero number at = let none : Option ℕ = None in let no : Some none ≡ Some (Some number) = at in cc
emptied (x ∷ xs) (suc i) number at = emptied xs i number at

-- the rules and the list alone are looked at
pub schedule_stays : (kernel : Kernel) (old new : Schedule) → new.rules ≡ old.rules → new.list ≡ old.list → IsSchedule kernel old → IsSchedule kernel new
schedule_stays kernel old new rules list is = record {
  order = subst (λ r. IsOrderOfWriting kernel r new.list.items) (sym rules) (subst (λ l. IsOrderOfWriting kernel old.rules l.items) (sym list) is.order);
  all_classes = λ class of. subst (λ l. Contains l.items (Presence class)) (sym list) (is.all_classes class (subst (λ r. IsClass kernel r.least.items class) rules of));
  all_truths = λ signal boolean. subst (λ l. Contains l.items (Truth signal)) (sym list) (is.all_truths signal boolean);
}

module _ (kernel : Kernel) (old new : Schedule) (signal : ℕ) (list : new.list ≡ old.list) (least : new.rules.least ≡ old.rules.least) (counted : new.rules.counted ≡ old.rules.counted)
    (defined : new.rules.defined.items ≡ slice_set old.rules.defined.items signal None) (is : IsSchedule kernel old) where
  least_kept : old.rules.least.items ≡ new.rules.least.items
  least_kept = ap (λ v. v.items) (sym least)

  counted_row : (class : ℕ) → slice_get new.rules.counted.items class ≡ slice_get old.rules.counted.items class
  counted_row class = ap (λ v. slice_get v.items class) counted

  defined_row : (s number : ℕ) → slice_get new.rules.defined.items s ≡ Some (Some number) → slice_get old.rules.defined.items s ≡ Some (Some number)
  defined_row s number at =
      let there : slice_get (slice_set old.rules.defined.items signal None) s ≡ Some (Some number) = ap (λ xs. slice_get xs s) (sym defined) ∙ at in
      elim (cases_eq s signal) [
        | inl same ↦ absurd (emptied old.rules.defined.items signal number (ap (λ k. slice_get (slice_set old.rules.defined.items signal None) k) (sym same) ∙ there))
        | inr apart ↦ sym (set_other old.rules.defined.items signal s None apart) ∙ there
      ]

  still_named : AreNamed kernel new.rules
  still_named = record {
    are_least = subst (AreLeast kernel) least_kept is.order.named.are_least;
    countings = ap (λ v. length v.items) counted ∙ is.order.named.countings;
    definitions = ap length defined ∙ length-set old.rules.defined.items signal None ∙ is.order.named.definitions;
    presence = λ class number at.
        let named = is.order.named.presence class number (sym (counted_row class) ∙ at) in
        (named.0, named.1, subst (λ xs. Governs xs class named.0) least_kept named.2);
    truth = λ s number at. is.order.named.truth s number (defined_row s number at);
  }

  still_reads : (before : List Element) (element : Element) → ReadsBefore kernel old.rules before element → ReadsBefore kernel new.rules before element
  still_reads before (Presence class) reads = λ number form at there.
      let has = reads number form (sym (counted_row class) ∙ at) there in
      (subst (λ xs. HasClasses xs before (operand_signals form)) least_kept has.0, has.1)
  still_reads before (Truth s) reads = λ number form at there.
      let has = reads number form (defined_row s number at) there in
      (subst (λ xs. HasClasses xs before (operand_signals form)) least_kept has.0, has.1)

  still_in_order : IsOrderOfWriting kernel new.rules old.list.items
  still_in_order = record {
    named = still_named;
    classes = λ class there. subst (λ xs. IsClass kernel xs class) least_kept (is.order.classes class there);
    truths = is.order.truths;
    once = is.order.once;
    order = λ k element at. still_reads (take k old.list.items) element (is.order.order k element at);
  }

  pub schedule_with_cut : IsSchedule kernel new
  schedule_with_cut = record {
    order = subst (λ l. IsOrderOfWriting kernel new.rules l.items) (sym list) still_in_order;
    all_classes = λ class of. subst (λ l. Contains l.items (Presence class)) (sym list) (is.all_classes class (subst (λ xs. IsClass kernel xs class) (sym least_kept) of));
    all_truths = λ s boolean. subst (λ l. Contains l.items (Truth s)) (sym list) (is.all_truths s boolean);
  }
