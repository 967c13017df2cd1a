-- Columns that were written in the order of a schedule are what its equations give, and else their own unknowns.
use Rattle.sig_rel.proofs.Common.{◌≡◌, ◌<◌, ℕ, Bool, true, List, length, Option, None, Some, refl, sym, ap, ◌∙◌, arith, Contains, slice_index, eq-eqb, IsValid, Kernel, Keeps, StoreView, test, Ref, entry_of, AreOwnColumns, AreUnknowns, is_boolean, presence_by, IsOrderOfWriting, AreSubstituted, HoldColumns, IsPartlyWritten, ref_at, values_at, IsClass, Element, Presence, Truth, Unknowns, Rules, Columns}
use Rattle.sig_rel.proofs.ElementLemmas.{held_at}
use Rattle.sig_rel.proofs.OwnLemmas.{class_unknown}
use Rattle.sig_rel.proofs.ScheduleLemmas.{named_class}
use Rattle.sig_rel.proofs.KeptFunctions.{test_kept}

not_both : (row : Option (Option ℕ)) (number : ℕ) → row ≡ Some None → row ≡ Some (Some number) → ⊥
not_both row number none some = let none_of : Option ℕ = None in let both : Some none_of ≡ Some (Some number) = sym none ∙ some in cc

module _ (kernel : Kernel) (valid : IsValid kernel) (rules : Rules) (list : List Element) (order : IsOrderOfWriting kernel rules list)
    (all_classes : (class : ℕ) → IsClass kernel rules.least.items class → Contains list (Presence class)) (all_truths : (signal : ℕ) → is_boolean kernel signal ≡ true → Contains list (Truth signal))
    (count : ℕ) (unknowns : Unknowns) (are : AreUnknowns kernel count unknowns.present.items unknowns.truth.items)
    (s t : StoreView) (kept : Keeps s t) (before after : Columns) (held : HoldColumns s.nodes before) (own : AreOwnColumns s.nodes rules.least.items unknowns before)
    (partly : IsPartlyWritten kernel rules s.nodes t.nodes before after list) where
  pub columns_substituted : (truths : List Bool) → AreSubstituted kernel rules unknowns truths (values_at t.nodes after truths)
  columns_substituted truths = record {
    classes = λ class number form given. partly.written (Presence class) number form (all_classes class (named_class kernel valid rules order.named class number given.0)) given truths (presence_by rules.least.items (values_at t.nodes after truths) form) refl;
    truths_given = λ signal number form b given gives. partly.written (Truth signal) number form (all_truths signal (order.named.truth signal number given.0).3) given truths b gives;
    cut_classes = λ class is.
        let lt : class < length unknowns.present.items = let l = is.0.0 in let long = are.presences in omega (arith, l, long) in
        let variable = class_unknown s.nodes rules.least.items unknowns before own class lt (eq-eqb (slice_index rules.least.items class) class is.0.1) in
        cut (Presence class) is.1 ∙ variable.function truths;
    cut_truths = λ signal is. let variable = own.all (Truth signal) in cut (Truth signal) is.1 ∙ variable.function truths;
    plain = λ signal other. partly.plain signal other truths;
  } where
    cut : (e : Element) → entry_of rules e ≡ Some None → test t.nodes (ref_at after e) truths ≡ test s.nodes (ref_at before e) truths
    cut e none =
        ap (λ (r : Ref). test t.nodes r truths) (partly.cut e (λ number form given. not_both (entry_of rules e) number none given.0))
        ∙ test_kept s t kept (ref_at before e) (held_at s.nodes before held e) truths
