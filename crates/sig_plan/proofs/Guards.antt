-- The guards of clocks, and what stays of them as a store grows.
use Rattle.sig_plan.proofs.Common.{◌≡◌, ℕ, Bool, List, get_or, refl, sym, ap, ◌∙◌, subst, Option, None, Some, slice_get, AreClocks, ClocksView, guard_of, Depends, Holds, Keeps, StoreView, test, Node, Ref, Agree-kept, Holds-kept, Spans-kept, Kernel, AreOver, HoldGuards, function_in, presence_in, at_contained, contains_at}

module _ (kernel : Kernel) (nodes : List Node) (clocks : ClocksView) (are : AreClocks kernel nodes clocks) where
  pub guards_held : HoldGuards nodes clocks
  guards_held guard there = are.held there.0 guard (at_contained clocks.guard guard there)

module _ (old new : StoreView) (kept : Keeps old new) (clocks : ClocksView) (held : HoldGuards old.nodes clocks) where
  pub guards_kept : HoldGuards new.nodes clocks
  guards_kept guard there = Holds-kept old new kept guard (held guard there)

  pub over_kept : (vs : List ℕ) → AreOver old.nodes vs clocks → AreOver new.nodes vs clocks
  over_kept vs over guard there = Spans-kept old new kept guard (held guard there) vs (over guard there)

  pub test_stays : (class : ℕ) (guard : Ref) → slice_get clocks.guard class ≡ Some guard → test new.nodes guard ≡ test old.nodes guard
  test_stays class guard is = let there : Holds old.nodes guard = held guard (contains_at clocks.guard class guard is) in λ j truths. Agree-kept old new kept guard there truths j

  function_stays : (class : ℕ) (guard : Option Ref) → slice_get clocks.guard class ≡ guard → function_in new.nodes guard ≡ function_in old.nodes guard
  function_stays class None is = refl
  function_stays class (Some guard) is = let same = test_stays class guard is in λ j truths. same j truths

  pub presence_stays : presence_in new.nodes clocks ≡ presence_in old.nodes clocks
  presence_stays = λ j x. function_stays (get_or clocks.class_of x.0 0) (guard_of clocks x.0) refl j

pub clocks_kept : (kernel : Kernel) (old new : StoreView) (clocks : ClocksView) → Keeps old new → AreClocks kernel old.nodes clocks → AreClocks kernel new.nodes clocks
clocks_kept kernel old new clocks kept are =
    let held = guards_held kernel old.nodes clocks are in
    let same = test_stays old new kept clocks held in
    record {
      count = are.count;
      layers = are.layers;
      conditions = are.conditions;
      classes = are.classes;
      members = are.members;
      held = λ class guard is. Holds-kept old new kept guard (are.held class guard is);
      variables = λ class guard is v depends. are.variables class guard is v (let D : (List Bool → Bool) → Type 0 = λ f. Depends f v in subst D (same class guard is) depends);
      functions = λ signal guard there is proposal reaction speaks keeps. are.functions signal guard there is proposal reaction speaks keeps ∙ sym (ap (λ (f : List Bool → Bool). f proposal) (same (get_or clocks.class_of signal 0) guard is));
      differ = λ c d f g is_f is_g agree. are.differ c d f g is_f is_g (λ truths. sym (ap (λ (h : List Bool → Bool). h truths) (same c f is_f)) ∙ agree truths ∙ ap (λ (h : List Bool → Bool). h truths) (same d g is_g));
      layer = are.layer;
      roots = are.roots;
      numbers = are.numbers;
    }
