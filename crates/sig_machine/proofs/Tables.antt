-- The table of the variables that stand for signals.
use Rattle.sig_machine.proofs.Common.{◌≡◌, ◌⊎◌, ◌<◌, ◌≤◌, ◌+◌, ◌∙◌, ℕ, zero, suc, true, false, List, length, replicate, set, slice_get, Option, None, Some, refl, sym, ap, subst, inl, inr, arith, length-set, length-replicate, and_parts, cases_order, eqb_tells, SigId, Signal, contains_at, get_within, one_layer, AreInOrder, IsEarlier, is_condition, is_free, signal_id, is_boolean_kind, kind_at, kind_of, Kernel, AreDifferent, AreEntered, AreVariables, AreWithin}
use Rattle.sig_machine.proofs.Lists.{same_Some}
use Rattle.sig_lists.proofs.SetItems.{get_set_other, get_set_same}

-- a table in which nothing is entered
nothing : Option ℕ
nothing = None

none_at : (n signal variable : ℕ) → slice_get (replicate n nothing) signal ≡ Some (Some variable) → ⊥
unfolding nothing
none_at zero signal variable is = let e : None ≡ Some (Some variable) = is in cc
none_at (suc n) zero variable is = let e : Some None ≡ Some (Some variable) = is in cc
none_at (suc n) (suc signal) variable is = none_at n signal variable is

pub none_entered : (conditions : List SigId) (signals : ℕ) (variables : List (Option ℕ)) → variables ≡ replicate signals None → AreEntered conditions signals 0 variables
unfolding nothing
none_entered conditions signals variables is = record {
  count = ap length is ∙ length-replicate signals None;
  is = λ signal variable at. absurd (none_at signals signal variable (ap (λ vs. slice_get vs signal) (sym is) ∙ at));
  all = λ variable condition below. absurd (omega (arith, below));
}

-- a table in which one more variable is entered
pub one_entered : (conditions : List SigId) (signals variable : ℕ) (condition : SigId) (variables : List (Option ℕ)) → AreDifferent conditions → condition.0 < signals
    → slice_get conditions variable ≡ Some condition → AreEntered conditions signals variable variables
    → AreEntered conditions signals (variable + 1) (set variables condition.0 (Some variable))
one_entered conditions signals variable condition variables differ within at entered =
    let room : condition.0 < length variables = omega (arith, within, entered.count) in
    record {
      count = length-set variables condition.0 (Some variable) ∙ entered.count;
      is = λ signal other there. elim (eqb_tells signal condition.0) [
        | inl same ↦
            let here : slice_get (set variables condition.0 (Some variable)) signal ≡ Some (Some variable) =
            subst (λ (k : ℕ). slice_get (set variables condition.0 (Some variable)) k ≡ Some (Some variable)) (sym same.1) (get_set_same variables condition.0 (Some variable) room) in
            let one : variable ≡ other = same_Some variable other (same_Some (Some variable) (Some other) (sym here ∙ there)) in
            (condition, ap (slice_get conditions) (sym one) ∙ at, sym same.1, omega (arith, one))
        | inr apart ↦
            let (found, found_at, number, before) = entered.is signal other (sym (get_set_other variables condition.0 signal (Some variable) apart.1) ∙ there) in
            (found, found_at, number, omega (arith, before))
      ];
      all = λ other found below found_at. elim (eqb_tells other variable) [
        | inl same ↦
            let one : found ≡ condition = same_Some found condition (sym found_at ∙ ap (slice_get conditions) same.1 ∙ at) in
            subst (λ (c : SigId). slice_get (set variables condition.0 (Some variable)) c.0 ≡ Some (Some other)) (sym one)
            (get_set_same variables condition.0 (Some variable) room ∙ ap (λ (n : ℕ). Some (Some n)) (sym same.1))
        | inr apart ↦
            let before : other < variable = omega (arith, below, apart.1) in
            get_set_other variables condition.0 found.0 (Some variable) (λ same. apart.1 (differ other variable found condition found_at at same))
            ∙ entered.all other found before found_at
      ];
    }

pub all_entered : (conditions : List SigId) (signals entered : ℕ) (variables : List (Option ℕ)) → length conditions ≤ entered → AreEntered conditions signals entered variables
    → AreVariables conditions signals variables
all_entered conditions signals entered variables all are = record {
  count = are.count;
  is = λ signal variable at. let (condition, there, number, before) = are.is signal variable at in (condition, there, number);
  all = λ variable condition at. are.all variable condition (let h = get_within conditions variable condition at in omega (arith, h, all)) at;
}

-- the conditions of a kernel are signals of it, and differ
kind_within : (signals : List Signal) (number : ℕ) (found : Option Signal) → slice_get signals number ≡ found → is_boolean_kind (kind_of found) ≡ true → number < length signals
kind_within signals number None is boolean = absurd (let e : false ≡ true = boolean in cc)
kind_within signals number (Some signal) is boolean = get_within signals number signal is

pub conditions_within : (kernel : Kernel) (conditions : List SigId) → AreInOrder kernel conditions → AreWithin (length kernel.signals) conditions
conditions_within kernel conditions order variable condition at =
    let is : is_condition kernel condition.0 ≡ true = (order.all condition).0 (contains_at conditions variable condition at) in
    kind_within kernel.signals condition.0 (slice_get kernel.signals condition.0) refl (and_parts (is_boolean_kind (kind_at kernel.signals (signal_id condition.0))) (is_free kernel condition.0) is).0

not_itself : (kernel : Kernel) (c : ℕ) → IsEarlier kernel c c → ⊥
not_itself kernel c earlier = by (one_layer kernel c earlier.layer earlier.later_layer earlier.has earlier.later_has) earlier.before where
  by : earlier.layer ≡ earlier.later_layer → (earlier.layer < earlier.later_layer) ⊎ ((earlier.layer ≡ earlier.later_layer) × (c < c)) → ⊥
  by same (inl less) = omega (arith, same, less)
  by same (inr less) = omega (arith, less.1)

pub conditions_differ : (kernel : Kernel) (conditions : List SigId) → AreInOrder kernel conditions → AreDifferent conditions
conditions_differ kernel conditions order i j c d at_i at_j same = by (cases_order i j) where
  by : (i ≡ j) ⊎ ((i < j) ⊎ (j < i)) → i ≡ j
  by (inl one) = one
  by (inr (inl less)) = absurd (not_itself kernel c.0 (subst (IsEarlier kernel c.0) (sym same) (order.order i j c d less at_i at_j)))
  by (inr (inr more)) = absurd (not_itself kernel d.0 (subst (IsEarlier kernel d.0) same (order.order j i d c more at_j at_i)))
