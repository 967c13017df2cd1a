-- Expressions of a copy: their constants, and their kinds.
use Rattle.sig_call.proofs.Common.{◌≡◌, ◌⊎◌, ◌++◌, ◌<◌, ◌∙◌, ℕ, ℤ, Bool, true, false, List, length, Option, None, Some, option_map, refl, sym, ap, subst, inl, inr, slice_get_within, AllByRecursion, slice_get, Kind, Integer, Boolean, Signal, Span, Bounded, IsValue, Name, Constant, Int, Truthful, Param, UnOp, Neg, BinOp, Expression, Named, Number, Truth, Unary as UnaryForm, Binary as BinaryForm, Delay as DelayForm, Cell as CellForm, FlatExpression, Declaration, declarations, declaration_of, names_of_expression, names_of_init, names_of_constant, NoConstant, unary_row, binary_row, delay_row, cell_row, unary_kind, binary_kind, stored, kind_of, kind_of_constant, kind_of_parameter, parameter_kind, is_parameter, is_constant as is_constant_in, NoneHolds, IsUnfit, RefusesOne, RefusesTwo, clashes_of_expression, bare_in_expression, missing_inits, Binding as BoundTo, BoundSignal, BoundConstant, Copy, binding_of, flat_name, flat_of, truth_value, value_bound, value_of, IsBoundedConstant, HasBoundedInits, IsSmall, kind_numbered, flat_kind, Allows, IsMade, MayBegin, same_Some, false_from_ne_true}
use Rattle.sig_tree.specs.FlatSyntax.{Unary, Binary, Delay, Cell}
use Rattle.sig_tree.specs.WellMade.{is_constant}
use Rattle.sig_call.proofs.Expandable.{none_parts}
use Rattle.sig_call.proofs.GoodCopies.{IsGoodCopy, Suits}
use Rattle.sig_call.proofs.KindRules.{same_kind, fits_pos, fits_neg, Alike, unary_alike, binary_alike, allowed}
use Rattle.sig_call.proofs.ProcessRules.{all_parts}

-- a flat expression for one of this kind, which is a constant or not
pub record IsGood (signals : List Signal) (flat : FlatExpression) (kind : Option Kind) (constant : Bool) : Type 0 where
  pub made : IsMade signals flat
  pub same : is_constant flat ≡ constant
  pub kinded : Alike kind (flat_kind signals flat)

-- constants
truth_fits : (truth : Bool) → IsValue Bounded Boolean (truth_value truth)
truth_fits true = inr refl
truth_fits false = inl refl

param_fits : (signals : List Signal) (d : Option Declaration) (bound : Option BoundTo) (kind : Kind) → Suits signals d bound → parameter_kind d ≡ Some kind → IsValue Bounded kind (value_bound bound)
param_fits signals None bound kind suits is = absurd cc
param_fits signals (Some d) None kind suits is = absurd suits
param_fits signals (Some d) (Some (BoundSignal number)) kind suits is = (let none : kind_of_parameter d ≡ None = suits.0 in let some : kind_of_parameter d ≡ Some kind = is in absurd cc)
param_fits signals (Some d) (Some (BoundConstant value k)) kind suits is = subst (λ l. IsValue Bounded l value) (suits.1 ∙ same_Some _ _ (sym suits.0 ∙ is)) suits.2

constant_kind : (o : Option Kind) (kind : Kind) → ((o ≡ None) ⊎ ((k : Kind) × (Some kind ≡ Some k) × (o ≡ Some k → ⊥)) → ⊥) → o ≡ Some kind
constant_kind None kind fit = absurd (fit (inl refl))
constant_kind (Some k) kind fit = elim (same_kind k kind) [ inl same ↦ ap Some same | inr other ↦ absurd (fit (inr (kind, refl, λ is. other (same_Some _ _ is)))) ]

constant_of_kind : (signals : List Signal) (copy : Copy) → IsGoodCopy signals copy → (constant : Constant) (kind : Kind) → kind_of_constant (declarations copy.process) constant ≡ Some kind → IsBoundedConstant constant
    → IsValue Bounded kind (value_of copy constant)
constant_of_kind signals copy good (Int value at) kind is small = subst (λ k. IsValue Bounded k value) (same_Some _ _ is) small
constant_of_kind signals copy good (Truthful truth at) kind is small = subst (λ k. IsValue Bounded k (truth_value truth)) (same_Some _ _ is) (truth_fits truth)
constant_of_kind signals copy good (Param name) kind is small = param_fits signals (declaration_of (declarations copy.process) name.text) (binding_of copy name.text) kind (good.names name.text) is

-- a constant that is not unfit is a value of the kind that is wanted
pub constant_fits : (signals : List Signal) (copy : Copy) → IsGoodCopy signals copy → (wanted : Option Kind) (kind : Kind) → wanted ≡ Some kind → (constant : Constant)
    → (IsUnfit (declarations copy.process) wanted constant → ⊥) → IsBoundedConstant constant → IsValue Bounded kind (value_of copy constant)
constant_fits signals copy good wanted kind is constant fit small =
    constant_of_kind signals copy good constant kind
    (constant_kind (kind_of_constant (declarations copy.process) constant) kind (subst (λ w. IsUnfit (declarations copy.process) w constant → ⊥) is fit)) small

-- names
pub numbered_within : (signals : List Signal) (number : ℕ) (kind : Kind) → kind_numbered signals number ≡ Some kind → number < length signals
numbered_within signals number kind is = within (slice_get signals number) refl is where
  within : (o : Option Signal) → slice_get signals number ≡ o → option_map (λ s. s.kind) o ≡ Some kind → number < length signals
  within None found kinds = absurd cc
  within (Some s) found kinds = slice_get_within signals number s found

name_good : (signals : List Signal) (d : Option Declaration) (bound : Option BoundTo) (at : Span) → Suits signals d bound → (d ≡ None → ⊥)
    → IsGood signals (flat_name bound at) (option_map (λ x. x.kind) d) (is_parameter (parameter_kind d))
name_good signals None bound at suits known = absurd (known refl)
name_good signals (Some d) None at suits known = absurd suits
name_good signals (Some d) (Some (BoundSignal number)) at suits known = record {
  made = numbered_within signals number d.kind suits.1;
  same = ap is_parameter (sym suits.0);
  kinded = (d.kind, refl, suits.1);
}
name_good signals (Some d) (Some (BoundConstant value kind)) at suits known = record {
  made = suits.2;
  same = ap is_parameter (sym suits.0);
  kinded = (d.kind, refl, ap Some suits.1);
}

-- forms
unary_good : (signals : List Signal) (op : UnOp) (flat : FlatExpression) (kind : Option Kind) (constant : Bool) (at : Span) → IsGood signals flat kind constant
    → (RefusesOne (unary_row op) kind → ⊥) → (constant ≡ true → ⊥) → IsGood signals (Unary op flat at) (unary_kind (unary_row op) kind) false
unary_good signals op flat kind constant at good accepted bare = record {
  made = (good.same ∙ false_from_ne_true constant bare, good.made);
  same = refl;
  kinded = unary_alike (unary_row op) kind (flat_kind signals flat) good.kinded accepted;
}

binary_good : (signals : List Signal) (op : BinOp) (first second : FlatExpression) (kind other : Option Kind) (constant another : Bool) (at : Span) → IsGood signals first kind constant → IsGood signals second other another
    → (RefusesTwo (binary_row op) kind other → ⊥) → Allows (binary_row op).constants constant another → IsGood signals (Binary op first second at) (binary_kind (binary_row op) kind other) false
binary_good signals op first second kind other constant another at left right accepted allows = record {
  made = (
    subst (λ b. Allows (binary_row op).constants b (is_constant second)) (sym left.same) (subst (λ b. Allows (binary_row op).constants constant b) (sym right.same) allows),
    left.made,
    right.made,
  );
  same = refl;
  kinded = binary_alike (binary_row op) kind other (flat_kind signals first) (flat_kind signals second) left.kinded right.kinded accepted;
}

cell_good : (signals : List Signal) (first second : FlatExpression) (kind other : Option Kind) (constant another : Bool) (value : ℤ) (at : Span) → IsGood signals first kind constant → IsGood signals second other another
    → (RefusesTwo cell_row kind other → ⊥) → (constant ≡ false) × (another ≡ false) → MayBegin signals first value → IsGood signals (Cell first second value at) (binary_kind cell_row kind other) false
cell_good signals first second kind other constant another value at left right accepted none begins = record {
  made = (left.same ∙ none.0, right.same ∙ none.1, left.made, right.made, begins);
  same = refl;
  kinded = binary_alike cell_row kind other (flat_kind signals first) (flat_kind signals second) left.kinded right.kinded accepted;
}

-- each name is declared
abbrev pub IsKnown : List Declaration → Name → Type 0
IsKnown declared name = declaration_of declared name.text ≡ None → ⊥

-- what is asked of an expression
pub record Asked (declared : List Declaration) (e : Expression) : Type 0 where
  pub known : AllByRecursion (IsKnown declared) (names_of_expression e)
  pub kinds : NoneHolds (clashes_of_expression declared e)
  pub bare : NoneHolds (bare_in_expression declared e)
  pub inits : NoneHolds (missing_inits e)
  pub small : IsSmall e
  pub bounded : HasBoundedInits e

-- an init of what is of a kind
init_fits : (signals : List Signal) (copy : Copy) → IsGoodCopy signals copy → (flat : FlatExpression) (kind : Option Kind) → Alike kind (flat_kind signals flat) → (init : Constant)
    → (IsUnfit (declarations copy.process) (unary_kind delay_row kind) init → ⊥) → IsBoundedConstant init → MayBegin signals flat (value_of copy init)
init_fits signals copy good flat kind same init fit small =
    (same.0, same.2, constant_fits signals copy good (unary_kind delay_row kind) (stored same.0) (ap (unary_kind delay_row) same.1) init fit small)

pub delay_good : (signals : List Signal) (copy : Copy) (flat : FlatExpression) (kind : Option Kind) (constant : Bool) (value : ℤ) (at : Span) → IsGood signals flat kind constant
    → (constant ≡ true → ⊥) → MayBegin signals flat value → IsGood signals (Delay flat value at) (unary_kind delay_row kind) false
delay_good signals copy flat kind constant value at good bare begins = record {
  made = (good.same ∙ false_from_ne_true constant bare, good.made, begins);
  same = refl;
  kinded = unary_alike delay_row kind (flat_kind signals flat) good.kinded (λ refused. (let no : true ≡ false = refused.2 in absurd cc));
}

pub good : (signals : List Signal) (copy : Copy) → IsGoodCopy signals copy → (e : Expression) → Asked (declarations copy.process) e
    → IsGood signals (flat_of copy e) (kind_of (declarations copy.process) e) (is_constant_in (declarations copy.process) e)
good signals copy good_names (Named name) asked =
    name_good signals (declaration_of (declarations copy.process) name.text) (binding_of copy name.text) name.at (good_names.names name.text) asked.known.0
good signals copy good_names (Number value at) asked = record { made = fits_pos value asked.small; same = refl; kinded = (Integer, refl, refl) }
good signals copy good_names (Truth truth at) asked = record { made = truth_fits truth; same = refl; kinded = (Boolean, refl, refl) }
good signals copy good_names (UnaryForm Neg (Number value number_at) at) asked = record { made = fits_neg value asked.small; same = refl; kinded = (Integer, refl, refl) }
good signals copy good_names (UnaryForm op operand at) asked =
    unary_good signals op (flat_of copy operand) (kind_of (declarations copy.process) operand) (is_constant_in (declarations copy.process) operand) at
    (good signals copy good_names operand record { known = asked.known; kinds = asked.kinds.1; bare = asked.bare.1; inits = asked.inits; small = asked.small; bounded = asked.bounded })
    asked.kinds.0 (λ is. asked.bare.0 (is, refl))
good signals copy good_names (BinaryForm op left right at) asked =
    let declared = declarations copy.process in
    let names = all_parts (IsKnown declared) (names_of_expression left) (names_of_expression right) asked.known in
    let kinds = none_parts (clashes_of_expression declared left) _ asked.kinds in
    let bare = none_parts (bare_in_expression declared left) _ asked.bare in
    let inits = none_parts (missing_inits left) (missing_inits right) asked.inits in
    binary_good signals op (flat_of copy left) (flat_of copy right) (kind_of declared left) (kind_of declared right) (is_constant_in declared left) (is_constant_in declared right) at
    (good signals copy good_names left record { known = names.0; kinds = kinds.0; bare = bare.0; inits = inits.0; small = asked.small.0; bounded = asked.bounded.0 })
    (good signals copy good_names right record { known = names.1; kinds = kinds.1.1; bare = bare.1.1.1.1; inits = inits.1; small = asked.small.1; bounded = asked.bounded.1 })
    kinds.1.0 (allowed (binary_row op).constants (is_constant_in declared left) (is_constant_in declared right) bare.1.0 bare.1.1.0 bare.1.1.1.0)
good signals copy good_names (DelayForm operand None at) asked = absurd ((none_parts (missing_inits operand) _ asked.inits).1.0 tt)
good signals copy good_names (DelayForm operand (Some init) at) asked =
    let declared = declarations copy.process in
    let names = all_parts (IsKnown declared) (names_of_expression operand) (names_of_init (Some init)) asked.known in
    let kinds = none_parts (clashes_of_expression declared operand) _ asked.kinds in
    let bare = none_parts (bare_in_expression declared operand) _ asked.bare in
    let inits = none_parts (missing_inits operand) _ asked.inits in
    let inner = good signals copy good_names operand record { known = names.0; kinds = kinds.0; bare = bare.0; inits = inits.0; small = asked.small; bounded = asked.bounded.0 } in
    delay_good signals copy (flat_of copy operand) (kind_of declared operand) (is_constant_in declared operand) (value_of copy init) at inner
    bare.1.0 (init_fits signals copy good_names (flat_of copy operand) (kind_of declared operand) inner.kinded init kinds.1.0 asked.bounded.1)
good signals copy good_names (CellForm operand held init at) asked =
    let declared = declarations copy.process in
    let names = all_parts (IsKnown declared) (names_of_expression operand) (names_of_expression held ++ names_of_constant init) asked.known in
    let more_names = all_parts (IsKnown declared) (names_of_expression held) (names_of_constant init) names.1 in
    let kinds = none_parts (clashes_of_expression declared operand) _ asked.kinds in
    let more_kinds = none_parts (clashes_of_expression declared held) _ kinds.1.1 in
    let bare = none_parts (bare_in_expression declared operand) _ asked.bare in
    let inits = none_parts (missing_inits operand) (missing_inits held) asked.inits in
    let first = good signals copy good_names operand record { known = names.0; kinds = kinds.0; bare = bare.0; inits = inits.0; small = asked.small.0; bounded = asked.bounded.0 } in
    let second = good signals copy good_names held record { known = more_names.0; kinds = more_kinds.0; bare = bare.1.1.1.1; inits = inits.1; small = asked.small.1; bounded = asked.bounded.1 } in
    cell_good signals (flat_of copy operand) (flat_of copy held) (kind_of declared operand) (kind_of declared held) (is_constant_in declared operand) (is_constant_in declared held) (value_of copy init) at
    first second kinds.1.0 (allowed NoConstant (is_constant_in declared operand) (is_constant_in declared held) bare.1.0 bare.1.1.0 bare.1.1.1.0)
    (init_fits signals copy good_names (flat_of copy operand) (kind_of declared operand) first.kinded init more_kinds.1.0 asked.bounded.2)
