-- The equations of a copy, each by itself.
use Rattle.sig_call.proofs.Common.{◌≡◌, ◌⊎◌, ◌++◌, ◌<◌, ◌∙◌, ℕ, suc, Bool, true, List, [], ◌∷◌, map, zip, length, Option, None, Some, IsSome, Any, option_map, option_and_then, refl, sym, ap, subst, inl, inr, arith, AllByRecursion, flat_map, bytes_eq, Kind, Signal, Bounded, IsValue, Name, Constant, Expression, Delay as DelayForm, FlatExpression, Role, Parameter, Input, Output, Local, Declaration, declarations, declaration_of, outputs_of, locals_of, names_of_expression, delay_row, unary_kind, stored, kind_of, kind_of_name, is_constant as is_constant_in, Takes, NoneHolds, each, IsGiven, HasInit, DoesNotTake, clash_of_init, clashes_of_constants, clashes_of_expression, clashes_of_results, bare_alone, bare_in_expression, missing_inits, missing_inits_of_right, Binding as BoundTo, BoundSignal, BoundConstant, Copy, binding_of, declared_init, flat_of, flat_right, init_value, inputs_defined, outputs_defined, signal_bound, signal_of, value_of, IsBoundedConstant, IsBoundedInit, HasBoundedInits, IsSmall, kind_numbered, IsMadeEquation, IsWhole, false_from_ne_true}
use Rattle.sig_tree.specs.FlatSyntax.{Defines, Equal}
use Rattle.sig_call.proofs.Expandable.{found_all, none_parts}
use Rattle.sig_call.proofs.GoodCopies.{AreNumbered, AreValues, IsGoodCopy, Suits}
use Rattle.sig_call.proofs.GoodExpressions.{Asked, IsGood, IsKnown, constant_fits, delay_good, good, numbered_within}
use Rattle.sig_call.proofs.KindRules.{takes_if, takes_stored}
use Rattle.sig_call.proofs.ProcessRules.{InitObeys, all_parts, own_found}

-- a whole expression
whole : (signals : List Signal) (flat : FlatExpression) (kind : Option Kind) (constant : Bool) → IsGood signals flat kind constant → (constant ≡ true → ⊥) → (k : Kind) × (kind ≡ Some k) × IsWhole signals flat k
whole signals flat kind constant is bare =
    (is.kinded.0, is.kinded.1, record { made = is.made; signal = is.same ∙ false_from_ne_true constant bare; kinded = is.kinded.2 })

-- what a left side stands for
given_by : (role : Role) (kind k : Kind) → elim role as (λ _. Option Kind) [ Parameter ↦ Some kind | Input ↦ None | Output ↦ None | Local ↦ None ] ≡ Some k → (role ≡ Input) ⊎ (role ≡ Parameter)
given_by Parameter kind k is = inr refl
given_by Input kind k is = inl refl
given_by _ kind k is = absurd cc

-- the declaration of a left side, and the signal that it stands for
record LeftSide (signals : List Signal) (declared : Option Declaration) (bound : Option BoundTo) : Type 0 where
  own : Declaration
  is : declared ≡ Some own
  free : IsGiven (Some own) → ⊥
  numbered : kind_numbered signals (signal_bound bound) ≡ Some own.kind

left_side : (signals : List Signal) (declared : Option Declaration) (bound : Option BoundTo) → Suits signals declared bound → (declared ≡ None → ⊥) → (IsGiven declared → ⊥) → LeftSide signals declared bound
left_side signals None bound suits known free = absurd (known refl)
left_side signals (Some d) None suits known free = absurd suits
left_side signals (Some d) (Some (BoundSignal number)) suits known free = record { own = d; is = refl; free = free; numbered = suits.1 }
left_side signals (Some d) (Some (BoundConstant value kind)) suits known free = absurd (free (given_by d.role d.kind d.kind suits.0))

left_takes : (declared : Option Declaration) (d : Declaration) (given : Option Kind) (k : Kind) → declared ≡ Some d → given ≡ Some k → (DoesNotTake (option_map (λ x. x.kind) declared) given → ⊥) → Takes d.kind k
left_takes declared d given k is given_is taken = takes_if d.kind k (λ no. taken (d.kind, k, ap (option_map (λ (x : Declaration). x.kind)) is, given_is, no))

-- a right side, which may be a delay that begins with the init of its left side
pub record AskedRight (declared : List Declaration) (name : Name) (e : Expression) : Type 0 where
  pub known : AllByRecursion (IsKnown declared) (names_of_expression e)
  pub kinds : NoneHolds (clashes_of_expression declared e)
  pub bare : NoneHolds (bare_in_expression declared e)
  pub inits : NoneHolds (missing_inits_of_right (AllByRecursion (λ n. HasInit (declaration_of declared n.text)) (name ∷ []) → ⊥) e)
  pub small : IsSmall e
  pub bounded : HasBoundedInits e
  pub taken : DoesNotTake (kind_of_name declared name.text) (kind_of declared e) → ⊥

some_init : (o : Option Constant) → ((IsSome o → ⊥) → ⊥) → (c : Constant) × (o ≡ Some c)
some_init None h = absurd (h (λ some. absurd cc))
some_init (Some c) h = (c, refl)

-- the init with which the left side is declared is a value for the operand
declared_fits : (signals : List Signal) (copy : Copy) → IsGoodCopy signals copy → (d : Declaration) (k : Kind) → InitObeys (declarations copy.process) d → ((IsSome d.init → ⊥) → ⊥) → Takes d.kind (stored k)
    → IsValue Bounded (stored k) (init_value copy d.init)
declared_fits signals copy good_names d k obeys some takes =
    let init = some_init d.init some in
    let kinds : NoneHolds (clash_of_init (declarations copy.process) (Some d.kind) (Some init.0)) = subst (λ o. NoneHolds (clash_of_init (declarations copy.process) (Some d.kind) o)) init.1 obeys.kinds in
    let small : IsBoundedConstant init.0 = subst IsBoundedInit init.1 obeys.bounded in
    let value : IsValue Bounded (stored d.kind) (value_of copy init.0) = constant_fits signals copy good_names (unary_kind delay_row (Some d.kind)) (stored d.kind) refl init.0 kinds.0 small in
    subst (λ o. IsValue Bounded (stored k) (init_value copy o)) (sym init.1) (subst (λ l. IsValue Bounded l (value_of copy init.0)) (takes_stored d.kind k takes) value)

right_good : (signals : List Signal) (copy : Copy) → IsGoodCopy signals copy → AllByRecursion (InitObeys (declarations copy.process)) (outputs_of copy.process ++ locals_of copy.process)
    → (name : Name) → LeftSide signals (declaration_of (declarations copy.process) name.text) (binding_of copy name.text) → (e : Expression) → AskedRight (declarations copy.process) name e
    → IsGood signals (flat_right copy name e) (kind_of (declarations copy.process) e) (is_constant_in (declarations copy.process) e)
right_good signals copy good_names inits name left (DelayForm operand None at) asked =
    let declared = declarations copy.process in
    let kinds = none_parts (clashes_of_expression declared operand) _ asked.kinds in
    let bare = none_parts (bare_in_expression declared operand) _ asked.bare in
    let missing = none_parts (missing_inits operand) _ asked.inits in
    let known : AllByRecursion (IsKnown declared) (names_of_expression operand) = (all_parts (IsKnown declared) (names_of_expression operand) [] asked.known).0 in
    let inner = good signals copy good_names operand record { known = known; kinds = kinds.0; bare = bare.0; inits = missing.0; small = asked.small; bounded = asked.bounded.0 } in
    let d = left.own in
    let own = own_found copy.process name.text d left.is left.free in
    let obeys = found_all (InitObeys declared) (λ x. bytes_eq x.name.text name.text) (outputs_of copy.process ++ locals_of copy.process) d inits own in
    let some : (IsSome d.init → ⊥) → ⊥ = λ none. missing.1.0 (λ has. none (subst HasInit left.is has.0)) in
    let takes : Takes d.kind (stored inner.kinded.0) = left_takes (declaration_of declared name.text) d (unary_kind delay_row (kind_of declared operand)) (stored inner.kinded.0) left.is (ap (unary_kind delay_row) inner.kinded.1) asked.taken in
    let same : init_value copy (declared_init copy name) ≡ init_value copy d.init = ap (λ o. init_value copy (option_and_then (λ (x : Declaration). x.init) o)) left.is in
    delay_good signals copy (flat_of copy operand) (kind_of declared operand) (is_constant_in declared operand) (init_value copy (declared_init copy name)) at inner bare.1.0
    (inner.kinded.0, inner.kinded.2, subst (IsValue Bounded (stored inner.kinded.0)) (sym same) (declared_fits signals copy good_names d inner.kinded.0 obeys some takes))
right_good signals copy good_names inits name left e asked = good signals copy good_names e record { known = asked.known; kinds = asked.kinds; bare = asked.bare; inits = asked.inits; small = asked.small; bounded = asked.bounded }

-- a definition
pub record AskedDefinition (declared : List Declaration) (name : Name) (e : Expression) : Type 0 where
  pub known : IsKnown declared name
  pub free : IsGiven (declaration_of declared name.text) → ⊥
  pub right : AskedRight declared name e
  pub signal : is_constant_in declared e ≡ true → ⊥

pub defined_made : (signals : List Signal) (copy : Copy) → IsGoodCopy signals copy → AllByRecursion (InitObeys (declarations copy.process)) (outputs_of copy.process ++ locals_of copy.process)
    → (name : Name) (e : Expression) → AskedDefinition (declarations copy.process) name e → IsMadeEquation signals (Defines (signal_of copy name) (flat_right copy name e) copy.prefix)
defined_made signals copy good_names inits name e asked =
    let declared = declarations copy.process in
    let left = left_side signals (declaration_of declared name.text) (binding_of copy name.text) (good_names.names name.text) asked.known asked.free in
    let right = whole signals (flat_right copy name e) (kind_of declared e) (is_constant_in declared e) (right_good signals copy good_names inits name left e asked.right) asked.signal in
    (left.own.kind, right.0, left.numbered, right.2, left_takes (declaration_of declared name.text) left.own (kind_of declared e) right.0 left.is right.1 asked.right.taken)

-- expressions that stand alone, as arguments and in clock equations
record Alone (declared : List Declaration) (e : Expression) : Type 0 where
  asked : Asked declared e
  signal : is_constant_in declared e ≡ true → ⊥

pub record AskedAll (declared : List Declaration) (es : List Expression) : Type 0 where
  pub known : AllByRecursion (IsKnown declared) (flat_map names_of_expression es)
  pub kinds : NoneHolds (each (clashes_of_expression declared) es)
  pub bare : NoneHolds (each (bare_alone declared) es)
  pub inits : NoneHolds (each missing_inits es)
  pub small : AllByRecursion IsSmall es
  pub bounded : AllByRecursion HasBoundedInits es

alone : (declared : List Declaration) (es : List Expression) → AskedAll declared es → AllByRecursion (Alone declared) es
alone declared [] asked = tt
alone declared (e ∷ es) asked =
    let known = all_parts (IsKnown declared) (names_of_expression e) (flat_map names_of_expression es) asked.known in
    let kinds = none_parts (clashes_of_expression declared e) (each (clashes_of_expression declared) es) asked.kinds in
    let bare = none_parts (bare_in_expression declared e) (each (bare_alone declared) es) asked.bare.1 in
    let inits = none_parts (missing_inits e) (each missing_inits es) asked.inits in (
      record { asked = record { known = known.0; kinds = kinds.0; bare = bare.0; inits = inits.0; small = asked.small.0; bounded = asked.bounded.0 }; signal = asked.bare.0 },
      alone declared es record { known = known.1; kinds = kinds.1; bare = bare.1; inits = inits.1; small = asked.small.1; bounded = asked.bounded.1 },
    )

whole_alone : (signals : List Signal) (copy : Copy) → IsGoodCopy signals copy → (e : Expression) → Alone (declarations copy.process) e
    → (k : Kind) × (kind_of (declarations copy.process) e ≡ Some k) × IsWhole signals (flat_of copy e) k
whole_alone signals copy good_names e is =
    whole signals (flat_of copy e) (kind_of (declarations copy.process) e) (is_constant_in (declarations copy.process) e) (good signals copy good_names e is.asked) is.signal

operands_whole : (signals : List Signal) (copy : Copy) → IsGoodCopy signals copy → (es : List Expression) → AllByRecursion (Alone (declarations copy.process)) es
    → AllByRecursion (λ flat. (kind : Kind) × IsWhole signals flat kind) (map (flat_of copy) es)
operands_whole signals copy good_names [] all = tt
operands_whole signals copy good_names (e ∷ es) all = (let here = whole_alone signals copy good_names e all.0 in ((here.0, here.2), operands_whole signals copy good_names es all.1))

-- a clock equation
pub equated_made : (signals : List Signal) (copy : Copy) → IsGoodCopy signals copy → (es : List Expression) → AskedAll (declarations copy.process) es → IsMadeEquation signals (Equal (map (flat_of copy) es) copy.prefix)
equated_made signals copy good_names es asked = operands_whole signals copy good_names es (alone (declarations copy.process) es asked)

-- the arguments of a call
any_none : {A : Type 0} (P : A → Type 0) (x : A) (xs : List A) → (Any P (x ∷ xs) → ⊥) → (P x → ⊥) × (Any P xs → ⊥)
any_none P x xs none = (
  (λ here. none (0, x, omega arith, refl, here)),
  (λ later. none (suc later.0, later.1, (let h : later.0 < length xs = later.2 in omega arith), later.3, later.4)),
)

inputs_made_by : (signals : List Signal) (copy : Copy) → IsGoodCopy signals copy → (base : ℕ) (es : List Expression) (inputs : List Declaration) → length es ≡ length inputs
    → AllByRecursion (Alone (declarations copy.process)) es → (Any (λ both. DoesNotTake (Some both.1.kind) (kind_of (declarations copy.process) both.0)) (zip es inputs) → ⊥)
    → AreNumbered signals base inputs → AllByRecursion (IsMadeEquation signals) (inputs_defined copy base es)
inputs_made_by signals copy good_names base [] inputs many all taken numbered = tt
inputs_made_by signals copy good_names base (e ∷ es) [] many all taken numbered = (let no : suc (length es) ≡ 0 = many in absurd (omega arith))
inputs_made_by signals copy good_names base (e ∷ es) (d ∷ ds) many all taken numbered =
    let here = whole_alone signals copy good_names e all.0 in
    let parts = any_none _ (e, d) (zip es ds) taken in
    let rest : length es ≡ length ds = (let n : suc (length es) ≡ suc (length ds) = many in omega arith) in (
      (d.kind, here.0, numbered.0, here.2, takes_if d.kind here.0 (λ no. parts.0 (d.kind, here.0, refl, here.1, no))),
      inputs_made_by signals copy good_names (suc base) es ds rest all.1 parts.1 numbered.1,
    )

pub inputs_made : (signals : List Signal) (copy : Copy) → IsGoodCopy signals copy → (base : ℕ) (es : List Expression) (inputs : List Declaration) → length es ≡ length inputs
    → AskedAll (declarations copy.process) es → (Any (λ both. DoesNotTake (Some both.1.kind) (kind_of (declarations copy.process) both.0)) (zip es inputs) → ⊥)
    → AreNumbered signals base inputs → AllByRecursion (IsMadeEquation signals) (inputs_defined copy base es)
inputs_made signals copy good_names base es inputs many asked taken numbered = inputs_made_by signals copy good_names base es inputs many (alone (declarations copy.process) es asked) taken numbered

-- the left sides of a call
pub outputs_made : (signals : List Signal) (copy : Copy) → IsGoodCopy signals copy → (names : List Name) (outputs : List Declaration) (output : ℕ) → length names ≡ length outputs
    → AllByRecursion (IsKnown (declarations copy.process)) names → AllByRecursion (λ name. IsGiven (declaration_of (declarations copy.process) name.text) → ⊥) names
    → NoneHolds (clashes_of_results (declarations copy.process) names outputs) → AreNumbered signals output outputs → AllByRecursion (IsMadeEquation signals) (outputs_defined copy names output)
outputs_made signals copy good_names [] outputs output many known free kinds numbered = tt
outputs_made signals copy good_names (n ∷ ns) [] output many known free kinds numbered = (let no : suc (length ns) ≡ 0 = many in absurd (omega arith))
outputs_made signals copy good_names (n ∷ ns) (d ∷ ds) output many known free kinds numbered =
    let declared = declaration_of (declarations copy.process) n.text in
    let left = left_side signals declared (binding_of copy n.text) (good_names.names n.text) known.0 free.0 in
    let rest : length ns ≡ length ds = (let m : suc (length ns) ≡ suc (length ds) = many in omega arith) in (
      (
        left.own.kind,
        d.kind,
        left.numbered,
        record { made = numbered_within signals output d.kind numbered.0; signal = refl; kinded = numbered.0 },
        left_takes declared left.own (Some d.kind) d.kind left.is refl kinds.0,
      ),
      outputs_made signals copy good_names ns ds (suc output) rest known.1 free.1 kinds.1 numbered.1,
    )

-- the constants of a call
pub constants_fit : (signals : List Signal) (copy : Copy) → IsGoodCopy signals copy → (constants : List Constant) (params : List Declaration) → length constants ≡ length params
    → NoneHolds (clashes_of_constants (declarations copy.process) constants params) → AllByRecursion IsBoundedConstant constants → AreValues params (map (value_of copy) constants)
constants_fit signals copy good_names [] [] many kinds small = tt
constants_fit signals copy good_names [] (p ∷ ps) many kinds small = (let no : 0 ≡ suc (length ps) = many in absurd (omega arith))
constants_fit signals copy good_names (c ∷ cs) [] many kinds small = (let no : suc (length cs) ≡ 0 = many in absurd (omega arith))
constants_fit signals copy good_names (c ∷ cs) (p ∷ ps) many kinds small =
    let rest : length cs ≡ length ps = (let m : suc (length cs) ≡ suc (length ps) = many in omega arith) in
    (constant_fits signals copy good_names (Some p.kind) p.kind refl c kinds.0 small.0, constants_fit signals copy good_names cs ps rest kinds.1 small.1)
